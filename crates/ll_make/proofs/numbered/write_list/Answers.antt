use Rattle.std.proofs.lemmas.Result.{IfOk-from_err}
use Rattle.std.proofs.Common.{◌≡◌, arith}
use Rattle.std.proofs.lemmas.Grind.{common_steps}
use Rattle.ll_make.proofs.Growing.{elements_more, some_elements}
use Rattle.ll_make.proofs.numbered.write_list.Goals as goal

pub loop-k-preserved : goal.loop-k-preserved
loop-k-preserved c =
    let more = elements_more c.push.new.self.items c.args.name.now c.loop-k.k in
    let wrote = c.in_ok-write_numbered.ensures in
    let closed = c.in_ok-extend_from_slice.ensures.items in
    cc

pub returns : goal.returns
returns c =
    let some = some_elements c.args.name.now c.args.n (omega arith) in
    let k : c.loop-k.k ≡ c.args.n = omega arith in
    grind (arith, common_steps)

pub returns-in_err-push : goal.returns-in_err-push
returns-in_err-push c = IfOk-from_err c.from_residual.result _ c.from_residual.ensures.0

pub returns-in_err-write_numbered : goal.returns-in_err-write_numbered
returns-in_err-write_numbered c = IfOk-from_err c.from_residual-in_err-write_numbered.result _ c.from_residual-in_err-write_numbered.ensures.0

pub returns-in_err-extend_from_slice : goal.returns-in_err-extend_from_slice
returns-in_err-extend_from_slice c = IfOk-from_err c.from_residual-in_err-extend_from_slice.result _ c.from_residual-in_err-extend_from_slice.ensures.0
