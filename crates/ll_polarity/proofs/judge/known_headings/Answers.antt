use Rattle.std.proofs.Common.{◌≡◌, [], sym, ap}
use Rattle.std.proofs.lemmas.Result.{IfOk-from_err}
use Rattle.std.proofs.lemmas.Option.{get_or_from_slice_get}
use Rattle.ll_polarity.specs.Faults.{Heading}
use Rattle.ll_polarity.specs.Ready.{known_heading}
use Rattle.ll_polarity.proofs.faults.Judging.{headings-more}
use Rattle.ll_polarity.proofs.judge.known_headings.Goals as goal

pub loop-module-preserved : goal.loop-module-preserved
loop-module-preserved c =
    let item = c.module-item.result in
    let this : record { name = c.text.result.now; params = item.params } ≡ known_heading c.args.names.now item =
    ap (λ t. let h : Heading = record { name = t; params = item.params } in
    h) (sym (get_or_from_slice_get c.args.names.now item.name c.text.result.now [] c.text.ensures)) in
    headings-more (known_heading c.args.names.now) c.args.modules.now c.loop-module.module-index item _ c.loop-module.headings.params c.add.new.self.params
    c.loop-module-test.true c.module-item.is this c.loop-module.invariant c.in_ok-add.ensures

pub returns-in_err-add : goal.returns-in_err-add
returns-in_err-add c = IfOk-from_err c.from_residual.result _ c.from_residual.ensures.0
