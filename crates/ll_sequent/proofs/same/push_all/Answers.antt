use Rattle.std.proofs.Common.{get_or, arith}
use Rattle.std.proofs.lemmas.Result.{IfOk-from_err}
use Rattle.ll_sequent.specs.declared.same.Pair.{Pair}
use Rattle.ll_sequent.proofs.SameLemmas.{pairs_more, same_fewer, one_more_same, same_trees}
use Rattle.ll_sequent.proofs.same.push_all.Goals as goal

pub loop-i-init : goal.loop-i-init
loop-i-init c = record { inside = λ bank a b h. h; same = λ bank h. (h, λ j d l. absurd (omega arith)) }

pub loop-i-preserved : goal.loop-i-preserved
loop-i-preserved c =
    let i = c.loop-i.i in
    let p : Pair = record { left = get_or c.args.args.now i (record { 0 = 0 }); right = get_or c.args.others.now i (record { 0 = 0 }) } in
    record {
      inside = λ bank a b h. pairs_more bank c.loop-i.pairs.items c.push.new.self.items p c.in_ok-push.ensures.items (c.loop-i.invariant.inside bank a b h)
          (a i (record { 0 = 0 }) (omega arith)) (b i (record { 0 = 0 }) (omega arith));
      same = λ bank h.
          let s = same_fewer bank c.loop-i.pairs.items c.push.new.self.items p c.in_ok-push.ensures.items h in
          let q = c.loop-i.invariant.same bank s.0 in
          (q.0, one_more_same bank c.args.args.now c.args.others.now i (record { 0 = 0 }) (omega arith) (omega arith) q.1 s.1);
    }

pub returns-clause-same : goal.returns-clause-same
returns-clause-same c = λ bank h.
    let q = c.loop-i.invariant.same bank h in
    (q.0, same_trees bank c.args.args.now c.args.others.now c.requires (λ j d l. q.1 j d (omega arith)))

pub returns-in_err-push-clause-inside : goal.returns-in_err-push-clause-inside
returns-in_err-push-clause-inside c = IfOk-from_err c.from_residual.result _ c.from_residual.ensures.0

pub returns-in_err-push-clause-same : goal.returns-in_err-push-clause-same
returns-in_err-push-clause-same c = IfOk-from_err c.from_residual.result _ c.from_residual.ensures.0
