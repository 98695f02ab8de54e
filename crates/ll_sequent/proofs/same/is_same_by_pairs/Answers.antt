use Rattle.std.proofs.Common.{arith}
use Rattle.std.proofs.lemmas.Result.{IfOk-from_err}
use Rattle.ll_sequent.specs.declared.same.Pair.{Pair}
use Rattle.ll_sequent.proofs.SameLemmas.{pairs_more, pairs_fewer, same_fewer, same_more}
use Rattle.ll_sequent.proofs.same.is_same_by_pairs.Goals as goal

pub loop-init : goal.loop-init
loop-init c =
    let p : Pair = record { left = c.args.left; right = c.args.right } in
    record {
      inside = pairs_more c.args.bank.now c.new-pairs.result.items c.push.new.self.items p c.in_ok-push.ensures.items
          (rw c.new-pairs.ensures.items (λ k d l. absurd (omega arith))) c.requires.left c.requires.right;
      same = λ h. (same_fewer c.args.bank.now c.new-pairs.result.items c.push.new.self.items p c.in_ok-push.ensures.items h).1;
    }

pub open-requires-clause-left : goal.open-requires-clause-left
open-requires-clause-left c = (pairs_fewer c.args.bank.now c.pop.new.self.items c.loop.pairs.items c.in-Some.pair c.in-Some.ensures.items
    c.loop.invariant.inside).1.0

pub open-requires-clause-right : goal.open-requires-clause-right
open-requires-clause-right c = (pairs_fewer c.args.bank.now c.pop.new.self.items c.loop.pairs.items c.in-Some.pair c.in-Some.ensures.items
    c.loop.invariant.inside).1.1

pub open-requires-clause-inside : goal.open-requires-clause-inside
open-requires-clause-inside c = (pairs_fewer c.args.bank.now c.pop.new.self.items c.loop.pairs.items c.in-Some.pair c.in-Some.ensures.items
    c.loop.invariant.inside).0

pub loop-preserved : goal.loop-preserved
loop-preserved c = record {
  inside = c.in_ok-open.ensures.inside;
  same = λ h.
      let s = c.in_ok-open.ensures.same c.if-not-branch.false h in
      c.loop.invariant.same (same_more c.args.bank.now c.pop.new.self.items c.loop.pairs.items c.in-Some.pair c.in-Some.ensures.items s.0 s.1);
}

pub returns-in_err-push : goal.returns-in_err-push
returns-in_err-push c = IfOk-from_err c.from_residual.result _ c.from_residual.ensures.0

pub returns-in_err-open : goal.returns-in_err-open
returns-in_err-open c = IfOk-from_err c.from_residual-in_err-open.result _ c.from_residual-in_err-open.ensures.0
