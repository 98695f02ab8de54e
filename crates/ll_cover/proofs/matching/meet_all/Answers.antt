use Rattle.std.proofs.lemmas.Result.{IfOk-from_err}
use Rattle.std.proofs.Common.{arith}
use Rattle.std.specs.Ordering.{nat_cmp}
use Rattle.std.specs.BTreeMap.{get}
use Rattle.ll_cover.proofs.Matches.{adds_more, meets_no}
use Rattle.ll_cover.proofs.matching.meet_all.Goals as goal

pub returns-then-not-branch-clause-met : goal.returns-then-not-branch-clause-met
returns-then-not-branch-clause-met c = let m = rw c.if-not-branch.true at c.in_ok-meet.ensures.met in
    meets_no c.args.bank.now c.args.places.now c.args.others.now c.requires.pairs c.loop-i.i (record { 0 = 0 }) (omega arith)
    (get nat_cmp c.args.images.now) (get nat_cmp c.loop-i.images) (get nat_cmp c.meet.new.images) c.loop-i.invariant.adds m

pub returns-then-not-branch-clause-below : goal.returns-then-not-branch-clause-below
returns-then-not-branch-clause-below c = λ limit all old. c.in_ok-meet.ensures.below limit (all c.loop-i.i (record { 0 = 0 }) (omega arith))
    (c.loop-i.invariant.below limit all old)

pub loop-i-preserved : goal.loop-i-preserved
loop-i-preserved c = let m = rw c.if-not-branch.false at c.in_ok-meet.ensures.met in
    record {
      adds = adds_more c.args.bank.now c.args.places.now c.args.others.now c.requires.pairs c.loop-i.i (record { 0 = 0 }) (omega arith) _ _ _
          c.loop-i.invariant.adds m;
      images = c.in_ok-meet.ensures.images;
      below = λ limit all old. c.in_ok-meet.ensures.below limit (all c.loop-i.i (record { 0 = 0 }) (omega arith)) (c.loop-i.invariant.below limit all old);
    }

pub returns-in_err-meet-clause-met : goal.returns-in_err-meet-clause-met
returns-in_err-meet-clause-met c = IfOk-from_err c.from_residual.result _ c.from_residual.ensures.0

pub returns-in_err-meet-clause-images : goal.returns-in_err-meet-clause-images
returns-in_err-meet-clause-images c = IfOk-from_err c.from_residual.result _ c.from_residual.ensures.0

pub returns-in_err-meet-clause-below : goal.returns-in_err-meet-clause-below
returns-in_err-meet-clause-below c = IfOk-from_err c.from_residual.result _ c.from_residual.ensures.0

pub returns-clause-images : goal.returns-clause-images
returns-clause-images c = c.loop-i.invariant.images

pub returns-clause-below : goal.returns-clause-below
returns-clause-below c = c.loop-i.invariant.below

pub returns-then-not-branch-clause-images : goal.returns-then-not-branch-clause-images
returns-then-not-branch-clause-images c = c.in_ok-meet.ensures.images

pub meet-requires-clause-images : goal.meet-requires-clause-images
meet-requires-clause-images c = c.loop-i.invariant.images
