use Rattle.std.proofs.lemmas.Result.{IfOk-from_err}
use Rattle.std.proofs.Common.{◌≡◌, length, arith, [], ◌∷◌, ℕ, List, Bool, false}
use Rattle.std.specs.Prelude.{◌==◌}
use Rattle.ll_prooftext.proofs.reading.Labels.{none_read, one_more, no_label, no_rise, all_read}
use Rattle.ll_prooftext.proofs.sets.labels_of.Goals as goal

not_empty : (body : List ℕ) {b : Bool} → b ≡ (length body == 0) → b ≡ false → body ≡ [] → ⊥
not_empty [] h f e = absurd cc
not_empty (x ∷ xs) h f e = absurd cc

pub loop-label-init : goal.loop-label-init
loop-label-init c = rw c.new-labels.ensures.items (none_read c.args.body.now (λ e. not_empty c.args.body.now c.is_empty.ensures c.if-is_empty.false e))

pub returns-in_default : goal.returns-in_default
returns-in_default c =
    no_label c.args.body.now c.loop-label.labels.items c.loop-label.rest.now c.loop-label.least _ _ c.loop-label.invariant c.split_before.ensures.is
    c.split_before.ensures.free c.split_before.ensures.stops c.in_default.ensures

pub returns-then-from-least : goal.returns-then-from-least
returns-then-from-least c =
    no_rise c.args.body.now c.loop-label.labels.items c.loop-label.rest.now c.loop-label.least _ _ c.in-Some.label c.loop-label.invariant
    c.split_before.ensures.is c.split_before.ensures.free c.split_before.ensures.stops (omega arith) c.in-Some.ensures (omega arith)

pub loop-label-preserved : goal.loop-label-preserved
loop-label-preserved c =
    rw (c.in_ok-push.ensures.items, c.from-least.ensures) (one_more c.args.body.now c.loop-label.labels.items c.loop-label.rest.now c.loop-label.least _ _
    c.in-Some-behind.next.now c.in-Some.label c.loop-label.invariant c.split_before.ensures.is c.split_before.ensures.free c.split_before.ensures.stops
    (omega arith) c.in-Some.ensures (omega arith) c.in-Some-behind.ensures)

pub returns-in-None : goal.returns-in-None
returns-in-None c =
    rw c.in_ok-push.ensures.items (all_read c.args.body.now c.loop-label.labels.items c.loop-label.rest.now c.loop-label.least _ _ c.in-Some.label
    c.loop-label.invariant c.split_before.ensures.is c.split_before.ensures.stops c.in-None.ensures (omega arith) c.in-Some.ensures (omega arith))

pub returns-in_err-push : goal.returns-in_err-push
returns-in_err-push c = IfOk-from_err c.from_residual.result _ c.from_residual.ensures.0
