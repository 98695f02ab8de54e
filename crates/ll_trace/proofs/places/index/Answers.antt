use Rattle.std.proofs.Common.{ℕ, ap, sym, ◌∙◌, Vec, Global}
use Rattle.std.proofs.lemmas.Result.{IfOk-from_err}
use Rattle.std.specs.Prelude.{Some, None}
use Rattle.std.specs.Ordering.{nat_cmp}
use Rattle.std.specs.BTreeMap.{get}
use Rattle.std.proofs.Common.{BTreeMap}
use Rattle.std.proofs.lemmas.List.{append-nil}
use Rattle.ll_trace.specs.declared.places.Place.{Place}
use Rattle.ll_trace.specs.Places.{row_of}
use Rattle.ll_trace.proofs.Placing.{index-step, at-default, none-of}
use Rattle.ll_trace.proofs.places.index.Goals as goal
use Rattle.ll_trace.proofs.places.index.Goals.{in-Some+in_ok-add_place, in_default}

pub loop-at-preserved : goal.loop-at-preserved
loop-at-preserved c = λ n.
    elim c.match-picks-at.branch [
      | in-Some+in_ok-add_place w ↦
          index-step n c.loop-at.at c.args.picks.now (Some w.in-Some.pick) (row_of (get nat_cmp c.loop-at.places n))
          (row_of (get nat_cmp c.match-picks-at.places n)) c.loop-at-test.true
          (sym w.in-Some.is ∙ at-default c.args.picks.now c.loop-at.at _ _ c.loop-at-test.true) (c.loop-at.invariant n)
          (ap (λ (m : BTreeMap ℕ (Vec Place Global)). row_of (get nat_cmp m n)) w.places-is ∙ w.in_ok-add_place.ensures n)
      | in_default w ↦
          index-step n c.loop-at.at c.args.picks.now None (row_of (get nat_cmp c.loop-at.places n)) (row_of (get nat_cmp c.match-picks-at.places n))
          c.loop-at-test.true
          (sym (none-of _ w.in_default.not-Some) ∙ at-default c.args.picks.now c.loop-at.at _ _ c.loop-at-test.true) (c.loop-at.invariant n)
          (ap (λ (m : BTreeMap ℕ (Vec Place Global)). row_of (get nat_cmp m n)) w.places-is ∙ sym (append-nil (row_of (get nat_cmp c.loop-at.places n))))
    ]

pub returns-in_err-add_place : goal.returns-in_err-add_place
returns-in_err-add_place c = IfOk-from_err c.from_residual.result _ c.from_residual.ensures.0
