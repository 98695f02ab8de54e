use Rattle.std.proofs.Common.{◌≡◌, ◌++◌, ◌∙◌, ap}
use Rattle.std.proofs.lemmas.Result.{IfOk-from_err}
use Rattle.ll_list_laws.proofs.CallerLemmas.{OnErr-always}
use Rattle.ll_resources.specs.declared.state.State.{State}
use Rattle.ll_resources.specs.Raw.{raw}
use Rattle.ll_resources.specs.declared.state.Change.TheVariants.{Remarked}
use Rattle.ll_resources.specs.Changes.{taken_back}
use Rattle.ll_resources.proofs.ChangeLemmas.{back-remarked}
use Rattle.std.proofs.Math.Nat.{le_refl}
use Rattle.ll_resources.proofs.RoomLemmas.{le-same}
use Rattle.ll_resources.proofs.state.State.bang.Goals as goal

pub returns-in_err-from-clause-banged : goal.returns-in_err-from-clause-banged
returns-in_err-from-clause-banged g c = IfOk-from_err c.from_residual.result _ c.from_residual.ensures.0

pub returns-in_err-from-clause-leads : goal.returns-in_err-from-clause-leads
returns-in_err-from-clause-leads g c = IfOk-from_err c.from_residual.result _ c.from_residual.ensures.0

pub returns-in_err-from-clause-refused : goal.returns-in_err-from-clause-refused
returns-in_err-from-clause-refused g c =
    let new : State g.row.C.Denot = record c.args.self.now { saves = c.note.new.self } in
    let same : raw new ≡ raw c.args.self.now =
    λ i. record (raw c.args.self.now) { marks = c.in_err-from.ensures.refused i; kept = c.in_err-from.ensures.kept i } in
    OnErr-always c.from_residual.result same

pub returns-clause-banged : goal.returns-clause-banged
returns-clause-banged g c = λ i. record (raw c.args.self.now) {
  live = c.clear.ensures.items i;
  marks = (c.in_ok-from.ensures.marks ∙ ap (λ ms. c.args.self.now.saves.marks.items ++ ms) c.as_slice.ensures.value) i;
  kept = c.in_ok-from.ensures.kept i;
}

pub returns-clause-refused : goal.returns-clause-refused
returns-clause-refused g c = _

pub returns-in_err-from-clause-room : goal.returns-in_err-from-clause-room
returns-in_err-from-clause-room g c = record { entries = le_refl _; live = le_refl _; keys = le_refl _ }

pub returns-clause-leads : goal.returns-clause-leads
returns-clause-leads g c =
    let old = c.args.self.now in
    let marks : c.note.new.self.marks.items ≡ old.saves.marks.items ++ old.live.items =
    c.in_ok-from.ensures.marks ∙ ap (λ ms. old.saves.marks.items ++ ms) c.as_slice.ensures.value in
    record {
      back = (λ i. taken_back (Remarked (c.in_ok-from.ensures.from i) old.flag old.skips)
          (record (raw old) { live = c.clear.new.self.items; marks = marks i; kept = c.in_ok-from.ensures.kept i }))
          ∙ back-remarked c.clear.new.self.items old.flag (raw old);
      room = record { entries = le_refl _; live = le-same c.clear.ensures.capacity; keys = le_refl _ };
    }

pub returns-clause-room : goal.returns-clause-room
returns-clause-room g c = record { entries = le_refl _; live = le-same c.clear.ensures.capacity; keys = le_refl _ }
