use Rattle.std.proofs.lemmas.Result.{IfOk-from_err}
use Rattle.std.proofs.Common.{◌≡◌, Bool, List, length, ◌++◌, ap, ◌∙◌}
use Rattle.ll_resources.specs.declared.state.Stored.{Stored}
use Rattle.ll_resources.specs.Raw.{raw, top_in}
use Rattle.ll_resources.proofs.RoomLemmas.{le-along, le-same}
use Rattle.ll_resources.proofs.state.State.copy.Goals as goal

pub returns-in_err-entries-clause-state : goal.returns-in_err-entries-clause-state
returns-in_err-entries-clause-state g c = IfOk-from_err c.from_residual.result _ c.from_residual.ensures.0

pub returns-in_err-entries-clause-room : goal.returns-in_err-entries-clause-room
returns-in_err-entries-clause-room g c = IfOk-from_err c.from_residual.result _ c.from_residual.ensures.0

pub returns-in_err-extend_from_slice-clause-state : goal.returns-in_err-extend_from_slice-clause-state
returns-in_err-extend_from_slice-clause-state g c =
    IfOk-from_err c.from_residual-in_err-extend_from_slice.result _ c.from_residual-in_err-extend_from_slice.ensures.0

pub returns-in_err-extend_from_slice-clause-room : goal.returns-in_err-extend_from_slice-clause-room
returns-in_err-extend_from_slice-clause-room g c =
    IfOk-from_err c.from_residual-in_err-extend_from_slice.result _ c.from_residual-in_err-extend_from_slice.ensures.0

pub returns-in_err-live-clause-state : goal.returns-in_err-live-clause-state
returns-in_err-live-clause-state g c = IfOk-from_err c.from_residual-in_err-live.result _ c.from_residual-in_err-live.ensures.0

pub returns-in_err-live-clause-room : goal.returns-in_err-live-clause-room
returns-in_err-live-clause-room g c = IfOk-from_err c.from_residual-in_err-live.result _ c.from_residual-in_err-live.ensures.0

pub returns-in_err-extend_from_slice-2-clause-state : goal.returns-in_err-extend_from_slice-2-clause-state
returns-in_err-extend_from_slice-2-clause-state g c =
    IfOk-from_err c.from_residual-in_err-extend_from_slice-2.result _ c.from_residual-in_err-extend_from_slice-2.ensures.0

pub returns-in_err-extend_from_slice-2-clause-room : goal.returns-in_err-extend_from_slice-2-clause-room
returns-in_err-extend_from_slice-2-clause-room g c =
    IfOk-from_err c.from_residual-in_err-extend_from_slice-2.result _ c.from_residual-in_err-extend_from_slice-2.ensures.0

pub returns-in_err-saves-clause-state : goal.returns-in_err-saves-clause-state
returns-in_err-saves-clause-state g c = IfOk-from_err c.from_residual-in_err-saves.result _ c.from_residual-in_err-saves.ensures.0

pub returns-in_err-saves-clause-room : goal.returns-in_err-saves-clause-room
returns-in_err-saves-clause-room g c = IfOk-from_err c.from_residual-in_err-saves.result _ c.from_residual-in_err-saves.ensures.0

pub returns-clause-state : goal.returns-clause-state
returns-clause-state g c =
    let old = c.args.self.now in
    let entries : c.extend_from_slice.new.self.items ≡ old.entries.items =
    c.in_ok-extend_from_slice.ensures.items
    ∙ (ap (λ (es : List (Stored g.row.C.Denot)). es ++ c.as_slice.result.now) c.in_ok-entries.ensures.items ∙ c.as_slice.ensures.value) in
    let live : c.extend_from_slice-2.new.self.items ≡ old.live.items =
    c.in_ok-extend_from_slice-2.ensures.items
    ∙ (ap (λ (bs : List Bool). bs ++ c.as_slice-2.result.now) c.in_ok-live.ensures.items ∙ c.as_slice-2.ensures.value) in
    let tops : c.in_ok-tops.tops.items ≡ old.tops.items = c.in_ok-tops.ensures.items ∙ c.as_slice-3.ensures.value in
    λ i. record (raw old) {
      entries = entries i;
      live = live i;
      marks = c.in_ok-saves.ensures.marks i;
      kept = c.in_ok-saves.ensures.kept i;
      tops = top_in (tops i);
    }

pub returns-clause-room : goal.returns-clause-room
returns-clause-room g c = record {
  entries = le-along c.capacity.ensures c.in_ok-entries.ensures.capacity c.extend_from_slice.ensures.capacity;
  live = le-along c.capacity-2.ensures c.in_ok-live.ensures.capacity c.extend_from_slice-2.ensures.capacity;
  keys = le-same (ap length (c.in_ok-tops.ensures.items ∙ c.as_slice-3.ensures.value));
}
