use Rattle.std.proofs.Common.{Bool, ◌&&◌, sym, ◌≡◌, length, get_or, ap, ◌∙◌, [], ◌∷◌, ◌++◌, false}
use Rattle.std.proofs.lemmas.List.{get_or_append_left}
use Rattle.std.proofs.lemmas.Result.{IfOk-from_err}
use Rattle.ll_resources.specs.Saves.{block_of}
use Rattle.ll_resources.specs.Raw.{Raw, raw, raw_kept, kept_now, block_later, is_younger}
use Rattle.ll_resources.proofs.ChangeLemmas.{none_kept}
use Rattle.ll_list_laws.proofs.CallerLemmas.{OnErr-always}
use Rattle.ll_resources.specs.declared.state.State.{State}
use Rattle.ll_resources.specs.declared.saves.SavedMarks.{SavedMarks}
use Rattle.std.proofs.Math.Nat.{le_refl, le_trans}
use Rattle.ll_resources.proofs.RoomLemmas.{le-reserved}
use Rattle.ll_resources.proofs.state.State.with_mid.Goals.{then-self, else-self}
use Rattle.ll_resources.proofs.state.State.with_mid.Goals as goal

pub put_marks-requires : goal.put_marks-requires
put_marks-requires g c =
    let ms = c.save.new.self.saves.marks.items in
    let old = c.args.self.now.saves.kept.items in
    let e : length c.live.result.now ≡ length (block_of ms (get_or old c.args.number none_kept)) =
    ap length (c.live.ensures none_kept
    ∙ (ap (λ ks. block_of ms (get_or ks c.args.number none_kept)) (ap (λ (r : Raw g.row.C.Denot). r.kept) c.in_ok-change.ensures.saved)
    ∙ ap (block_of ms) (get_or_append_left old _ none_kept c.args.number c.requires))) in
    le-reserved _ e (c.size.ensures ms none_kept) c.in_ok-reserve.ensures.ok c.in_ok-change.ensures.room.live

pub returns-in_err-reserve-clause-middle : goal.returns-in_err-reserve-clause-middle
returns-in_err-reserve-clause-middle g c = IfOk-from_err c.from_residual.result _ c.from_residual.ensures.0

pub returns-in_err-reserve-clause-change : goal.returns-in_err-reserve-clause-change
returns-in_err-reserve-clause-change g c = IfOk-from_err c.from_residual.result _ c.from_residual.ensures.0

pub returns-in_err-reserve-clause-leads : goal.returns-in_err-reserve-clause-leads
returns-in_err-reserve-clause-leads g c = IfOk-from_err c.from_residual.result _ c.from_residual.ensures.0

pub returns-in_err-change-clause-middle : goal.returns-in_err-change-clause-middle
returns-in_err-change-clause-middle g c = IfOk-from_err c.from_residual-in_err-change.result _ c.from_residual-in_err-change.ensures.0

pub returns-in_err-change-clause-change : goal.returns-in_err-change-clause-change
returns-in_err-change-clause-change g c = IfOk-from_err c.from_residual-in_err-change.result _ c.from_residual-in_err-change.ensures.0

pub returns-in_err-change-clause-leads : goal.returns-in_err-change-clause-leads
returns-in_err-change-clause-leads g c = IfOk-from_err c.from_residual-in_err-change.result _ c.from_residual-in_err-change.ensures.0

pub returns-clause-refused : goal.returns-clause-refused
returns-clause-refused g c = _

pub returns-in_err-reserve-clause-room : goal.returns-in_err-reserve-clause-room
returns-in_err-reserve-clause-room g c = record { entries = le_refl _; live = c.reserve.ensures.capacity; keys = le_refl _ }

pub returns-in_err-reserve-clause-refused : goal.returns-in_err-reserve-clause-refused
returns-in_err-reserve-clause-refused g c =
    let new : State g.row.C.Denot = record c.args.self.now { live = c.reserve.new.self } in
    let same : raw new ≡ raw c.args.self.now = λ i. record (raw c.args.self.now) { live = c.in_err-reserve.ensures.items i } in
    OnErr-always c.from_residual.result same

pub returns-in_err-change-clause-room : goal.returns-in_err-change-clause-room
returns-in_err-change-clause-room g c = record {
  entries = c.in_err-change.ensures.room.entries;
  live = le_trans c.reserve.ensures.capacity c.in_err-change.ensures.room.live;
  keys = c.in_err-change.ensures.room.keys;
}

pub returns-clause-change : goal.returns-clause-change
returns-clause-change g c = c.in_ok-change.ensures.change

pub returns-clause-middle : goal.returns-clause-middle
returns-clause-middle g c =
    let old = c.args.self.now in
    let none : SavedMarks = record { count = 0; next = 0; from = 0; to = 0; flag = false; skips = false } in
    let live : c.put_marks.new.live.items ≡ block_later c.args.number (raw old) =
    c.put_marks.ensures.marks
    ∙ (c.live.ensures none
    ∙ (ap (λ (r : Raw g.row.C.Denot). block_of r.marks (get_or r.kept c.args.number none)) c.in_ok-change.ensures.saved
    ∙ ((λ i. block_of (old.saves.marks.items ++ c.in_ok-reserve.ensures.items i) (get_or (old.saves.kept.items
    ++ kept_now (record (raw old) { live = c.in_ok-reserve.ensures.items i }) ∷ []) c.args.number none))
    ∙ ap (block_of (old.saves.marks.items ++ old.live.items)) (get_or_append_left old.saves.kept.items _ none c.args.number c.requires)))) in
    let younger : Bool = is_younger c.args.number (raw old) in
    let skips : c.if-self.skips ≡ (old.skips && younger) = elim c.if-self.branch [
      | then-self w ↦ w.skips-is ∙ (w.is_younger-skips.ensures ∙ sym (ap (λ b. b && younger) w.if-self.true))
      | else-self w ↦ w.skips-is ∙ (w.if-self.false ∙ sym (ap (λ b. b && younger) w.if-self.false))
    ] in
    ap (λ (r : Raw g.row.C.Denot). let s : Raw g.row.C.Denot = record r { live = c.put_marks.new.live.items; skips = c.if-self.skips } in s)
    c.in_ok-change.ensures.saved
    ∙ (λ i. record (raw_kept (live i) (record (raw old) { live = c.in_ok-reserve.ensures.items i })) { skips = skips i })

pub returns-clause-room : goal.returns-clause-room
returns-clause-room g c = record {
  entries = c.in_ok-change.ensures.room.entries;
  live = le_trans c.reserve.ensures.capacity (le_trans c.in_ok-change.ensures.room.live c.put_marks.ensures.room);
  keys = c.in_ok-change.ensures.room.keys;
}
