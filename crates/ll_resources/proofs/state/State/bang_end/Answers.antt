use Rattle.std.proofs.Common.{sym, Bool, ◌≡◌, length, get_or, ap, ◌∙◌, ◌++◌, false, ◌&&◌}
use Rattle.std.proofs.lemmas.Result.{IfOk-from_err}
use Rattle.ll_resources.specs.Saves.{block_of}
use Rattle.ll_resources.proofs.ChangeLemmas.{none_kept, back-remarked}
use Rattle.ll_list_laws.proofs.CallerLemmas.{OnErr-always}
use Rattle.ll_resources.specs.declared.saves.SavedMarks.{SavedMarks}
use Rattle.ll_resources.specs.declared.state.State.{State}
use Rattle.ll_resources.specs.declared.state.Change.TheVariants.{Remarked}
use Rattle.ll_resources.specs.Raw.{raw, block_later, kept_under, is_younger}
use Rattle.ll_resources.specs.Changes.{taken_back}
use Rattle.std.proofs.Math.Nat.{le_refl, le_trans}
use Rattle.ll_resources.proofs.RoomLemmas.{le-reserved}
use Rattle.ll_resources.proofs.state.State.bang_end.Goals.{then-skips, else-skips}
use Rattle.ll_resources.proofs.state.State.bang_end.Goals as goal

pub put_marks-requires : goal.put_marks-requires
put_marks-requires g c =
    let ms = c.note.new.self.marks.items in
    let e : length c.live.result.now ≡ length (block_of ms (get_or c.args.self.now.saves.kept.items c.args.number none_kept)) =
    ap length (c.live.ensures none_kept ∙ ap (λ ks. block_of ms (get_or ks c.args.number none_kept)) c.in_ok-from.ensures.kept) in
    le-reserved _ e (c.size.ensures ms none_kept) c.in_ok-reserve.ensures.ok (le_refl _)

pub returns-in_err-reserve-clause-ended : goal.returns-in_err-reserve-clause-ended
returns-in_err-reserve-clause-ended g c = IfOk-from_err c.from_residual.result _ c.from_residual.ensures.0

pub returns-in_err-reserve-clause-leads : goal.returns-in_err-reserve-clause-leads
returns-in_err-reserve-clause-leads g c = IfOk-from_err c.from_residual.result _ c.from_residual.ensures.0

pub returns-in_err-from-clause-ended : goal.returns-in_err-from-clause-ended
returns-in_err-from-clause-ended g c = IfOk-from_err c.from_residual-in_err-from.result _ c.from_residual-in_err-from.ensures.0

pub returns-in_err-from-clause-leads : goal.returns-in_err-from-clause-leads
returns-in_err-from-clause-leads g c = IfOk-from_err c.from_residual-in_err-from.result _ c.from_residual-in_err-from.ensures.0

pub returns-clause-refused : goal.returns-clause-refused
returns-clause-refused g c = _

pub returns-in_err-reserve-clause-room : goal.returns-in_err-reserve-clause-room
returns-in_err-reserve-clause-room g c = record { entries = le_refl _; live = c.reserve.ensures.capacity; keys = le_refl _ }

pub returns-in_err-reserve-clause-refused : goal.returns-in_err-reserve-clause-refused
returns-in_err-reserve-clause-refused g c =
    let new : State g.row.C.Denot = record c.args.self.now { live = c.reserve.new.self } in
    let same : raw new ≡ raw c.args.self.now = λ i. record (raw c.args.self.now) { live = c.in_err-reserve.ensures.items i } in
    OnErr-always c.from_residual.result same

pub returns-in_err-from-clause-room : goal.returns-in_err-from-clause-room
returns-in_err-from-clause-room g c = record { entries = le_refl _; live = c.reserve.ensures.capacity; keys = le_refl _ }

pub returns-in_err-from-clause-refused : goal.returns-in_err-from-clause-refused
returns-in_err-from-clause-refused g c =
    let new : State g.row.C.Denot = record c.args.self.now { live = c.reserve.new.self; saves = c.note.new.self } in
    let same : raw new ≡ raw c.args.self.now = λ i. record (raw c.args.self.now) {
      live = c.in_ok-reserve.ensures.items i;
      marks = c.in_err-from.ensures.refused i;
      kept = c.in_err-from.ensures.kept i;
    } in
    OnErr-always c.from_residual-in_err-from.result same

pub returns-clause-ended : goal.returns-clause-ended
returns-clause-ended g c =
    let old = c.args.self.now in
    let none : SavedMarks = record { count = 0; next = 0; from = 0; to = 0; flag = false; skips = false } in
    let marks : c.note.new.self.marks.items ≡ old.saves.marks.items ++ old.live.items =
    c.in_ok-from.ensures.marks ∙ ap (λ ms. old.saves.marks.items ++ ms) (c.as_slice.ensures.value ∙ c.in_ok-reserve.ensures.items) in
    let live : c.put_marks.new.live.items ≡ block_later c.args.number (raw old) =
    c.put_marks.ensures.marks
    ∙ (c.live.ensures none ∙ (λ i. block_of (marks i) (get_or (c.in_ok-from.ensures.kept i) c.args.number none))) in
    let flag : c.flag-self.result ≡ (kept_under c.args.number (raw old)).flag =
    c.flag-self.ensures none ∙ (λ i. (get_or (c.in_ok-from.ensures.kept i) c.args.number none).flag) in
    let younger : Bool = is_younger c.args.number (raw old) in
    let skips : c.if-skips.self ≡ (old.skips && younger) = elim c.if-skips.branch [
      | then-skips w ↦ w.self-is ∙ (w.is_younger-self.ensures ∙ (λ i. is_younger c.args.number (record
          (raw old) { kept = c.in_ok-from.ensures.kept i })) ∙ sym (ap (λ b. b && younger) w.if-skips.true))
      | else-skips w ↦ w.self-is ∙ (w.if-skips.false ∙ sym (ap (λ b. b && younger) w.if-skips.false))
    ] in
    λ i. record (raw old) { live = live i; flag = flag i; skips = skips i; marks = marks i; kept = c.in_ok-from.ensures.kept i }

pub returns-clause-leads : goal.returns-clause-leads
returns-clause-leads g c =
    let old = c.args.self.now in
    let marks : c.note.new.self.marks.items ≡ old.saves.marks.items ++ old.live.items =
    c.in_ok-from.ensures.marks ∙ ap (λ ms. old.saves.marks.items ++ ms) (c.as_slice.ensures.value ∙ c.in_ok-reserve.ensures.items) in
    record {
      back = (λ i. taken_back (Remarked (c.in_ok-from.ensures.from i) old.flag old.skips)
          (record (raw old) { live = c.put_marks.new.live.items; flag = c.flag-self.result; marks = marks i; kept = c.in_ok-from.ensures.kept i }))
          ∙ back-remarked c.put_marks.new.live.items c.flag-self.result (raw old);
      room = record { entries = le_refl _; live = le_trans c.reserve.ensures.capacity c.put_marks.ensures.room; keys = le_refl _ };
    }

pub returns-clause-room : goal.returns-clause-room
returns-clause-room g c = record { entries = le_refl _; live = le_trans c.reserve.ensures.capacity c.put_marks.ensures.room; keys = le_refl _ }
