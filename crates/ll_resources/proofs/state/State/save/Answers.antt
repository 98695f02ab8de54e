use Rattle.std.proofs.lemmas.Result.{IfOk-from_err}
use Rattle.std.proofs.Common.{◌≡◌, ◌+◌, length, [], ◌∷◌, ◌++◌, false, refl, ap, ◌∙◌}
use Rattle.ll_list_laws.proofs.CallerLemmas.{OnErr-always}
use Rattle.ll_resources.specs.declared.state.State.{State}
use Rattle.ll_resources.specs.declared.state.Change.TheVariants.{SavedMarks}
use Rattle.ll_resources.specs.Raw.{raw, kept_now}
use Rattle.ll_resources.specs.Changes.{taken_back}
use Rattle.ll_resources.proofs.ChangeLemmas.{back-kept}
use Rattle.std.proofs.Math.Nat.{le_refl}
use Rattle.ll_resources.proofs.state.State.save.Goals as goal

pub returns-in_err-keep-clause-saved : goal.returns-in_err-keep-clause-saved
returns-in_err-keep-clause-saved g c = IfOk-from_err c.from_residual.result _ c.from_residual.ensures.0

pub returns-in_err-keep-clause-change : goal.returns-in_err-keep-clause-change
returns-in_err-keep-clause-change g c = IfOk-from_err c.from_residual.result _ c.from_residual.ensures.0

pub returns-in_err-keep-clause-leads : goal.returns-in_err-keep-clause-leads
returns-in_err-keep-clause-leads g c = IfOk-from_err c.from_residual.result _ c.from_residual.ensures.0

pub returns-clause-refused : goal.returns-clause-refused
returns-clause-refused g c = _

pub returns-in_err-keep-clause-room : goal.returns-in_err-keep-clause-room
returns-in_err-keep-clause-room g c = record { entries = le_refl _; live = le_refl _; keys = le_refl _ }

pub returns-in_err-keep-clause-refused : goal.returns-in_err-keep-clause-refused
returns-in_err-keep-clause-refused g c =
    let new : State g.row.C.Denot = record c.args.self.now { saves = c.keep.new.self } in
    let same : raw new ≡ raw c.args.self.now =
    λ i. record (raw c.args.self.now) { marks = c.in_err-keep.ensures.same_marks i; kept = c.in_err-keep.ensures.same_kept i } in
    OnErr-always c.from_residual.result same

pub returns-clause-saved : goal.returns-clause-saved
returns-clause-saved g c =
    let old = c.args.self.now in
    let marks : c.keep.new.self.marks.items ≡ old.saves.marks.items ++ old.live.items =
    c.in_ok-keep.ensures.marks ∙ ap (λ ms. old.saves.marks.items ++ ms) c.as_slice.ensures.value in
    let count : c.len.result ≡ length old.entries.items = c.len.ensures ∙ old.entries.ok.0 in
    let kept : c.keep.new.self.kept.items ≡ old.saves.kept.items ++ kept_now (raw old) ∷ [] =
    c.in_ok-keep.ensures.kept
    ∙ (λ i. old.saves.kept.items ++ record {
      count = count i;
      next = old.next;
      from = length old.saves.marks.items;
      to = length old.saves.marks.items + length (c.as_slice.ensures.value i);
      flag = old.flag;
      skips = old.skips;
    } ∷ []) in
    λ i. record (raw old) { flag = false; marks = marks i; kept = kept i }

pub returns-clause-change : goal.returns-clause-change
returns-clause-change g c = refl

pub returns-clause-leads : goal.returns-clause-leads
returns-clause-leads g c =
    let old = c.args.self.now in
    let marks : c.keep.new.self.marks.items ≡ old.saves.marks.items ++ old.live.items =
    c.in_ok-keep.ensures.marks ∙ ap (λ ms. old.saves.marks.items ++ ms) c.as_slice.ensures.value in
    let count : c.len.result ≡ length old.entries.items = c.len.ensures ∙ old.entries.ok.0 in
    let kept : c.keep.new.self.kept.items ≡ old.saves.kept.items ++ kept_now (raw old) ∷ [] =
    c.in_ok-keep.ensures.kept
    ∙ (λ i. old.saves.kept.items ++ record {
      count = count i;
      next = old.next;
      from = length old.saves.marks.items;
      to = length old.saves.marks.items + length (c.as_slice.ensures.value i);
      flag = old.flag;
      skips = old.skips;
    } ∷ []) in
    record {
      back = (λ i. taken_back SavedMarks (record (raw old) { flag = false; marks = marks i; kept = kept i })) ∙ back-kept old.live.items (raw old);
      room = record { entries = le_refl _; live = le_refl _; keys = le_refl _ };
    }

pub returns-clause-room : goal.returns-clause-room
returns-clause-room g c = record { entries = le_refl _; live = le_refl _; keys = le_refl _ }
