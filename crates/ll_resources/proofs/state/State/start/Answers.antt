use Rattle.std.proofs.Common.{◌≡◌, ℕ, ◌+◌, ◌-◌, ◌<◌, false, List, ◌∷◌, length, map, drop, ap, sym, ◌∙◌, arith}
use Rattle.std.specs.Prelude.{reverse, Option, None}
use Rattle.ll_laws.specs.declared.Kind.{Kind}
use Rattle.std.proofs.lemmas.List.{drop_all, drop_more}
use Rattle.std.proofs.lemmas.Result.{IfOk-from_err}
use Rattle.ll_laws.specs.Attempt.{is_linear}
use Rattle.ll_laws.specs.Settle.{Entry}
use Rattle.ll_resources.specs.declared.state.Stored.{Stored}
use Rattle.ll_resources.specs.declared.saves.SavedMarks.{SavedMarks}
use Rattle.ll_resources.specs.Seen.{seen, seen_all}
use Rattle.ll_resources.specs.Saves.{kept_marks}
use Rattle.ll_resources.specs.Raw.{stored}
use Rattle.ll_resources.specs.Resources.{Resources, entries_from}
use Rattle.ll_resources.proofs.SeenLemmas.{reverse-push, seen-more, started-more}
use Rattle.ll_resources.proofs.state.State.start.Goals as goal

pub loop-i-init : goal.loop-i-init
loop-i-init g c =
    let cs = c.args.clauses.now in
    record {
      entries = ap (λ es. seen_all (reverse es) (reverse c.new-live.result.items)) c.in_ok-entries.ensures.items
          ∙ sym (ap (λ ds. entries_from (length cs - 0) ds) (drop_all (length cs - 0) cs (omega arith)));
      keys = ap (λ es. map (λ (s : Stored g.row.C.Denot). s.key) (reverse es)) c.in_ok-entries.ensures.items
          ∙ sym (ap (λ ds. map (λ (_ : Kind × g.row.C.Denot). None) ds) (drop_all (length cs - 0) cs (omega arith)));
    }

pub loop-i-preserved : goal.loop-i-preserved
loop-i-preserved g c =
    let cs = c.args.clauses.now in let i = c.loop-i.i in
    let at : ℕ = length cs - 1 - i in
    let x = c.index-clauses-at.result in
    let s : Stored g.row.C.Denot = stored at x.0 x.1 in
    let live = c.push_mark.new.live.items in
    let below : i < length cs = omega (arith, c.loop-i-test.true) in
    let next : length cs - i ≡ at + 1 = omega (arith, below) in
    let more : seen_all (reverse c.push.new.self.items) (reverse live) ≡ seen s (is_linear x.0) ∷ entries_from (at + 1) (drop (at + 1) cs) =
    ap (λ es. seen_all (reverse es) (reverse live)) c.in_ok-push.ensures.items
    ∙ (ap (λ ss. seen_all ss (reverse live)) (reverse-push c.loop-i.entries.items s)
    ∙ (seen-more s (reverse c.loop-i.entries.items) c.loop-i.live.items live c.is_bounded.result c.in_ok-push_mark.ensures
    ∙ (ap (λ b. seen s b ∷ seen_all (reverse c.loop-i.entries.items) (reverse c.loop-i.live.items)) c.is_bounded.ensures
    ∙ (ap (λ ys. seen s (is_linear x.0) ∷ ys) c.loop-i.invariant.entries
    ∙ ap (λ n. seen s (is_linear x.0) ∷ entries_from n (drop n cs)) next)))) in
    let here : at ≡ length cs - (i + 1) = omega arith in
    record {
      entries = started-more cs (seen_all (reverse c.push.new.self.items) (reverse live)) at x (omega (arith, below)) c.index-clauses-at.is more
          ∙ ap (λ n. entries_from n (drop n cs)) here;
      keys = ap (λ es. map (λ (s : Stored g.row.C.Denot). s.key) (reverse es)) c.in_ok-push.ensures.items
          ∙ (ap (λ ss. map (λ (s : Stored g.row.C.Denot). s.key) ss) (reverse-push c.loop-i.entries.items s)
          ∙ (ap (λ ks. None ∷ ks) (c.loop-i.invariant.keys ∙ ap (λ n. map (λ (_ : Kind × g.row.C.Denot). None) (drop n cs)) next)
          ∙ (ap (λ ds. map (λ (_ : Kind × g.row.C.Denot). None) ds) (sym (drop_more cs at x (omega (arith, below))))
          ∙ ap (λ n. map (λ (_ : Kind × g.row.C.Denot). None) (drop n cs)) here)));
    }

pub returns : goal.returns
returns g c =
    let cs = c.args.clauses.now in
    let end : length cs - c.loop-i.i ≡ 0 = omega (arith, c.loop-i-test.false) in
    let by : List (Option ℕ) → List (Entry g.row.C.Denot) → List SavedMarks → Resources g.row.C.Denot =
    λ keys es ks. record { entries = es; flag = false; next = length cs; kept = map (kept_marks c.new.result.marks.items) ks; keys = keys } in
    record {
      state = ap (λ es. by (map (λ (s : Stored g.row.C.Denot). s.key) (reverse c.loop-i.entries.items)) es c.new.result.kept.items)
          (c.loop-i.invariant.entries ∙ ap (λ n. entries_from n (drop n cs)) end)
          ∙ (ap (λ keys. by keys (entries_from 0 cs) c.new.result.kept.items)
          (c.loop-i.invariant.keys ∙ ap (λ n. map (λ (_ : Kind × g.row.C.Denot). None) (drop n cs)) end)
          ∙ ap (λ ks. by (map (λ (_ : Kind × g.row.C.Denot). None) cs) (entries_from 0 cs) ks) c.new.ensures.kept);
      kept = c.new.ensures.kept;
    }

pub returns-in_err-entries-clause-kept : goal.returns-in_err-entries-clause-kept
returns-in_err-entries-clause-kept g c = IfOk-from_err c.from_residual.result _ c.from_residual.ensures.0

pub returns-in_err-entries-clause-state : goal.returns-in_err-entries-clause-state
returns-in_err-entries-clause-state g c = IfOk-from_err c.from_residual.result _ c.from_residual.ensures.0

pub returns-in_err-push-clause-kept : goal.returns-in_err-push-clause-kept
returns-in_err-push-clause-kept g c = IfOk-from_err c.from_residual-in_err-push.result _ c.from_residual-in_err-push.ensures.0

pub returns-in_err-push-clause-state : goal.returns-in_err-push-clause-state
returns-in_err-push-clause-state g c = IfOk-from_err c.from_residual-in_err-push.result _ c.from_residual-in_err-push.ensures.0

pub returns-in_err-push_mark-clause-kept : goal.returns-in_err-push_mark-clause-kept
returns-in_err-push_mark-clause-kept g c = IfOk-from_err c.from_residual-in_err-push_mark.result _ c.from_residual-in_err-push_mark.ensures.0

pub returns-in_err-push_mark-clause-state : goal.returns-in_err-push_mark-clause-state
returns-in_err-push_mark-clause-state g c = IfOk-from_err c.from_residual-in_err-push_mark.result _ c.from_residual-in_err-push_mark.ensures.0
