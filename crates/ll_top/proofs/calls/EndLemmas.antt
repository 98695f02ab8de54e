-- A run from its events to its last line, to the end of its search or until it has the answers that are wanted.
use Rattle.std.proofs.Common.{◌≡◌, ◌∙◌, ℕ, ap, sym, subst, Bool, List, [], ◌++◌}
use Rattle.std.specs.Prelude.{Option, Some, None, is_some, if◌then◌else◌}
use Rattle.std.specs.Io.KnownBytes.{append_known}
use Rattle.std.proofs.lemmas.List.{append-nil}
use Rattle.ll_list_laws.proofs.CallerLemmas.{none_not_some, some_is}
use Rattle.ll_edge.proofs.CallerLemmas.{append_known-append, front_in}
use Rattle.ll_edge.specs.Pieces.{AppendsFront}
use Rattle.ll_first.proofs.CallerLemmas.{upto_none, upto_some}
use Rattle.ll_laws.specs.declared.Event.{Event}
use Rattle.ll_laws.specs.Problem.{ProblemTree, problem_events}
use Rattle.ll_laws.specs.Output.{run_status}
use Rattle.ll_top.specs.lines.Running.{all_lines}
use Rattle.ll_top.specs.declared.run.Ended.{Ended}
use Rattle.ll_top.specs.declared.run.Ended.TheVariants.{Whole, Stopped}
use Rattle.ll_top.specs.Outcome.{status_of_run, text_of_run}
use Rattle.ll_top.specs.Proved.{events_told, stop_or_summary, end_of_run}
use Rattle.ll_top.specs.Running.{IsEndOf, ended_text, ended_status}
use Rattle.ll_top.proofs.calls.RunLemmas.{last-line, run-status}
use Rattle.ll_top.proofs.calls.ProvedLemmas.{told-text}

-- the last line of a run is that of its end
pub end-text : (limit : Option ℕ) (p : ProblemTree) (e : Ended) → IsEndOf limit p e → end_of_run limit p ≡ ended_text e
end-text None p (Whole counts) h = sym (last-line p counts h.1)
end-text (Some k) p (Whole counts) h = ap (stop_or_summary k p) (upto_none (problem_events p) k h.0) ∙ sym (last-line p counts h.1)
end-text None p (Stopped k) h = absurd (none_not_some k h.0)
end-text (Some j) p (Stopped k) h =
    subst (λ n. end_of_run (Some n) p ≡ ended_text (Stopped k)) (sym (some_is j k h.0))
    (let f = upto_some (problem_events p) k h.1 in ap (stop_or_summary k p) f.1)

-- and so is its status
pub end-status : (limit : Option ℕ) (p : ProblemTree) (e : Ended) → IsEndOf limit p e → ended_status e ≡ status_of_run limit p
end-status None p (Whole counts) h = run-status p counts h.1
end-status (Some k) p (Whole counts) h =
    run-status p counts h.1 ∙ sym (ap (λ (o : Option (List Event)). if is_some o then 0 else run_status p) (upto_none (problem_events p) k h.0))
end-status None p (Stopped k) h = absurd (none_not_some k h.0)
end-status (Some j) p (Stopped k) h =
    subst (λ n. 0 ≡ status_of_run (Some n) p) (sym (some_is j k h.0))
    (let f = upto_some (problem_events p) k h.1 in sym (ap (λ (o : Option (List Event)). if is_some o then 0 else run_status p) f.1))

-- The lines of its events were written.
module _ (limit : Option ℕ) (p : ProblemTree) (proofs : Bool) (e : Ended) (is : IsEndOf limit p e) (before now after : Option (List ℕ))
    (lines : now ≡ append_known before (all_lines proofs p 0 (events_told limit p))) where
  its_text : all_lines proofs p 0 (events_told limit p) ++ ended_text e ≡ text_of_run limit proofs p
  its_text = ap (λ l. all_lines proofs p 0 (events_told limit p) ++ l) (sym (end-text limit p e is)) ∙ told-text limit proofs p

  -- so was its last line
  pub text-ended : after ≡ append_known now (ended_text e) → after ≡ append_known before (text_of_run limit proofs p)
  text-ended w = w ∙ (ap (λ o. append_known o (ended_text e)) lines ∙
      (append_known-append before (all_lines proofs p 0 (events_told limit p)) (ended_text e) ∙ ap (append_known before) its_text))

  -- or only a prefix of it
  pub text-cut : AppendsFront now (ended_text e) after → AppendsFront before (text_of_run limit proofs p) after
  text-cut f = front_in before now after (all_lines proofs p 0 (events_told limit p)) (ended_text e) [] (text_of_run limit proofs p) lines
      (ap (λ l. all_lines proofs p 0 (events_told limit p) ++ l) (append-nil (ended_text e)) ∙ its_text) f
