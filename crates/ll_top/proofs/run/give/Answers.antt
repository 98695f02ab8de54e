use Rattle.std.proofs.Common.{◌∙◌, subst, sym, ap, None, Some}
use Rattle.ll_laws.specs.Sound.{Every}
use Rattle.ll_laws.specs.Problem.{problem_events}
use Rattle.ll_first.specs.Upto.{first_of}
use Rattle.ll_top.specs.lines.Running.{IsWelcome, IsReady, told_with}
use Rattle.ll_top.specs.Outcome.{text_of_run}
use Rattle.ll_top.specs.Proved.{events_told, end_of_run}
use Rattle.ll_top.proofs.writing.RunLemmas.{events-same, events-quiet, lines-written}
use Rattle.ll_top.proofs.calls.RunLemmas.{welcome-all, prefix-same, lines-begun}
use Rattle.ll_top.proofs.calls.FaultLemmas.{told-refusal}
use Rattle.ll_top.proofs.calls.ProvedLemmas.{told-text}
use Rattle.ll_top.proofs.calls.WaitingLemmas.{each_with, none_taken, none_given, first-none, shown_all, shown_front}
use Rattle.ll_top.proofs.run.give.Goals as goal

pub crew_with-requires-clause-welcome : goal.crew_with-requires-clause-welcome
crew_with-requires-clause-welcome g c κs within =
    let p = c.args.wanted.now.problem.now in
    each_with _ (IsWelcome c.args.out.now.out.problem.now) (problem_events p) c.requires.ready
    (subst (λ q. Every (IsWelcome q) (problem_events p)) (sym c.requires.problem)
    (welcome-all c.answers_are_shown.ensures _ c.requires.valid))

pub returns-in-Ok-clause-none : goal.returns-in-Ok-clause-none
returns-in-Ok-clause-none g c =
    let p = c.args.wanted.now.problem.now in
    none_taken (λ w. w.problem.now) (λ w. w.waiting.now.items)
    (λ w. IsReady g.E.Lined.makes w.proofs w.problem.now w.waiting.now.items) (λ w r. r.none) _ _ _
    (problem_events p) (problem_events p) c.requires.ready
    (subst (λ q. Every (IsWelcome q) (problem_events p)) (sym c.requires.problem)
    (welcome-all c.answers_are_shown.ensures _ c.requires.valid))
    (λ e. e) c.in-Ok.ensures.welcome_kept c.in-Ok.ensures.given

pub returns-in-Ok-clause-same_reference : goal.returns-in-Ok-clause-same_reference
returns-in-Ok-clause-same_reference g c =
    (events-same _ _
    (λ w. told_with w.problem.now w.proofs w.answers (Some (g.O.Sink.taken w.sink.now)) (g.O.Sink.faults w.sink.now)
    w.failed w.sink.ghost_name w.waiting.now.items)
    (λ x e y h. h) (λ x e y h. h) _ _ _ c.in-Ok.ensures.given).lent

pub returns-in-Ok-clause-sink_told : goal.returns-in-Ok-clause-sink_told
returns-in-Ok-clause-sink_told g c =
    events-quiet _ _
    (λ w. told_with w.problem.now w.proofs w.answers (Some (g.O.Sink.taken w.sink.now)) (g.O.Sink.faults w.sink.now)
    w.failed w.sink.ghost_name w.waiting.now.items)
    (λ x e y h. h) (λ x e y h. h) _ _ _ c.in-Ok.ensures.given

pub returns-in-Ok-clause-lines : goal.returns-in-Ok-clause-lines
returns-in-Ok-clause-lines g c = rw c.in-None.is
    (shown_all (Some (g.O.Sink.taken c.args.out.now.out.sink.now)) _ _ _ _ c.requires.ready.none (returns-in-Ok-clause-none g c)
    (lines-written _ _
    (λ w. told_with w.problem.now w.proofs w.answers (Some (g.O.Sink.taken w.sink.now)) (g.O.Sink.faults w.sink.now)
    w.failed w.sink.ghost_name w.waiting.now.items)
    (λ x e y h. h) (λ x e y h. h) _ _ _ _ c.requires.problem c.requires.answers.1 c.in-Ok.ensures.given))

pub returns-in-Err-clause-none : goal.returns-in-Err-clause-none
returns-in-Err-clause-none g c =
    let p = c.args.wanted.now.problem.now in
    none_given (λ w. w.problem.now) (λ w. w.waiting.now.items)
    (λ w. IsReady g.E.Lined.makes w.proofs w.problem.now w.waiting.now.items) (λ w r. r.none) _ _ _ _
    (problem_events p) (problem_events p) c.requires.ready
    (subst (λ q. Every (IsWelcome q) (problem_events p)) (sym c.requires.problem)
    (welcome-all c.answers_are_shown.ensures _ c.requires.valid))
    (λ e. e) c.in-Err.ensures.welcome_kept c.in-Err.ensures.refused

pub returns-in-Err-clause-same_reference : goal.returns-in-Err-clause-same_reference
returns-in-Err-clause-same_reference g c =
    (prefix-same _ _
    (λ w. told_with w.problem.now w.proofs w.answers (Some (g.O.Sink.taken w.sink.now)) (g.O.Sink.faults w.sink.now)
    w.failed w.sink.ghost_name w.waiting.now.items)
    (λ x e y h. h) (λ x e y h. h) _ _ _ c.in-Err.ensures.refused).lent

pub returns-in-Err-clause-refused : goal.returns-in-Err-clause-refused
returns-in-Err-clause-refused g c =
    (told-refusal _ _ _ _ _
    (prefix-same _ _
    (λ w. told_with w.problem.now w.proofs w.answers (Some (g.O.Sink.taken w.sink.now)) (g.O.Sink.faults w.sink.now)
    w.failed w.sink.ghost_name w.waiting.now.items)
    (λ x e y h. h) (λ x e y h. h) _ _ _ c.in-Err.ensures.refused).tells c.requires.unfailed
    c.refusal_of.ensures.unwritable c.refusal_of.ensures.memory).0

pub returns-in-Err-clause-sink_told : goal.returns-in-Err-clause-sink_told
returns-in-Err-clause-sink_told g c =
    (told-refusal _ _ _ _ _
    (prefix-same _ _
    (λ w. told_with w.problem.now w.proofs w.answers (Some (g.O.Sink.taken w.sink.now)) (g.O.Sink.faults w.sink.now)
    w.failed w.sink.ghost_name w.waiting.now.items)
    (λ x e y h. h) (λ x e y h. h) _ _ _ c.in-Err.ensures.refused).tells c.requires.unfailed
    c.refusal_of.ensures.unwritable c.refusal_of.ensures.memory).1

pub returns-in-Err-clause-prefix : goal.returns-in-Err-clause-prefix
returns-in-Err-clause-prefix g c =
    let p = c.args.wanted.now.problem.now in
    rw c.in-None.is
    (shown_front _ _ _ _ _ c.requires.ready.none (returns-in-Err-clause-none g c)
    (lines-begun _ _
    (λ w. told_with w.problem.now w.proofs w.answers (Some (g.O.Sink.taken w.sink.now)) (g.O.Sink.faults w.sink.now)
    w.failed w.sink.ghost_name w.waiting.now.items)
    (λ x e y h. h) (λ x e y h. h) _ _ p (events_told None p)
    (end_of_run None p) (text_of_run None c.args.out.now.out.proofs p)
    c.requires.problem c.requires.answers.1 (told-text None c.args.out.now.out.proofs p) c.in-Err.ensures.refused))

pub crew_first_with-requires-clause-welcome : goal.crew_first_with-requires-clause-welcome
crew_first_with-requires-clause-welcome g c κs within =
    let p = c.args.wanted.now.problem.now in
    each_with _ (IsWelcome c.args.out.now.out.problem.now) (problem_events p) c.requires.ready
    (subst (λ q. Every (IsWelcome q) (problem_events p)) (sym c.requires.problem)
    (welcome-all c.answers_are_shown.ensures _ c.requires.valid))

pub returns-in-Ok-crew_first_with-clause-none : goal.returns-in-Ok-crew_first_with-clause-none
returns-in-Ok-crew_first_with-clause-none g c =
    let p = c.args.wanted.now.problem.now in
    none_taken (λ w. w.out.problem.now) (λ w. w.out.waiting.now.items)
    (λ w. IsReady g.E.Lined.makes w.out.proofs w.out.problem.now w.out.waiting.now.items) (λ w r. r.none) _ _ _
    (problem_events p) (first_of (problem_events p) c.args.out.now.limit) c.requires.ready
    (subst (λ q. Every (IsWelcome q) (problem_events p)) (sym c.requires.problem)
    (welcome-all c.answers_are_shown.ensures _ c.requires.valid))
    (λ e. ap (λ l. first_of l c.args.out.now.limit) e ∙ first-none c.args.out.now.limit)
    c.in-Ok-crew_first_with.ensures.welcome_kept c.in-Ok-crew_first_with.ensures.given

pub returns-in-Ok-crew_first_with-clause-same_reference : goal.returns-in-Ok-crew_first_with-clause-same_reference
returns-in-Ok-crew_first_with-clause-same_reference g c =
    (events-same _ (λ x e y. ⊥)
    (λ w. told_with w.out.problem.now w.out.proofs w.out.answers (Some (g.O.Sink.taken w.out.sink.now)) (g.O.Sink.faults w.out.sink.now)
    w.out.failed w.out.sink.ghost_name w.out.waiting.now.items)
    (λ x e y h. h.0) (λ x e y h. absurd h) _ _ _ c.in-Ok-crew_first_with.ensures.given).lent

pub returns-in-Ok-crew_first_with-clause-sink_told : goal.returns-in-Ok-crew_first_with-clause-sink_told
returns-in-Ok-crew_first_with-clause-sink_told g c =
    events-quiet _ (λ x e y. ⊥)
    (λ w. told_with w.out.problem.now w.out.proofs w.out.answers (Some (g.O.Sink.taken w.out.sink.now)) (g.O.Sink.faults w.out.sink.now)
    w.out.failed w.out.sink.ghost_name w.out.waiting.now.items)
    (λ x e y h. h.0) (λ x e y h. absurd h) _ _ _ c.in-Ok-crew_first_with.ensures.given

pub returns-in-Ok-crew_first_with-clause-lines : goal.returns-in-Ok-crew_first_with-clause-lines
returns-in-Ok-crew_first_with-clause-lines g c = rw (c.in-Some.is ∙ ap Some (sym (rw c.in-Some.is at c.requires.limit)))
    (shown_all (Some (g.O.Sink.taken c.args.out.now.out.sink.now)) _ _ _ _ c.requires.ready.none (returns-in-Ok-crew_first_with-clause-none g c)
    (lines-written _ (λ x e y. ⊥)
    (λ w. told_with w.out.problem.now w.out.proofs w.out.answers (Some (g.O.Sink.taken w.out.sink.now)) (g.O.Sink.faults w.out.sink.now)
    w.out.failed w.out.sink.ghost_name w.out.waiting.now.items)
    (λ x e y h. h.0) (λ x e y h. absurd h) _ _ _ _ c.requires.problem c.requires.answers.1 c.in-Ok-crew_first_with.ensures.given))

pub returns-in-Err-crew_first_with-clause-none : goal.returns-in-Err-crew_first_with-clause-none
returns-in-Err-crew_first_with-clause-none g c =
    let p = c.args.wanted.now.problem.now in
    none_given (λ w. w.out.problem.now) (λ w. w.out.waiting.now.items)
    (λ w. IsReady g.E.Lined.makes w.out.proofs w.out.problem.now w.out.waiting.now.items) (λ w r. r.none) _ _ _ _
    (problem_events p) (first_of (problem_events p) c.args.out.now.limit) c.requires.ready
    (subst (λ q. Every (IsWelcome q) (problem_events p)) (sym c.requires.problem)
    (welcome-all c.answers_are_shown.ensures _ c.requires.valid))
    (λ e. ap (λ l. first_of l c.args.out.now.limit) e ∙ first-none c.args.out.now.limit)
    c.in-Err-crew_first_with.ensures.welcome_kept c.in-Err-crew_first_with.ensures.refused

pub returns-in-Err-crew_first_with-clause-same_reference : goal.returns-in-Err-crew_first_with-clause-same_reference
returns-in-Err-crew_first_with-clause-same_reference g c =
    (prefix-same _ _
    (λ w. told_with w.out.problem.now w.out.proofs w.out.answers (Some (g.O.Sink.taken w.out.sink.now)) (g.O.Sink.faults w.out.sink.now)
    w.out.failed w.out.sink.ghost_name w.out.waiting.now.items)
    (λ x e y h. h.0) (λ x e y h. h.0) _ _ _ c.in-Err-crew_first_with.ensures.refused).lent

pub returns-in-Err-crew_first_with-clause-refused : goal.returns-in-Err-crew_first_with-clause-refused
returns-in-Err-crew_first_with-clause-refused g c =
    (told-refusal _ _ _ _ _
    (prefix-same _ _
    (λ w. told_with w.out.problem.now w.out.proofs w.out.answers (Some (g.O.Sink.taken w.out.sink.now)) (g.O.Sink.faults w.out.sink.now)
    w.out.failed w.out.sink.ghost_name w.out.waiting.now.items)
    (λ x e y h. h.0) (λ x e y h. h.0) _ _ _ c.in-Err-crew_first_with.ensures.refused).tells c.requires.unfailed
    c.refusal_of-in-Err-crew_first_with.ensures.unwritable c.refusal_of-in-Err-crew_first_with.ensures.memory).0

pub returns-in-Err-crew_first_with-clause-sink_told : goal.returns-in-Err-crew_first_with-clause-sink_told
returns-in-Err-crew_first_with-clause-sink_told g c =
    (told-refusal _ _ _ _ _
    (prefix-same _ _
    (λ w. told_with w.out.problem.now w.out.proofs w.out.answers (Some (g.O.Sink.taken w.out.sink.now)) (g.O.Sink.faults w.out.sink.now)
    w.out.failed w.out.sink.ghost_name w.out.waiting.now.items)
    (λ x e y h. h.0) (λ x e y h. h.0) _ _ _ c.in-Err-crew_first_with.ensures.refused).tells c.requires.unfailed
    c.refusal_of-in-Err-crew_first_with.ensures.unwritable c.refusal_of-in-Err-crew_first_with.ensures.memory).1

pub returns-in-Err-crew_first_with-clause-prefix : goal.returns-in-Err-crew_first_with-clause-prefix
returns-in-Err-crew_first_with-clause-prefix g c =
    let p = c.args.wanted.now.problem.now in
    rw (c.in-Some.is ∙ ap Some (sym (rw c.in-Some.is at c.requires.limit)))
    (shown_front _ _ _ _ _ c.requires.ready.none (returns-in-Err-crew_first_with-clause-none g c)
    (lines-begun _ _
    (λ w. told_with w.out.problem.now w.out.proofs w.out.answers (Some (g.O.Sink.taken w.out.sink.now)) (g.O.Sink.faults w.out.sink.now)
    w.out.failed w.out.sink.ghost_name w.out.waiting.now.items)
    (λ x e y h. h.0) (λ x e y h. h.0) _ _ p (events_told (Some c.args.out.now.limit) p)
    (end_of_run (Some c.args.out.now.limit) p) (text_of_run (Some c.args.out.now.limit) c.args.out.now.out.proofs p)
    c.requires.problem c.requires.answers.1 (told-text (Some c.args.out.now.limit) c.args.out.now.out.proofs p) c.in-Err-crew_first_with.ensures.refused))
