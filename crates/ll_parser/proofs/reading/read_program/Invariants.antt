use Rattle.ll_parser.specs.FlatText.{program_start, program_step}
use Rattle.ll_parser.specs.Drafts.{draft_view, DraftFits, PhaseFits}
use Rattle.ll_parser.proofs.machines.Running.{Running}
use Rattle.ll_parser.proofs.reading.read_program.Given as goal

abbrev pub invariant-loop-i : goal.invariant-loop-i
invariant-loop-i l = DraftFits l.draft × PhaseFits l.draft.waiting l.phase × Running program_start program_step l.tokens l.i l.names (λ texts.
    draft_view texts l.draft l.phase) l.depth
