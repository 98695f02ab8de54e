use Rattle.ll_parser.specs.FlatText.{query_start, query_step}
use Rattle.ll_parser.specs.Drafts.{stage_view, StageFits}
use Rattle.ll_parser.proofs.machines.Running.{Running}
use Rattle.ll_parser.proofs.reading.read_query.Given as goal

abbrev pub invariant-loop-i : goal.invariant-loop-i
invariant-loop-i l = StageFits l.waiting l.stage × Running query_start query_step l.tokens l.i l.names (λ texts. stage_view texts l.waiting l.stage) l.depth
