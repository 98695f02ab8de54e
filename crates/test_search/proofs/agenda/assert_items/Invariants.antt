use Rattle.ll_agenda.specs.Frames.{HasTop}
use Rattle.test_search.proofs.agenda.assert_items.Given as goal

abbrev pub invariant-loop-want : goal.invariant-loop-want
invariant-loop-want g l = HasTop l.agenda l.rest
