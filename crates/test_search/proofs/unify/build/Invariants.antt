use Rattle.test_search.specs.Levelled.{AreLevelled}
use Rattle.test_search.proofs.unify.build.Given as goal

abbrev pub invariant-loop-index : goal.invariant-loop-index
invariant-loop-index l = AreLevelled l.bank l.count l.made.items
