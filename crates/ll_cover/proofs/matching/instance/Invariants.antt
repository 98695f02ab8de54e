use Rattle.std.specs.BTreeMap.{keys}
use Rattle.ll_bank.specs.Nodes.{term_trees}
use Rattle.ll_bank.proofs.CallerLemmas.{ceiling}
use Rattle.ll_cover.specs.Matching.{IsMatching}
use Rattle.ll_cover.proofs.matching.instance.Given as goal

abbrev pub invariant-loop-place : goal.invariant-loop-place
invariant-loop-place l = IsMatching l.bank (term_trees l.bank l.of) l.other (term_trees l.other l.terms) l.found

abbrev pub decreases-loop-place : goal.decreases-loop-place
decreases-loop-place l = ceiling (keys l.found.waiting)
