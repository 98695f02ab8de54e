use Rattle.std.specs.Ordering.{nat_cmp}
use Rattle.std.specs.BTreeSet.{contains}
use Rattle.ll_bank.proofs.CallerLemmas.{ceiling}
use Rattle.ll_sequent.specs.Constants.{IsFreeBy}
use Rattle.ll_sequent.proofs.constants.is_in_terms.Given as goal

abbrev pub invariant-loop-place : goal.invariant-loop-place
invariant-loop-place l = IsFreeBy l.constant l.bank (contains nat_cmp l.fn.terms) (contains nat_cmp l.terms)

abbrev pub decreases-loop-place : goal.decreases-loop-place
decreases-loop-place l = ceiling l.terms.keys
