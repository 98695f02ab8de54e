use Rattle.std.proofs.Common.{take}
use Rattle.std.specs.Ordering.{nat_cmp}
use Rattle.std.specs.BTreeSet.{contains}
use Rattle.ll_sequent.specs.Constants.{is_in_each, forms_of, Gathers}
use Rattle.ll_sequent.proofs.constants.gather_all.Given as goal

abbrev pub invariant-loop-each : goal.invariant-loop-each
invariant-loop-each l = Gathers l.bank (contains nat_cmp l.fn.terms) (contains nat_cmp l.terms) (λ c.
    is_in_each c l.bank (forms_of (take l.each-index l.clauses)))
