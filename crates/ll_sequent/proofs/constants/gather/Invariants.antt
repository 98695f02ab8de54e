use Rattle.std.specs.Ordering.{nat_cmp}
use Rattle.std.specs.BTreeSet.{contains}
use Rattle.ll_sequent.specs.Constants.{form_sizes}
use Rattle.ll_sequent.proofs.FormConstants.{IsGathering}
use Rattle.ll_sequent.proofs.constants.gather.Given as goal

abbrev pub invariant-loop-next : goal.invariant-loop-next
invariant-loop-next l = IsGathering l.bank l.fn.form.0 (contains nat_cmp l.fn.terms) (contains nat_cmp l.terms) l.waiting.items

abbrev pub decreases-loop-next : goal.decreases-loop-next
decreases-loop-next l = form_sizes l.bank l.waiting.items
