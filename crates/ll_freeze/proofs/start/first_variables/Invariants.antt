use Rattle.std.proofs.Common.{◌≡◌}
use Rattle.ll_bank.specs.Nodes.{AllInTerms, Extends, term_trees}
use Rattle.ll_laws.specs.Attempt.{vars_from}
use Rattle.ll_freeze.proofs.start.first_variables.Given as goal

abbrev pub invariant-loop-number : goal.invariant-loop-number
invariant-loop-number l = record {
  inside : AllInTerms l.bank l.made.items;
  shows : term_trees l.bank l.made.items ≡ vars_from 0 l.number;
  keeps : Extends l.fn.bank l.bank;
}
