use Rattle.std.proofs.Common.{suc, ◌-◌, length}
use Rattle.ll_bank.specs.Nodes.{term_trees, Extends}
use Rattle.ll_sequent.specs.Substituted.{AreTermImages}
use Rattle.ll_sequent.proofs.substitution.term_image.Given as goal

abbrev pub invariant-growth : goal.invariant-growth
invariant-growth l = record {
  keeps : Extends l.fn.bank l.bank;
  terms : AreTermImages l.bank (term_trees l.fn.bank l.values) l.terms.items;
}

abbrev pub decreases-growth : goal.decreases-growth
decreases-growth l = suc l.term.0 - length l.terms.items
