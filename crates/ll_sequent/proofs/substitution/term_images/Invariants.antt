use Rattle.std.proofs.Common.{◌≡◌, map, take}
use Rattle.ll_bank.specs.Term.{sub}
use Rattle.ll_bank.specs.Nodes.{term_trees, AllInTerms, Extends}
use Rattle.ll_sequent.specs.Starting.{values}
use Rattle.ll_sequent.specs.Substituted.{AreTermImages}
use Rattle.ll_sequent.proofs.substitution.term_images.Given as goal

abbrev pub invariant-loop-place : goal.invariant-loop-place
invariant-loop-place l = record {
  keeps : Extends l.fn.bank l.bank;
  terms : AreTermImages l.bank (term_trees l.fn.bank l.values) l.terms.items;
  inside : AllInTerms l.bank l.images.items;
  shows : term_trees l.bank l.images.items ≡ map (sub (values (term_trees l.fn.bank l.values))) (term_trees l.fn.bank (take l.place-index l.places));
}
