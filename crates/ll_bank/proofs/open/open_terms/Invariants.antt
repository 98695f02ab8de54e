use Rattle.std.proofs.Common.{◌≡◌, map, take}
use Rattle.std.specs.BTreeMap.{get}
use Rattle.ll_bank.specs.Term.{close}
use Rattle.ll_bank.specs.Nodes.{term_tree, term_trees, AllInTerms, Extends}
use Rattle.ll_bank.specs.Instantiated.{by_spot, opened, IsTermImage}
use Rattle.ll_bank.specs.Opened.{AreImages}
use Rattle.ll_bank.proofs.open.open_terms.Given as goal

abbrev pub invariant-loop-term : goal.invariant-loop-term
invariant-loop-term l = record {
  keeps : Extends l.fn.bank l.bank;
  places : AllInTerms l.bank l.made.items;
  shows : term_trees l.bank l.made.items ≡ map (close (opened (term_tree l.fn.bank l.fn.value.0) l.fn.level))
      (term_trees l.fn.bank (take l.term-index l.terms));
  images : AreImages (IsTermImage l.bank (term_tree l.fn.bank l.fn.value.0)) (get by_spot l.images);
}
