use Rattle.std.proofs.Common.{◌≡◌, map, take}
use Rattle.std.specs.HashMap.{get}
use Rattle.ll_bank.specs.Term.{close}
use Rattle.ll_bank.specs.Nodes.{term_trees, AllInTerms, Extends}
use Rattle.ll_bank.specs.Opened.{AreImages}
use Rattle.ll_bank.specs.Closing.{env_in, under, same_spot, IsTermImage}
use Rattle.ll_bank.proofs.closing.form.closed_terms.Given as goal

abbrev pub invariant-loop-arg : goal.invariant-loop-arg
invariant-loop-arg l = record {
  keeps : Extends l.fn.bank l.bank;
  places : AllInTerms l.bank l.made.items;
  shows : term_trees l.bank l.made.items ≡ map (close (under (env_in l.fn.bank l.values) l.fn.level)) (term_trees l.fn.bank (take l.arg-index l.args));
  images : AreImages (IsTermImage l.bank (env_in l.fn.bank l.values)) (get same_spot l.terms.places);
}
