use Rattle.std.specs.BTreeMap.{get}
use Rattle.ll_bank.specs.Nodes.{term_tree, Extends}
use Rattle.ll_bank.specs.Instantiated.{by_spot, IsTermImage, IsFormImage, IsKnown, IsOpening, IsFormGood, work_left}
use Rattle.ll_bank.specs.Opened.{AreImages, form_parts_at, form_size_at}
use Rattle.ll_bank.proofs.bank.Bank.instantiate.Given as goal

abbrev pub invariant-loop-task : goal.invariant-loop-task
invariant-loop-task l = record {
  keeps : Extends l.fn.self l.self;
  terms : AreImages (IsTermImage l.self (term_tree l.fn.self l.fn.value.0)) (get by_spot l.terms);
  forms : AreImages (IsFormImage l.self (term_tree l.fn.self l.fn.value.0)) (get by_spot l.forms);
  opening : IsOpening (IsKnown (get by_spot l.forms)) (form_parts_at l.fn.self) (IsFormGood l.fn.self (term_tree l.fn.self l.fn.value.0, l.fn.form.0))
      (l.fn.form.0, 0) l.tasks.items;
}

abbrev pub decreases-loop-task : goal.decreases-loop-task
decreases-loop-task l = work_left (form_size_at l.fn.self) l.tasks.items
