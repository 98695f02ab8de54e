use Rattle.std.specs.BTreeMap.{get}
use Rattle.ll_bank.specs.Nodes.{term_tree, Extends}
use Rattle.ll_bank.specs.Instantiated.{by_spot, IsTermImage, IsKnown, IsOpening, IsTermGood, work_left}
use Rattle.ll_bank.specs.Opened.{AreImages, term_parts_at, term_size_at}
use Rattle.ll_bank.proofs.open.open_term.Given as goal

abbrev pub invariant-loop-task : goal.invariant-loop-task
invariant-loop-task l = record {
  keeps : Extends l.fn.bank l.bank;
  images : AreImages (IsTermImage l.bank (term_tree l.fn.bank l.fn.value.0)) (get by_spot l.images);
  opening : IsOpening (IsKnown (get by_spot l.images)) (term_parts_at l.fn.bank) (IsTermGood l.fn.bank (term_tree l.fn.bank l.fn.value.0)) (
    l.fn.term.0,
    l.fn.level,
  ) l.tasks.items;
}

abbrev pub decreases-loop-task : goal.decreases-loop-task
decreases-loop-task l = work_left (term_size_at l.fn.bank) l.tasks.items
