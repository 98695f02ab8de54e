use Rattle.std.specs.Prelude.{reverse}
use Rattle.std.specs.HashMap.{get}
use Rattle.ll_bank.specs.declared.At.{At}
use Rattle.ll_bank.specs.Nodes.{Extends}
use Rattle.ll_bank.specs.Opened.{AreImages, term_parts_at, term_size_at}
use Rattle.ll_bank.specs.Closing.{env_in, same_spot, IsTermImage, IsGoodTerm}
use Rattle.ll_bank.specs.Stacks.{IsClosing, work_left}
use Rattle.ll_bank.proofs.closing.term.closed_deep.Given as goal

abbrev pub invariant-loop-task : goal.invariant-loop-task
invariant-loop-task l = record {
  keeps : Extends l.fn.bank l.bank;
  images : AreImages (IsTermImage l.bank (env_in l.fn.bank l.values)) (get same_spot l.images.places);
  closing : IsClosing (λ k (x : At). IsTermImage l.bank (env_in l.fn.bank l.values) k x.0) (term_parts_at l.fn.bank)
      (IsGoodTerm l.fn.bank (env_in l.fn.bank l.values)) (l.fn.at.0, l.fn.level) l.made.items l.tasks.items;
}

abbrev pub decreases-loop-task : goal.decreases-loop-task
decreases-loop-task l = work_left (term_size_at l.fn.bank) (reverse l.tasks.items)
