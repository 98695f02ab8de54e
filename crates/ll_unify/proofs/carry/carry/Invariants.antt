use Rattle.ll_bank.specs.Term.{sub}
use Rattle.ll_bank.specs.Nodes.{term_tree, Extends}
use Rattle.ll_unify.specs.Bindings.{found}
use Rattle.ll_unify.specs.Frames.{frames_weight}
use Rattle.ll_unify.specs.Copied.{AreCopies, IsCopied}
use Rattle.ll_unify.specs.Carried.{listed}
use Rattle.ll_unify.proofs.carry.carry.Given as goal

abbrev pub invariant-loop-frame : goal.invariant-loop-frame
invariant-loop-frame g l = record {
  keeps : Extends l.fn.other l.other;
  known : AreCopies l.bank l.other (g.T.Bindings.table l.table) (listed l.known.items);
  copied : IsCopied l.bank l.other (g.T.Bindings.table l.table) (sub (found l.bank (g.T.Bindings.table l.table)) (term_tree l.bank l.fn.start.0)) l.made.items
      l.last l.frames.items;
}

abbrev pub decreases-loop-frame : goal.decreases-loop-frame
decreases-loop-frame g l = frames_weight l.bank (found l.bank (g.T.Bindings.table l.table)) l.frames.items
