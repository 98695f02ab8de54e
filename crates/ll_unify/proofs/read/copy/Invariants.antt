use Rattle.std.proofs.Common.{nat_eq}
use Rattle.std.specs.HashMap.{get}
use Rattle.ll_bank.specs.Term.{sub}
use Rattle.ll_bank.specs.Nodes.{term_tree, Extends}
use Rattle.ll_unify.specs.Bindings.{found}
use Rattle.ll_unify.specs.Frames.{frames_weight}
use Rattle.ll_unify.specs.Copied.{AreCopies, IsCopied}
use Rattle.ll_unify.proofs.read.copy.Given as goal

abbrev pub invariant-loop-frame : goal.invariant-loop-frame
invariant-loop-frame g l = record {
  keeps : Extends l.fn.bank l.bank;
  known : AreCopies l.fn.bank l.bank (g.T.Bindings.table l.table) (get nat_eq l.known);
  copied : IsCopied l.fn.bank l.bank (g.T.Bindings.table l.table) (sub (found l.fn.bank (g.T.Bindings.table l.table)) (term_tree l.fn.bank l.fn.start.0))
      l.made.items l.last l.frames.items;
}

abbrev pub decreases-loop-frame : goal.decreases-loop-frame
decreases-loop-frame g l = frames_weight l.fn.bank (found l.fn.bank (g.T.Bindings.table l.table)) l.frames.items
