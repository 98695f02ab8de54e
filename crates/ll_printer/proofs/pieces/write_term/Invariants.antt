use Rattle.std.proofs.Common.{◌+◌}
use Rattle.ll_laws.specs.Output.{term_text}
use Rattle.ll_printer.specs.Stack.{IsPrinting, stack_weight, next_weight}
use Rattle.ll_printer.proofs.pieces.write_term.Given as goal

abbrev pub invariant-loop-next : goal.invariant-loop-next
invariant-loop-next g l =
    IsPrinting l.names (g.T.Terms.has l.terms) (g.T.Terms.tree l.terms) (term_text l.names (g.T.Terms.tree l.terms l.fn.at.0)) l.initial.out.items
    l.out.items l.pieces.items l.next

abbrev pub decreases-loop-next : goal.decreases-loop-next
decreases-loop-next g l = next_weight (g.T.Terms.tree l.terms) l.next + stack_weight (g.T.Terms.tree l.terms) l.pieces.items
