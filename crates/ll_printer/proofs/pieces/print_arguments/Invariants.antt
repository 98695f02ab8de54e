use Rattle.std.proofs.Common.{◌≡◌, ◌++◌, map, take}
use Rattle.ll_bank.specs.declared.At.{At}
use Rattle.ll_printer.specs.Stack.{arguments_text}
use Rattle.ll_printer.proofs.pieces.print_arguments.Given as goal

abbrev pub invariant-loop-i : goal.invariant-loop-i
invariant-loop-i g l = record {
  text : l.out.items ≡ l.initial.out.items ++ arguments_text l.names (map (λ (a : At). g.T.Terms.tree l.terms a.0) (take l.i l.args));
  same : l.pieces.items ≡ l.initial.pieces.items;
}
