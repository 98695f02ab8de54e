use Rattle.std.proofs.Common.{◌≡◌, ◌++◌, map, take}
use Rattle.ll_bank.specs.declared.At.{At}
use Rattle.ll_laws.specs.Output.{binding_lines}
use Rattle.ll_printer.proofs.answers.write_bindings.Given as goal

abbrev pub invariant-loop-i : goal.invariant-loop-i
invariant-loop-i g l =
    l.out.items ≡ l.initial.out.items ++ binding_lines l.names (take l.i l.asked) (map (λ (a : At). g.T.Terms.tree l.terms a.0) l.places)
