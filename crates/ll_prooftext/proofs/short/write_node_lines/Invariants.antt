use Rattle.std.proofs.Common.{◌≡◌, ◌++◌, take}
use Rattle.std.specs.List.{flat_map}
use Rattle.ll_laws.specs.declared.Rule.{Rule}
use Rattle.ll_laws.specs.Output.{line}
use Rattle.ll_laws.specs.ShownLines.{line_of}
use Rattle.ll_prooftext.specs.ProofText2.{node_text_by}
use Rattle.ll_prooftext.specs.Short.{shown}
use Rattle.ll_prooftext.proofs.short.write_node_lines.Given as goal

abbrev pub invariant-loop-i : goal.invariant-loop-i
invariant-loop-i l = l.out.items ≡ l.initial.out.items ++ flat_map (λ (r : Rule).
    line (node_text_by (shown l.names l.bank l.fields) (line_of l.bank r))) (take l.i l.nodes)
