use Rattle.std.proofs.Common.{◌≡◌, ◌++◌, take}
use Rattle.std.specs.List.{flat_map}
use Rattle.ll_prooftext.specs.Rows.{row_text}
use Rattle.ll_prooftext.proofs.lines.write_nodes.Given as goal

abbrev pub invariant-loop-i : goal.invariant-loop-i
invariant-loop-i l = l.out.items ≡ l.initial.out.items ++ flat_map (row_text l.names l.bank) (take l.i l.nodes)
