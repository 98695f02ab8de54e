use Rattle.std.proofs.Common.{◌≡◌, ◌++◌, take}
use Rattle.std.specs.List.{flat_map}
use Rattle.ll_laws.specs.declared.Part.{Part}
use Rattle.ll_laws.specs.ProofText.{part_field}
use Rattle.ll_laws.specs.ShownLines.{part_line}
use Rattle.ll_prooftext.proofs.fields.write_part_fields.Given as goal

abbrev pub invariant-loop-i : goal.invariant-loop-i
invariant-loop-i l = l.out.items ≡ l.initial.out.items ++ flat_map (λ (p : Part). part_field (part_line p)) (take l.i l.parts)
