use Rattle.std.proofs.Common.{◌≡◌, ◌++◌, take, decimal}
use Rattle.std.specs.List.{flat_map}
use Rattle.ll_laws.specs.ProofText.{field}
use Rattle.ll_prooftext.proofs.fields.write_number_fields.Given as goal

abbrev pub invariant-loop-i : goal.invariant-loop-i
invariant-loop-i l = l.out.items ≡ l.initial.out.items ++ flat_map (λ n. field (decimal n)) (take l.i l.numbers)
