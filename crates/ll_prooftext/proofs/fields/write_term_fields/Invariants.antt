use Rattle.std.proofs.Common.{◌≡◌, ◌++◌, take}
use Rattle.std.specs.List.{flat_map}
use Rattle.ll_bank.specs.declared.At.{At}
use Rattle.ll_bank.specs.Nodes.{term_tree}
use Rattle.ll_laws.specs.ProofText.{term_field}
use Rattle.ll_prooftext.proofs.fields.write_term_fields.Given as goal

abbrev pub invariant-loop-i : goal.invariant-loop-i
invariant-loop-i l = l.out.items ≡ l.initial.out.items ++ flat_map (λ (a : At). term_field l.names (term_tree l.bank a.0)) (take l.i l.terms)
