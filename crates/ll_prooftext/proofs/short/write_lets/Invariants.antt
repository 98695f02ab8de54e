use Rattle.std.proofs.Common.{◌≡◌, ◌++◌, take}
use Rattle.std.specs.List.{flat_map}
use Rattle.ll_bank.specs.declared.At.{At}
use Rattle.ll_bank.specs.Nodes.{term_tree}
use Rattle.ll_laws.specs.Output.{line}
use Rattle.ll_prooftext.specs.ProofText2.{let_text_by}
use Rattle.ll_prooftext.specs.Short.{shown}
use Rattle.ll_prooftext.proofs.short.write_lets.Given as goal

abbrev pub invariant-loop-i : goal.invariant-loop-i
invariant-loop-i l = l.out.items ≡ l.initial.out.items ++ flat_map (λ (a : At).
    line (let_text_by (shown l.names l.bank l.fields) (term_tree l.bank a.0))) (take l.i l.terms)
