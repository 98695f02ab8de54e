use Rattle.std.proofs.Common.{◌≡◌, ◌++◌, take}
use Rattle.std.specs.List.{flat_map}
use Rattle.ll_bank.specs.declared.At.{At}
use Rattle.ll_bank.specs.Nodes.{term_tree, term_trees}
use Rattle.ll_prooftext.specs.ProofText2.{share_line}
use Rattle.ll_prooftext.proofs.short.write_shares.Given as goal

abbrev pub invariant-loop-i : goal.invariant-loop-i
invariant-loop-i l = l.out.items ≡ l.initial.out.items ++ flat_map (λ (a : At).
    share_line l.names (term_trees l.bank l.table.rows.items) (term_tree l.bank a.0)) (take l.i l.rows)
