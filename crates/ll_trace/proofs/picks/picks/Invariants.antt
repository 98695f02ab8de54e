use Rattle.std.proofs.Common.{◌≡◌, [], ◌∷◌, drop, map}
use Rattle.std.specs.Prelude.{Some}
use Rattle.ll_bank.specs.Nodes.{Nodes}
use Rattle.ll_laws.specs.Line.{trees_of}
use Rattle.ll_laws.specs.Shows.{Tree}
use Rattle.ll_laws.specs.ShownLines.{line_of}
use Rattle.ll_trace.proofs.Picking.{PicksLeft}
use Rattle.ll_trace.proofs.picks.picks.Given as goal

abbrev pub invariant-loop-rule : goal.invariant-loop-rule
invariant-loop-rule l =
    (bank : Nodes) (x : Tree) → trees_of (map (line_of bank) l.rules) ≡ Some (x ∷ [])
    → PicksLeft (map (line_of bank) (drop l.rule-index l.rules)) x l.picks.items l.pending.items
