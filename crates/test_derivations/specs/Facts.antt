-- Trees of one clause step.
use Rattle.std.specs.Prelude.{ℕ, []}
use Rattle.ll_laws.specs.Shows.{Tree, ClauseNode, NoParts}

-- a step with the clause of this label, which has no premise
abbrev pub fact : ℕ → Tree
fact n = ClauseNode n 0 [] NoParts
