-- Which rules of a derivation are of whole-number goals.
use Rattle.std.specs.Prelude.{Bool, true, false}
use Rattle.ll_laws.specs.declared.Rule.{Rule}
use Rattle.ll_laws.specs.declared.Rule.TheVariants.{Num}

-- the rule is that of a whole-number goal
abbrev pub is_counting : Rule → Bool
is_counting Num = true
is_counting _ = false
