-- Raw trees as the grammar makes them: which names stand where.
use Rattle.std.specs.Prelude.{◌≡◌, ℕ, true, List, codes, ◌⊎◌, FitsSigned}
use Rattle.std.specs.Int.{w64}
use Rattle.ll_parser.specs.Raw.{Raw, truth, erasure, braces, universal, existential, load, binary, is_goal, less_goal, most_goal, head, anything, int, RawList}
use Rattle.ll_parser.specs.Raw.{none, more}
use Rattle.ll_polarity.specs.Scope.{is_variable}
use Rattle.ll_polarity.specs.Faults.{count}
use Rattle.ll_prooftext.specs.Admitted.{IsPlainName}

-- a variable, a name of the language, or the sign `::` in front of two arguments
abbrev pub IsSpokenWord : List ℕ → ℕ → Type 0
IsSpokenWord w k = (is_variable w ≡ true) ⊎ (IsPlainName w ⊎ ((w ≡ codes "::") × (k ≡ 2)))

abbrev mutual
  -- a term of the grammar, in which no sign of numbers stands
  pub IsSpokenTerm : Raw → Type 0
  IsSpokenTerm (head n args) = IsSpokenWord n.text (count args) × AreSpokenTerms args
  IsSpokenTerm (anything at) = Unit {0}
  IsSpokenTerm (int at z) = FitsSigned w64 z
  IsSpokenTerm (truth at) = ⊥
  IsSpokenTerm (erasure at) = ⊥
  IsSpokenTerm (braces at r) = ⊥
  IsSpokenTerm (universal at n r) = ⊥
  IsSpokenTerm (existential at n r) = ⊥
  IsSpokenTerm (load at m args r) = ⊥
  IsSpokenTerm (binary o at l r) = ⊥
  IsSpokenTerm (is_goal at l r) = ⊥
  IsSpokenTerm (less_goal at l r) = ⊥
  IsSpokenTerm (most_goal at l r) = ⊥

  pub AreSpokenTerms : RawList → Type 0
  AreSpokenTerms none = Unit {0}
  AreSpokenTerms (more r rs) = IsSpokenTerm r × AreSpokenTerms rs

abbrev mutual
  -- an expression, whose numbers have 64 bits
  pub IsSpokenExpression : Raw → Type 0
  IsSpokenExpression (head n args) = AreSpokenExpressions args
  IsSpokenExpression (anything at) = Unit {0}
  IsSpokenExpression (int at z) = FitsSigned w64 z
  IsSpokenExpression _ = ⊥

  pub AreSpokenExpressions : RawList → Type 0
  AreSpokenExpressions none = Unit {0}
  AreSpokenExpressions (more r rs) = IsSpokenExpression r × AreSpokenExpressions rs

-- a formula of the grammar: signs of numbers stand in whole-number goals alone, and not on the left of an `is`
abbrev pub IsSpoken : Raw → Type 0
IsSpoken (truth at) = Unit {0}
IsSpoken (erasure at) = Unit {0}
IsSpoken (braces at r) = IsSpoken r
IsSpoken (universal at n r) = IsSpoken r
IsSpoken (existential at n r) = IsSpoken r
IsSpoken (load at m args r) = AreSpokenTerms args × IsSpoken r
IsSpoken (binary o at l r) = IsSpoken l × IsSpoken r
IsSpoken (is_goal at l r) = IsSpokenTerm l × IsSpokenExpression r
IsSpoken (less_goal at l r) = Unit {0}
IsSpoken (most_goal at l r) = Unit {0}
IsSpoken (head n args) = IsSpokenTerm (head n args)
IsSpoken (anything at) = Unit {0}
IsSpoken (int at z) = ⊥
