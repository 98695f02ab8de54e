-- The derivations that a text can spell: their names are those of the language, and their numbers have limits.
use Rattle.std.specs.Prelude.{ℕ, ◌<◌, ◌≤◌, ◌^◌, List, length, All, FitsSigned, IsTrue, ◌⊎◌}
use Rattle.std.specs.Int.{w64}
use Rattle.ll_bank.specs.declared.Head.{Head}
use Rattle.ll_bank.specs.declared.Head.TheVariants.{Name, Eigen, Bound}
use Rattle.ll_bank.specs.Term.{Term, Var, Int, Con, Ap}
use Rattle.ll_laws.specs.Output.{name_text, is_cons_head}
use Rattle.ll_laws.specs.Line.{PartLine, Labels, Free, Line, OneLine, EraseLine, TensorLine, WithLine, LeftLine, RightLine, BangLine, LolliLine, ImpLine}
use Rattle.ll_laws.specs.Line.{ForallLine, ExistsLine, UseLine, NumLine, ClauseLine, DerivationLines, IsWhole}
use Rattle.ll_lexer.specs.declared.TokenKind.TheVariants.{Name as NameToken}
use Rattle.ll_lexer.specs.Spelling.{Spells}

-- a name of the language, of at most 255 bytes: no keyword is one
pub record IsPlainName (text : List ℕ) : Type 0 where
  pub spelled : Spells NameToken text
  pub short : length text ≤ 255

-- a head without arguments, or in front of any number of them
abbrev pub IsPlainHead : List (List ℕ) → Head → Type 0
IsPlainHead names (Name n) = IsPlainName (name_text names n)
IsPlainHead names (Eigen n) = n < 2 ^ 32
IsPlainHead names (Bound n) = ⊥

-- a head in front of two arguments
abbrev pub IsPairHead : List (List ℕ) → Head → Type 0
IsPairHead names h = IsPlainHead names h ⊎ IsTrue (is_cons_head names h)

abbrev mutual
  -- each name of the term is a name of the language, or `::` with two arguments, and its numbers are within their limits
  pub IsSpelledTerm : List (List ℕ) → Term → Type 0
  IsSpelledTerm names (Var n) = n < 2 ^ 64
  IsSpelledTerm names (Int z) = FitsSigned w64 z
  IsSpelledTerm names (Con h) = IsPlainHead names h
  IsSpelledTerm names (Ap (Ap (Con h) x) l) = IsPairHead names h × (IsSpelledTerm names x × IsSpelledTerm names l)
  IsSpelledTerm names (Ap f a) = IsSpelledSpine names f × IsSpelledTerm names a

  -- the same of a head with its first arguments, of which there are not two
  pub IsSpelledSpine : List (List ℕ) → Term → Type 0
  IsSpelledSpine names (Var n) = ⊥
  IsSpelledSpine names (Int z) = ⊥
  IsSpelledSpine names (Con h) = IsPlainHead names h
  IsSpelledSpine names (Ap f a) = IsSpelledSpine names f × IsSpelledTerm names a

-- labels, leaves and the numbers of eigenvariables fit 32 bits
abbrev pub AreLabels : List ℕ → Type 0
AreLabels s = All (λ n. n < 2 ^ 32) s

abbrev pub IsSpelledPart : PartLine → Type 0
IsSpelledPart (Labels s) = AreLabels s
IsSpelledPart Free = Unit {0}

abbrev pub IsSpelledLine : List (List ℕ) → Line → Type 0
IsSpelledLine names (TensorLine s t) = AreLabels s × AreLabels t
IsSpelledLine names (LolliLine n) = n < 2 ^ 32
IsSpelledLine names (ImpLine n) = n < 2 ^ 32
IsSpelledLine names (ForallLine c) = c < 2 ^ 32
IsSpelledLine names (ExistsLine t) = IsSpelledTerm names t
IsSpelledLine names (ClauseLine n k ts ps) = (n < 2 ^ 32) × ((k < 2 ^ 32) × (All (IsSpelledTerm names) ts × All IsSpelledPart ps))
IsSpelledLine names OneLine = Unit {0}
IsSpelledLine names EraseLine = Unit {0}
IsSpelledLine names WithLine = Unit {0}
IsSpelledLine names LeftLine = Unit {0}
IsSpelledLine names RightLine = Unit {0}
IsSpelledLine names BangLine = Unit {0}
IsSpelledLine names UseLine = Unit {0}
IsSpelledLine names NumLine = Unit {0}

-- the derivation is one whole tree, and the text can spell it
pub record IsSpelled (names : List (List ℕ)) (d : DerivationLines) : Type 0 where
  pub whole : IsWhole d
  pub asked : All (IsSpelledTerm names) d.asked
  pub nodes : All (IsSpelledLine names) d.nodes
