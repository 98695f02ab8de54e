-- The words that ask for a program of a kind.
use Rattle.std.specs.Prelude.{ℕ, List, codes}
use Rattle.ll_make.specs.declared.kind.MakeKind.{MakeKind}
use Rattle.ll_make.specs.declared.kind.MakeKind.TheVariants.{Perm, Choice, Chain}

-- the word of a kind
abbrev pub kind_word : MakeKind → List ℕ
kind_word Perm = codes "perm"
kind_word Choice = codes "choice"
kind_word Chain = codes "chain"

-- what the words `make KIND N` ask for
pub record MakeWords : Type 0 where
  pub kind : MakeKind
  pub number : ℕ

-- what the words `make KIND N --bound B --workers W` ask for
pub record MadeRunWords : Type 0 where
  pub make : MakeWords
  pub bound : ℕ
  pub workers : ℕ
