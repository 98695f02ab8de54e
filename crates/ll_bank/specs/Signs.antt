-- Terms by numbers: equal terms have one number.
use Rattle.std.specs.Prelude.{◌≡◌, ℕ, ◌<◌, ◌++◌, List, [], length, take, slice_index_or, slice_get, Some}
use Rattle.ll_bank.specs.declared.equality.Sign.{Sign}
use Rattle.ll_bank.specs.declared.equality.Sign.TheVariants.{Var as VarSign, Int as IntSign, Head as HeadSign, Apply as ApplySign}
use Rattle.ll_bank.specs.declared.At.{At}
use Rattle.ll_bank.specs.declared.Head.{Head}
use Rattle.ll_bank.specs.Term.{Term, Var, Int, Con, Ap, app}
use Rattle.ll_bank.specs.Nodes.{Nodes, AppNode, places, grow, term_in, term_trees}

-- the term that a sign builds over the terms with lower numbers
abbrev pub build_sign : List Term → Sign → Term
build_sign trees (VarSign n) = Var n
build_sign trees (IntSign z) = Int z
build_sign trees (HeadSign h) = Con h
build_sign trees (ApplySign f a) = Ap (term_in trees f) (term_in trees a)

-- the terms of signs, each at its number
abbrev pub sign_terms : List Sign → List Term
sign_terms signs = grow build_sign [] signs

-- the parts of a sign have numbers below this one
abbrev pub IsSignBelow : ℕ → Sign → Type 0
IsSignBelow n (ApplySign f a) = (f < n) × (a < n)
IsSignBelow n _ = Unit {0}

-- each sign is built over lower numbers, and has one number
pub record IsTable (signs : List Sign) : Type 0 where
  pub lower : (i : ℕ) (d : Sign) → i < length signs → IsSignBelow i (slice_index_or signs i d)
  pub once : (i j : ℕ) (d : Sign) → i < length signs → j < length signs → slice_index_or signs i d ≡ slice_index_or signs j d → i ≡ j

-- the later signs are the earlier ones and more
pub record Grows (old new : List Sign) : Type 0 where
  pub table : IsTable new
  pub more : List Sign
  pub is : new ≡ old ++ more

-- the term has this number
pub record HasNumber (signs : List Sign) (n : ℕ) (tree : Term) : Type 0 where
  pub inside : n < length signs
  pub is : term_in (sign_terms signs) n ≡ tree

-- the term at a place is an application, and its head with the first arguments has this number
pub record IsNumbering (bank : Nodes) (at : ℕ) (args : List At) (count : ℕ) (old now : List Sign) (n : ℕ) : Type 0 where
  pub head : Head
  pub node : slice_get bank.terms at ≡ Some (AppNode head (places args))
  pub grows : Grows old now
  pub number : HasNumber now n (app head (take count (term_trees bank args)))
