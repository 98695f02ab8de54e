-- Numbers of terms: equal terms have one number.
use Rattle.std.specs.Prelude.{◌≡◌, ℕ, ◌<◌, ◌≤◌, ◌++◌, List, length, take, Some, slice_get, slice_index}
use Rattle.ll_bank.specs.declared.At.{At}
use Rattle.ll_bank.specs.declared.Head.{Head}
use Rattle.ll_bank.specs.Term.{Term, Var, Int, Con, Ap, app}
use Rattle.ll_bank.specs.Nodes.{Nodes, AppNode, places, term_tree, term_trees}
use Rattle.ll_prooftext.specs.declared.classes.Sign.{Sign}
use Rattle.ll_prooftext.specs.declared.classes.Sign.TheVariants as sign
use Rattle.ll_prooftext.specs.declared.classes.Classes.{Classes}

-- the sign with this number is the term's, and so it is with the term's parts
abbrev pub HasNumber : List Sign → ℕ → Term → Type 0
HasNumber signs n (Var x) = slice_get signs n ≡ Some (sign.Var x)
HasNumber signs n (Int z) = slice_get signs n ≡ Some (sign.Int z)
HasNumber signs n (Con h) = slice_get signs n ≡ Some (sign.Head h)
HasNumber signs n (Ap f a) = (i : ℕ) × ((j : ℕ) × ((slice_get signs n ≡ Some (sign.Apply i j)) × (HasNumber signs i f × HasNumber signs j a)))

-- no sign has two numbers
abbrev pub AreApart : List Sign → Type 0
AreApart signs = (i j : ℕ) (s : Sign) → slice_get signs i ≡ Some s → slice_get signs j ≡ Some s → i ≡ j

-- the later signs are the earlier ones and more
pub record Gain (old new : List Sign) : Type 0 where
  pub apart : AreApart new
  pub more : List Sign
  pub is : new ≡ old ++ more

-- the term at a place is an application, and its head with the first arguments has this number
pub record IsNumbering (bank : Nodes) (at : ℕ) (args : List At) (count : ℕ) (old now : List Sign) (n : ℕ) : Type 0 where
  pub head : Head
  pub node : slice_get bank.terms at ≡ Some (AppNode head (places args))
  pub gain : Gain old now
  pub number : HasNumber now n (app head (take count (term_trees bank args)))

-- the terms at the first places have these numbers
pub record AreNumbers (bank : Nodes) (signs : List Sign) (numbers : List ℕ) : Type 0 where
  pub apart : AreApart signs
  pub inside : length numbers ≤ length bank.terms
  pub each : (at : ℕ) → at < length numbers → HasNumber signs (slice_index numbers at) (term_tree bank at)

-- the numbers of the terms at the first places, of which there are so many
pub record AreClasses (bank : Nodes) (c : Classes) : Type 0 where
  pub signs : List Sign
  pub numbers : AreNumbers bank signs c.numbers.items
  pub count : c.count ≡ length signs
