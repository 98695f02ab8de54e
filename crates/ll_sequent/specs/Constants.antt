-- Where eigenvariables stand: in terms and formulas, and in the terms at the places of a set.
use Rattle.std.specs.Prelude.{◌≡◌, ◌+◌, ◌<◌, ℕ, Bool, true, false, List, [], ◌∷◌, ◌++◌, length, map, ◌||◌, All}
use Rattle.std.specs.List.{list_any}
use Rattle.ll_bank.specs.declared.At.{At}
use Rattle.ll_bank.specs.declared.FormAt.{FormAt}
use Rattle.ll_sequent.specs.declared.sequents.Resource.{Resource}
use Rattle.ll_bank.specs.Term.{has_eigen}
use Rattle.ll_bank.specs.Form.{form_has_eigen}
use Rattle.ll_bank.specs.Nodes.{Nodes, term_tree, form_tree}
use Rattle.ll_bank.specs.Opened.{form_size}

-- the constant stands in one of the terms
abbrev pub is_in : ℕ → Nodes → List At → Bool
is_in c bank ats = list_any (λ (a : At). has_eigen c (term_tree bank a.0)) ats

-- the constant stands in one of the formulas
abbrev pub is_in_each : ℕ → Nodes → List FormAt → Bool
is_in_each c bank ats = list_any (λ (f : FormAt). form_has_eigen c (form_tree bank f.0)) ats

-- the formulas of clauses
abbrev pub forms_of : List Resource → List FormAt
forms_of rs = map (λ (r : Resource). r.form) rs

-- the constant stands in the goal, or in an unbounded clause, or in a bounded one
abbrev pub stands_in : ℕ → Nodes → FormAt → List Resource → List Resource → Bool
stands_in c bank goal free bounded = form_has_eigen c (form_tree bank goal.0) || (is_in_each c bank (forms_of free) || is_in_each c bank (forms_of bounded))

-- each place of a formula is in the bank
abbrev pub AllInForms : Nodes → List FormAt → Type 0
AllInForms bank ats = All (λ (f : FormAt). f.0 < length bank.forms) ats

-- the sizes of the formulas
abbrev pub form_sizes : Nodes → List FormAt → ℕ
form_sizes bank [] = 0
form_sizes bank (f ∷ ats) = form_size (form_tree bank f.0) + form_sizes bank ats

-- ---- sets of places

-- each of the places has a term
abbrev pub AreWithin : Nodes → (ℕ → Bool) → Type 0
AreWithin bank set = (k : ℕ) → set k ≡ true → k < length bank.terms

-- the constant stands in no term at these places
abbrev pub IsFree : ℕ → Nodes → (ℕ → Bool) → Type 0
IsFree c bank set = (k : ℕ) → set k ≡ true → has_eigen c (term_tree bank k) ≡ false

-- places came to a set: of terms in one of which a constant stands exactly where `has` says so
pub record Gathers (bank : Nodes) (old new : ℕ → Bool) (has : ℕ → Bool) : Type 0 where
  pub inside : AreWithin bank old → AreWithin bank new
  pub free : (c : ℕ) → IsFree c bank old → has c ≡ false → IsFree c bank new
  pub older : (c : ℕ) → IsFree c bank new → IsFree c bank old
  pub none : (c : ℕ) → IsFree c bank new → has c ≡ false

-- what is inside a formula: its terms came to a set, and its formulas wait behind others
pub record IsOpenedUp (bank : Nodes) (at : ℕ) (old new : List FormAt) (before after : ℕ → Bool) : Type 0 where
  pub inner : List FormAt
  pub behind : new ≡ old ++ inner
  pub inside : AllInForms bank inner
  pub smaller : form_sizes bank inner < form_size (form_tree bank at)
  pub own : ℕ → Bool
  pub gathers : Gathers bank before after own
  pub same : (c : ℕ) → form_has_eigen c (form_tree bank at) ≡ (own c || is_in_each c bank inner)

-- whether the constant stands in a term at one of these places
pub record IsFoundAmong (c : ℕ) (bank : Nodes) (set : ℕ → Bool) (found : Bool) : Type 0 where
  pub none : found ≡ false → IsFree c bank set
  pub free : IsFree c bank set → found ≡ false

-- the places are below this one, and the constant stands in the term there exactly where it stands in one of theirs
pub record ArePartsOf (c : ℕ) (bank : Nodes) (at : ℕ) (args : List At) : Type 0 where
  pub same : has_eigen c (term_tree bank at) ≡ is_in c bank args
  pub lower : All (λ a. a.0 < at) args

-- some places wait: the constant stands in no term of the set exactly where it stands in none of theirs
pub record IsFreeBy (c : ℕ) (bank : Nodes) (set waits : ℕ → Bool) : Type 0 where
  pub inside : AreWithin bank waits
  pub enough : IsFree c bank waits → IsFree c bank set
  pub needed : IsFree c bank set → IsFree c bank waits
