-- The places of the terms under some terms.
use Rattle.std.specs.Prelude.{◌≡◌, ◌≢◌, ℕ, ◌<◌, Bool, true, Option, Some, List, length, slice_index, slice_index_or}
use Rattle.std.specs.List.{Contains, All}
use Rattle.ll_bank.specs.declared.At.{At}
use Rattle.ll_bank.specs.Term.{Term}
use Rattle.ll_bank.specs.Nodes.{Nodes, ShowsTerm, Extends}
use Rattle.ll_bank.specs.Opened.{arguments_of, term_node_at}

-- the places are in the bank, and each argument of a listed term is listed before it
pub record IsInOrder (nodes : Nodes) (places : List ℕ) : Type 0 where
  pub inside : All (λ at. at < length nodes.terms) places
  pub before : (i a : ℕ) → i < length places → Contains (arguments_of (term_node_at nodes (slice_index places i))) a
      → (j : ℕ) × ((j < i) × (slice_index places j ≡ a))

-- the same the other way round, while some places are still waiting: each argument of a listed term is listed behind it, or waits
pub record IsWalking (nodes : Nodes) (roots : List At) (waits : ℕ → Bool) (places : List ℕ) : Type 0 where
  pub inside : All (λ at. at < length nodes.terms) places
  pub waiting : (at : ℕ) → waits at ≡ true → at < length nodes.terms
  pub behind : (i a : ℕ) → i < length places → Contains (arguments_of (term_node_at nodes (slice_index places i))) a → waits a ≢ true
      → (j : ℕ) × ((i < j) × ((j < length places) × (slice_index places j ≡ a)))
  pub rooted : (k : ℕ) (d : At) → k < length roots → waits (slice_index_or roots k d).0 ≢ true → Contains places (slice_index_or roots k d).0

-- the place has an image, which shows this
abbrev pub HasImage : {X T : Type 0} → (X → T → Type 0) → (ℕ → Option X) → ℕ → T → Type 0
HasImage {X} shows images at tree = (image : X) × ((images at ≡ Some image) × shows image tree)

-- each of the places has an image, which shows what is made of it
abbrev pub HasImages : {X T : Type 0} → (X → T → Type 0) → (ℕ → Option X) → (ℕ → T) → List ℕ → Type 0
HasImages shows images made places = (i : ℕ) → i < length places → HasImage shows images (slice_index places i) (made (slice_index places i))

-- the place of a term in the bank shows this term
abbrev pub ShowsAt : Nodes → At → Term → Type 0
ShowsAt bank at tree = ShowsTerm bank at.0 tree

-- a bank on the way from an earlier one, in which these places have their images
pub record IsCopying (old now : Nodes) (lookup : ℕ → Option At) (made : ℕ → Term) (places : List ℕ) : Type 0 where
  pub keeps : Extends old now
  pub images : HasImages (ShowsAt now) lookup made places
