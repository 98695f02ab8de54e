-- What places and variables are to become, as far as it was found.
use Rattle.std.specs.Prelude.{◌≡◌, ℕ, ◌<◌, Bool, true, false, List, length, map, All, Option, Some}
use Rattle.std.specs.Ordering.{nat_cmp}
use Rattle.std.specs.BTreeMap.{get}
use Rattle.ll_bank.specs.declared.At.{At}
use Rattle.ll_bank.specs.Term.{Term, sub, is_closed}
use Rattle.ll_bank.specs.Nodes.{Nodes, term_tree}
use Rattle.ll_cover.specs.declared.matching.Found.{Found}

-- the images are places of the bank
abbrev pub HasPlaces : Nodes → (ℕ → Option At) → Type 0
HasPlaces bank images = (k : ℕ) (a : At) → images k ≡ Some a → a.0 < length bank.terms

-- what has an image is below the limit
abbrev pub AreBelow : ℕ → (ℕ → Option At) → Type 0
AreBelow limit images = (k : ℕ) (a : At) → images k ≡ Some a → k < limit

-- the places are below the limit
abbrev pub AllBelow : ℕ → List At → Type 0
AllBelow limit places = All (λ a. a.0 < limit) places

-- the images are closed terms
abbrev pub AllClosed : Nodes → (ℕ → Option At) → Type 0
AllClosed bank images = (k : ℕ) (a : At) → images k ≡ Some a → is_closed (term_tree bank a.0) ≡ true

-- what is wanted of each number that has an image is the term that the image shows
abbrev pub Agrees : Nodes → (ℕ → Option At) → (ℕ → Term) → Type 0
Agrees bank images want = (k : ℕ) (a : At) → images k ≡ Some a → want k ≡ term_tree bank a.0

-- the later images say what the earlier ones say and this, and no more
pub record Adds (bank : Nodes) (asked : (ℕ → Term) → Type 0) (old new : ℕ → Option At) : Type 0 where
  pub keeps : (want : ℕ → Term) → Agrees bank new want → Agrees bank old want
  pub asks : (want : ℕ → Term) → Agrees bank new want → asked want
  pub enough : (want : ℕ → Term) → Agrees bank old want → asked want → Agrees bank new want

-- the images said this too, or it can't be beside what they say
abbrev pub Meets : Nodes → ((ℕ → Term) → Type 0) → (ℕ → Option At) → (ℕ → Option At) → Bool → Type 0
Meets bank asked old new true = Adds bank asked old new
Meets bank asked old new false = (want : ℕ → Term) → Agrees bank old want → asked want → ⊥

-- the terms that are wanted are closed
abbrev pub IsClosing : (ℕ → Term) → Type 0
IsClosing want = (k : ℕ) → is_closed (want k) ≡ true

-- the same, where closed terms alone are wanted
abbrev pub MeetsClosed : Nodes → ((ℕ → Term) → Type 0) → (ℕ → Option At) → (ℕ → Option At) → Bool → Type 0
MeetsClosed bank asked old new true = Adds bank asked old new
MeetsClosed bank asked old new false = (want : ℕ → Term) → IsClosing want → Agrees bank old want → asked want → ⊥

-- the substitution makes of each place that waits, and of each variable that was met, what was found
pub record Makes (bank other : Nodes) (found : Found) (g : ℕ → Term) : Type 0 where
  pub waiting : Agrees other (get nat_cmp found.waiting) (λ p. sub g (term_tree bank p))
  pub values : Agrees other (get nat_cmp found.values) g

-- a place was looked at: what was found after it says what it said before, and that the place becomes its image
pub record Matched (bank : Nodes) (place : ℕ) (other : Nodes) (image : ℕ) (old new : Found) : Type 0 where
  pub keeps : (g : ℕ → Term) → Makes bank other new g → Makes bank other old g
  pub asks : (g : ℕ → Term) → Makes bank other new g → sub g (term_tree bank place) ≡ term_tree other image
  pub enough : (g : ℕ → Term) → Makes bank other old g → sub g (term_tree bank place) ≡ term_tree other image → Makes bank other new g
  pub waiting : HasPlaces other (get nat_cmp new.waiting)
  pub values : HasPlaces other (get nat_cmp new.values)
  pub closed : AllClosed other (get nat_cmp old.values) → AllClosed other (get nat_cmp new.values)
  pub below : AreBelow place (get nat_cmp old.waiting) → AreBelow place (get nat_cmp new.waiting)

-- the place can become its image, or it can't beside what was found, with closed terms for the variables
abbrev pub Looks : Nodes → ℕ → Nodes → ℕ → Found → Found → Bool → Type 0
Looks bank place other image old new true = Matched bank place other image old new
Looks bank place other image old new false = (g : ℕ → Term) → IsClosing g → Makes bank other old g → sub g (term_tree bank place) ≡ term_tree other image → ⊥

-- a match is on its way: what was found says exactly that the substitution makes these terms of those
pub record IsMatching (bank : Nodes) (of : List Term) (other : Nodes) (terms : List Term) (found : Found) : Type 0 where
  pub right : (g : ℕ → Term) → Makes bank other found g → map (sub g) of ≡ terms
  pub enough : (g : ℕ → Term) → map (sub g) of ≡ terms → Makes bank other found g
  pub waiting : HasPlaces other (get nat_cmp found.waiting)
  pub values : HasPlaces other (get nat_cmp found.values)
  pub closed : AllClosed other (get nat_cmp found.values)
  pub below : AreBelow (length bank.terms) (get nat_cmp found.waiting)
