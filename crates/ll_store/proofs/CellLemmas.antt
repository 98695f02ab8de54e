-- Cells before changes.
use Rattle.std.proofs.Common.{◌≡◌, ℕ, zero, suc, ◌<◌, ◌≤◌, List, [], ◌∷◌, length, take, refl, ap, sym, ◌∙◌, arith}
use Rattle.std.specs.Prelude.{Option, Some, None, slice_get, slice_set, slice_index_or, option_map}
use Rattle.ll_bank.specs.declared.At.{At}
use Rattle.ll_store.specs.declared.cells.Cell.{Cell}
use Rattle.ll_store.specs.declared.cells.Change.{Change}
use Rattle.ll_store.specs.declared.cells.Change.TheVariants.{Bound, Lowered}
use Rattle.ll_store.specs.Cells.{update, with_to, with_level, taken_back, before}
use Rattle.ll_store.specs.Trails.{IsUnbound}

module _ {A : Type 0} where
  -- an update in place is one of the list
  pub update-set : (xs : List A) (n : ℕ) (f : A → A) (d : A) → n < length xs → slice_set xs n (f (slice_index_or xs n d)) ≡ update n f xs
  update-set [] n f d l = absurd (omega arith)
  update-set (x ∷ xs) zero f d l = refl
  update-set (x ∷ xs) (suc n) f d l = ap (λ ys. x ∷ ys) (update-set xs n f d (omega arith))

  -- past the end there is none
  pub update-past : (xs : List A) (n : ℕ) (f : A → A) → length xs ≤ n → update n f xs ≡ xs
  update-past [] n f l = refl
  update-past (x ∷ xs) zero f l = absurd (omega arith)
  update-past (x ∷ xs) (suc n) f l = ap (λ ys. x ∷ ys) (update-past xs n f (omega arith))

  -- it keeps the number of items
  pub update-length : (xs : List A) (n : ℕ) (f : A → A) → length (update n f xs) ≡ length xs
  update-length [] n f = refl
  update-length (x ∷ xs) zero f = refl
  update-length (x ∷ xs) (suc n) f = ap suc (update-length xs n f)

  -- the first items are updated alike
  pub update-take : (k n : ℕ) (f : A → A) (xs : List A) → take k (update n f xs) ≡ update n f (take k xs)
  update-take zero n f [] = refl
  update-take zero zero f (x ∷ xs) = refl
  update-take zero (suc n) f (x ∷ xs) = refl
  update-take (suc k) n f [] = refl
  update-take (suc k) zero f (x ∷ xs) = refl
  update-take (suc k) (suc n) f (x ∷ xs) = ap (λ ys. x ∷ ys) (update-take k n f xs)

  -- an update that another takes back
  pub update-back : (n : ℕ) (f g : A → A) (xs : List A) → ((x : A) → slice_get xs n ≡ Some x → g (f x) ≡ x) → update n g (update n f xs) ≡ xs
  update-back n f g [] h = refl
  update-back zero f g (x ∷ xs) h = ap (λ y. y ∷ xs) (h x refl)
  update-back (suc n) f g (x ∷ xs) h = ap (λ ys. x ∷ ys) (update-back n f g xs (λ y e. h y e))

back-length : (c : Change) (cells : List Cell) → length (taken_back c cells) ≡ length cells
back-length (Bound x) cells = update-length cells x (with_to None)
back-length (Lowered x l) cells = update-length cells x (with_level l)

pub before-length : (cs : List Change) (cells : List Cell) → length (before cs cells) ≡ length cells
before-length [] cells = refl
before-length (c ∷ cs) cells = back-length c (before cs cells) ∙ before-length cs cells

back-take : (k : ℕ) (c : Change) (cells : List Cell) → take k (taken_back c cells) ≡ taken_back c (take k cells)
back-take k (Bound x) cells = update-take k x (with_to None) cells
back-take k (Lowered x l) cells = update-take k x (with_level l) cells

-- the first cells change alike
pub before-take : (k : ℕ) (cs : List Change) (cells : List Cell) → take k (before cs cells) ≡ before cs (take k cells)
before-take k [] cells = refl
before-take k (c ∷ cs) cells = back-take k c (before cs cells) ∙ ap (taken_back c) (before-take k cs cells)

-- a binding of an unbound variable is taken back
pub bind-back : (x : ℕ) (at : At) (cells : List Cell) → IsUnbound cells x → taken_back (Bound x) (update x (with_to (Some at)) cells) ≡ cells
bind-back x at cells h = update-back x (with_to (Some at)) (with_to None) cells (λ c e. same c (ap (option_map (λ (d : Cell). d.to)) (sym e) ∙ h))
  where
    same : (c : Cell) → option_map (λ (d : Cell). d.to) (Some c) ≡ Some None → with_to None (with_to (Some at) c) ≡ c
    same c q = let p : c.to ≡ None = cc in ap (λ (o : Option At). let d : Cell = record c { to = o } in d) (sym p)

-- so is a new level
pub lower-back : (x l : ℕ) (d : Cell) (cells : List Cell) → d ≡ slice_index_or cells x d
    → taken_back (Lowered x d.level) (update x (with_level l) cells) ≡ cells
lower-back x l d cells h = update-back x (with_level l) (with_level d.level) cells (λ c e. same c (h ∙ here cells x c e))
  where
    here : (xs : List Cell) (n : ℕ) (c : Cell) → slice_get xs n ≡ Some c → slice_index_or xs n d ≡ c
    here [] n c e = cc
    here (y ∷ ys) zero c e = cc
    here (y ∷ ys) (suc n) c e = here ys n c e

    same : (c : Cell) → d ≡ c → with_level d.level (with_level l c) ≡ c
    same c q = ap (λ (e : Cell). with_level e.level (with_level l c)) q
