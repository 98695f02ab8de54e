-- What changes of cells make of their table.
use Rattle.std.proofs.Common.{◌≡◌, ℕ, zero, suc, ◌<◌, List, [], ◌∷◌, length, map, refl, ap, arith}
use Rattle.std.specs.Prelude.{Some, slice_set, slice_index}
use Rattle.ll_store.specs.declared.cells.Cell.{Cell}
use Rattle.ll_store.specs.Cells.{update}
use Rattle.ll_store.specs.Trails.{IsAtMost, cell_level}

-- an update seen through one field
pub map-update : {A B : Type 0} (f : A → B) (g : A → A) (h : B) (xs : List A) (n : ℕ) → ((x : A) → f (g x) ≡ h)
    → map f (update n g xs) ≡ slice_set (map f xs) n h
map-update f g h [] n e = refl
map-update f g h (x ∷ xs) zero e = ap (λ y. y ∷ map f xs) (e x)
map-update f g h (x ∷ xs) (suc n) e = ap (λ ys. f x ∷ ys) (map-update f g h xs n e)

-- and through another
pub map-update-same : {A B : Type 0} (f : A → B) (g : A → A) (xs : List A) (n : ℕ) → ((x : A) → f (g x) ≡ f x) → map f (update n g xs) ≡ map f xs
map-update-same f g [] n e = refl
map-update-same f g (x ∷ xs) zero e = ap (λ y. y ∷ map f xs) (e x)
map-update-same f g (x ∷ xs) (suc n) e = ap (λ ys. f x ∷ ys) (map-update-same f g xs n e)

pub level-of : (cells : List Cell) (x : ℕ) → x < length (map (λ (c : Cell). c.level) cells)
    → cell_level cells x ≡ Some (slice_index (map (λ (c : Cell). c.level) cells) x)
level-of [] x l = absurd (omega arith)
level-of (c ∷ cs) zero l = refl
level-of (c ∷ cs) (suc x) l = level-of cs x (omega arith)

-- a level that is lower may be given
pub at-most : (cells : List Cell) (x l : ℕ) → x < length (map (λ (c : Cell). c.level) cells) → l < slice_index (map (λ (c : Cell). c.level) cells) x
    → IsAtMost l cells x
at-most cells x l b h = record { own = slice_index (map (λ (c : Cell). c.level) cells) x; is = level-of cells x b; most = omega arith }
