-- Cells as they are kept.
use Rattle.std.proofs.Common.{◌≡◌, ℕ, zero, suc, ◌<◌, List, [], ◌∷◌, length, map, drop, get_or, refl, ap, arith}
use Rattle.ll_store.specs.declared.cells.Cell.{Cell}
use Rattle.ll_store.specs.declared.packed.Slot.{Slot}
use Rattle.ll_store.specs.declared.packed.Entry.{Entry}
use Rattle.ll_store.specs.Cells.{update, with_to, with_level, taken_back, before}
use Rattle.ll_store.specs.Packed.{place_of, cell_of, change_of}

-- an update, seen through a function
pub map-updated : {A B : Type 0} (f : A → B) (g : A → A) (h : B → B) (xs : List A) (n : ℕ) → ((x : A) → f (g x) ≡ h (f x))
    → map f (update n g xs) ≡ update n h (map f xs)
map-updated f g h [] n e = refl
map-updated f g h (x ∷ xs) zero e = ap (λ y. y ∷ map f xs) (e x)
map-updated f g h (x ∷ xs) (suc n) e = ap (λ ys. f x ∷ ys) (map-updated f g h xs n e)

abbrev pub slot_to : ℕ → Slot → Slot
slot_to to s = record s { to = to }

abbrev pub slot_level : ℕ → Slot → Slot
slot_level l s = record s { level = l }

pub map-slot_to : (slots : List Slot) (n to : ℕ) → map cell_of (update n (slot_to to) slots) ≡ update n (with_to (place_of to)) (map cell_of slots)
map-slot_to slots n to = map-updated cell_of (slot_to to) (with_to (place_of to)) slots n (λ s. refl)

pub map-slot_level : (slots : List Slot) (n l : ℕ) → map cell_of (update n (slot_level l) slots) ≡ update n (with_level l) (map cell_of slots)
map-slot_level slots n l = map-updated cell_of (slot_level l) (with_level l) slots n (λ s. refl)

-- one more change is taken back
pub back-more : (entries : List Entry) (n : ℕ) (d : Entry) (cells now : List Cell) → n < length entries
    → now ≡ before (drop (suc n) (map change_of entries)) cells
    → taken_back (change_of (get_or entries n d)) now ≡ before (drop n (map change_of entries)) cells
back-more [] n d cells now l h = absurd (omega arith)
back-more (e ∷ es) zero d cells now l h = ap (taken_back (change_of e)) h
back-more (e ∷ es) (suc n) d cells now l h = back-more es n d cells now (omega arith) h
