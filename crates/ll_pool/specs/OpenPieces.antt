-- The open piece of a worker.
use Rattle.std.proofs.Common.{◌≡◌, ◌⊎◌, ℕ, zero, suc, ◌+◌, List, [], ◌∷◌, true, false, refl, sym, ap, ◌∙◌, subst, ⊎_elim, arith, Option, Some, None, ◌&&◌, ◌==◌}
use Rattle.std.specs.Prelude.{slice_get}
use Rattle.std.proofs.lemmas.Bool.{cases_Bool, and_parts, and_from, eqb-true, eq-eqb, false≢true, cond-true, cond-false}
use Rattle.ll_list_laws.proofs.CallerLemmas.{some_is, none_not_some}
use Rattle.ll_laws.specs.declared.Event.{Event}
use Rattle.ll_laws.specs.Pool.{Owed, Status, Open, Closed, Taken, Piece, PoolData}
use Rattle.ll_laws.specs.Spread.{share, owes_of}
use Rattle.ll_laws.specs.Sound.{Shaped, is_open}
use Rattle.ll_laws.specs.CoreEvents.{CoreEvent, Does, By}
use Rattle.ll_core.specs.Laws.{IsQuiet}
use Rattle.ll_core.proofs.CallerLemmas.{same_held, holds_kept, none_kept, share_later}
use Rattle.ll_pool.specs.Fits.{open_from, open_piece, HasPiece}
use Rattle.ll_pool.specs.declared.data.OpenPiece.{OpenPiece}

open_is : (s : Status Event) → is_open s ≡ true → s ≡ Open
open_is Open e = refl
open_is (Closed report) e = absurd (false≢true e)
open_is Taken e = absurd (false≢true e)

-- what was found among pieces that have the numbers from i on: the piece at i + j
abbrev Found : List (List (Owed Event)) → ℕ → ℕ → List (Piece Event) → Option OpenPiece → Type 0
Found owes w i xs None = (j : ℕ) (x : Piece Event) → slice_get xs j ≡ Some x → x.status ≡ Open → x.worker ≡ w → ⊥
Found owes w i xs (Some piece) = (j : ℕ) × (x : Piece Event) × (piece.number ≡ i + j) × (slice_get xs j ≡ Some x) × (x.status ≡ Open) × (x.worker ≡ w)
    × (piece.owes ≡ share owes x)

found_later : (owes : List (List (Owed Event))) (w i : ℕ) (y : Piece Event) (xs : List (Piece Event)) (o : Option OpenPiece)
    → (is_open y.status && (y.worker == w)) ≡ false → Found owes w (suc i) xs o → Found owes w i (y ∷ xs) o
found_later owes w i y xs None closed h = not_here
  where
    not_here : (j : ℕ) (x : Piece Event) → slice_get (y ∷ xs) j ≡ Some x → x.status ≡ Open → x.worker ≡ w → ⊥
    not_here zero x e o own = let same = some_is y x e in false≢true
        (sym closed ∙ and_from _ _ (ap (λ (z : Piece Event). is_open z.status) same ∙ ap is_open o)
        (eq-eqb y.worker w (ap (λ (z : Piece Event). z.worker) same ∙ own)))
    not_here (suc j) x e o own = h j x e o own
found_later owes w i y xs (Some piece) closed h = let n = h.2 in (suc h.0, h.1, omega arith, h.3, h.4, h.5, h.6)

found : (owes : List (List (Owed Event))) (w i : ℕ) (xs : List (Piece Event)) → Found owes w i xs (open_from owes w i xs)
found owes w i [] = λ j x e. absurd (none_not_some x e)
found owes w i (y ∷ xs) =
    ⊎_elim
    (λ (t : (is_open y.status && (y.worker == w)) ≡ true).
    let p = and_parts _ _ t in
    subst (Found owes w i (y ∷ xs)) (sym (cond-true _ _ _ t)) (0, y, omega arith, refl, open_is y.status p.0, eqb-true y.worker w p.1, refl))
    (λ (f : (is_open y.status && (y.worker == w)) ≡ false).
    subst (Found owes w i (y ∷ xs)) (sym (cond-false _ _ _ f)) (found_later owes w i y xs (open_from owes w (suc i) xs) f (found owes w (suc i) xs)))
    (cases_Bool (is_open y.status && (y.worker == w)))

module _ {N : Type 0} (alternatives : N → List (Owed Event)) where
  from_found : (p : PoolData N Event) (w : ℕ) (o : Option OpenPiece) → Found (owes_of alternatives p) w 0 p.pieces o → HasPiece alternatives p w o
  from_found p w None h = h
  from_found p w (Some piece) h = let at : piece.number ≡ h.0 = (let n = h.2 in omega arith) in
      (h.1, record { piece = ap (slice_get p.pieces) at ∙ h.3; open_still = h.4; worker = h.5 }, h.6)

  pub has_open_piece : (p : PoolData N Event) (w : ℕ) → HasPiece alternatives p w (open_piece alternatives p w)
  has_open_piece p w = from_found p w (open_from (owes_of alternatives p) w 0 p.pieces) (found (owes_of alternatives p) w 0 p.pieces)

  -- a worker has one open piece at most
  pub one_piece : (p : PoolData N Event) → Shaped alternatives p → (w : ℕ) (a b : Option OpenPiece) → HasPiece alternatives p w a → HasPiece alternatives p w b
      → a ≡ b
  one_piece p s w None None h g = refl
  one_piece p s w None (Some b) h g = let held = g.1 in absurd (h b.number g.0 held.piece held.open_still held.worker)
  one_piece p s w (Some a) None h g = let held = h.1 in absurd (g a.number h.0 held.piece held.open_still held.worker)
  one_piece p s w (Some a) (Some b) h g =
      let same = same_held (λ (n : N). tt {0}) alternatives p s w a.number b.number h.0 g.0 h.1 g.1 in
      let owes : a.owes ≡ b.owes = h.2 ∙ (ap (share (owes_of alternatives p)) same.1 ∙ sym g.2) in
      λ i. Some (record { number = same.0 i; owes = owes i })

  -- An event of another worker leaves a worker's open piece as it is, and so does a quiet one
  pub piece_kept : (p q : PoolData N Event) (e : CoreEvent N Event) (v w : ℕ) (o : Option OpenPiece) → Shaped alternatives p → Does alternatives p e q → By v e
      → (v ≡ w → ⊥) ⊎ IsQuiet e → HasPiece alternatives p w o → HasPiece alternatives q w o
  piece_kept p q e v w None s d by other h = none_kept (λ (n : N). tt {0}) alternatives p q v w e d by other h
  piece_kept p q e v w (Some piece) s d by other h =
      let held = h.1 in (
        h.0,
        holds_kept (λ (n : N). tt {0}) alternatives p q v w e d by other piece.number h.0 h.1,
        h.2 ∙ sym (share_later (λ (n : N). tt {0}) alternatives p q e s d piece.number h.0 held.piece),
      )

  -- the open pieces of two workers are different
  pub two_pieces : (p : PoolData N Event) (v w : ℕ) (one other : Option OpenPiece) (a b : OpenPiece) → HasPiece alternatives p v one
      → HasPiece alternatives p w other → (v ≡ w → ⊥) → one ≡ Some a → other ≡ Some b → a.number ≡ b.number → ⊥
  two_pieces p v w one other a b h g differ is_a is_b same =
      let h' : HasPiece alternatives p v (Some a) = subst (HasPiece alternatives p v) is_a h in
      let g' : HasPiece alternatives p w (Some b) = subst (HasPiece alternatives p w) is_b g in
      let held = h'.1 in let held' = g'.1 in
      differ (sym held.worker ∙ (ap (λ (z : Piece Event). z.worker) (some_is h'.0 g'.0 (sym held.piece ∙ (ap (slice_get p.pieces) same ∙ held'.piece)))
      ∙ held'.worker))
