-- The reports that are left in a pool, and what one taking does to them.
use Rattle.std.proofs.Common.{◌≡◌, ℕ, zero, suc, ◌+◌, ◌<◌, List, [], ◌∷◌, ◌++◌, true, false, length, refl, sym, ap, ◌∙◌, subst, ⊎_elim, arith, if◌then◌else◌}
use Rattle.std.proofs.Common.{Option, Some, None}
use Rattle.std.specs.Prelude.{flat_map, slice_get}
use Rattle.std.specs.List.{list_all}
use Rattle.std.proofs.lemmas.Bool.{cases_Bool, and_parts, false≢true}
use Rattle.std.proofs.lemmas.List.Concat.{flat_map-append}
use Rattle.ll_list_laws.proofs.CallerLemmas.{none_not_some, some_is}
use Rattle.ll_laws.specs.Pool.{Owed, Closed, Taken, Piece, PoolData, Alternative, place}
use Rattle.ll_laws.specs.Spread.{piece_of, kids_of, published_by, length_of, walk, is_of}
use Rattle.ll_laws.specs.Sound.{Every, Shaped, is_open, is_taken, is_taken_status}
use Rattle.ll_laws.specs.CoreEvents.{change, with_status, took, MayTake, Readies, NotYet, report_in, report_left, reports_left}
use Rattle.ll_core.specs.Given.{total}
use Rattle.ll_core.proofs.CallerLemmas.{walk_same, one_if, is_at, found, lookup, is_of_from, unique_behind, read_same, piece_here, piece_elsewhere}
use Rattle.ll_core.proofs.CallerLemmas.{all_claimed, closed_all, taken_piece, walk_inside, every_back}
use Rattle.ll_order.specs.Drained.{count_untaken}

module _ {N E : Type 0} (alternatives : N → List (Owed E)) (p : PoolData N E) (s : Shaped alternatives p) where
  abbrev left : List (Piece E) → Alternative → List (Owed E)
  left pieces a = report_left {E = E} (piece_of pieces a)

  module _ (i : ℕ) (x : Piece E) (report : Owed E) (may : MayTake alternatives p i x report) where
    abbrev f : Piece E → Piece E
    f = with_status Taken

    abbrev at : Alternative
    at = place x

    abbrev pieces' : List (Piece E)
    pieces' = change i f p.pieces

    left_here : (a : Alternative) → is_of a x ≡ true → left pieces' a ≡ []
    left_here a t = ap (λ (o : Option (Piece E)). report_left o) (piece_here f (λ x. refl) (λ x. refl) i p.pieces x s.apart may.piece a t)

    left_elsewhere : (a : Alternative) → is_of a x ≡ false → left pieces' a ≡ left p.pieces a
    left_elsewhere a t = ap (λ (o : Option (Piece E)). report_left o) (piece_elsewhere f (λ x. refl) (λ x. refl) i p.pieces x may.piece a t)

    none_left : (a : Alternative) → is_taken p.pieces a ≡ true → left p.pieces a ≡ []
    none_left a t = let h = taken_piece (piece_of p.pieces a) t in ap (λ (o : Option (Piece E)). report_left o) h.1 ∙ ap report_in h.2

    none_left_now : (a : Alternative) → is_taken p.pieces a ≡ true → left pieces' a ≡ []
    none_left_now a t = ⊎_elim (λ (h : is_of a x ≡ true). left_here a h) (λ (h : is_of a x ≡ false). left_elsewhere a h ∙ none_left a t)
        (cases_Bool (is_of a x))

    none_in_front : (l : Alternative → List (Owed E)) → ((a : Alternative) → is_taken p.pieces a ≡ true → l a ≡ []) → (front : List Alternative)
        → list_all (is_taken p.pieces) front ≡ true → flat_map l front ≡ []
    none_in_front l none [] h = refl
    none_in_front l none (a ∷ front) h = let t = and_parts (is_taken p.pieces a) (list_all (is_taken p.pieces) front) h in
        λ j. none a t.0 j ++ none_in_front l none front t.1 j

    same_behind : (back : List Alternative) → total (is_at at) back ≡ 0 → flat_map (left pieces') back ≡ flat_map (left p.pieces) back
    same_behind [] h = refl
    same_behind (a ∷ back) h =
        let other : is_of a x ≡ false = ⊎_elim (λ (t : is_of a x ≡ true). let one : is_at at a ≡ 1 = ap one_if t in
        absurd (omega arith)) (λ (t : is_of a x ≡ false). t) (cases_Bool (is_of a x)) in
        λ j. left_elsewhere a other j ++ same_behind back (omega arith) j

    walk_now : walk alternatives (took p i) ≡ walk alternatives p
    walk_now = walk_same (kids_of p.pieces) (kids_of pieces') (length_of alternatives p)
        (λ c j. read_same f (λ x. refl) (λ x. refl) published_by i p.pieces x refl s.apart may.piece (record { batch = c; k = j })) (length p.batches) 0

    -- a taking takes the first report off those that are left
    pub took_left : reports_left alternatives p ≡ report ∷ reports_left alternatives (took p i)
    took_left =
        let front = may.next.front in let back = may.next.back in
        let its : left p.pieces at ≡ report ∷ [] = ap (λ (o : Option (Piece E)). report_left o) (found p.pieces s.apart i x at may.piece refl refl)
        ∙ ap report_in may.closed in
        let before : reports_left alternatives p ≡ report ∷ flat_map (left p.pieces) back =
        ap (flat_map (left p.pieces)) may.next.order ∙ (flat_map-append (left p.pieces) front (at ∷ back)
        ∙ (λ j. none_in_front (left p.pieces) none_left front may.next.before j ++ (its j ++ flat_map (left p.pieces) back))) in
        let after : reports_left alternatives (took p i) ≡ flat_map (left p.pieces) back =
        ap (flat_map (left pieces')) (walk_now ∙ may.next.order) ∙ (flat_map-append (left pieces') front (at ∷ back)
        ∙ (λ j. none_in_front (left pieces') none_left_now front may.next.before j
        ++ (left_here at (is_of_from at x refl refl) j ++ same_behind back (unique_behind alternatives p s i x front back may.piece may.next.order) j))) in
        before ∙ ap (λ l. report ∷ l) (sym after)

  -- where nothing is untried or open, the next report is there
  pub always_ready : (q : PoolData N E) (o : Option ℕ) → p.untried ≡ 0 → p.busy ≡ 0 → Readies alternatives p (NotYet o) q → ⊥
  always_ready q (Some i) untried busy r = false≢true (sym (closed_all alternatives p s busy i r.0 r.1) ∙ ap is_open r.2)
  always_ready q None untried busy r =
      let a = r.0 in let n = r.1 in
      let inside = (every_back (λ (b : Alternative). b.k < length_of alternatives p b.batch) n.front (a ∷ n.back)
      (subst (λ l. Every (λ (b : Alternative). b.k < length_of alternatives p b.batch) l) n.order
      (walk_inside (kids_of p.pieces) (length_of alternatives p) (length p.batches) 0))).0 in
      let h = all_claimed alternatives p s untried a.batch a.k inside in
      none_not_some h.1 (sym r.2 ∙ found p.pieces s.apart h.0 h.1 a h.2 h.3 h.4)

-- a taking leaves one piece less that is not taken
pub took_less : {E : Type 0} (pieces : List (Piece E)) (i : ℕ) (x : Piece E) (report : Owed E) → slice_get pieces i ≡ Some x → x.status ≡ Closed report
    → count_untaken (change i (with_status Taken) pieces) + 1 ≡ count_untaken pieces
took_less [] i x report e closed = absurd (none_not_some x e)
took_less (y ∷ pieces) zero x report e closed =
    let t : is_taken_status y.status ≡ false = ap (λ (z : Piece _). is_taken_status z.status) (some_is y x e) ∙ ap is_taken_status closed in
    let a : count_untaken (y ∷ pieces) ≡ 1 + count_untaken pieces = ap (λ b. (if b then 0 else 1) + count_untaken pieces) t in
    let b : count_untaken (change 0 (with_status Taken) (y ∷ pieces)) ≡ 0 + count_untaken pieces = refl in omega arith
took_less (y ∷ pieces) (suc i) x report e closed = let h = took_less pieces i x report e closed in omega arith

-- where all is taken, no report is left
pub none_left_all : {N E : Type 0} (alternatives : N → List (Owed E)) (p : PoolData N E)
    → ((i : ℕ) (x : Piece E) → slice_get p.pieces i ≡ Some x → x.status ≡ Taken) → reports_left alternatives p ≡ []
none_left_all {E = E} alternatives p taken = empty (walk alternatives p)
  where
    at : (a : Alternative) (o : Option (Piece E)) → piece_of p.pieces a ≡ o → report_left {E = E} o ≡ []
    at a None e = refl
    at a (Some x) e = let l = lookup p.pieces a x e in ap report_in (taken l.0 x l.1)

    empty : (xs : List Alternative) → flat_map (λ (a : Alternative). report_left {E = E} (piece_of p.pieces a)) xs ≡ []
    empty [] = refl
    empty (a ∷ xs) = λ i. at a (piece_of p.pieces a) refl i ++ empty xs i
