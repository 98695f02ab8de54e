-- The clause that a label names, as it is looked for.
use Rattle.std.proofs.Common.{◌≡◌, ℕ, suc, ◌+◌, ◌<◌, refl, ap, sym, ◌∙◌, subst, Bool, true, false, cond, List, [], ◌∷◌, ◌++◌, take, drop, reverse, length}
use Rattle.std.proofs.Common.{Option, Some, None, All, arith}
use Rattle.std.specs.Prelude.{nat_eq, nat_lt, slice_index_or, if◌then◌else◌}
use Rattle.std.specs.List.{find, position, position_from, position_or_len, remove}
use Rattle.std.proofs.lemmas.Bool.{ltb-true}
use Rattle.std.proofs.lemmas.List.{reverse-append, map-append}
use Rattle.std.proofs.lemmas.List.Elements.{All-head, All-tail, All-append, All-take, All-drop}
use Rattle.std.proofs.lemmas.Iterator.Adapters.{position_from-zero}
use Rattle.ll_list_laws.proofs.CallerLemmas.{All-reverse as all_reversed}
use Rattle.ll_bank.specs.Nodes.{Nodes, form_tree}
use Rattle.ll_laws.specs.Module.{ModuleTree}
use Rattle.ll_laws.specs.Valid.{ClauseSide}
use Rattle.ll_laws.specs.Shows.{Labelled, Missing, Took, behind, take_label, pick_of, pick}
use Rattle.ll_sequent.specs.declared.sequents.Resource.{Resource}
use Rattle.ll_sequent.specs.Sequents.{labelled_in, bounded_in, free_in, IsHeld, AreHeld}
use Rattle.ll_sequent.specs.Opened.{found_in}

pub not_some : {X : Type 0} (o : Option X) → ((x : X) → o ≡ Some x → ⊥) → o ≡ None
not_some None n = refl
not_some (Some x) n = absurd (n x refl)

module _ (bank : Nodes) (n : ℕ) where
  abbrev named : Resource → Bool
  named r = nat_eq n r.label

  -- ---- bounded clauses

  record TakenAt (rs : List Resource) (j : ℕ) : Type 0 where
    low : j < length rs
    is : (d : Resource) → take_label n (bounded_in bank rs) ≡ Took (form_tree bank (slice_index_or rs j d).form.0) (bounded_in bank (remove rs j))

  record Taken (rs : List Resource) (i k : ℕ) : Type 0 where
    at : ℕ
    same : k ≡ i + at
    taken : TakenAt rs at

  not_here : (r : Resource) (rs : List Resource) (i k : ℕ) → Taken rs (i + 1) k → nat_eq n r.label ≡ false → Taken (r ∷ rs) i k
  not_here r rs i k t e = record {
    at = suc t.at;
    same = let s = t.same in omega arith;
    taken = record {
      low = let l = t.taken.low in omega arith;
      is = λ d. ap (λ b. if b then Took (form_tree bank r.form.0) (bounded_in bank rs) else behind (labelled_in bank r) (take_label n (bounded_in bank rs))) e
          ∙ ap (behind (labelled_in bank r)) (t.taken.is d);
    };
  }

  at_position : (rs : List Resource) (i k : ℕ) → position_from named i rs ≡ Some k → Taken rs i k
  at_position [] i k e = cc
  at_position (r ∷ rs) i k e = by (nat_eq n r.label) refl (at_position rs (i + 1) k) e
    where
      by : (b : Bool) → nat_eq n r.label ≡ b → (position_from named (i + 1) rs ≡ Some k → Taken rs (i + 1) k)
          → cond b (Some i) (position_from named (i + 1) rs) ≡ Some k → Taken (r ∷ rs) i k
      by true t h e = record {
        at = 0;
        same = let s : i ≡ k = cc in omega arith;
        taken = record {
          low = omega arith;
          is = λ d. ap (λ b. if b then Took (form_tree bank r.form.0) (bounded_in bank rs) else behind (labelled_in bank r) (take_label n (bounded_in bank rs)))
              t;
        };
      }
      by false t h e = not_here r rs i k (h e) t

  no_position : (rs : List Resource) (i : ℕ) → position_from named i rs ≡ None → take_label n (bounded_in bank rs) ≡ Missing
  no_position [] i e = refl
  no_position (r ∷ rs) i e = by (nat_eq n r.label) refl (no_position rs (i + 1)) e
    where
      by : (b : Bool) → nat_eq n r.label ≡ b → (position_from named (i + 1) rs ≡ None → take_label n (bounded_in bank rs) ≡ Missing)
          → cond b (Some i) (position_from named (i + 1) rs) ≡ None
          → take_label n (bounded_in bank (r ∷ rs)) ≡ Missing
      by true t h e = cc
      by false t h e = ap (λ b. if b then Took (form_tree bank r.form.0) (bounded_in bank rs) else
          behind (labelled_in bank r) (take_label n (bounded_in bank rs))) t ∙ ap (behind (labelled_in bank r)) (h e)

  -- ---- unbounded clauses

  record TakenFirst (rs : List Resource) (r : Resource) : Type 0 where
    left : List Labelled
    is : take_label n (bounded_in bank rs) ≡ Took (form_tree bank r.form.0) left

  first_found : (rs : List Resource) (r : Resource) → find named rs ≡ Some r → TakenFirst rs r
  first_found [] r e = cc
  first_found (q ∷ rs) r e = by (nat_eq n q.label) refl (first_found rs r) e
    where
      by : (b : Bool) → nat_eq n q.label ≡ b → (find named rs ≡ Some r → TakenFirst rs r) → cond b (Some q) (find named rs) ≡ Some r → TakenFirst (q ∷ rs) r
      by true t h e = record {
        left = bounded_in bank rs;
        is = ap (λ b. if b then Took (form_tree bank q.form.0) (bounded_in bank rs) else behind (labelled_in bank q) (take_label n (bounded_in bank rs))) t
            ∙ (let s : q ≡ r = cc in ap (λ (x : Resource). Took (form_tree bank x.form.0) (bounded_in bank rs)) s);
      }
      by false t h e = let f = h e in record {
        left = labelled_in bank q ∷ f.left;
        is = ap (λ b. if b then Took (form_tree bank q.form.0) (bounded_in bank rs) else behind (labelled_in bank q) (take_label n (bounded_in bank rs))) t
            ∙ ap (behind (labelled_in bank q)) f.is;
      }

  none_found : (rs : List Resource) → find named rs ≡ None → take_label n (bounded_in bank rs) ≡ Missing
  none_found [] e = refl
  none_found (q ∷ rs) e = by (nat_eq n q.label) refl (none_found rs) e
    where
      by : (b : Bool) → nat_eq n q.label ≡ b → (find named rs ≡ None → take_label n (bounded_in bank rs) ≡ Missing) → cond b (Some q) (find named rs) ≡ None
          → take_label n (bounded_in bank (q ∷ rs)) ≡ Missing
      by true t h e = cc
      by false t h e = ap (λ b. if b then Took (form_tree bank q.form.0) (bounded_in bank rs) else
          behind (labelled_in bank q) (take_label n (bounded_in bank rs))) t ∙ ap (behind (labelled_in bank q)) (h e)

  pub map_reverse : (rs : List Resource) → free_in bank rs ≡ bounded_in bank (reverse rs)
  map_reverse [] = refl
  map_reverse (r ∷ rs) =
      reverse-append (labelled_in bank r ∷ []) (bounded_in bank rs)
      ∙ (ap (λ xs. xs ++ labelled_in bank r ∷ []) (map_reverse rs)
      ∙ (sym (map-append (labelled_in bank) (reverse rs) (r ∷ []))
      ∙ ap (bounded_in bank) (sym (reverse-append (r ∷ []) rs))))

  -- ---- both

  pub found_unbounded : (free bounded : List Resource) (r : Resource) → find named (reverse free) ≡ Some r
      → found_in bank (Some r.form) bounded ≡ pick n (free_in bank free) (bounded_in bank bounded)
  found_unbounded free bounded r e =
      let f = first_found (reverse free) r e in
      sym (ap (λ x. pick_of (bounded_in bank bounded) x (take_label n (bounded_in bank bounded))) (ap (take_label n) (map_reverse free) ∙ f.is))

  missed : (free : List Resource) → find named (reverse free) ≡ None → take_label n (free_in bank free) ≡ Missing
  missed free e = ap (take_label n) (map_reverse free) ∙ none_found (reverse free) e

  pub found_bounded : (free bounded : List Resource) (i : ℕ) (r : Resource) (left : List Resource) → find named (reverse free) ≡ None
      → position named bounded ≡ Some i
      → r ≡ slice_index_or bounded i r → left ≡ remove bounded i → found_in bank (Some r.form) left ≡ pick n (free_in bank free) (bounded_in bank bounded)
  found_bounded free bounded i r left m e v w =
      let t = at_position bounded 0 i (sym (position_from-zero named bounded) ∙ e) in
      let s : t.at ≡ i = let q = t.same in omega arith in
      let a : found_in bank (Some r.form) left ≡ Took (form_tree bank (slice_index_or bounded t.at r).form.0) (bounded_in bank (remove bounded t.at)) =
      ap (λ (x : Resource). Took (form_tree bank x.form.0) (bounded_in bank left)) v
      ∙ (ap (λ xs. Took (form_tree bank (slice_index_or bounded i r).form.0) (bounded_in bank xs)) w
      ∙ ap (λ j. Took (form_tree bank (slice_index_or bounded j r).form.0) (bounded_in bank (remove bounded j))) (sym s)) in
      a ∙ (sym (t.taken.is r) ∙ ap (λ x. pick_of (bounded_in bank bounded) x (take_label n (bounded_in bank bounded))) (sym (missed free m)))

  pub found_nowhere : (free bounded : List Resource) → find named (reverse free) ≡ None → position named bounded ≡ None
      → Missing ≡ pick n (free_in bank free) (bounded_in bank bounded)
  found_nowhere free bounded m e =
      sym (no_position bounded 0 (sym (position_from-zero named bounded) ∙ e))
      ∙ ap (λ x. pick_of (bounded_in bank bounded) x (take_label n (bounded_in bank bounded))) (sym (missed free m))

pub position_low : (p : Resource → Bool) (xs : List Resource) (i : ℕ) → position p xs ≡ Some i → i < length xs
position_low p xs i e = by (nat_lt (position_or_len p xs) (length xs)) refl e
  where
    by : (b : Bool) → nat_lt (position_or_len p xs) (length xs) ≡ b → cond b (Some (position_or_len p xs)) None ≡ Some i → i < length xs
    by true t e = let s : position_or_len p xs ≡ i = cc in let l = ltb-true (position_or_len p xs) (length xs) t in omega arith
    by false t e = cc

-- ---- what is found is sound

module _ (modules : List ModuleTree) (bank : Nodes) where
  found_held : (p : Resource → Bool) (rs : List Resource) (r : Resource) → AreHeld modules bank rs → find p rs ≡ Some r
      → IsHeld modules bank ClauseSide r.form.0
  found_held p [] r h e = cc
  found_held p (q ∷ rs) r h e = by (p q) (found_held p rs r (All-tail (λ (r : Resource). IsHeld modules bank ClauseSide r.form.0) q rs h))
      (All-head (λ (r : Resource). IsHeld modules bank ClauseSide r.form.0) q rs h) e
    where
      by : (b : Bool) → (find p rs ≡ Some r → IsHeld modules bank ClauseSide r.form.0) → IsHeld modules bank ClauseSide q.form.0
          → cond b (Some q) (find p rs) ≡ Some r → IsHeld modules bank ClauseSide r.form.0
      by true go here e = let s : q ≡ r = cc in subst (λ (x : Resource). IsHeld modules bank ClauseSide x.form.0) s here
      by false go here e = go e

  pub held_found : (p : Resource → Bool) (rs : List Resource) (r : Resource) → AreHeld modules bank rs → find p (reverse rs) ≡ Some r
      → IsHeld modules bank ClauseSide r.form.0
  held_found p rs r h e = found_held p (reverse rs) r (all_reversed (λ (r : Resource). IsHeld modules bank ClauseSide r.form.0) rs h) e

  pub held_removed : (rs : List Resource) (i : ℕ) (r : Resource) (left : List Resource) → AreHeld modules bank rs → i < length rs → r ≡ slice_index_or rs i r
      → left ≡ remove rs i
      → AreHeld modules bank left × IsHeld modules bank ClauseSide r.form.0
  held_removed rs i r left h l v w =
      let P : Resource → Type 0 = λ x. IsHeld modules bank ClauseSide x.form.0 in
      (subst (All P) (sym w) (All-append P (take i rs) (drop (suc i) rs) (All-take P i rs h) (All-drop P (suc i) rs h)), subst P (sym v) (h i r l))
