-- A new turn meets the rule, and splitting, joining and closing keep it.
use Rattle.std.proofs.Common.{◌≡◌, ◌≢◌, ◌⊎◌, ℕ, zero, suc, ◌+◌, ◌<◌, ◌≤◌, List, [], ◌∷◌, ◌++◌, map, length, set, Option, Some, sym, refl, ap, ◌∙◌, subst, inl}
use Rattle.std.proofs.Common.{inr, ⊎_elim, arith, length-set, ne_eqb, true, false, if◌then◌else◌, ◌==◌}
use mathlib.Core.Option.{none, some, some-injective, some-ne-none}
use mathlib.Core.Option as maybe
use mathlib.Core.Logic.{dite}
use mathlib.Core.List.{map-append}
use native.Mathlib.Decide.{ℕ_discrete}
use lib.ListN.{get_elem?}
use lib.Seq.{map-set}
use Rattle.atomic_table.specs.Table.{State, Splits, Joins, Final, Seen}
use Rattle.atomic_table.proofs.Lists.{at_set, at_map, at_longer, set_else}
use Rattle.ll_turn.specs.Numbers.{Numbers, HasToGive, Has, Apart, IsProper, IsParted}
use Rattle.ll_turn.specs.Kept.{PartsNumbers, PartsFit}
use Rattle.ll_turn.specs.declared.view.Stage.{Stage}
use Rattle.ll_turn.specs.declared.view.Stage.TheVariants.{Rests, Holds, Notes}
use Rattle.ll_turn.specs.declared.view.Known.{Known}
use Rattle.ll_turn.specs.declared.view.View.{View}
use Rattle.ll_turn.specs.declared.view.View.TheVariants.{Spent, Live}
use Rattle.ll_turn.specs.Views.{Knows, without}
use Rattle.ll_turn.specs.Rule.{Card, Lists, Orderly, card, FitsAll, IsFree, IsHeldBy, IsKept}
use Rattle.ll_turn.specs.Steps.{left_part, right_part, taken_back}
use Rattle.ll_turn.proofs.Moves.{live_injective, same_pass, holds_no_rest, notes_no_rest, Turned, turned, kept}

module _ {A : Type 0} where
  at_end : (l : List A) (a b : A) (j : ℕ) → get_elem? (l ++ a ∷ []) j ≡ some b → (get_elem? l j ≡ some b) ⊎ ((a ≡ b) × (j ≡ length l))
  at_end [] a b zero e = inr (some-injective a b e, refl)
  at_end [] a b (suc j) e = absurd (some-ne-none b (sym e))
  at_end (x ∷ xs) a b zero e = inl e
  at_end (x ∷ xs) a b (suc j) e = ⊎_elim (λ t. inl t) (λ t. inr (t.0, ap suc t.1)) (at_end xs a b j e)

  at_below : (l : List A) (i : ℕ) (a : A) → get_elem? l i ≡ some a → i < length l
  at_below [] i a e = absurd (some-ne-none a (sym e))
  at_below (x ∷ xs) zero a e = omega arith
  at_below (x ∷ xs) (suc i) a e = let h = at_below xs i a e in omega arith

  listed_later : (xs : List A) (x y : A) → Lists xs y → Lists (x ∷ xs) y
  listed_later xs x y l = (suc l.0, l.1)

none_some : {A : Type 0} (x : A) → ¬ (none ≡ some x)
none_some x e = some-ne-none x (sym e)

still_listed : (xs : List ℕ) (n a : ℕ) → a ≢ n → Lists xs a → Lists (without n xs) a
still_listed [] n a other l = absurd (none_some a l.1)
still_listed (x ∷ xs) n a other (zero, e) =
    let here : x ≡ a = some-injective x a e in
    let miss : (n == x) ≡ false = ne_eqb n x (λ z. other (sym (z ∙ here))) in
    rw miss (zero, e)
still_listed (x ∷ xs) n a other (suc i, e) =
    let rest : Lists (without n xs) a = still_listed xs n a other (i, e) in
    elim (n == x) as (λ b. Lists (if b then without n xs else x ∷ without n xs) a) [ true ↦ rest | false ↦ listed_later (without n xs) x a rest ]

module _ {P : Type 0} (p : P) where
  abbrev Cards : Type 0
  Cards = List (maybe.Option (Card P))

  module _ (cards : Cards) (id : ℕ) (c : Card P) (left right : Numbers) (o : Orderly p cards) (at : get_elem? cards id ≡ some (some c))
      (more : HasToGive c.numbers) (parts : IsParted c.numbers left right) where
    abbrev cl : Card P
    cl = record { problem = c.problem; numbers = left; given = c.numbers.from ∷ c.given }

    abbrev cr : Card P
    cr = record { problem = c.problem; numbers = right; given = [] }

    abbrev parted_cards : Cards
    parted_cards = set cards id (some cl) ++ some cr ∷ []

    abbrev Place : ℕ → Card P → Type 0
    Place i d = ((cr ≡ d) × (i ≡ length cards)) ⊎ (((i ≡ id) × (cl ≡ d)) ⊎ ((i ≢ id) × (get_elem? cards i ≡ some (some d))))

    place : (i : ℕ) (d : Card P) → get_elem? parted_cards i ≡ some (some d) → Place i d
    place i d e = ⊎_elim
        (λ (t : get_elem? (set cards id (some cl)) i ≡ some (some d)). ⊎_elim
        (λ (u : (i ≡ id) × (some cl ≡ some d)). inr (inl (u.0, some-injective cl d u.1)))
        (λ (u : (i ≢ id) × (get_elem? cards i ≡ some (some d))). inr (inr u))
        (at_set cards id i (some cl) (some d) t))
        (λ (t : (some cr ≡ some d) × (i ≡ length (set cards id (some cl)))). inl (some-injective cr d t.0, t.1 ∙ length-set cards id (some cl)))
        (at_end (set cards id (some cl)) (some cr) (some d) i e)

    wide_left : (n : ℕ) → Has left n → Has c.numbers n
    wide_left n h = ⊎_elim (λ (e : n ≡ left.own). inl (e ∙ parts.0)) (λ (t : (left.from ≤ n) × (n < left.end)). let a = t.0 in let b = t.1 in let f = parts.1 in
        let g = parts.2 in inr (omega arith, omega arith)) h

    wide_right : (n : ℕ) → Has right n → Has c.numbers n
    wide_right n h = let o' = parts.3 in let r = parts.4 in
        ⊎_elim (λ (e : n ≡ right.own). inr (omega arith, omega arith)) (λ (t : (right.from ≤ n) × (n < right.end)). let a = t.0 in let b = t.1 in
        absurd (omega arith)) h

    proper_here : IsProper c.numbers
    proper_here = o.proper id c at

    apart_parts : Apart left right
    apart_parts n hl hr = let o' = parts.3 in let r = parts.4 in
        ⊎_elim
        (λ (e : n ≡ right.own). ⊎_elim
        (λ (e' : n ≡ left.own). let lo = parts.0 in proper_here (omega arith) (omega arith))
        (λ (t : (left.from ≤ n) × (n < left.end)). let a = t.0 in let f = parts.1 in omega arith)
        hl)
        (λ (t : (right.from ≤ n) × (n < right.end)). let a = t.0 in let b = t.1 in omega arith)
        hr

    own_is_0 : c.numbers.own ≡ 0
    own_is_0 = dite (ℕ_discrete c.numbers.own 0) (λ e. e) (λ busy. let b = o.barren id c at busy in absurd (omega arith))

    from_not_0 : ¬ (c.numbers.from ≡ 0)
    from_not_0 e = let z = own_is_0 in proper_here (omega arith) (omega arith)

    orderly_parted : Orderly p parted_cards
    orderly_parted = record {
      same = λ i d e. ⊎_elim
          (λ (t : (cr ≡ d) × (i ≡ length cards)). subst (λ (x : Card P). x.problem ≡ p) t.0 (o.same id c at))
          (λ t. ⊎_elim
          (λ (u : (i ≡ id) × (cl ≡ d)). subst (λ (x : Card P). x.problem ≡ p) u.1 (o.same id c at))
          (λ (u : (i ≢ id) × (get_elem? cards i ≡ some (some d))). o.same i d u.1)
          t)
          (place i d e);
      proper = λ i d e. ⊎_elim
          (λ (t : (cr ≡ d) × (i ≡ length cards)). subst (λ (x : Card P). IsProper x.numbers) t.0 (λ low high. let r = parts.4 in absurd (omega arith)))
          (λ t. ⊎_elim
          (λ (u : (i ≡ id) × (cl ≡ d)). subst (λ (x : Card P). IsProper x.numbers) u.1 (λ low high. let a = parts.0 in let b = parts.1 in let f = parts.2 in
          proper_here (omega arith) (omega arith)))
          (λ (u : (i ≢ id) × (get_elem? cards i ≡ some (some d))). o.proper i d u.1)
          t)
          (place i d e);
      apart = λ i j d f e e' other. ⊎_elim
          (λ (t : (cr ≡ d) × (i ≡ length cards)). subst (λ (x : Card P). Apart x.numbers f.numbers) t.0 (⊎_elim
          (λ (t' : (cr ≡ f) × (j ≡ length cards)). absurd (other (t.1 ∙ sym t'.1)))
          (λ s. ⊎_elim
          (λ (u : (j ≡ id) × (cl ≡ f)). subst (λ (x : Card P). Apart right x.numbers) u.1 (λ n hr hl. apart_parts n hl hr))
          (λ (u : (j ≢ id) × (get_elem? cards j ≡ some (some f))). (λ n hr. o.apart id j c f at u.1 (λ z. u.0 (sym z)) n (wide_right n hr)))
          s)
          (place j f e')))
          (λ t. ⊎_elim
          (λ (u : (i ≡ id) × (cl ≡ d)). subst (λ (x : Card P). Apart x.numbers f.numbers) u.1 (⊎_elim
          (λ (t' : (cr ≡ f) × (j ≡ length cards)). subst (λ (x : Card P). Apart left x.numbers) t'.0 apart_parts)
          (λ s. ⊎_elim
          (λ (u' : (j ≡ id) × (cl ≡ f)). absurd (other (u.0 ∙ sym u'.0)))
          (λ (u' : (j ≢ id) × (get_elem? cards j ≡ some (some f))). (λ n hl. o.apart id j c f at u'.1 (λ z. u'.0 (sym z)) n (wide_left n hl)))
          s)
          (place j f e')))
          (λ (u : (i ≢ id) × (get_elem? cards i ≡ some (some d))). ⊎_elim
          (λ (t' : (cr ≡ f) × (j ≡ length cards)). subst (λ (x : Card P). Apart d.numbers x.numbers) t'.0
          (λ n h hr. o.apart i id d c u.1 at u.0 n h (wide_right n hr)))
          (λ s. ⊎_elim
          (λ (u' : (j ≡ id) × (cl ≡ f)). subst (λ (x : Card P). Apart d.numbers x.numbers) u'.1 (λ n h hl. o.apart i id d c u.1 at u.0 n h (wide_left n hl)))
          (λ (u' : (j ≢ id) × (get_elem? cards j ≡ some (some f))). o.apart i j d f u.1 u'.1 other)
          s)
          (place j f e'))
          t)
          (place i d e);
      listed = λ i j d f e e' other zero_own. ⊎_elim
          (λ (t : (cr ≡ d) × (i ≡ length cards)). let z : right.own ≡ 0 = subst (λ (x : Card P). x.numbers.own ≡ 0) (sym t.0) zero_own in
          absurd (from_not_0 (sym parts.3 ∙ z)))
          (λ t. ⊎_elim
          (λ (u : (i ≡ id) × (cl ≡ d)). subst (λ (x : Card P). Lists x.given f.numbers.own) u.1 (⊎_elim
          (λ (t' : (cr ≡ f) × (j ≡ length cards)). subst (λ (x : Card P). Lists (c.numbers.from ∷ c.given) x.numbers.own) t'.0 (0, ap some (sym parts.3)))
          (λ s. ⊎_elim
          (λ (u' : (j ≡ id) × (cl ≡ f)). absurd (other (u.0 ∙ sym u'.0)))
          (λ (u' : (j ≢ id) × (get_elem? cards j ≡ some (some f))).
          listed_later c.given c.numbers.from f.numbers.own (o.listed id j c f at u'.1 (λ z. u'.0 (sym z)) own_is_0))
          s)
          (place j f e')))
          (λ (u : (i ≢ id) × (get_elem? cards i ≡ some (some d))). absurd (o.apart i id d c u.1 at u.0 0 (inl (sym zero_own)) (inl (sym own_is_0))))
          t)
          (place i d e);
      barren = λ i d e busy. ⊎_elim
          (λ (t : (cr ≡ d) × (i ≡ length cards)). subst (λ (x : Card P). x.numbers.end ≤ x.numbers.from) t.0 parts.4)
          (λ t. ⊎_elim
          (λ (u : (i ≡ id) × (cl ≡ d)). absurd (busy (subst (λ (x : Card P). x.numbers.own ≡ 0) u.1 (parts.0 ∙ own_is_0))))
          (λ (u : (i ≢ id) × (get_elem? cards i ≡ some (some d))). o.barren i d u.1 busy)
          t)
          (place i d e);
    }

  module _ (cards : Cards) (id out : ℕ) (c l : Card P) (o : Orderly p cards) (at : get_elem? cards id ≡ some (some c))
      (there : get_elem? cards out ≡ some (some l)) where
    abbrev cb : Card P
    cb = record { problem = c.problem; numbers = c.numbers; given = without l.numbers.own c.given }

    abbrev joined_cards : Cards
    joined_cards = set (set cards id (some cb)) out none

    place' : (i : ℕ) (d : Card P) → get_elem? joined_cards i ≡ some (some d)
        → (i ≢ out) × (((i ≡ id) × (cb ≡ d)) ⊎ ((i ≢ id) × (get_elem? cards i ≡ some (some d))))
    place' i d e = ⊎_elim
        (λ (t : (i ≡ out) × (none ≡ some d)). absurd (none_some d t.1))
        (λ (t : (i ≢ out) × (get_elem? (set cards id (some cb)) i ≡ some (some d))). (
          t.0,
          ⊎_elim
              (λ (u : (i ≡ id) × (some cb ≡ some d)). inl (u.0, some-injective cb d u.1))
              (λ (u : (i ≢ id) × (get_elem? cards i ≡ some (some d))). inr u)
              (at_set cards id i (some cb) (some d) t.1),
        ))
        (at_set (set cards id (some cb)) out i none (some d) e)

    -- the pass at this place was there, with the same numbers
    was : (i : ℕ) (d : Card P) → get_elem? joined_cards i ≡ some (some d)
        → (d' : Card P) × (get_elem? cards i ≡ some (some d')) × (d'.problem ≡ d.problem) × (d'.numbers ≡ d.numbers)
    was i d e = ⊎_elim
        (λ (u : (i ≡ id) × (cb ≡ d)). (
          c,
          subst (λ k. get_elem? cards k ≡ some (some c)) (sym u.0) at,
          ap (λ (x : Card P). x.problem) u.1,
          ap (λ (x : Card P). x.numbers) u.1,
        ))
        (λ (u : (i ≢ id) × (get_elem? cards i ≡ some (some d))). (d, u.1, refl, refl))
        (place' i d e).1

    orderly_joined : Orderly p joined_cards
    orderly_joined = record {
      same = λ i d e. let w = was i d e in sym w.2 ∙ o.same i w.0 w.1;
      proper = λ i d e. let w = was i d e in subst IsProper w.3 (o.proper i w.0 w.1);
      apart = λ i j d f e e' other. let w = was i d e in let w' = was j f e' in
          subst (λ (x : Numbers × Numbers). Apart x.0 x.1) (λ k. (w.3 k, w'.3 k)) (o.apart i j w.0 w'.0 w.1 w'.1 other);
      listed = λ i j d f e e' other zero_own. let w' = was j f e' in
          let listed : (x : Card P) → get_elem? cards i ≡ some (some x) → x.numbers.own ≡ 0
          → Lists x.given f.numbers.own = λ x ex z. subst (λ (n : Numbers). Lists x.given n.own) w'.3 (o.listed i j x w'.0 ex w'.1 other z) in
          ⊎_elim
          (λ (u : (i ≡ id) × (cb ≡ d)).
          let z : c.numbers.own ≡ 0 = subst (λ (x : Card P). x.numbers.own ≡ 0) (sym u.1) zero_own in
          let differs : f.numbers.own ≢ l.numbers.own = λ same.
          o.apart j out w'.0 l w'.1 there (place' j f e').0 f.numbers.own (inl (ap (λ (n : Numbers). n.own) (sym w'.3))) (inl same) in
          subst (λ (x : Card P). Lists x.given f.numbers.own) u.1
          (still_listed c.given l.numbers.own f.numbers.own differs (listed c (subst (λ k. get_elem? cards k ≡ some (some c)) (sym u.0) at) z)))
          (λ (u : (i ≢ id) × (get_elem? cards i ≡ some (some d))). listed d u.1 zero_own)
          (place' i d e).1;
      barren = λ i d e busy. let w = was i d e in subst (λ (n : Numbers). n.end ≤ n.from) w.3
          (o.barren i w.0 w.1 (λ z. busy (ap (λ (n : Numbers). n.own) (sym w.3) ∙ z)));
    }

busy : {S : Type 0} (st : Stage S) (y : S) → (st ≡ Holds y) ⊎ (st ≡ Notes y) → ¬ (st ≡ Rests)
busy st y c = ⊎_elim (λ (e : st ≡ Holds y). holds_no_rest st y e) (λ (e : st ≡ Notes y). notes_no_rest st y e) c

module _ {S P M : Type 0} where
  IsSpent : View S P M → Type 0
  IsSpent Spent = Unit {0}
  IsSpent (Live k) = ⊥

  spent_dead : (k : Known S P M) → ¬ (Spent ≡ Live k)
  unfolding IsSpent
  spent_dead k e = subst IsSpent e tt

module _ {S P M : Type 0} (numbers : M → Numbers) (fit : S → P → M → Type 0) (p : P) where
  abbrev Rule : State (Option S) (View S P M) → Type 0
  Rule = IsKept numbers fit p

  -- the turn is as it was where only passes that rest changed
  carry_turn : (word : ℕ) (homes : List (maybe.Option (Option S))) (vs vs' : List (View S P M))
      → ((j : ℕ) (k : Known S P M) → Knows vs' j k → (k.stage ≡ Rests) ⊎ Knows vs j k)
      → ((y : S) → FitsAll numbers fit p y vs → FitsAll numbers fit p y vs') → ((j : ℕ) (k : Known S P M) → Knows vs j k → ¬ (k.stage ≡ Rests) → Knows vs' j k)
      → Turned numbers fit p word homes vs → Turned numbers fit p word homes vs'
  carry_turn word homes vs vs' back fits on t = ⊎_elim
      (λ (f : (word ≡ 0) × IsFree numbers fit p homes vs). inl (
        f.0,
        record {
          value = f.1.value;
          home = f.1.home;
          idle = λ j k e. ⊎_elim (λ (r : k.stage ≡ Rests). r) (λ (was : Knows vs j k). f.1.idle j k was) (back j k e);
          fits = fits f.1.value f.1.fits;
        },
      ))
      (λ (h : (n : ℕ) × (word ≡ n + 1) × IsHeldBy numbers fit p n homes vs). let old = h.2 in inr (
        h.0,
        h.1,
        record {
          seat = old.seat;
          holder = old.holder;
          value = old.value;
          there = on old.seat old.holder old.there (busy old.holder.stage old.value old.stage);
          own = old.own;
          stage = old.stage;
          out = old.out;
          alone = λ j k e other. ⊎_elim (λ (r : k.stage ≡ Rests). r) (λ (was : Knows vs j k). old.alone j k was other) (back j k e);
          fits = fits old.value old.fits;
        },
      ))
      t

  pub parts : (parted : M → M × M) (id : ℕ) (v : View S P M) (k : Known S P M) → v ≡ Live k → k.stage ≡ Rests → HasToGive (numbers k.mine)
      → PartsNumbers numbers parted → PartsFit numbers fit parted
      → Splits Rule id v (left_part numbers parted v) (right_part parted v)
  parts parted id v k is rests more parts_numbers parts_fit =
      subst (λ x. Splits Rule id x (left_part numbers parted x) (right_part parted x)) (sym is) (λ s g at.
      let kl : Known S P M = record { problem = k.problem; mine = (parted k.mine).0; stage = k.stage; given = (numbers k.mine).from ∷ k.given } in
      let kr : Known S P M = record { problem = k.problem; mine = (parted k.mine).1; stage = Rests; given = [] } in
      let vs : List (View S P M) = s.views in
      let c : Card P = record { problem = k.problem; numbers = numbers k.mine; given = k.given } in
      let views : List (View S P M) = set vs id (Live kl) ++ Live kr ∷ [] in
      let cards : map (card numbers) views ≡ set (map (card numbers) vs) id (card numbers (Live kl)) ++ card numbers (Live kr) ∷ []
      = map-append (card numbers) (set vs id (Live kl)) (Live kr ∷ []) ∙ ap (λ l. l ++ card numbers (Live kr) ∷ []) (map-set (card numbers) vs id (Live kl)) in
      let where_is : (j : ℕ) (l : Known S P M) → Knows views j l → (kr ≡ l) ⊎ ((kl ≡ l) ⊎ Knows vs j l) = λ j l e. ⊎_elim
      (λ (t : get_elem? (set vs id (Live kl)) j ≡ some (Live l)). ⊎_elim
      (λ (u : (j ≡ id) × (Live kl ≡ Live l)). inr (inl (live_injective kl l u.1)))
      (λ (u : (j ≢ id) × Knows vs j l). inr (inr u.1))
      (at_set vs id j (Live kl) (Live l) t))
      (λ (t : (Live kr ≡ Live l) × (j ≡ length (set vs id (Live kl)))). inl (live_injective kr l t.0))
      (at_end (set vs id (Live kl)) (Live kr) (Live l) j e) in
      kept numbers fit p (record { words = s.words; homes = s.homes; views = views })
      g.word
      g.words
      (subst (Orderly p) (sym cards) (orderly_parted p (map (card numbers) vs) id c (numbers kl.mine) (numbers kr.mine) g.orderly
      (at_map (card numbers) vs id (Live k) at) more (parts_numbers k.mine more)))
      (carry_turn g.word s.homes vs views
      (λ j l e. ⊎_elim (λ (t : kr ≡ l). inl (ap (λ (x : Known S P M). x.stage) (sym t)))
      (λ t. ⊎_elim (λ (u : kl ≡ l). inl (ap (λ (x : Known S P M). x.stage) (sym u) ∙ rests)) (λ (u : Knows vs j l). inr u) t) (where_is j l e))
      (λ y fits j l e. let both = parts_fit p y k.mine more (fits id k at) in
      ⊎_elim (λ (t : kr ≡ l). subst (λ (x : Known S P M). fit y p x.mine) t both.1)
      (λ t. ⊎_elim (λ (u : kl ≡ l). subst (λ (x : Known S P M). fit y p x.mine) u both.0) (λ (u : Knows vs j l). fits j l u) t) (where_is j l e))
      (λ j l e busy. at_longer (set vs id (Live kl)) (Live kr ∷ []) j (Live l) (dite (ℕ_discrete j id)
      (λ same. absurd (busy (ap (λ (x : Known S P M). x.stage) (same_pass vs j l k e (subst (λ i. Knows vs i k) (sym same) at)) ∙ rests)))
      (λ other. set_else vs id j (Live kl) other ∙ e)))
      (turned numbers fit p s g)))

  pub joins : (id out : ℕ) (v w : View S P M) (k l : Known S P M) → v ≡ Live k → w ≡ Live l → k.stage ≡ Rests → l.stage ≡ Rests
      → Joins Rule id v out w (taken_back numbers v w) Spent
  joins id out v w k l is is' rests rests' = subst (λ (x : View S P M × View S P M). Joins Rule id x.0 out x.1 (taken_back numbers x.0 x.1) Spent)
      (λ i. (sym is i, sym is' i)) (λ s g at apart there'.
      let vs : List (View S P M) = s.views in
      let kb : Known S P M = record { problem = k.problem; mine = k.mine; stage = k.stage; given = without (numbers l.mine).own k.given } in
      let there : Knows vs out l = sym (set_else vs id out (Live kb) apart) ∙ there' in
      let views : List (View S P M) = set (set vs id (Live kb)) out Spent in
      let c : Card P = record { problem = k.problem; numbers = numbers k.mine; given = k.given } in
      let d : Card P = record { problem = l.problem; numbers = numbers l.mine; given = l.given } in
      let cards : map (card numbers) views ≡ set (set (map (card numbers) vs) id (card numbers (Live kb))) out none
      = map-set (card numbers) (set vs id (Live kb)) out Spent ∙ ap (λ cs. set cs out none) (map-set (card numbers) vs id (Live kb)) in
      let where_is : (j : ℕ) (m : Known S P M) → Knows views j m → (kb ≡ m) ⊎ Knows vs j m = λ j m e. ⊎_elim
      (λ (t : (j ≡ out) × (Spent ≡ Live m)). absurd (spent_dead m t.1))
      (λ (t : (j ≢ out) × Knows (set vs id (Live kb)) j m). ⊎_elim
      (λ (u : (j ≡ id) × (Live kb ≡ Live m)). inl (live_injective kb m u.1))
      (λ (u : (j ≢ id) × Knows vs j m). inr u.1)
      (at_set vs id j (Live kb) (Live m) t.1))
      (at_set (set vs id (Live kb)) out j Spent (Live m) e) in
      kept numbers fit p (record { words = s.words; homes = s.homes; views = views })
      g.word
      g.words
      (subst (Orderly p) (sym cards) (orderly_joined p (map (card numbers) vs) id out c d g.orderly (at_map (card numbers) vs id (Live k) at)
      (at_map (card numbers) vs out (Live l) there)))
      (carry_turn g.word s.homes vs views
      (λ j m e. ⊎_elim (λ (t : kb ≡ m). inl (ap (λ (x : Known S P M). x.stage) (sym t) ∙ rests)) (λ (u : Knows vs j m). inr u) (where_is j m e))
      (λ y fits j m e. ⊎_elim (λ (t : kb ≡ m). subst (λ (x : Known S P M). fit y p x.mine) t (fits id k at)) (λ (u : Knows vs j m). fits j m u)
      (where_is j m e))
      (λ j m e busy. dite (ℕ_discrete j out)
      (λ same. absurd (busy (ap (λ (x : Known S P M). x.stage) (same_pass vs j m l e (subst (λ i. Knows vs i l) (sym same) there)) ∙ rests')))
      (λ not_out. set_else (set vs id (Live kb)) out j Spent not_out ∙ dite (ℕ_discrete j id)
      (λ same. absurd (busy (ap (λ (x : Known S P M). x.stage) (same_pass vs j m k e (subst (λ i. Knows vs i k) (sym same) at)) ∙ rests)))
      (λ other. set_else vs id j (Live kb) other ∙ e)))
      (turned numbers fit p s g)))

  -- the first pass, all of whose passes are joined to it, finds the value at home
  pub closes : (id : ℕ) (v : View S P M) (k : Known S P M) (ws : List ℕ) (xs : List (Option S)) → v ≡ Live k → k.stage ≡ Rests → (numbers k.mine).own ≡ 0
      → k.given ≡ []
      → Final (Seen Rule id v) ws xs → (y : S) × (get_elem? xs 0 ≡ some (Some y)) × fit y k.problem k.mine
  closes id v k ws xs is rests own none_given final =
      let s = final.0 in
      let g = final.1.0 in
      let at : Knows s.views id k = final.1.1 ∙ ap some is in
      let here : k.problem ≡ p = g.orderly.same id _ (at_map (card numbers) s.views id (Live k) at) in
      ⊎_elim
      (λ (f : (g.word ≡ 0) × IsFree numbers fit p s.homes s.views).
      (f.1.value, final.4 0 (Some f.1.value) (ap (λ hs. get_elem? hs 0) f.1.home), subst (λ q. fit f.1.value q k.mine) (sym here) (f.1.fits id k at)))
      (λ (t : (n : ℕ) × (g.word ≡ n + 1) × IsHeldBy numbers fit p n s.homes s.views). let h = t.2 in dite (ℕ_discrete h.seat id)
      (λ same.
      absurd (busy h.holder.stage h.value h.stage (ap (λ (x : Known S P M). x.stage)
      (same_pass s.views id h.holder k (subst (λ i. Knows s.views i h.holder) same h.there) at) ∙ rests)))
      (λ other.
      let listed = g.orderly.listed id h.seat _ _ (at_map (card numbers) s.views id (Live k) at) (at_map (card numbers) s.views h.seat (Live h.holder) h.there)
      (λ z. other (sym z)) own in
      let listed' : Lists [] (numbers h.holder.mine).own = subst (λ l. Lists l (numbers h.holder.mine).own) none_given listed in
      absurd (none_some (numbers h.holder.mine).own listed'.1)))
      (turned numbers fit p s g)
