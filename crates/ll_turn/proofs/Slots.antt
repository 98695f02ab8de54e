-- The slot in a pass's hand, from the taking of its value to the freeing of the word.
use Rattle.std.proofs.Common.{◌≡◌, ℕ, List, [], ◌∷◌, Option, Some, None, sym, ap, ◌∙◌, refl, subst}
use Rattle.atomic_table.specs.Table.{Me, Step, rest}
use Rattle.ll_turn.specs.Numbers.{Numbers}
use Rattle.ll_turn.specs.declared.view.Stage.TheVariants.{Rests, Holds, Notes}
use Rattle.ll_turn.specs.declared.view.Known.{Known}
use Rattle.ll_turn.specs.declared.view.View.{View}
use Rattle.ll_turn.specs.declared.view.View.TheVariants.{Live}
use Rattle.ll_turn.specs.Views.{staged}
use Rattle.ll_turn.specs.Steps.{Hand, tried, freed, IsResting, MayGive, Announces, PutsBack}

entry_or : {S : Type 0} → Option S → List (ℕ × Option S) → Option S
entry_or d [] = d
entry_or d (x ∷ xs) = x.1

module _ {S V : Type 0} where
  -- the slot in hand has this value
  pub in_hand : (m : Me (Option S) V) (v : V) (x : Option S) → m ≡ (v, (0, x) ∷ []) → m.1 ≡ (0, x) ∷ rest m.1
  in_hand m v x is = let e : m.1 ≡ (0, x) ∷ [] = ap (λ (z : Me (Option S) V). z.1) is in e ∙ ap (λ l. (0, x) ∷ rest l) (sym e)

  -- what is found in the slot is its value
  found_in_hand : (m : Me (Option S) V) (v : V) (x r : Option S) → m ≡ (v, (0, x) ∷ []) → m.1 ≡ (0, r) ∷ rest m.1 → r ≡ x
  unfolding entry_or
  found_in_hand m v x r is found = ap (entry_or x) (sym found ∙ ap (λ (z : Me (Option S) V). z.1) is)

  -- another value was put into the slot
  put_in_hand : (m m' : Me (Option S) V) (v : V) (x y : Option S) → m ≡ (v, (0, x) ∷ []) → m' ≡ (m.0, (0, y) ∷ rest m.1) → m' ≡ (v, (0, y) ∷ [])
  put_in_hand m m' v x y is puts = puts ∙ ap (λ (z : Me (Option S) V). (z.0, (0, y) ∷ rest z.1)) is

module _ {S P M : Type 0} (fit : S → P → M → Type 0) where
  -- the word was 0: the value found is in hand
  pub won : (numbers : M → Numbers) (st : Step (Option S)) (h n : ℕ) (m m' : Hand S P M) → IsResting numbers m h → tried fit st m n m' → n ≡ 0
      → (v : View S P M) × (y : S) × (m' ≡ (v, (0, Some y) ∷ []))
  won numbers st h n m m' r t zero_word = let k = r.0 in let f = t.1 zero_word k (ap (λ (z : Hand S P M). z.0) r.1) in
      (staged k (Holds f.0), f.0, f.1 ∙ ap (λ (z : Hand S P M). (staged k (Holds f.0), (0, Some f.0) ∷ z.1)) r.1)

  -- an announced value was put into the slot, and the word was freed
  pub puts_back : (next : P → S → M → S → M) (st : Step (Option S)) (n : ℕ) (m m' m'' after : Hand S P M) (y : S)
      → Announces next m y m' → m'' ≡ (m'.0, (0, Some y) ∷ rest m'.1) → freed fit st m'' n after → PutsBack fit next m y after
  puts_back next st n m m' m'' after y announced puts frees k b e holds =
      let w : Known S P M = record { problem = k.problem; mine = next k.problem b k.mine y; stage = Notes y; given = k.given } in
      let here : m'' ≡ (Live w, (0, Some y) ∷ []) = put_in_hand m' m'' (Live w) None (Some y) (announced k b e holds) puts in
      let f = frees w y (ap (λ (z : Hand S P M). z.0) here) refl in
      (f.0 ∙ ap (λ (z : Hand S P M). (staged w Rests, rest z.1)) here, f.1)

-- from the announcement to the freeing of the word
module _ {S P M : Type 0} where
  -- a pass with this number announced the value y
  pub record HasAnnounced (numbers : M → Numbers) (lawful : P → S → M → S → Type 0) (next : P → S → M → S → M) (m m' : Hand S P M) (number : ℕ)
      (y : S) : Type 0 where
    pub may : MayGive numbers lawful m number y
    pub announced : Announces next m y m'

  pub has_announced : (numbers : M → Numbers) (lawful : P → S → M → S → Type 0) (next : P → S → M → S → M) {m m' : Hand S P M} {number : ℕ} {x y : S}
      → MayGive numbers lawful m number y → x ≡ y → Announces next m x m' → HasAnnounced numbers lawful next m m' number y
  has_announced numbers lawful next {m = m} {m' = m'} may is announced =
      record { may = may; announced = subst (λ value. Announces next m value m') is announced }

  module _ {numbers : M → Numbers} {lawful : P → S → M → S → Type 0} {next : P → S → M → S → M} {m m' : Hand S P M} {number : ℕ} {y : S}
      (h : HasAnnounced numbers lawful next m m' number y) where
    abbrev pub noting : Known S P M
    noting = let k = h.may.0 in record { problem = k.problem; mine = next k.problem h.may.1 k.mine y; stage = Notes y; given = k.given }

    emptied : m' ≡ (Live noting, (0, None) ∷ [])
    emptied = h.announced h.may.0 h.may.1 h.may.2 h.may.3

    -- the slot is empty
    pub empty_in_hand : m'.1 ≡ (0, None) ∷ rest m'.1
    empty_in_hand = in_hand m' (Live noting) None emptied

    pub finds_empty : (r : Option S) → m'.1 ≡ (0, r) ∷ rest m'.1 → r ≡ None
    finds_empty r found = found_in_hand m' (Live noting) None r emptied found

    -- and then it holds the value noted
    pub filled : (m'' : Hand S P M) → m'' ≡ (m'.0, (0, Some y) ∷ rest m'.1) → m'' ≡ (Live noting, (0, Some y) ∷ [])
    filled m'' puts = put_in_hand m' m'' (Live noting) None (Some y) emptied puts
