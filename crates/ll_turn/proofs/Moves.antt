-- Trying to hold, announcing and freeing keep the rule.
use Rattle.std.proofs.Common.{◌≡◌, ◌≢◌, ◌⊎◌, ℕ, zero, suc, ◌+◌, ◌-◌, List, [], ◌∷◌, map, get_or, set, Option, Some, None, sym, refl, ap, ◌∙◌, subst, inl, inr}
use Rattle.std.proofs.Common.{⊎_elim, arith}
use mathlib.Core.Option.{none, some, some-injective, some-ne-none}
use mathlib.Core.Option as maybe
use mathlib.Core.Logic.{dite}
use native.Mathlib.Decide.{ℕ_discrete}
use lib.ListN.{get_elem?}
use lib.Seq.{set-get_or, map-set}
use prog.Atomic.{either}
use Rattle.std.proofs.Common.{eqb}
use Rattle.ll_list_laws.proofs.CallerLemmas.{some_is as value_of_some}
use Rattle.atomic_table.specs.Table.{State, Act, step, keeps, takes, gives, Valid, stepped, carried_after, Allows}
use Rattle.atomic_table.proofs.Lists.{at_set, set_again, at_map, exchanged}
use Rattle.ll_turn.specs.Numbers.{Numbers, IsProper}
use Rattle.ll_turn.specs.Kept.{KeepsNumbers, ChangeFits}
use Rattle.ll_turn.specs.declared.view.Stage.{Stage}
use Rattle.ll_turn.specs.declared.view.Stage.TheVariants.{Rests, Holds, Notes}
use Rattle.ll_turn.specs.declared.view.Known.{Known}
use Rattle.ll_turn.specs.declared.view.View.{View}
use Rattle.ll_turn.specs.declared.view.View.TheVariants.{Spent, Live}
use Rattle.ll_turn.specs.Views.{live, staged, Knows}
use Rattle.ll_turn.specs.Rule.{Orderly, card, NoOtherHolds, FitsAll, IsFree, IsHeldBy, IsKept}
use Rattle.ll_turn.specs.Steps.{Hand, tried, announced, freed, IsResting, MayGive}

module _ {A : Type 0} where
  pub set_own : (l : List A) (i : ℕ) (a b : A) → get_elem? l i ≡ some a → get_elem? (set l i b) i ≡ some b
  set_own [] i a b e = absurd (some-ne-none a (sym e))
  set_own (x ∷ xs) zero a b e = refl
  set_own (x ∷ xs) (suc i) a b e = set_own xs i a b e

module _ {S : Type 0} where
  IsRest : Stage S → Type 0
  IsRest Rests = Unit {0}
  IsRest (Holds y) = ⊥
  IsRest (Notes y) = ⊥

  value_or : S → Stage S → S
  value_or d Rests = d
  value_or d (Holds y) = y
  value_or d (Notes y) = y

  IsNoting : Stage S → Type 0
  IsNoting Rests = ⊥
  IsNoting (Holds y) = ⊥
  IsNoting (Notes y) = Unit {0}

  pub holds_no_rest : (st : Stage S) (y : S) → st ≡ Holds y → ¬ (st ≡ Rests)
  unfolding IsRest
  holds_no_rest st y e r = subst IsRest (sym r ∙ e) tt

  pub notes_no_rest : (st : Stage S) (y : S) → st ≡ Notes y → ¬ (st ≡ Rests)
  unfolding IsRest
  notes_no_rest st y e r = subst IsRest (sym r ∙ e) tt

  -- the value of a stage is one
  one_value : (st : Stage S) (y z : S) → (st ≡ Holds y) ⊎ (st ≡ Notes y) → (st ≡ Holds z) ⊎ (st ≡ Notes z) → y ≡ z
  unfolding value_or
  one_value st y z a b =
      let of : (x : S) → (st ≡ Holds x) ⊎ (st ≡ Notes x) → value_or y st ≡ x =
      λ x c. ⊎_elim (λ (e : st ≡ Holds x). ap (value_or y) e) (λ (e : st ≡ Notes x). ap (value_or y) e) c in
      sym (of y a) ∙ of z b

module _ {S P M : Type 0} where
  live_of : Known S P M → View S P M → Known S P M
  live_of k Spent = k
  live_of _ (Live k) = k

  pub live_injective : (k l : Known S P M) → Live k ≡ Live l → k ≡ l
  unfolding live_of
  live_injective k l e = ap (live_of k) e

  pub same_pass : (vs : List (View S P M)) (j : ℕ) (k l : Known S P M) → Knows vs j k → Knows vs j l → k ≡ l
  same_pass vs j k l a b = live_injective k l (some-injective (Live k) (Live l) (sym a ∙ b))

  -- what is known of the pass at a place after its view was set
  at_pass : (vs : List (View S P M)) (id j : ℕ) (w : Known S P M) (F : ℕ → Known S P M → Type 0)
      → F id w → ((k : Known S P M) → j ≢ id → Knows vs j k → F j k) → (k : Known S P M) → Knows (set vs id (Live w)) j k → F j k
  at_pass vs id j w F mine others k e = ⊎_elim
      (λ (t : (j ≡ id) × (Live w ≡ Live k)). subst (λ (x : ℕ × Known S P M). F x.0 x.1) (λ i. (sym t.0 i, live_injective w k t.1 i)) mine)
      (λ (t : (j ≢ id) × Knows vs j k). others k t.0 t.1)
      (at_set vs id j (Live w) (Live k) e)

module _ {S P M : Type 0} (numbers : M → Numbers) (fit : S → P → M → Type 0) (p : P) where
  abbrev Table : Type 0
  Table = State (Option S) (View S P M)

  abbrev Rule : Table → Type 0
  Rule = IsKept numbers fit p

  -- the turn is free, or held by the pass whose number the word names
  abbrev pub Turned : ℕ → List (maybe.Option (Option S)) → List (View S P M) → Type 0
  Turned word homes views = ((word ≡ 0) × IsFree numbers fit p homes views) ⊎ ((n : ℕ) × (word ≡ n + 1) × IsHeldBy numbers fit p n homes views)

  pub turned : (s : Table) (g : Rule s) → Turned g.word s.homes s.views
  turned s g = dite (ℕ_discrete g.word 0) (λ z. inl (z, g.free z)) (λ some_word. let e : g.word ≡ (g.word - 1) + 1 = omega arith in
      inr (g.word - 1, e, g.held (g.word - 1) e))

  pub kept : (s : Table) (word : ℕ) → s.words ≡ word ∷ [] → Orderly p (map (card numbers) s.views) → Turned word s.homes s.views → Rule s
  kept s word words orderly t = record {
    word = word;
    words = words;
    orderly = orderly;
    free = λ z. ⊎_elim
        (λ (f : (word ≡ 0) × IsFree numbers fit p s.homes s.views). f.1)
        (λ (h : (n : ℕ) × (word ≡ n + 1) × IsHeldBy numbers fit p n s.homes s.views). let e = h.1 in absurd (omega arith))
        t;
    held = λ n e. ⊎_elim
        (λ (f : (word ≡ 0) × IsFree numbers fit p s.homes s.views). let z = f.0 in absurd (omega arith))
        (λ (h : (n' : ℕ) × (word ≡ n' + 1) × IsHeldBy numbers fit p n' s.homes s.views). let e' = h.1 in let same : h.0 ≡ n = omega arith in
        subst (λ m. IsHeldBy numbers fit p m s.homes s.views) same h.2)
        t;
  }

  same_cards : (vs : List (View S P M)) (id : ℕ) (v w : View S P M) → get_elem? vs id ≡ some v → card numbers w ≡ card numbers v
      → map (card numbers) (set vs id w) ≡ map (card numbers) vs
  same_cards vs id v w at e = map-set (card numbers) vs id w
      ∙ (ap (set (map (card numbers) vs) id) e ∙ set_again (map (card numbers) vs) id (card numbers v) (at_map (card numbers) vs id v at))

  word_is : (s : Table) (g : Rule s) → get_or s.words 0 0 ≡ g.word
  word_is s g = ap (λ ws. get_or ws 0 0) g.words

  problem_is : (s : Table) (g : Rule s) (id : ℕ) (k : Known S P M) → Knows s.views id k → k.problem ≡ p
  problem_is s g id k at = g.orderly.same id _ (at_map (card numbers) s.views id (Live k) at)

  -- this pass holds the turn, with this value
  record Mine (s : Table) (word id : ℕ) (k : Known S P M) : Type 0 where
    value : S
    named : word ≡ (numbers k.mine).own + 1
    stage : (k.stage ≡ Holds value) ⊎ (k.stage ≡ Notes value)
    out : s.homes ≡ none ∷ []
    alone : NoOtherHolds numbers fit p id s.views
    fits : FitsAll numbers fit p value s.views

  -- a pass that does not rest holds the turn
  holder : (s : Table) (g : Rule s) (id : ℕ) (k : Known S P M) → Knows s.views id k → ¬ (k.stage ≡ Rests) → Mine s g.word id k
  holder s g id k at busy = ⊎_elim
      (λ (f : (g.word ≡ 0) × IsFree numbers fit p s.homes s.views). absurd (busy (f.1.idle id k at)))
      (λ (t : (n : ℕ) × (g.word ≡ n + 1) × IsHeldBy numbers fit p n s.homes s.views). let h = t.2 in dite (ℕ_discrete id h.seat)
      (λ e. let same : h.holder ≡ k = same_pass s.views id h.holder k (subst (λ i. Knows s.views i h.holder) (sym e) h.there) at in record {
        value = h.value;
        named = subst (λ (z : Known S P M). g.word ≡ (numbers z.mine).own + 1) same (t.1 ∙ ap (λ n. n + 1) (sym h.own));
        stage = subst (λ (z : Known S P M). (z.stage ≡ Holds h.value) ⊎ (z.stage ≡ Notes h.value)) same h.stage;
        out = h.out;
        alone = λ j l at' other. h.alone j l at' (λ i. other (i ∙ sym e));
        fits = h.fits;
      })
      (λ other. absurd (busy (h.alone id k at other))))
      (turned s g)

  -- a pass that rests takes the turn
  holds_now : (s : Table) (g : Rule s) (id : ℕ) (k : Known S P M) (f : IsFree numbers fit p s.homes s.views) → Knows s.views id k
      → Rule (stepped s 0 ((numbers k.mine).own + 1) id [] (staged k (Holds f.value)) (takes 0 (Some f.value)))
  holds_now s g id k f at = let w : Known S P M = record { problem = k.problem; mine = k.mine; stage = Holds f.value; given = k.given } in
      kept (stepped s 0 ((numbers k.mine).own + 1) id [] (staged k (Holds f.value)) (takes 0 (Some f.value)))
      ((numbers k.mine).own + 1)
      (ap (λ ws. set ws 0 ((numbers k.mine).own + 1)) g.words)
      (subst (Orderly p) (sym (same_cards s.views id (Live k) (Live w) at refl)) g.orderly)
      (inr (
        (numbers k.mine).own,
        refl,
        record {
          seat = id;
          holder = w;
          value = f.value;
          there = set_own s.views id (Live k) (Live w) at;
          own = refl;
          stage = inl refl;
          out = ap (λ hs. set hs 0 none) f.home;
          alone = λ j. at_pass s.views id j w (λ i l. i ≢ id → l.stage ≡ Rests) (λ other. absurd (other refl)) (λ l _ at' _. f.idle j l at');
          fits = λ j. at_pass s.views id j w (λ i l. fit f.value p l.mine) (f.fits id k at) (λ l _ at'. f.fits j l at');
        },
      ))

  -- a step that leaves all as it was
  stays : (s : Table) (g : Rule s) (id : ℕ) (v : View S P M) (cs : List (ℕ × Option S)) → get_elem? s.views id ≡ some v
      → Rule (stepped s 0 (get_or s.words 0 0) id cs v keeps)
  stays s g id v cs at = subst Rule (λ i. record { words = sym (set-get_or s.words 0 0) i; homes = s.homes; views = sym (set_again s.views id v at) i }) g

  tries : (n id h : ℕ) (k : Known S P M) → k.stage ≡ Rests → (numbers k.mine).own ≡ h
      → Allows Rule n id (Live k, []) 0 (λ r. either (eqb r 0) (h + 1) r) (tried fit (step n 0 0 (h + 1) none) (Live k, []))
  tries n id h k rests own s g wide at low = exchanged (get_or s.words 0 0) 0 (h + 1)
      (λ z. (w : View S P M) × (a : Act (Option S)) × Valid s.homes [] a × Rule (stepped s 0 z id [] w a)
      × tried fit (step n 0 0 (h + 1) none) (Live k, []) (get_or s.words 0 0) (w, carried_after [] a))
      (λ zero_word. let f = g.free (sym (word_is s g) ∙ zero_word) in (
        staged k (Holds f.value),
        takes 0 (Some f.value),
        ap (λ hs. get_elem? hs 0) f.home,
        subst (λ z. Rule (stepped s 0 (z + 1) id [] (staged k (Holds f.value)) (takes 0 (Some f.value)))) own (holds_now s g id k f at),
        (
          (λ bad. absurd (bad zero_word)),
          λ _ l e.
              subst (λ (z : Known S P M). (y : S) × (◌≡◌ {A = Hand S P M} (staged k (Holds f.value), (0, Some f.value) ∷ []) (
                staged z (Holds y),
                (0, Some y) ∷ [],
              )) × fit y z.problem z.mine) (live_injective k l e)
              (f.value, refl, subst (λ q. fit f.value q k.mine) (sym (problem_is s g id k at)) (f.fits id k at)),
        ),
      ))
      (λ held. (Live k, keeps, tt, stays s g id (Live k) [] at, ((λ _. refl), λ zero_word. absurd (held zero_word))))

  module _ (next : P → S → M → S → M) (lawful : P → S → M → S → Type 0)
      (keeps_numbers : KeepsNumbers numbers next) (change_fits : ChangeFits numbers fit lawful next) where
    announces : (n id h : ℕ) (k : Known S P M) (b v : S) (cs : List (ℕ × Option S)) → k.stage ≡ Holds b → (numbers k.mine).own ≡ h → lawful k.problem b k.mine v
        → Allows Rule n id (Live k, cs) 0 (λ _. h + 1) (λ _. announced next (Some v) (step n 0 (h + 1) 0 none) (Live k, cs) (h + 1))
    announces n id h k b v cs holds own law s g wide at low =
        let mine = holder s g id k at (holds_no_rest k.stage b holds) in
        let here : k.problem ≡ p = problem_is s g id k at in
        let fits : FitsAll numbers fit p b s.views = subst (λ x. FitsAll numbers fit p x s.views) (one_value k.stage mine.value b mine.stage (inl holds))
        mine.fits in
        let law' : lawful p b k.mine v = subst (λ q. lawful q b k.mine v) here law in
        let fit' = change_fits p b k.mine v (fits id k at) law' in
        let w : Known S P M = record { problem = k.problem; mine = next k.problem b k.mine v; stage = Notes v; given = k.given } in
        let same : numbers w.mine ≡ numbers k.mine = keeps_numbers k.problem b k.mine v in
        let own_fit : fit v p w.mine = subst (λ q. fit v p (next q b k.mine v)) (sym here) fit'.0 in
        let proper : (j : ℕ) (l : Known S P M) → Knows s.views j l
        → IsProper (numbers l.mine) = λ j l at'. g.orderly.proper j _ (at_map (card numbers) s.views j (Live l) at') in (
          Live w,
          keeps,
          tt,
          kept (stepped s 0 (h + 1) id cs (Live w) keeps)
              (h + 1)
              (ap (λ ws. set ws 0 (h + 1)) g.words)
              (subst (Orderly p) (sym (same_cards s.views id (Live k) (Live w) at
              (ap (λ (z : Numbers). some (record { problem = k.problem; numbers = z; given = k.given })) same))) g.orderly)
              (inr (
                h,
                refl,
                record {
                  seat = id;
                  holder = w;
                  value = v;
                  there = set_own s.views id (Live k) (Live w) at;
                  own = ap (λ (z : Numbers). z.own) same ∙ own;
                  stage = inr refl;
                  out = mine.out;
                  alone = λ j. at_pass s.views id j w (λ i l. i ≢ id
                      → l.stage ≡ Rests) (λ other. absurd (other refl)) (λ l _ at' other. mine.alone j l at' other);
                  fits = λ j. at_pass s.views id j w (λ i l. fit v p l.mine) own_fit
                      (λ l other at'. fit'.1 l.mine (fits j l at') (
                        proper id k at,
                        proper j l at',
                        g.orderly.apart id j _ _ (at_map (card numbers) s.views id (Live k) at)
                            (at_map (card numbers) s.views j (Live l) at') (λ e. other (sym e)),
                      ));
                },
              )),
          λ l before after e held said.
              let kl : k ≡ l = live_injective k l e in
              let bb : b ≡ before = one_value l.stage b before (inl (subst (λ (z : Known S P M). z.stage ≡ Holds b) kl holds)) (inl held) in
              let vv : v ≡ after = value_of_some v after said in
              λ i. (live (kl i).problem (next (kl i).problem (bb i) (kl i).mine (vv i)) (Notes (vv i)) (kl i).given, cs),
        )

    pub announces_as : (n id h : ℕ) (m : Hand S P M) (y : S) (said : Option S) → said ≡ Some y → MayGive numbers lawful m h y
        → Allows Rule n id m 0 (λ _. h + 1) (λ _. announced next said (step n 0 (h + 1) 0 none) m (h + 1))
    announces_as n id h m y said is may =
        subst (λ (x : Hand S P M × Option S). Allows Rule n id x.0 0 (λ _. h + 1) (λ _. announced next x.1 (step n 0 (h + 1) 0 none) x.0 (h + 1)))
        (λ i. (sym may.2 i, sym is i))
        (announces n id h may.0 may.1 y ((0, None) ∷ []) may.3 may.4 may.5)

  frees : (n id : ℕ) (k : Known S P M) (y : S) (cs : List (ℕ × Option S)) → k.stage ≡ Notes y
      → Allows Rule n id (Live k, (0, Some y) ∷ cs) 0 (λ _. 0) (λ _. freed fit (step n 0 0 0 none) (Live k, (0, Some y) ∷ cs) 0)
  frees n id k y cs notes s g wide at low =
      let mine = holder s g id k at (notes_no_rest k.stage y notes) in
      let fits : FitsAll numbers fit p y s.views = subst (λ x. FitsAll numbers fit p x s.views) (one_value k.stage mine.value y mine.stage (inr notes))
      mine.fits in
      let w : Known S P M = record { problem = k.problem; mine = k.mine; stage = Rests; given = k.given } in (
        Live w,
        gives,
        tt,
        kept (stepped s 0 0 id ((0, Some y) ∷ cs) (Live w) gives)
            0
            (ap (λ ws. set ws 0 0) g.words)
            (subst (Orderly p) (sym (same_cards s.views id (Live k) (Live w) at refl)) g.orderly)
            (inl (
              refl,
              record {
                value = y;
                home = ap (λ hs. set hs 0 (some (Some y))) mine.out;
                idle = λ j. at_pass s.views id j w (λ i l. l.stage ≡ Rests) refl (λ l other at'. mine.alone j l at' other);
                fits = λ j. at_pass s.views id j w (λ i l. fit y p l.mine) (fits id k at) (λ l _ at'. fits j l at');
              },
            )),
        λ l z e notes'.
            let kl : k ≡ l = live_injective k l e in
            let yz : y ≡ z = one_value l.stage y z (inr (subst (λ (x : Known S P M). x.stage ≡ Notes y) kl notes)) (inr notes') in (
              (λ i. (staged (kl i) Rests, cs)),
              subst (λ (x : Known S P M × S). fit x.1 x.0.problem x.0.mine) (λ i. (kl i, yz i))
                  (subst (λ q. fit y q k.mine) (sym (problem_is s g id k at)) (fits id k at)),
            ),
      )

  pub tries_as : (n id h : ℕ) (m : Hand S P M) → IsResting numbers m h
      → Allows Rule n id m 0 (λ r. either (eqb r 0) (h + 1) r) (tried fit (step n 0 0 (h + 1) none) m)
  tries_as n id h m r = subst (λ (x : Hand S P M). Allows Rule n id x 0 (λ r'. either (eqb r' 0) (h + 1) r') (tried fit (step n 0 0 (h + 1) none) x)) (sym r.1)
      (tries n id h r.0 r.2 r.3)

  pub frees_as : (n id : ℕ) (m : Hand S P M) (w : Known S P M) (y : S) → m ≡ (Live w, (0, Some y) ∷ []) → w.stage ≡ Notes y
      → Allows Rule n id m 0 (λ _. 0) (λ _. freed fit (step n 0 0 0 none) m 0)
  frees_as n id m w y is notes = subst (λ (x : Hand S P M). Allows Rule n id x 0 (λ _. 0) (λ _. freed fit (step n 0 0 0 none) x 0)) (sym is)
      (frees n id w y [] notes)
