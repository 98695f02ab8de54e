-- A term is told by its text.
use Rattle.std.proofs.Common.{◌≡◌, ℕ, zero, suc, ◌<◌, max, Bool, true, false, List, [], ◌∷◌, ◌++◌, length, All, refl, ap, sym, subst, ◌∙◌, arith, decimal}
use Rattle.std.proofs.Common.{codes, append_assoc, append-nil, inl, inr, ℤ, FitsSigned}
use Rattle.std.specs.Fmt.{signed_decimal}
use Rattle.std.specs.Int.{w64}
use Rattle.std.specs.List.{list_all, flat_map, IsDistinct}
use Rattle.std.specs.Str.{bytes_eq}
use Rattle.std.proofs.Math.Nat.{le-max_left, le-max_right}
use Rattle.std.proofs.lemmas.Bool.{cases_lt}
use Rattle.std.proofs.lemmas.Fmt.{decimal_injective, signed_decimal_injective}
use Rattle.std.proofs.lemmas.List.{get_or_past}
use Rattle.std.proofs.lemmas.List.Concat.{flat_map-append}
use Rattle.std.proofs.lemmas.List.Elements.{All-nil, All-head, All-tail, All-push, All-weaker}
use Rattle.std.proofs.lemmas.Map.Made.{AllPairs-from_IsDistinct}
use Rattle.std.proofs.lemmas.Slice.Eq.{bytes_eq-Decides}
use Rattle.ll_bank.specs.declared.Head.{Head}
use Rattle.ll_bank.specs.declared.Head.TheVariants.{Name, Eigen, Bound}
use Rattle.ll_bank.specs.Term.{Term, Var, Int, Con, Ap, apply, term_depth}
use Rattle.ll_bank.proofs.CallerLemmas.{apply-push}
use Rattle.ll_laws.specs.Output.{name_text, head_text, is_cons_head, is_cons, bracket_if, has_arguments, term_text, applied_text, argument_text}
use Rattle.ll_laws.specs.ProofText.{term_field}
use Rattle.ll_lexer.specs.Spelling.{is_lower}
use Rattle.ll_prooftext.specs.Admitted.{IsPlainHead, IsPairHead, IsSpelledTerm, IsSpelledSpine}
use Rattle.ll_prooftext.specs.Words.{Stops, at_byte}
use Rattle.ll_prooftext.specs.Terms.{is_part, Shape, Bare, Closed, variable, number, IsWord}
use Rattle.ll_prooftext.proofs.spelling.Cuts.{one_cut, first}
use Rattle.ll_prooftext.proofs.spelling.Numerals.{mag_small}
use Rattle.ll_prooftext.proofs.spelling.Reach.{head_word}
use Rattle.ll_prooftext.proofs.spelling.Spellings.{name_shaped, shaped_starts, signed_starts, begins_number, one_shape, first_is, name_full, word_full}
use Rattle.ll_prooftext.proofs.spelling.Spellings.{word_parts}

-- a term without arguments is a word
abbrev pub bare_shape : Term → Shape
bare_shape (Con h) = Bare
bare_shape _ = Closed

pub bare_word : (names : List (List ℕ)) (t : Term) → has_arguments t ≡ false → IsSpelledTerm names t → IsWord (term_text names t) (bare_shape t)
bare_word names (Var n) e s = variable (decimal n) refl (record { number = n; small = s; is = refl })
bare_word names (Int z) e s = number (record { value = z; fits = s; is = refl })
bare_word names (Con h) e s = head_word names h s
bare_word names (Ap f a) e s = absurd cc

-- the first byte of words that are not empty
first_part : (w r : List ℕ) (b : ℕ) (rest : List ℕ) → list_all is_part w ≡ true → 0 < length w → w ++ r ≡ b ∷ rest → is_part b ≡ true
first_part [] r b rest h l e = absurd (omega arith)
first_part (c ∷ w) r b rest h l e = let q : c ≡ b = cc in ap is_part (sym q) ∙ first is_part c w h

-- a term that is spelled and less deep
abbrev Deeper : List (List ℕ) → Term → Term → Type 0
Deeper names t a = IsSpelledTerm names a × (term_depth a < term_depth t)

-- a term without `::` of its own: a word, and arguments behind it
record IsFlat (names : List (List ℕ)) (t : Term) (text : List ℕ) : Type 0 where
  pub base : Term
  pub args : List Term
  pub is : t ≡ apply base args
  pub bare : has_arguments base ≡ false
  pub spelled : IsSpelledTerm names base
  pub each : All (Deeper names t) args
  pub text_is : text ≡ term_text names base ++ flat_map (term_field names) args

-- a term with `::` of its own
record IsChain (names : List (List ℕ)) (t : Term) : Type 0 where
  pub sign : Head
  pub left : Term
  pub right : Term
  pub is : t ≡ Ap (Ap (Con sign) left) right
  pub holds : is_cons_head names sign ≡ true
  pub left_spelled : IsSpelledTerm names left
  pub right_spelled : IsSpelledTerm names right
  pub left_less : term_depth left < term_depth t
  pub right_less : term_depth right < term_depth t
  pub text_is : term_text names t ≡ bracket_if (is_cons names left) (term_text names left) ++ 58 ∷ 58 ∷ term_text names right

bare_flat : (names : List (List ℕ)) (t : Term) → has_arguments t ≡ false → IsSpelledTerm names t → IsFlat names t (term_text names t)
bare_flat names t e s = record {
  base = t;
  args = [];
  is = refl;
  bare = e;
  spelled = s;
  each = All-nil (Deeper names t);
  text_is =
      sym (append-nil (term_text names t));
}

below_left : (d m k : ℕ) → d < m → d < max m k
below_left d m k l = let h = le-max_left m k in omega (arith, h)

below_right : (d m : ℕ) → d < max m (suc d)
below_right d m = let h = le-max_right m (suc d) in omega (arith, h)

flat_more : (names : List (List ℕ)) (f a : Term) (text : List ℕ) → IsFlat names f text → IsSpelledTerm names a
    → IsFlat names (Ap f a) (text ++ term_field names a)
flat_more names f a text v s = record {
  base = v.base;
  args = v.args ++ a ∷ [];
  is = ap (λ g. Ap g a) v.is ∙ sym (apply-push v.base v.args a);
  bare = v.bare;
  spelled = v.spelled;
  each = All-push (Deeper names (Ap f a)) v.args a (All-weaker (Deeper names f) (Deeper names (Ap f a))
      (λ x p. (p.0, below_left (term_depth x) (term_depth f) (suc (term_depth a)) p.1)) v.args v.each) (s, below_right (term_depth a) (term_depth f));
  text_is = ap (λ z. z ++ term_field names a) v.text_is ∙ (append_assoc (term_text names v.base) (flat_map (term_field names) v.args) (term_field names a)
      ∙ ap (λ z. term_text names v.base ++ z) last);
}
  where
    last : flat_map (term_field names) v.args ++ term_field names a ≡ flat_map (term_field names) (v.args ++ a ∷ [])
    last = sym (flat_map-append (term_field names) v.args (a ∷ []) ∙ ap (λ z. flat_map (term_field names) v.args ++ z) (append-nil (term_field names a)))

flat_spaced : (names : List (List ℕ)) (f a : Term) (text : List ℕ) → IsFlat names f text → IsSpelledTerm names a
    → IsFlat names (Ap f a) (text ++ codes " " ++ argument_text a (term_text names a))
flat_spaced names f a text v s = subst (IsFlat names (Ap f a)) (sym (append_assoc text (codes " ") (argument_text a (term_text names a))))
    (flat_more names f a text v s)

spine_flat : (names : List (List ℕ)) (f : Term) → IsSpelledSpine names f → IsFlat names f (applied_text names f)
spine_flat names (Var n) s = absurd s
spine_flat names (Int z) s = absurd s
spine_flat names (Con h) s = bare_flat names (Con h) refl s
spine_flat names (Ap f a) s = flat_spaced names f a (applied_text names f) (spine_flat names f s.0) s.1

pair_plain : (names : List (List ℕ)) (h : Head) → IsPairHead names h → is_cons_head names h ≡ false → IsPlainHead names h
pair_plain names h (inl p) e = p
pair_plain names h (inr t) e = let u : is_cons_head names h ≡ true = t in absurd cc

term_flat : (names : List (List ℕ)) (t : Term) → is_cons names t ≡ false → IsSpelledTerm names t → IsFlat names t (term_text names t)
term_flat names (Var n) e s = bare_flat names (Var n) refl s
term_flat names (Int z) e s = bare_flat names (Int z) refl s
term_flat names (Con h) e s = bare_flat names (Con h) refl s
term_flat names (Ap (Ap (Con h) x) l) e s =
    let p : IsPlainHead names h = pair_plain names h s.0 e in
    let v = flat_spaced names (Ap (Con h) x) l (applied_text names (Ap (Con h) x)) (spine_flat names (Ap (Con h) x) (p, s.1.0)) s.1.1 in
    rw e v
term_flat names (Ap f a) e s = flat_spaced names f a (applied_text names f) (spine_flat names f s.0) s.1

term_chain : (names : List (List ℕ)) (t : Term) → is_cons names t ≡ true → IsSpelledTerm names t → IsChain names t
term_chain names (Var n) e s = absurd cc
term_chain names (Int z) e s = absurd cc
term_chain names (Con h) e s = absurd cc
term_chain names (Ap (Ap (Con h) x) l) e s = record {
  sign = h;
  left = x;
  right = l;
  is = refl;
  holds = e;
  left_spelled = s.1.0;
  right_spelled = s.1.1;
  left_less = below_left (term_depth x) (max 0 (suc (term_depth x))) (suc (term_depth l)) (below_right (term_depth x) 0);
  right_less = below_right (term_depth l) (max 0 (suc (term_depth x)));
  text_is = rw e (append_assoc (bracket_if (is_cons names x) (term_text names x)) (codes "::") (term_text names l));
}
term_chain names (Ap f a) e s = absurd cc

-- what may stand behind arguments: it goes on no word, and is no further argument
pub record Behind (names : List (List ℕ)) (bs : List ℕ) : Type 0 where
  pub stops : Stops is_part bs
  pub none : (t : Term) (rest : List ℕ) → IsSpelledTerm names t → bs ≡ term_field names t ++ rest → ⊥

pub fields_stop : (names : List (List ℕ)) (ts : List Term) (bs : List ℕ) → Stops is_part bs → Stops is_part (flat_map (term_field names) ts ++ bs)
fields_stop names [] bs s = s
fields_stop names (t ∷ ts) bs s = at_byte 32 ((argument_text t (term_text names t) ++ flat_map (term_field names) ts) ++ bs) refl refl

pub behind_byte : (names : List (List ℕ)) (b : ℕ) (bs : List ℕ) → is_part b ≡ false → (b ≡ 32 → ⊥) → Behind names (b ∷ bs)
behind_byte names b bs e n = record { stops = at_byte b bs refl e; none = λ t rest s q. n (let h : b ≡ 32 = cc in h) }

-- ---- over names that all differ

module _ (names : List (List ℕ)) (distinct : IsDistinct bytes_eq names) where
  pub same_name : (m n : ℕ) → 0 < length (name_text names m) → name_text names m ≡ name_text names n → m ≡ n
  same_name m n full e = elim (cases_lt m (length names)) [
    | inl k ↦ elim (cases_lt n (length names)) [
      | inl l ↦ elim (cases_lt m n) [
        | inl h ↦ absurd (AllPairs-from_IsDistinct bytes_eq-Decides names distinct m n [] h l e)
        | inr h ↦ elim (cases_lt n m) [
          | inl g ↦ absurd (AllPairs-from_IsDistinct bytes_eq-Decides names distinct n m [] g k (sym e))
          | inr g ↦ omega arith
        ]
      ]
      | inr l ↦ (let x = ap length (e ∙ get_or_past names n [] l) in absurd (omega arith))
    ]
    | inr k ↦ (let x = ap length (get_or_past names m [] k) in absurd (omega arith))
  ]

  no_sharp : (m : ℕ) (rest : List ℕ) → IsPlainHead names (Name m) → name_text names m ≡ 35 ∷ rest → ⊥
  unfolding is_lower
  no_sharp m rest p e = let x : false ≡ true = first_is is_lower (name_text names m) 35 rest e
      (shaped_starts (name_text names m) (name_shaped (name_text names m) p.spelled)) in let y : ⊥ = cc in y

  pub same_plain : (h k : Head) → IsPlainHead names h → IsPlainHead names k → head_text names h ≡ head_text names k → h ≡ k
  same_plain (Name m) (Name n) p q e = ap Name (same_name m n (name_full (name_text names m) p) e)
  same_plain (Name m) (Eigen n) p q e = absurd (no_sharp m (decimal n) p e)
  same_plain (Eigen m) (Name n) p q e = absurd (no_sharp n (decimal m) q (sym e))
  same_plain (Eigen m) (Eigen n) p q e = ap Eigen (decimal_injective m n (omega arith) (omega arith) (let t : decimal m ≡ decimal n = cc in t))
  same_plain (Bound m) k p q e = absurd p
  same_plain h (Bound n) p q e = absurd q

  pub same_sign : (h k : Head) → is_cons_head names h ≡ true → is_cons_head names k ≡ true → h ≡ k
  same_sign (Name m) (Name n) p q = ap Name (same_name m n (let x = ap length (is m p) in omega arith) (is m p ∙ sym (is n q)))
    where
      is : (n : ℕ) → is_cons_head names (Name n) ≡ true → name_text names n ≡ 58 ∷ 58 ∷ []
      is n h = (bytes_eq-Decides (name_text names n) (codes "::")).0 h
  same_sign (Eigen m) k p q = absurd cc
  same_sign (Bound m) k p q = absurd cc
  same_sign h (Eigen n) p q = absurd cc
  same_sign h (Bound n) p q = absurd cc

  pub no_question : (n : ℕ) (z : ℤ) → FitsSigned w64 z → 63 ∷ decimal n ≡ signed_decimal z → ⊥
  no_question n z f e = let x : false ≡ true = first_is begins_number (signed_decimal z) 63 (decimal n) (sym e) (signed_starts z f) in let y : ⊥ = cc in y

  one_shaped : (t u : Term) → has_arguments t ≡ false → has_arguments u ≡ false → IsSpelledTerm names t → IsSpelledTerm names u
      → term_text names t ≡ term_text names u → bare_shape t ≡ bare_shape u
  one_shaped t u a b p q e = one_shape (term_text names t) (bare_shape t) (bare_shape u) (bare_word names t a p)
      (subst (λ w. IsWord w (bare_shape u)) (sym e) (bare_word names u b q))

  same_bare : (t u : Term) → has_arguments t ≡ false → has_arguments u ≡ false → IsSpelledTerm names t → IsSpelledTerm names u
      → term_text names t ≡ term_text names u → t ≡ u
  same_bare (Var m) (Var n) a b p q e = ap Var (decimal_injective m n p q (let t : decimal m ≡ decimal n = cc in t))
  same_bare (Var m) (Int z) a b p q e = absurd (no_question m z q e)
  same_bare (Int z) (Var n) a b p q e = absurd (no_question n z p (sym e))
  same_bare (Int y) (Int z) a b p q e = ap Int (signed_decimal_injective y z (mag_small y p) (mag_small z q) e)
  same_bare (Con h) (Con k) a b p q e = ap Con (same_plain h k p q e)
  same_bare (Con h) (Var n) a b p q e = let x = one_shaped (Con h) (Var n) refl refl p q e in absurd cc
  same_bare (Con h) (Int z) a b p q e = let x = one_shaped (Con h) (Int z) refl refl p q e in absurd cc
  same_bare (Var n) (Con k) a b p q e = let x = one_shaped (Var n) (Con k) refl refl p q e in absurd cc
  same_bare (Int z) (Con k) a b p q e = let x = one_shaped (Int z) (Con k) refl refl p q e in absurd cc
  same_bare (Ap f x) u a b p q e = absurd cc
  same_bare t (Ap f x) a b p q e = absurd cc

  -- ---- arguments one by one

  -- an argument is told by its text
  abbrev pub Told : Term → Type 0
  Told t =
      (u : Term) (bs cs : List ℕ) → IsSpelledTerm names u → Stops is_part bs → Stops is_part cs
      → argument_text t (term_text names t) ++ bs ≡ argument_text u (term_text names u) ++ cs
      → (t ≡ u) × (bs ≡ cs)

  same_args : (ts us : List Term) (bs cs : List ℕ) → All Told ts → All (IsSpelledTerm names) ts → All (IsSpelledTerm names) us → Behind names bs
      → Behind names cs
      → flat_map (term_field names) ts ++ bs ≡ flat_map (term_field names) us ++ cs → (ts ≡ us) × (bs ≡ cs)
  same_args [] [] bs cs told p q x y e = (refl, e)
  same_args [] (u ∷ us) bs cs told p q x y e = absurd (x.none u (flat_map (term_field names) us ++ cs) (All-head (IsSpelledTerm names) u us q)
      (e ∙ append_assoc (term_field names u) (flat_map (term_field names) us) cs))
  same_args (t ∷ ts) [] bs cs told p q x y e = absurd (y.none t (flat_map (term_field names) ts ++ bs) (All-head (IsSpelledTerm names) t ts p)
      (sym e ∙ append_assoc (term_field names t) (flat_map (term_field names) ts) bs))
  same_args (t ∷ ts) (u ∷ us) bs cs told p q x y e =
      let f : term_field names t ++ (flat_map (term_field names) ts ++ bs) ≡ term_field names u ++ (flat_map (term_field names) us ++ cs) =
      sym (append_assoc (term_field names t) (flat_map (term_field names) ts) bs)
      ∙ (e ∙ append_assoc (term_field names u) (flat_map (term_field names) us) cs) in
      let g : argument_text t (term_text names t) ++ (flat_map (term_field names) ts ++ bs) ≡ argument_text u (term_text names u)
      ++ (flat_map (term_field names) us ++ cs) = cc in
      let h = All-head Told t ts told u (flat_map (term_field names) ts ++ bs) (flat_map (term_field names) us ++ cs) (All-head (IsSpelledTerm names) u us q)
      (fields_stop names ts bs x.stops) (fields_stop names us cs y.stops) g in
      let i = same_args ts us bs cs (All-tail Told t ts told) (All-tail (IsSpelledTerm names) t ts p) (All-tail (IsSpelledTerm names) u us q) x y h.1 in
      (let a : t ≡ u = h.0 in let b : ts ≡ us = i.0 in cc, i.1)

  -- ---- terms of any depth

  -- terms less deep than this are told by their texts
  record Reads (n : ℕ) : Type 0 where
    pub flat : (t u : Term) (bs cs : List ℕ) → term_depth t < n → is_cons names t ≡ false → is_cons names u ≡ false → IsSpelledTerm names t
        → IsSpelledTerm names u → Behind names bs → Behind names cs
        → term_text names t ++ bs ≡ term_text names u ++ cs → (t ≡ u) × (bs ≡ cs)
    pub whole : (t u : Term) (bs cs : List ℕ) → term_depth t < n → IsSpelledTerm names t → IsSpelledTerm names u
        → term_text names t ++ 41 ∷ bs ≡ term_text names u ++ 41 ∷ cs → (t ≡ u) × (bs ≡ cs)
    pub argument : (t : Term) → term_depth t < n → IsSpelledTerm names t → Told t

  by_word : (t u : Term) (x y : List ℕ) → has_arguments t ≡ false → has_arguments u ≡ false → IsSpelledTerm names t → IsSpelledTerm names u → Stops is_part x
      → Stops is_part y
      → term_text names t ++ x ≡ term_text names u ++ y → (t ≡ u) × (x ≡ y)
  by_word t u x y a b p q f g e =
      let v = bare_word names t a p in
      let w = bare_word names u b q in
      let k = one_cut is_part (term_text names t) (term_text names u) x y (word_parts (term_text names t) (bare_shape t) v)
      (word_parts (term_text names u) (bare_shape u) w) f g e in
      (same_bare t u a b p q k.0, k.1)

  flat_step : (n : ℕ) → Reads n → (t u : Term) (bs cs : List ℕ) → term_depth t < suc n → is_cons names t ≡ false → is_cons names u ≡ false
      → IsSpelledTerm names t → IsSpelledTerm names u → Behind names bs → Behind names cs
      → term_text names t ++ bs ≡ term_text names u ++ cs → (t ≡ u) × (bs ≡ cs)
  flat_step n r t u bs cs l a b p q x y e =
      let v = term_flat names t a p in
      let w = term_flat names u b q in
      let f : term_text names v.base ++ (flat_map (term_field names) v.args ++ bs) ≡ term_text names w.base ++ (flat_map (term_field names) w.args ++ cs) =
      sym (append_assoc (term_text names v.base) (flat_map (term_field names) v.args) bs)
      ∙
      (ap (λ z. z ++ bs) (sym v.text_is) ∙ (e ∙ (ap (λ z. z ++ cs) w.text_is
      ∙ append_assoc (term_text names w.base) (flat_map (term_field names) w.args) cs))) in
      let k = by_word v.base w.base (flat_map (term_field names) v.args ++ bs) (flat_map (term_field names) w.args ++ cs) v.bare w.bare v.spelled w.spelled
      (fields_stop names v.args bs x.stops) (fields_stop names w.args cs y.stops) f in
      let told : All Told v.args = All-weaker (Deeper names t) Told (λ z g. r.argument z (let d = g.1 in omega arith) g.0) v.args v.each in
      let spelled : All (IsSpelledTerm names) v.args = All-weaker (Deeper names t) (IsSpelledTerm names) (λ z g. g.0) v.args v.each in
      let others : All (IsSpelledTerm names) w.args = All-weaker (Deeper names u) (IsSpelledTerm names) (λ z g. g.0) w.args w.each in
      let i = same_args v.args w.args bs cs told spelled others x y k.1 in
      (v.is ∙ (ap (λ z. apply z v.args) k.0 ∙ (ap (apply w.base) i.0 ∙ sym w.is)), i.1)

  -- a term without `::` of its own begins with no bracket
  no_bracket : (t : Term) (bs rest : List ℕ) → is_cons names t ≡ false → IsSpelledTerm names t → term_text names t ++ bs ≡ 40 ∷ rest → ⊥
  no_bracket t bs rest a p e =
      let v = term_flat names t a p in
      let i = bare_word names v.base v.bare v.spelled in
      let w = term_text names v.base in
      let f : w ++ (flat_map (term_field names) v.args ++ bs) ≡ 40 ∷ rest =
      sym (append_assoc w (flat_map (term_field names) v.args) bs) ∙ (ap (λ z. z ++ bs) (sym v.text_is) ∙ e) in
      let x : false ≡ true = first_part w (flat_map (term_field names) v.args ++ bs) 40 rest (word_parts w (bare_shape v.base) i)
      (word_full w (bare_shape v.base) i) f in
      let y : ⊥ = cc in y

  behind_close : (bs : List ℕ) → Behind names (41 ∷ bs)
  behind_close bs = behind_byte names 41 bs refl (λ e. cc)

  behind_sign : (bs : List ℕ) → Behind names (58 ∷ bs)
  behind_sign bs = behind_byte names 58 bs refl (λ e. cc)

  -- a term in front of a `::`
  abbrev left_text : Bool → Term → List ℕ
  left_text v x = bracket_if v (term_text names x)

  open_left : (x : Term) (rest : List ℕ) → left_text true x ++ rest ≡ 40 ∷ (term_text names x ++ 41 ∷ rest)
  open_left x rest = ap (λ z. 40 ∷ z) (append_assoc (term_text names x) (41 ∷ []) rest)

  left_same : (n : ℕ) → Reads n → (x y : Term) (bs cs : List ℕ) (v w : Bool) → is_cons names x ≡ v → is_cons names y ≡ w → term_depth x < n
      → IsSpelledTerm names x → IsSpelledTerm names y
      → left_text v x ++ 58 ∷ bs ≡ left_text w y ++ 58 ∷ cs → (x ≡ y) × (bs ≡ cs)
  left_same n r x y bs cs true true a b l p q e =
      let f : 40 ∷ (term_text names x ++ 41 ∷ 58 ∷ bs) ≡ 40 ∷ (term_text names y ++ 41 ∷ 58 ∷ cs) = sym (open_left x (58 ∷ bs)) ∙ (e ∙ open_left y (58 ∷ cs)) in
      let g : term_text names x ++ 41 ∷ 58 ∷ bs ≡ term_text names y ++ 41 ∷ 58 ∷ cs = cc in
      let k = r.whole x y (58 ∷ bs) (58 ∷ cs) l p q g in
      (k.0, let h : 58 ∷ bs ≡ 58 ∷ cs = k.1 in cc)
  left_same n r x y bs cs false false a b l p q e =
      let k = r.flat x y (58 ∷ bs) (58 ∷ cs) l a b p q (behind_sign bs) (behind_sign cs) e in
      (k.0, let h : 58 ∷ bs ≡ 58 ∷ cs = k.1 in cc)
  left_same n r x y bs cs true false a b l p q e = absurd (no_bracket y (58 ∷ cs) (term_text names x ++ 41 ∷ 58 ∷ bs) b q (sym e ∙ open_left x (58 ∷ bs)))
  left_same n r x y bs cs false true a b l p q e = absurd (no_bracket x (58 ∷ bs) (term_text names y ++ 41 ∷ 58 ∷ cs) a p (e ∙ open_left y (58 ∷ cs)))

  sign_close : (bs cs : List ℕ) → 58 ∷ bs ≡ 41 ∷ cs → ⊥
  sign_close bs cs e = cc

  -- a `::` behind a term, and a closing bracket behind one without `::`
  not_both : (x u : Term) (bs cs : List ℕ) (v : Bool) → is_cons names x ≡ v → is_cons names u ≡ false → IsSpelledTerm names u
      → (v ≡ false → term_text names x ++ 58 ∷ bs ≡ term_text names u ++ 41 ∷ cs → ⊥) → left_text v x ++ 58 ∷ bs ≡ term_text names u ++ 41 ∷ cs → ⊥
  not_both x u bs cs true a b q f e = no_bracket u (41 ∷ cs) (term_text names x ++ 41 ∷ 58 ∷ bs) b q (sym e ∙ open_left x (58 ∷ bs))
  not_both x u bs cs false a b q f e = f refl e

  chain_is : (t : Term) (bs : List ℕ) (v : IsChain names t) → term_text names t ++ bs ≡ left_text (is_cons names v.left) v.left ++ 58 ∷ 58
      ∷ (term_text names v.right ++ bs)
  chain_is t bs v = ap (λ z. z ++ bs) v.text_is ∙ append_assoc (left_text (is_cons names v.left) v.left) (58 ∷ 58 ∷ term_text names v.right) bs

  whole_step : (n : ℕ) → Reads n → (t u : Term) (bs cs : List ℕ) → term_depth t < suc n → IsSpelledTerm names t → IsSpelledTerm names u
      → term_text names t ++ 41 ∷ bs ≡ term_text names u ++ 41 ∷ cs → (t ≡ u) × (bs ≡ cs)
  whole_step n r t u bs cs l p q e = by_test (is_cons names t) (is_cons names u) refl refl
    where
      chains : IsChain names t → IsChain names u → (t ≡ u) × (bs ≡ cs)
      chains v w =
          let f = sym (chain_is t (41 ∷ bs) v) ∙ (e ∙ chain_is u (41 ∷ cs) w) in
          let d = v.left_less in
          let k = left_same n r v.left w.left (58 ∷ (term_text names v.right ++ 41 ∷ bs)) (58 ∷ (term_text names w.right ++ 41 ∷ cs)) (is_cons names v.left)
          (is_cons names w.left) refl refl (omega arith) v.left_spelled w.left_spelled f in
          let g : 58 ∷ (term_text names v.right ++ 41 ∷ bs) ≡ 58 ∷ (term_text names w.right ++ 41 ∷ cs) = k.1 in
          let h : term_text names v.right ++ 41 ∷ bs ≡ term_text names w.right ++ 41 ∷ cs = cc in
          let j = v.right_less in
          let i = r.whole v.right w.right bs cs (omega arith) v.right_spelled w.right_spelled h in
          let s : v.sign ≡ w.sign = same_sign v.sign w.sign v.holds w.holds in
          let a : v.left ≡ w.left = k.0 in
          let b : v.right ≡ w.right = i.0 in
          (v.is ∙ ((let z : Ap (Ap (Con v.sign) v.left) v.right ≡ Ap (Ap (Con w.sign) w.left) w.right = cc in z) ∙ sym w.is), i.1)

      by_test : (v w : Bool) → is_cons names t ≡ v → is_cons names u ≡ w → (t ≡ u) × (bs ≡ cs)
      by_test true true a b = chains (term_chain names t a p) (term_chain names u b q)
      by_test false false a b =
          let k = flat_step n r t u (41 ∷ bs) (41 ∷ cs) l a b p q (behind_close bs) (behind_close cs) e in
          (k.0, let h : 41 ∷ bs ≡ 41 ∷ cs = k.1 in cc)
      by_test true false a b =
          let v = term_chain names t a p in
          let d = v.left_less in
          let rest = 58 ∷ (term_text names v.right ++ 41 ∷ bs) in
          absurd (not_both v.left u rest cs (is_cons names v.left) refl b q
          (λ c f. sign_close rest cs (r.flat v.left u (58 ∷ rest) (41 ∷ cs) (omega arith) c b v.left_spelled q (behind_sign rest) (behind_close cs) f).1)
          (sym (chain_is t (41 ∷ bs) v) ∙ e))
      by_test false true a b =
          let w = term_chain names u b q in
          let rest = 58 ∷ (term_text names w.right ++ 41 ∷ cs) in
          absurd (not_both w.left t rest bs (is_cons names w.left) refl a p
          (λ c f.
          sign_close rest bs (sym (flat_step n r t w.left (41 ∷ bs) (58 ∷ rest) l a c p w.left_spelled (behind_close bs) (behind_sign rest) (sym f)).1))
          (sym (chain_is u (41 ∷ cs) w) ∙ sym e))

  argument_step : (n : ℕ) → Reads n → (t : Term) → term_depth t < suc n → IsSpelledTerm names t → Told t
  argument_step n r t l p u bs cs q f g e = by_test (has_arguments t) (has_arguments u) refl refl e
    where
      -- no word begins with a bracket
      no_word : (x : Term) (rest behind : List ℕ) → has_arguments x ≡ false → IsSpelledTerm names x → term_text names x ++ rest ≡ 40 ∷ behind → ⊥
      no_word x rest behind a s h =
          let i = bare_word names x a s in
          let z : false ≡ true = first_part (term_text names x) rest 40 behind (word_parts (term_text names x) (bare_shape x) i)
          (word_full (term_text names x) (bare_shape x) i) h in
          let y : ⊥ = cc in y

      by_test : (v w : Bool) → has_arguments t ≡ v → has_arguments u ≡ w → bracket_if v (term_text names t) ++ bs ≡ bracket_if w (term_text names u) ++ cs
          → (t ≡ u) × (bs ≡ cs)
      by_test false false a b e = by_word t u bs cs a b p q f g e
      by_test true false a b e = absurd (no_word u cs (term_text names t ++ 41 ∷ bs) b q (sym e ∙ open_left t bs))
      by_test false true a b e = absurd (no_word t bs (term_text names u ++ 41 ∷ cs) a p (e ∙ open_left u cs))
      by_test true true a b e =
          let h : 40 ∷ (term_text names t ++ 41 ∷ bs) ≡ 40 ∷ (term_text names u ++ 41 ∷ cs) = sym (open_left t bs) ∙ (e ∙ open_left u cs) in
          whole_step n r t u bs cs l p q (let i : term_text names t ++ 41 ∷ bs ≡ term_text names u ++ 41 ∷ cs = cc in i)

  reads : (n : ℕ) → Reads n
  reads zero = record {
    flat = λ t u bs cs l a b p q x y e. absurd (omega arith);
    whole = λ t u bs cs l p q e. absurd (omega arith);
    argument =
        λ t l p. absurd (omega arith);
  }
  reads (suc n) = let r = reads n in record { flat = flat_step n r; whole = whole_step n r; argument = argument_step n r }

  -- a term in the form of an argument is told by its text
  pub one_argument : (t : Term) → IsSpelledTerm names t → Told t
  one_argument t p = (reads (suc (term_depth t))).argument t (omega arith) p

  -- and so are the fields of terms
  pub one_terms : (ts us : List Term) (bs cs : List ℕ) → All (IsSpelledTerm names) ts → All (IsSpelledTerm names) us → Behind names bs → Behind names cs
      → flat_map (term_field names) ts ++ bs ≡ flat_map (term_field names) us ++ cs → (ts ≡ us) × (bs ≡ cs)
  one_terms ts us bs cs p q x y e = same_args ts us bs cs (All-weaker (IsSpelledTerm names) Told one_argument ts p) p q x y e
