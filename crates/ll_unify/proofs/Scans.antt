-- How a term is looked through.
use Rattle.std.proofs.Common.{◌≡◌, ℕ, ◌+◌, ◌<◌, ◌≤◌, ◌⊎◌, inl, inr, Bool, true, false, List, [], ◌∷◌, ◌++◌, length, get_or, All, refl, ap, sym, subst, ◌∙◌}
use Rattle.std.proofs.Common.{arith, nat_eq}
use Rattle.std.specs.Prelude.{◌||◌, ◌&&◌, not, Option, Some, None}
use Rattle.std.proofs.Math.Bool.{or_assoc}
use Rattle.std.proofs.lemmas.Bool.{and_from, or_from, not_from_false, or_left, or_right, eqb-true, eq-eqb}
use Rattle.std.proofs.lemmas.List.Elements.{All-push}
use Rattle.ll_bank.specs.declared.Head.{Head}
use Rattle.ll_bank.specs.declared.At.{At}
use Rattle.ll_bank.specs.Term.{Term, Var, Int, Con, Ap, sub, occurs, eigens_below, eigen_below, is_spine, head_of, applies_heads, app}
use Rattle.ll_bank.specs.Nodes.{Nodes, term_tree}
use Rattle.ll_bank.proofs.CallerLemmas.{applies_heads-term_tree, head_of-app}
use Rattle.std.proofs.lemmas.List.{append-nil, get_or_default}
use Rattle.ll_list_laws.proofs.CallerLemmas.{false_from_not as not_true, true_from_not, and_true_left as and_left, and_true_right as and_right}
use Rattle.ll_list_laws.proofs.CallerLemmas.{or_elim as or_cases, All-front as All-before, All-last}
use Rattle.ll_unify.specs.declared.frame.Frame.{Frame}
use Rattle.ll_unify.specs.Spines.{args_in, arg, ShowsArgument}
use Rattle.ll_unify.specs.Stacks.{lowest, Waits, is_empty, is_full}
use Rattle.ll_unify.specs.Bindings.{Table, HasCells, found, cell, count, IsTable, IsEnd, IsFree, AreSame}
use Rattle.ll_unify.specs.Scanned.{is_among, IsGood, IsPart, is_bad, AreNoted, IsScan, AreGood, IsFrame, IsScanning, AreFrames, IsScanned, IsKnown}
use Rattle.ll_unify.specs.Scanned.{is_good_sign, own_vars, IsLook, IsPassed}
use Rattle.ll_unify.specs.Frames.{frame_tree}
use Rattle.ll_unify.proofs.Spines.{below-suc, build_up, take_down, is_spine-app}
use Rattle.ll_unify.proofs.Stacks.{opened, closed}
use Rattle.ll_unify.proofs.Stacks.{lowest-push, Waits-push, Waits-last, Waits-map, no_item, an_item, split_last}
use Rattle.ll_unify.proofs.Tables.{end-var, var-below}
use Rattle.ll_unify.proofs.Readings.{Obeys-found}

-- ---- tests

among-append : (xs ys : List ℕ) (y : ℕ) → is_among (xs ++ ys) y ≡ (is_among xs y || is_among ys y)
among-append [] ys y = refl
among-append (x ∷ xs) ys y = ap (λ b. nat_eq y x || b) (among-append xs ys y) ∙ sym (or_assoc (nat_eq y x) (is_among xs y) (is_among ys y))

-- ---- good terms

-- noting more variables keeps a term good
good-more : (x l : ℕ) (vars more : List ℕ) (u : Term) → IsGood x l vars u → IsGood x l (vars ++ more) u
good-more x l vars more u g = record {
  free = g.free;
  eigens = g.eigens;
  noted = λ y o. among-append vars more y ∙ or_left (is_among vars y) (is_among more y) (g.noted y o);
}

good-ap : (x l : ℕ) (vars : List ℕ) (f a : Term) → IsGood x l vars f → IsGood x l vars a → IsGood x l vars (Ap f a)
good-ap x l vars f a p q = record {
  free = or_from (occurs x f) (occurs x a) p.free q.free;
  eigens = and_from (eigens_below l f) (eigens_below l a) p.eigens q.eigens;
  noted = λ y o. or_cases (occurs y f) (occurs y a) o (p.noted y) (q.noted y);
}

sign-head : (x l : ℕ) (u : Term) (h : Head) → head_of u ≡ Some h → is_good_sign x l u ≡ eigen_below l h
sign-head x l (Var y) h e = cc
sign-head x l (Int z) h e = cc
sign-head x l (Con k) h e = let q : k ≡ h = cc in ap (eigen_below l) q
sign-head x l (Ap f a) h e = sign-head x l f h e

-- a term whose sign and arguments are good is good
good-term : (x l : ℕ) (vars : List ℕ) (s : ℕ → Term) (u : Term) → applies_heads u ≡ true → ((y : ℕ) → u ≡ Var y → s y ≡ Var y) → is_good_sign x l u ≡ true
    → ((k : ℕ) → k < length (args_in u) → IsGood x l vars (sub s (arg u k))) → IsGood x l (vars ++ own_vars u) (sub s u)
good-term x l vars s (Var y) h e g args =
    subst (IsGood x l (vars ++ y ∷ [])) (sym (e y refl)) (record {
      free = not_true (nat_eq x y) g;
      eigens = refl;
      noted = λ z o. among-append vars (y ∷ []) z ∙ or_right (is_among vars z) (nat_eq z y || false) (or_left (nat_eq z y) false o);
    })
good-term x l vars s (Int z) h e g args = record { free = refl; eigens = refl; noted = λ y o. cc }
good-term x l vars s (Con k) h e g args = record { free = refl; eigens = g; noted = λ y o. cc }
good-term x l vars s (Ap f a) h e g args =
    good-more x l vars [] (sub s (Ap f a))
    (build_up (λ t. IsGood x l vars (sub s t)) (λ p q. good-ap x l vars (sub s p) (sub s q)) (Ap f a)
    (and_left (is_spine f) (applies_heads f) (and_left (is_spine f && applies_heads f) (applies_heads a) h))
    (λ k q. record { free = refl; eigens = sym (sign-head x l (Ap f a) k q) ∙ g; noted = λ y o. cc }) args)

-- ---- parts

part-refl : (x l : ℕ) (u : Term) → IsPart x l u u
part-refl x l u = record { vars = λ y o. o; eigens = λ e. e }

part-ap : (x l : ℕ) (f a w : Term) → IsPart x l (Ap f a) w → IsPart x l f w × IsPart x l a w
part-ap x l f a w p = (
  record { vars = λ y o. p.vars y (or_left (occurs y f) (occurs y a) o); eigens = λ e. and_left (eigens_below l f) (eigens_below l a) (p.eigens e) },
  record { vars = λ y o. p.vars y (or_right (occurs y f) (occurs y a) o); eigens = λ e. and_right (eigens_below l f) (eigens_below l a) (p.eigens e) },
)

part-arg : (x l : ℕ) (s : ℕ → Term) (u w : Term) (k : ℕ) → IsPart x l (sub s u) w → k < length (args_in u) → IsPart x l (sub s (arg u k)) w
part-arg x l s u w k p b = take_down (λ t. IsPart x l (sub s t) w) (λ f a. part-ap x l (sub s f) (sub s a) w) u p k b

bad-part : (x l : ℕ) (u w : Term) → IsPart x l u w → is_bad x l u ≡ true → is_bad x l w ≡ true
bad-part x l u w p h =
    or_cases (occurs x u) (not (eigens_below l u)) h (λ o. or_left (occurs x w) (not (eigens_below l w)) (p.vars x o))
    (λ e. or_right (occurs x w) (not (eigens_below l w)) (not_from_false (eigens_below l w) (step (eigens_below l w) refl (not_true (eigens_below l u) e))))
  where
    step : (b : Bool) → eigens_below l w ≡ b → eigens_below l u ≡ false → b ≡ false
    step true e f = let q = p.eigens e in cc
    step false e f = refl

bad-head : (l : ℕ) (s : ℕ → Term) (u : Term) (h : Head) → head_of u ≡ Some h → eigen_below l h ≡ false → eigens_below l (sub s u) ≡ false
bad-head l s (Var y) h e b = cc
bad-head l s (Int z) h e b = cc
bad-head l s (Con k) h e b = let q : k ≡ h = cc in ap (eigen_below l) q ∙ b
bad-head l s (Ap f a) h e b = ap (λ c. c && eigens_below l (sub s a)) (bad-head l s f h e b)

-- a bad sign makes a term bad
bad-term : (x l : ℕ) (s : ℕ → Term) (u : Term) → applies_heads u ≡ true → ((y : ℕ) → u ≡ Var y → s y ≡ Var y) → is_good_sign x l u ≡ false
    → is_bad x l (sub s u) ≡ true
bad-term x l s (Var y) h e b = subst (λ t. is_bad x l t ≡ true) (sym (e y refl)) (or_left (nat_eq x y) false (true_from_not (nat_eq x y) b))
bad-term x l s (Int z) h e b = cc
bad-term x l s (Con k) h e b = not_from_false (eigen_below l k) b
bad-term x l s (Ap f a) h e b = go (head_of f) refl
  where
    spine : is_spine f ≡ true
    spine = and_left (is_spine f) (applies_heads f) (and_left (is_spine f && applies_heads f) (applies_heads a) h)

    none : (t : Term) → is_spine t ≡ true → head_of t ≡ None → ⊥
    none (Var y) q n = cc
    none (Int z) q n = cc
    none (Con k) q n = cc
    none (Ap g c) q n = none g q n

    go : (o : Option Head) → head_of f ≡ o → is_bad x l (sub s (Ap f a)) ≡ true
    go None n = absurd (none f spine n)
    go (Some k) n =
        or_right (occurs x (sub s (Ap f a))) (not (eigens_below l (sub s (Ap f a))))
        (not_from_false (eigens_below l (sub s (Ap f a))) (bad-head l s (Ap f a) k n (sym (sign-head x l (Ap f a) k n) ∙ b)))

-- ---- the stack of frames

-- a term that is about to be looked through
pub scan-starts : (nodes : Nodes) (t : Table) (x l : ℕ) (at : At) → IsEnd nodes t at.0
    → IsScanned nodes t x l [] [] (sub (found nodes t) (term_tree nodes at.0)) ([] ++ (record { at = at; next = 0 }) ∷ [])
scan-starts nodes t x l at e = record {
  places = λ k d b. absurd (omega arith);
  noted = record { stand = λ y o. cc; below = λ k d b. absurd (omega arith); free = λ y o. cc };
  frames = is_full [] (record { at = at; next = 0 }) refl (record {
    top = λ k b. absurd (omega arith);
    waits = tt;
    bottom = refl;
    frame = record { end = e; part = part-refl x l (sub (found nodes t) (term_tree nodes at.0)) };
    frames = λ k d b. absurd (omega arith);
  });
}

-- the frame on top
pub scan-top : (nodes : Nodes) (t : Table) (x l : ℕ) (places : List At) (vars : List ℕ) (whole : Term) (items fs : List Frame) (f : Frame)
    → IsScanned nodes t x l places vars whole items → items ≡ fs ++ f ∷ [] → IsScanning nodes t x l vars whole fs f
scan-top nodes t x l places vars whole items fs f h e = opened (IsGood x l vars whole) (IsScanning nodes t x l vars whole) items fs f h.frames e

-- an argument that was looked through before
pub scan-known : (nodes : Nodes) (t : Table) (x l : ℕ) (places : List At) (vars : List ℕ) (whole : Term) (items fs : List Frame) (f g : Frame) (to end : At)
    → IsTable nodes t → IsScanned nodes t x l places vars whole items → items ≡ fs ++ f ∷ [] → ShowsArgument nodes f.at.0 f.next to.0
    → AreSame nodes t (term_tree nodes end.0) (term_tree nodes to.0) → IsKnown places end true → g.at ≡ f.at → g.next ≡ f.next + 1
    → IsScanned nodes t x l places vars whole (fs ++ g ∷ [])
scan-known nodes t x l places vars whole items fs f g to end tb h e a same known ga gn =
    let p = scan-top nodes t x l places vars whole items fs f h e in
    let good : IsGood x l vars (sub (found nodes t) (term_tree nodes end.0)) =
    subst (λ (q : At). IsGood x l vars (sub (found nodes t) (term_tree nodes q.0))) known.2 (h.places known.0 (record { 0 = 0 }) known.1) in
    let last : IsGood x l vars (sub (found nodes t) (arg (frame_tree nodes f) f.next)) =
    subst (IsGood x l vars) (same (found nodes t) (Obeys-found nodes t tb.ordered) ∙ ap (sub (found nodes t)) (sym a.is)) good in
    let q : IsScanning nodes t x l vars whole fs (record { at = f.at; next = f.next + 1 }) = record {
      top = λ k b. elim (below-suc k f.next b) [
        | inl c ↦ p.top k c
        | inr c ↦ subst (λ j. IsGood x l vars (sub (found nodes t) (arg (frame_tree nodes f) j))) (sym c) last
      ];
      waits = p.waits;
      bottom = p.bottom;
      frame = record { end = p.frame.end; part = p.frame.part };
      frames = p.frames;
    } in
    record {
      places = h.places;
      noted = h.noted;
      frames = is_full fs g refl (subst (IsScanning nodes t x l vars whole fs) (same_frame f.at g.at (f.next + 1) g.next (sym ga) (sym gn)) q);
    }
  where
    same_frame : (a b : At) (m n : ℕ) → a ≡ b → m ≡ n → let p : Frame = record { at = a; next = m } in let q : Frame = record { at = b; next = n } in p ≡ q
    same_frame a b m n d e = λ i. record { at = d i; next = e i }

-- an argument that is still to be looked through
pub scan-opens : (nodes : Nodes) (t : Table) (x l : ℕ) (places : List At) (vars : List ℕ) (whole : Term) (items fs : List Frame) (f g : Frame) (to end : At)
    → IsTable nodes t → IsScanned nodes t x l places vars whole items → items ≡ fs ++ f ∷ [] → ShowsArgument nodes f.at.0 f.next to.0
    → IsEnd nodes t end.0 → AreSame nodes t (term_tree nodes end.0) (term_tree nodes to.0) → g.at ≡ f.at → g.next ≡ f.next + 1
    → IsScanned nodes t x l places vars whole ((fs ++ g ∷ []) ++ (record { at = end; next = 0 }) ∷ [])
scan-opens nodes t x l places vars whole items fs f g to end tb h e a en same ga gn =
    let p = scan-top nodes t x l places vars whole items fs f h e in
    let s = found nodes t in
    let is : sub (found nodes t) (arg (frame_tree nodes f) f.next) ≡ sub (found nodes t) (term_tree nodes end.0) =
    ap (sub (found nodes t)) a.is ∙ sym (same (found nodes t) (Obeys-found nodes t tb.ordered)) in
    let part : IsPart x l (sub (found nodes t) (term_tree nodes end.0)) whole =
    subst (λ u. IsPart x l u whole) is (part-arg x l (found nodes t) (frame_tree nodes f) whole f.next p.frame.part a.among) in
    let tree : frame_tree nodes f ≡ frame_tree nodes g = ap (λ (b : At). term_tree nodes b.0) (sym ga) in
    let waits : AreGood nodes t x l vars g (term_tree nodes end.0) = λ k b. elim (below-suc k f.next (subst (λ n. k < n) gn b)) [
      | inl c ↦ inl (subst (λ u. IsGood x l vars (sub (found nodes t) (arg u k))) tree (p.top k c))
      | inr c ↦ inr (subst (λ u. sub (found nodes t) (arg u k) ≡ sub (found nodes t) (term_tree nodes end.0)) tree
          (subst (λ j. sub (found nodes t) (arg (frame_tree nodes f) j) ≡ sub (found nodes t) (term_tree nodes end.0)) (sym c) is))
    ] in
    let q : IsScanning nodes t x l vars whole (fs ++ g ∷ []) (record { at = end; next = 0 }) = record {
      top = λ k b. absurd (omega arith);
      waits = Waits-push (frame_tree nodes) (AreGood nodes t x l vars) fs g (term_tree nodes end.0)
          (subst (λ u. Waits (frame_tree nodes) (AreGood nodes t x l vars) fs u) tree p.waits) waits;
      bottom = ap (sub (found nodes t)) (lowest-push (frame_tree nodes) (AreGood nodes t x l vars) fs g (term_tree nodes end.0)) ∙
          (ap (λ u. sub (found nodes t) (lowest (frame_tree nodes) fs u)) (sym tree) ∙ p.bottom);
      frame = record { end = en; part = part };
      frames = All-push (IsFrame nodes t x l whole) fs g p.frames (same_frame f.at g.at f.next g.next (sym ga) p.frame);
    } in
    record {
      places = h.places;
      noted = h.noted;
      frames = is_full (fs ++ g ∷ []) (record { at = end; next = 0 }) refl q;
    }
  where
    same_frame : (a b : At) (m n : ℕ) → a ≡ b → IsFrame nodes t x l whole (record { at = a; next = m })
        → IsFrame nodes t x l whole (record { at = b; next = n })
    same_frame a b m n d h = subst (λ (c : At). IsFrame nodes t x l whole (record { at = c; next = n })) d (record { end = h.end; part = h.part })

-- the term of the frame on top is done and good
top_good : (nodes : Nodes) (t : Table) (x l : ℕ) (vars : List ℕ) (whole : Term) (fs : List Frame) (f : Frame)
    → IsTable nodes t → IsScanning nodes t x l vars whole fs f → length (args_in (frame_tree nodes f)) ≤ f.next → is_good_sign x l (frame_tree nodes f) ≡ true
    → IsGood x l (vars ++ own_vars (frame_tree nodes f)) (sub (found nodes t) (frame_tree nodes f))
top_good nodes t x l vars whole fs f tb p b g =
    good-term x l vars (found nodes t) (frame_tree nodes f) (applies_heads-term_tree nodes f.at.0)
    (λ y e. end-var nodes t f.at.0 y tb p.frame.end e) g (λ k c. p.top k (omega arith))

-- the variable of a frame is noted rightly
noted_more : (nodes : Nodes) (t : Table) (x l : ℕ) (vars : List ℕ) (whole u : Term) → HasCells nodes t u → IsFree t u → IsPart x l (sub (found nodes t) u) whole
    → ((y : ℕ) → u ≡ Var y → found nodes t y ≡ Var y) → AreNoted t vars whole → AreNoted t (vars ++ own_vars u) whole
noted_more nodes t x l vars whole (Var y) b f p e h =
    let is : (z : ℕ) → is_among (y ∷ []) z ≡ true → z ≡ y = λ z o. or_cases (nat_eq z y) false o (eqb-true z y) (λ q. cc) in
    record {
      stand = λ z o. or_cases (is_among vars z) (is_among (y ∷ []) z) (sym (among-append vars (y ∷ []) z) ∙ o) (h.stand z)
          (λ q. p.vars z (subst (λ u. occurs z u ≡ true) (sym (e y refl)) (eq-eqb z y (is z q))));
      below = All-push (λ z. z < count t) vars y h.below (var-below nodes t y (Var y) b refl);
      free = λ z o. or_cases (is_among vars z) (is_among (y ∷ []) z) (sym (among-append vars (y ∷ []) z) ∙ o) (h.free z)
          (λ q. subst (λ w. cell t w ≡ None) (sym (is z q)) (f y refl));
    }
noted_more nodes t x l vars whole (Int z) b f p e h = subst (λ vs. AreNoted t vs whole) (sym (append-nil vars)) h
noted_more nodes t x l vars whole (Con k) b f p e h = subst (λ vs. AreNoted t vs whole) (sym (append-nil vars)) h
noted_more nodes t x l vars whole (Ap g a) b f p e h = subst (λ vs. AreNoted t vs whole) (sym (append-nil vars)) h

-- the frame on top is done, and its term is good
pub scan-closes : (nodes : Nodes) (t : Table) (x l : ℕ) (places : List At) (vars new_vars : List ℕ) (whole : Term) (items fs : List Frame) (f : Frame)
    → IsTable nodes t → IsScanned nodes t x l places vars whole items → items ≡ fs ++ f ∷ [] → length (args_in (frame_tree nodes f)) ≤ f.next
    → IsLook (frame_tree nodes f) x l vars new_vars true → IsScanned nodes t x l (places ++ f.at ∷ []) new_vars whole fs
scan-closes nodes t x l places vars new_vars whole items fs f tb h e b look =
    let p = scan-top nodes t x l places vars whole items fs f h e in
    let g : IsGood x l (vars ++ own_vars (frame_tree nodes f)) (sub (found nodes t) (frame_tree nodes f)) =
    top_good nodes t x l vars whole fs f tb p b (sym look.good) in
    let r : IsScanned nodes t x l (places ++ f.at ∷ []) (vars ++ own_vars (frame_tree nodes f)) whole fs = record {
      places = All-push (λ (q : At). IsGood x l (vars ++ own_vars (frame_tree nodes f)) (sub (found nodes t) (term_tree nodes q.0))) places f.at
          (λ k d c. good-more x l vars (own_vars (frame_tree nodes f)) (sub (found nodes t) (term_tree nodes (get_or places k d).0)) (h.places k d c)) g;
      noted = noted_more nodes t x l vars whole (frame_tree nodes f) p.frame.end.place.vars p.frame.end.free p.frame.part
          (λ y q. end-var nodes t f.at.0 y tb p.frame.end q) h.noted;
      frames = under fs p.waits p.bottom p.frames g;
    } in
    subst (λ vs. IsScanned nodes t x l (places ++ f.at ∷ []) vs whole fs) (sym look.vars) r
  where
    more : List ℕ
    more = own_vars (frame_tree nodes f)

    after : List ℕ
    after = vars ++ more

    u : Term
    u = frame_tree nodes f

    -- what waited for the term goes on
    under : (gs : List Frame) → Waits (frame_tree nodes) (AreGood nodes t x l vars) gs u → sub (found nodes t) (lowest (frame_tree nodes) gs u) ≡ whole
        → All (IsFrame nodes t x l whole) gs → IsGood x l after (sub (found nodes t) u) → AreFrames nodes t x l after whole gs
    under gs w bottom a g = elim (split_last gs) [
      | no_item q ↦ is_empty q (subst (IsGood x l after) (subst (λ hs. sub (found nodes t) (lowest (frame_tree nodes) hs u) ≡ whole) q bottom) g)
      | an_item hs k q ↦
          let w2 : Waits (frame_tree nodes) (AreGood nodes t x l vars) (hs ++ k ∷ []) u =
          subst (λ z. Waits (frame_tree nodes) (AreGood nodes t x l vars) z u) q w in
          let v = Waits-last (frame_tree nodes) (AreGood nodes t x l vars) hs k u w2 in
          let a2 : All (IsFrame nodes t x l whole) (hs ++ k ∷ []) = subst (All (IsFrame nodes t x l whole)) q a in
          let b2 : sub (found nodes t) (lowest (frame_tree nodes) (hs ++ k ∷ []) u) ≡ whole =
          subst (λ z. sub (found nodes t) (lowest (frame_tree nodes) z u) ≡ whole) q bottom in
          is_full hs k q (record {
            top = λ j c. elim (v.1 j c) [
              | inl d ↦ good-more x l vars more (sub (found nodes t) (arg (frame_tree nodes k) j)) d
              | inr d ↦ subst (IsGood x l after) (sym d) g
            ];
            waits = Waits-map (frame_tree nodes) (AreGood nodes t x l vars) (AreGood nodes t x l after) (λ m c r j i. elim (r j i) [
              | inl d ↦ inl (good-more x l vars more (sub (found nodes t) (arg (frame_tree nodes m) j)) d)
              | inr d ↦ inr d
            ]) hs (frame_tree nodes k) v.0;
            bottom = sym (ap (sub (found nodes t)) (lowest-push (frame_tree nodes) (AreGood nodes t x l vars) hs k u)) ∙ b2;
            frame = All-last (IsFrame nodes t x l whole) hs k a2;
            frames = All-before (IsFrame nodes t x l whole) hs k a2;
          })
    ]

-- a bad sign
pub scan-fails : (nodes : Nodes) (t : Table) (x l : ℕ) (places : List At) (vars new_vars : List ℕ) (whole : Term) (items fs : List Frame) (f : Frame)
    → IsTable nodes t → IsScanned nodes t x l places vars whole items → items ≡ fs ++ f ∷ [] → IsLook (frame_tree nodes f) x l vars new_vars false
    → is_bad x l whole ≡ true
scan-fails nodes t x l places vars new_vars whole items fs f tb h e look =
    let p = scan-top nodes t x l places vars whole items fs f h e in
    bad-part x l (sub (found nodes t) (frame_tree nodes f)) whole p.frame.part
    (bad-term x l (found nodes t) (frame_tree nodes f) (applies_heads-term_tree nodes f.at.0) (λ y q. end-var nodes t f.at.0 y tb p.frame.end q)
    (sym look.good))

-- nothing is left to look through
pub scan-ends : (nodes : Nodes) (t : Table) (x l : ℕ) (places : List At) (vars : List ℕ) (whole : Term) (items : List Frame)
    → IsScanned nodes t x l places vars whole items → items ≡ [] → IsScan t x l vars whole true
scan-ends nodes t x l places vars whole items h e = (closed (IsGood x l vars whole) (IsScanning nodes t x l vars whole) items h.frames e, h.noted)

-- what came of the whole term
pub passed-ends : (nodes : Nodes) (t : Table) (x l : ℕ) (places : List At) (vars : List ℕ) (whole : Term) (b : Bool)
    → IsPassed nodes t x l places vars whole [] b → IsScan t x l vars whole b
passed-ends nodes t x l places vars whole true h = scan-ends nodes t x l places vars whole [] h refl
passed-ends nodes t x l places vars whole false h = h

-- a place found at its slot
pub known-at : (places : List At) (p at : At) (k : ℕ) → k < length places → p ≡ get_or places k p → IsKnown places at (nat_eq p.0 at.0)
known-at places p at k b q = step (nat_eq p.0 at.0) refl
  where
    one : (a c : At) → a.0 ≡ c.0 → a ≡ c
    one a c d = λ i. record { 0 = d i }

    step : (c : Bool) → nat_eq p.0 at.0 ≡ c → IsKnown places at c
    step true e = (k, b, get_or_default places k (record { 0 = 0 }) p b ∙ (sym q ∙ one p at (eqb-true p.0 at.0 e)))
    step false e = tt

-- ---- a look at a sign

spine-own : (u : Term) → is_spine u ≡ true → own_vars u ≡ []
spine-own (Var y) h = cc
spine-own (Int z) h = cc
spine-own (Con k) h = refl
spine-own (Ap f a) h = refl

-- a look at a head with arguments
pub look-app : (u : Term) (h : Head) (ts : List Term) (x l : ℕ) (vars : List ℕ) → u ≡ app h ts → IsLook u x l vars vars (eigen_below l h)
look-app u h ts x l vars e = subst (λ v. IsLook v x l vars vars (eigen_below l h)) (sym e) (record {
  vars = sym (ap (λ ys. vars ++ ys) (spine-own (app h ts) (is_spine-app h ts)) ∙ append-nil vars);
  good = sym (sign-head x l (app h ts) h (head_of-app h ts));
})

-- the place may be left out of those that are remembered
pub scan-noted : (nodes : Nodes) (t : Table) (x l : ℕ) (places after : List At) (at : At) (vars : List ℕ) (whole : Term) (items : List Frame)
    → (after ≡ places ++ at ∷ []) ⊎ (after ≡ places) → IsScanned nodes t x l (places ++ at ∷ []) vars whole items → IsScanned nodes t x l after vars whole items
scan-noted nodes t x l places after at vars whole items d h = elim d [
  | inl e ↦ subst (λ ps. IsScanned nodes t x l ps vars whole items) (sym e) h
  | inr e ↦ subst (λ ps. IsScanned nodes t x l ps vars whole items) (sym e) (record {
    places = All-before (λ (p : At). IsGood x l vars (sub (found nodes t) (term_tree nodes p.0))) places at h.places;
    noted = h.noted;
    frames = h.frames;
  })
]

-- the frame on top is done, and its sign was looked at
pub scan-done : (nodes : Nodes) (t : Table) (x l : ℕ) (places after : List At) (vars new_vars : List ℕ) (whole : Term) (items fs : List Frame) (f : Frame)
    (b : Bool)
    → IsTable nodes t → IsScanned nodes t x l places vars whole items → items ≡ fs ++ f ∷ [] → length (args_in (frame_tree nodes f)) ≤ f.next
    → IsLook (frame_tree nodes f) x l vars new_vars b → (b ≡ true → (after ≡ places ++ f.at ∷ []) ⊎ (after ≡ places))
    → IsPassed nodes t x l after new_vars whole fs b
scan-done nodes t x l places after vars new_vars whole items fs f true tb h e n look p =
    scan-noted nodes t x l places after f.at new_vars whole fs (p refl) (scan-closes nodes t x l places vars new_vars whole items fs f tb h e n look)
scan-done nodes t x l places after vars new_vars whole items fs f false tb h e n look p =
    scan-fails nodes t x l places vars new_vars whole items fs f tb h e look
