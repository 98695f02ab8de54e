-- New variables that stand in no term yet.
use Rattle.std.proofs.Common.{◌≡◌, ◌≢◌, ℕ, ◌+◌, ◌<◌, ◌≤◌, inl, inr, Bool, true, false, List, [], ◌∷◌, ◌++◌, length, get_or, refl, ap, sym, subst, ◌∙◌, arith}
use Rattle.std.proofs.Common.{nat_eq, take, replicate}
use Rattle.std.specs.Prelude.{Result, Ok, Err, IfOk, ◌||◌, ◌&&◌, not, cond, min, Some, None, slice_index, slice_index_or, if◌then◌else◌}
use Rattle.std.specs.Ordering.{int_eq}
use Rattle.std.proofs.lemmas.Bool.{eq-eqb, ne_eqb, cases_lt, or_from as or-both}
use Rattle.std.proofs.lemmas.List.{get_or-replicate, get_or_past, length-replicate, take_more, ext_get_or}
use Rattle.ll_bank.specs.declared.At.{At}
use Rattle.ll_bank.specs.Term.{Term, Var, Int, Con, Ap, sub, occurs, eigens_below, head_eq}
use Rattle.ll_bank.specs.Nodes.{Nodes, term_tree}
use Rattle.ll_laws.specs.Unify.{bound_to, Binding, bind, bind_term, lower, is_older, diff, Diff, Meet, Same, Clash, and_then}
use Rattle.ll_laws.proofs.CallerLemmas.{sub_comp, when-meet, length-lower, level-lower, lower-le, eigens-mono}
use Rattle.ll_unify.specs.declared.fresh.Fresh.{Fresh}
use Rattle.ll_unify.specs.declared.meet.Pair.{Pair}
use Rattle.ll_unify.specs.Bindings.{Table, found, count, cell, IsTable, IsEnd, IsSet, Binds, HasBound, Meets, AreSame}
use Rattle.ll_unify.specs.Scanned.{is_among, is_bad}
use Rattle.ll_unify.specs.Spines.{args_in, ShowsArgument}
use Rattle.ll_unify.specs.Pairs.{lefts}
use Rattle.ll_unify.specs.Fresh.{IsFresh, AreClear, StandsNowhere, AreFresh, LeavesFresh, StaysClear, IsLeft, IsOther}
use Rattle.ll_unify.proofs.Binding.{any-push, bound-other, binds-plain}
use Rattle.ll_unify.proofs.Pairs.{lefts-next, lefts-done, lefts-push}
use Rattle.ll_unify.proofs.Solving.{met}
use Rattle.ll_unify.proofs.Tables.{end-var}
use Rattle.ll_unify.proofs.Readings.{Obeys-found}

-- ---- marks

pub none-false : (n x : ℕ) → slice_index_or (replicate n true) x true ≡ false → ⊥
none-false n x h = elim (cases_lt x n) [
  | inl l ↦ let e = get_or-replicate n x true true l in cc
  | inr l ↦ let e = get_or_past (replicate n true) x true (let k = length-replicate n true in omega arith) in cc
]

-- one variable more was met
pub among-more : (vars : List ℕ) (i x : ℕ) → i < length vars → is_among (take i vars) x ≡ false → x ≢ get_or vars i 0 → is_among (take (i + 1) vars) x ≡ false
among-more vars i x l h n =
    ap (λ ys. is_among ys x) (take_more vars i 0 l)
    ∙ (any-push x (get_or vars i 0) (take i vars) ∙ or-both (is_among (take i vars) x) (nat_eq x (get_or vars i 0)) h (ne_eqb x (get_or vars i 0) n))

-- ---- what is bad in a term

bad-parts : (p q a b : Bool) → ((p || q) || not (a && b)) ≡ false → ((p || not a) ≡ false) × ((q || not b) ≡ false)
bad-parts true q a b h = cc
bad-parts false true a b h = cc
bad-parts false false true true h = (refl, refl)
bad-parts false false true false h = cc
bad-parts false false false b h = cc

bad-whole : (p q a b : Bool) → (p || not a) ≡ false → (q || not b) ≡ false → ((p || q) || not (a && b)) ≡ false
bad-whole true q a b h k = cc
bad-whole false true a b h k = cc
bad-whole false false true true h k = refl
bad-whole false false true false h k = cc
bad-whole false false false b h k = cc

or-none : (b : Bool) → (b || false) ≡ b
or-none true = refl
or-none false = refl

bad-absent : (p a : Bool) → (p || not a) ≡ false → p ≡ false
bad-absent true a h = cc
bad-absent false a h = refl

bad-eigens : (p a : Bool) → (p || not a) ≡ false → a ≡ true
bad-eigens true a h = cc
bad-eigens false true h = refl
bad-eigens false false h = cc

pub clear-of : (x l : ℕ) (u : Term) → occurs x u ≡ false → eigens_below l u ≡ true → is_bad x l u ≡ false
clear-of x l u p q = (λ i. p i || not (q i))

-- another variable is clear
pub clear-var : (x l y : ℕ) → y ≢ x → is_bad x l (Var y) ≡ false
clear-var x l y n = or-none (nat_eq x y) ∙ ne_eqb x y (λ e. n (sym e))

var-other : (x l y : ℕ) → is_bad x l (Var y) ≡ false → y ≢ x
var-other x l y h e = let p : nat_eq x y ≡ true = eq-eqb x y (sym e) in let q : nat_eq x y ≡ false = sym (or-none (nat_eq x y)) ∙ h in cc

pub clear-sub : (x l : ℕ) (s : ℕ → Term) (u : Term) → is_bad x l u ≡ false → ((y : ℕ) → y ≢ x → is_bad x l (s y) ≡ false) → is_bad x l (sub s u) ≡ false
clear-sub x l s (Var y) h k = k y (var-other x l y h)
clear-sub x l s (Int z) h k = h
clear-sub x l s (Con c) h k = h
clear-sub x l s (Ap f a) h k =
    let p = bad-parts (occurs x f) (occurs x a) (eigens_below l f) (eigens_below l a) h in
    bad-whole (occurs x (sub s f)) (occurs x (sub s a)) (eigens_below l (sub s f)) (eigens_below l (sub s a)) (clear-sub x l s f p.0 k)
    (clear-sub x l s a p.1 k)

clear-bound : (x l v : ℕ) (t : Term) → is_bad x l t ≡ false → (y : ℕ) → y ≢ x → is_bad x l (bound_to v t y) ≡ false
clear-bound x l v t h y n = step (nat_eq y v)
  where
    step : (b : Bool) → is_bad x l (if b then t else Var y) ≡ false
    step true = h
    step false = clear-var x l y n

-- ---- lists of terms

module _ (s : ℕ → Term) (x l : ℕ) where
  pub clear-join : (us vs : List Term) → AreClear s x l us → AreClear s x l vs → AreClear s x l (us ++ vs)
  clear-join [] vs h k = k
  clear-join (u ∷ us) vs h k = (h.0, clear-join us vs h.1 k)

  pub clear-before : (us vs : List Term) → AreClear s x l (us ++ vs) → AreClear s x l us
  clear-before [] vs h = tt
  clear-before (u ∷ us) vs h = (h.0, clear-before us vs h.1)

  pub clear-behind : (us vs : List Term) → AreClear s x l (us ++ vs) → AreClear s x l vs
  clear-behind [] vs h = h
  clear-behind (u ∷ us) vs h = clear-behind us vs h.1

  pub clear-args : (u : Term) → is_bad x l (sub s u) ≡ false → AreClear s x l (args_in u)
  clear-args (Var y) h = tt
  clear-args (Int z) h = tt
  clear-args (Con c) h = tt
  clear-args (Ap f a) h =
      let p = bad-parts (occurs x (sub s f)) (occurs x (sub s a)) (eigens_below l (sub s f)) (eigens_below l (sub s a)) h in
      clear-join (args_in f) (a ∷ []) (clear-args f p.0) (p.1, tt)

  -- ---- pending pairs

  pub clear-next : (nodes : Nodes) (items ps : List Pair) (p q : Pair) (a : At) → items ≡ ps ++ p ∷ [] → ShowsArgument nodes p.left.0 p.next a.0
      → q.left ≡ p.left → q.next ≡ p.next + 1
      → AreClear s x l (lefts nodes items) → AreClear s x l (term_tree nodes a.0 ∷ lefts nodes (ps ++ q ∷ []))
  clear-next nodes items ps p q a e sa ql qn h = subst (AreClear s x l) (lefts-next nodes items ps p q a e sa ql qn) h

  pub clear-done : (nodes : Nodes) (items ps : List Pair) (p : Pair) → items ≡ ps ++ p ∷ [] → length (args_in (term_tree nodes p.left.0)) ≤ p.next
      → AreClear s x l (lefts nodes items) → AreClear s x l (lefts nodes ps)
  clear-done nodes items ps p e n h = subst (AreClear s x l) (lefts-done nodes items ps p e n) h

  pub clear-same : (u v : Term) (us : List Term) → sub s v ≡ sub s u → AreClear s x l (u ∷ us) → AreClear s x l (v ∷ us)
  clear-same u v us e h = (ap (is_bad x l) e ∙ h.0, h.1)

  pub clear-open : (nodes : Nodes) (ps : List Pair) (u : Term) (a b : At) → sub s (term_tree nodes a.0) ≡ sub s u → AreClear s x l (u ∷ lefts nodes ps)
      → AreClear s x l (lefts nodes (ps ++ (record { left = a; right = b; next = 0 }) ∷ []))
  clear-open nodes ps u a b e h =
      subst (AreClear s x l) (sym (lefts-push nodes ps (record { left = a; right = b; next = 0 })))
      (clear-join (args_in (term_tree nodes a.0)) (lefts nodes ps) (clear-args (term_tree nodes a.0) (ap (is_bad x l) e ∙ h.0)) h.1)

-- ---- where two terms first differ

record IsClearMeet (x l v : ℕ) (t : Term) : Type 0 where
  other : v ≢ x
  clear : is_bad x l t ≡ false

meet-is : (x l v w : ℕ) (t u : Term) → Meet w u ≡ Meet v t → w ≢ x → is_bad x l u ≡ false → IsClearMeet x l v t
meet-is x l v w t u e n h =
    let p : w ≡ v = cc in let q : u ≡ t = cc in
    record { other = λ i. n (p ∙ i); clear = ap (is_bad x l) (sym q) ∙ h }

diff-clear : (x l : ℕ) (p q : Term) (v : ℕ) (t : Term) → diff p q ≡ Meet v t → is_bad x l p ≡ false → is_bad x l q ≡ false → IsClearMeet x l v t
diff-clear x l (Var a) (Var b) v t e h k = step (nat_eq a b) e
  where
    step : (c : Bool) → (if c then Same else Meet a (Var b)) ≡ Meet v t → IsClearMeet x l v t
    step true d = cc
    step false d = meet-is x l v a t (Var b) d (var-other x l a h) k
diff-clear x l (Var a) (Int z) v t e h k = meet-is x l v a t (Int z) e (var-other x l a h) k
diff-clear x l (Var a) (Con c) v t e h k = meet-is x l v a t (Con c) e (var-other x l a h) k
diff-clear x l (Var a) (Ap f g) v t e h k = meet-is x l v a t (Ap f g) e (var-other x l a h) k
diff-clear x l (Int y) (Var a) v t e h k = meet-is x l v a t (Int y) e (var-other x l a k) h
diff-clear x l (Int y) (Int z) v t e h k = absurd (when-meet (int_eq y z) v t e)
diff-clear x l (Int y) (Con c) v t e h k = cc
diff-clear x l (Int y) (Ap f a) v t e h k = cc
diff-clear x l (Con c) (Var a) v t e h k = meet-is x l v a t (Con c) e (var-other x l a k) h
diff-clear x l (Con c) (Int z) v t e h k = cc
diff-clear x l (Con c) (Con d) v t e h k = absurd (when-meet (head_eq c d) v t e)
diff-clear x l (Con c) (Ap f a) v t e h k = cc
diff-clear x l (Ap f a) (Var b) v t e h k = meet-is x l v b t (Ap f a) e (var-other x l b k) h
diff-clear x l (Ap f a) (Int z) v t e h k = cc
diff-clear x l (Ap f a) (Con c) v t e h k = cc
diff-clear x l (Ap f a) (Ap g b) v t e h k = step (λ i. diff-clear x l a b v t i p.1 q.1) (λ i. diff-clear x l f g v t i p.0 q.0) (diff f g) refl e
  where
    p : (is_bad x l f ≡ false) × (is_bad x l a ≡ false)
    p = bad-parts (occurs x f) (occurs x a) (eigens_below l f) (eigens_below l a) h

    q : (is_bad x l g ≡ false) × (is_bad x l b ≡ false)
    q = bad-parts (occurs x g) (occurs x b) (eigens_below l g) (eigens_below l b) k

    step : (diff a b ≡ Meet v t → IsClearMeet x l v t) → (diff f g ≡ Meet v t → IsClearMeet x l v t) → (d : Diff) → diff f g ≡ d
        → and_then d (diff a b) ≡ Meet v t → IsClearMeet x l v t
    step args heads Same i j = args j
    step args heads Clash i j = cc
    step args heads (Meet w u) i j = heads (i ∙ j)

-- ---- a binding

-- a binding leaves a variable alone
record LeavesAlone (x l : ℕ) (levels : List ℕ) (b : Binding) : Type 0 where
  other : b.var ≢ x
  clear : is_bad x l b.value ≡ false
  own : slice_index b.levels x ≡ slice_index levels x
  falls : (y : ℕ) → slice_index b.levels y ≤ slice_index levels y

alone : (x l : ℕ) (levels : List ℕ) (b c : Binding) → Some b ≡ Some c → LeavesAlone x l levels b → LeavesAlone x l levels c
alone x l levels b c e h = let p : b ≡ c = cc in subst (LeavesAlone x l levels) p h

bind_term-alone : (x l : ℕ) (levels : List ℕ) (v : ℕ) (t : Term) (b : Binding) → bind_term levels v t ≡ Some b → v ≢ x → is_bad x l t ≡ false
    → LeavesAlone x l levels b
bind_term-alone x l levels v t b e n h = step (occurs v t || not (eigens_below (slice_index levels v) t)) e
  where
    step : (c : Bool) → (if c then None else Some (record { var = v; value = t; levels = lower (slice_index levels v) t levels })) ≡ Some b
        → LeavesAlone x l levels b
    step true d = cc
    step false d = alone x l levels (record { var = v; value = t; levels = lower (slice_index levels v) t levels }) b d (record {
      other = n;
      clear = h;
      own = level-lower (slice_index levels v) t levels x ∙ ap (λ o. cond o (min (slice_index levels x) (slice_index levels v)) (slice_index levels x))
          (bad-absent (occurs x t) (eigens_below l t) h);
      falls = λ y. lower-le (slice_index levels v) t levels y;
    })

bind-alone : (x l : ℕ) (levels : List ℕ) (v : ℕ) (t : Term) (b : Binding) → bind levels v t ≡ Some b → v ≢ x → is_bad x l t ≡ false → LeavesAlone x l levels b
bind-alone x l levels v (Var w) b e n h = step (is_older levels v w) e
  where
    step : (c : Bool) → (if c then Some (record { var = w; value = Var v; levels = levels }) else Some (record { var = v; value = Var w; levels = levels }))
        ≡ Some b → LeavesAlone x l levels b
    step true d = alone x l levels (record { var = w; value = Var v; levels = levels }) b d
        (record { other = var-other x l w h; clear = clear-var x l v n; own = refl; falls = λ y. omega arith })
    step false d = alone x l levels (record { var = v; value = Var w; levels = levels }) b d
        (record { other = n; clear = h; own = refl; falls = λ y. omega arith })
bind-alone x l levels v (Int z) b e n h = bind_term-alone x l levels v (Int z) b e n h
bind-alone x l levels v (Con c) b e n h = bind_term-alone x l levels v (Con c) b e n h
bind-alone x l levels v (Ap f a) b e n h = bind_term-alone x l levels v (Ap f a) b e n h

module _ (nodes : Nodes) (old new : Table) (u v : Term) where
  -- a variable that stands nowhere, and not in the other of two terms that were made the same either, goes on to stand nowhere
  stands-on : (us : List Term) (x : ℕ) → Meets nodes old new u v true → is_bad x (slice_index old.levels x) (sub (found nodes old) v) ≡ false
      → StandsNowhere nodes old (u ∷ us) x → StandsNowhere nodes new us x
  stands-on us x m h n =
      let r = met nodes old new u v m in
      let d = diff-clear x (slice_index old.levels x) (sub (found nodes old) u) (sub (found nodes old) v) m.var m.value m.meet n.terms.0 h in
      step r.0 r.2 (bind-alone x (slice_index old.levels x) old.levels m.var m.value r.0 r.1 d.other d.clear)
    where
      step : (b : Binding) → HasBound nodes old new u v b → LeavesAlone x (slice_index old.levels x) old.levels b → StandsNowhere nodes new us x
      step b c a =
          subst (λ (f : ℕ → Term). (f x ≡ Var x) × ((y : ℕ) → y ≢ x → is_bad x (slice_index old.levels x) (f y) ≡ false)
          × AreClear f x (slice_index old.levels x) us → StandsNowhere nodes new us x)
          (λ i y. c.subst y i) finish (here, there, listed us n.terms.1)
        where
          g : ℕ → Term
          g = bound_to b.var b.value

          level : slice_index old.levels x ≡ slice_index new.levels x
          level = sym (ap (λ ls. slice_index ls x) c.levels ∙ a.own)

          finish : (found nodes new x ≡ Var x) × ((y : ℕ) → y ≢ x → is_bad x (slice_index old.levels x) (found nodes new y) ≡ false)
              × AreClear (found nodes new) x (slice_index old.levels x) us → StandsNowhere nodes new us x
          finish h = record {
            own = h.0;
            others = subst (λ l. (y : ℕ) → y ≢ x → is_bad x l (found nodes new y) ≡ false) level h.1;
            terms = subst (λ l. AreClear (found nodes new) x l us) level h.2;
            newest = λ y. let p = ap (λ ls. slice_index ls y) c.levels in let q = a.falls y in let r = n.newest y in let s = level in omega arith;
          }

          here : sub g (found nodes old x) ≡ Var x
          here = ap (sub g) n.own ∙ bound-other b.var x b.value (λ e. a.other (sym e))

          clear : (w : Term) → is_bad x (slice_index old.levels x) w ≡ false → is_bad x (slice_index old.levels x) (sub g w) ≡ false
          clear w k = clear-sub x (slice_index old.levels x) g w k (clear-bound x (slice_index old.levels x) b.var b.value a.clear)

          there : (y : ℕ) → y ≢ x → is_bad x (slice_index old.levels x) (sub g (found nodes old y)) ≡ false
          there y k = clear (found nodes old y) (n.others y k)

          listed : (ws : List Term) → AreClear (found nodes old) x (slice_index old.levels x) ws
              → AreClear (λ y. sub g (found nodes old y)) x (slice_index old.levels x) ws
          listed [] k = tt
          listed (w ∷ ws) k = (
            ap (is_bad x (slice_index old.levels x)) (sym (sub_comp g (found nodes old) w)) ∙ clear (sub (found nodes old) w) k.0,
            listed ws k.1,
          )

  pub leaves-meet : (before after : Fresh) → Meets nodes old new u v true → ((x : ℕ) → IsFresh after x → StaysClear nodes old before v x)
      → LeavesFresh nodes old new before after (u ∷ []) []
  leaves-meet before after m h more f x q b =
      let r = met nodes old new u v m in
      let same : count new ≡ count old = ap (λ ls. length ls) r.2.levels ∙ r.2.count in
      let n = f x (h x q).0 (let e = same in omega arith) in
      stands-on more x m ((h x q).1 n.newest) n

  -- a variable on the left was bound to a term
  pub leaves-term : (before after : Fresh) (x : ℕ) → Meets nodes old new u v true
      → ((z : ℕ) → IsFresh after z → IsLeft before old.levels x (sub (found nodes old) v) z) → LeavesFresh nodes old new before after (u ∷ []) []
  leaves-term before after x m h =
      leaves-meet before after m (λ z f. let k = h z f in (
        k.was,
        λ n. clear-of z (slice_index old.levels z) (sub (found nodes old) v) k.absent
            (eigens-mono (slice_index old.levels x) (slice_index old.levels z) (sub (found nodes old) v) (n x) k.eigens),
      ))

-- a variable on the right was met
pub leaves-var : (nodes : Nodes) (old new : Table) (left right : At) (before after : Fresh) (y : ℕ) → IsTable nodes old → IsEnd nodes old right.0
    → term_tree nodes right.0 ≡ Var y
    → Meets nodes old new (term_tree nodes left.0) (term_tree nodes right.0) true → ((z : ℕ) → IsFresh after z → IsOther before y z)
    → LeavesFresh nodes old new before after (term_tree nodes left.0 ∷ []) []
leaves-var nodes old new left right before after y tb en e m h =
    let is : sub (found nodes old) (term_tree nodes right.0) ≡ Var y = ap (sub (found nodes old)) e ∙ end-var nodes old right.0 y tb en e in
    leaves-meet nodes old new (term_tree nodes left.0) (term_tree nodes right.0) before after m (λ z f. let k = h z f in
    (k.was, λ n. ap (is_bad z (slice_index old.levels z)) is ∙ clear-var z (slice_index old.levels z) y (λ i. k.other (sym i))))

-- ---- lists on the left

module _ (nodes : Nodes) (t : Table) (f : Fresh) where
  -- terms in which no more stands
  pub fresh-keeps : (us vs : List Term) → ((x l : ℕ) → AreClear (found nodes t) x l us → AreClear (found nodes t) x l vs) → AreFresh nodes t f us
      → AreFresh nodes t f vs
  fresh-keeps us vs k h x i b = let n = h x i b in record { own = n.own; others = n.others; terms = k x (slice_index t.levels x) n.terms; newest = n.newest }

  pub fresh-first : (u : Term) (us : List Term) → AreFresh nodes t f (u ∷ us) → AreFresh nodes t f (u ∷ [])
  fresh-first u us h = fresh-keeps (u ∷ us) (u ∷ []) (λ x l c. (c.0, tt)) h

  pub fresh-same : (u v : Term) (us : List Term) → AreSame nodes t v u → IsTable nodes t → AreFresh nodes t f (u ∷ us) → AreFresh nodes t f (v ∷ us)
  fresh-same u v us e tb h = fresh-keeps (u ∷ us) (v ∷ us) (λ x l c.
      clear-same (found nodes t) x l u v us (e (found nodes t) (Obeys-found nodes t tb.ordered)) c) h

  pub fresh-open : (u : Term) (a b : At) (more : List Term) → AreSame nodes t (term_tree nodes a.0) u → IsTable nodes t → AreFresh nodes t f (u ∷ more)
      → AreFresh nodes t f (lefts nodes ([] ++ (record { left = a; right = b; next = 0 }) ∷ []) ++ more)
  fresh-open u a b more e tb h =
      let ls = lefts nodes ([] ++ (record { left = a; right = b; next = 0 }) ∷ []) in
      fresh-keeps (u ∷ more) (ls ++ more) (λ x l c. clear-join (found nodes t) x l ls more
      (clear-open (found nodes t) x l nodes [] u a b (e (found nodes t) (Obeys-found nodes t tb.ordered)) (c.0, tt)) c.1) h

  pub fresh-nil : (us : List Term) → AreFresh nodes t f us → AreFresh nodes t f (us ++ [])
  fresh-nil us h = fresh-keeps us (us ++ []) (λ x l c. clear-join (found nodes t) x l us [] c tt) h

  pub fresh-without : (us : List Term) → AreFresh nodes t f (us ++ []) → AreFresh nodes t f us
  fresh-without us h = fresh-keeps (us ++ []) us (λ x l c. clear-before (found nodes t) x l us [] c) h

  -- terms that are equal
  pub leaves-front : (u : Term) → LeavesFresh nodes t t f f (u ∷ []) []
  leaves-front u more h = fresh-keeps (u ∷ more) more (λ x l c. c.1) h

module _ (nodes : Nodes) (old new : Table) (before after : Fresh) where
  pub leaves-same : (u v : Term) → AreSame nodes old v u → IsTable nodes old → LeavesFresh nodes old new before after (v ∷ []) []
      → LeavesFresh nodes old new before after (u ∷ []) []
  leaves-same u v e tb l more h = l more (fresh-same nodes old before u v more e tb h)

  pub leaves-open : (u : Term) (a b : At) → AreSame nodes old (term_tree nodes a.0) u → IsTable nodes old
      → LeavesFresh nodes old new before after (lefts nodes ([] ++ (record { left = a; right = b; next = 0 }) ∷ [])) []
      → LeavesFresh nodes old new before after (u ∷ []) []
  leaves-open u a b e tb l more h = l more (fresh-open nodes old before u a b more e tb h)

  -- the terms that are left are passed over
  pub leaves-all : (us vs : List Term) → LeavesFresh nodes old new before after us vs → LeavesFresh nodes old new before after us []
  leaves-all us vs l more h = fresh-keeps nodes new after (vs ++ more) more (λ x k c. clear-behind (found nodes new) x k vs more c) (l more h)

-- what comes first of what is left
pub front-fresh : (nodes : Nodes) (old now : Table) (before f : Fresh) (us vs rest : List Term) (u : Term) → LeavesFresh nodes old now before f us vs
    → AreFresh nodes old before us
    → ((x l : ℕ) → AreClear (found nodes now) x l vs → AreClear (found nodes now) x l (u ∷ rest)) → AreFresh nodes now f (u ∷ [])
front-fresh nodes old now before f us vs rest u l h k =
    fresh-first nodes now f u rest (fresh-keeps nodes now f vs (u ∷ rest) k (fresh-without nodes now f vs (l [] (fresh-nil nodes old before us h))))

-- it was bound
pub leaves-next : (nodes : Nodes) (old now new : Table) (before f after : Fresh) (us vs rest : List Term) (u : Term) → LeavesFresh nodes old now before f us vs
    → ((x l : ℕ) → AreClear (found nodes now) x l vs → AreClear (found nodes now) x l (u ∷ rest)) → LeavesFresh nodes now new f after (u ∷ []) []
    → LeavesFresh nodes old new before after us rest
leaves-next nodes old now new before f after us vs rest u l k b more h =
    b (rest ++ more) (fresh-keeps nodes now f (vs ++ more) (u ∷ (rest ++ more))
    (λ x j c. let d = k x j (clear-before (found nodes now) x j vs more c) in
    (d.0, clear-join (found nodes now) x j rest more d.1 (clear-behind (found nodes now) x j vs more c))) (l more h))

-- two facts of an answer
pub both : {A E : Type 0} (r : Result A E) (P Q R : A → Type 0) → ((a : A) → P a → Q a → R a) → IfOk r P → IfOk r Q → IfOk r R
both (Ok a) P Q R f p q = f a p q
both (Err e) P Q R f p q = tt

-- ---- a new variable and a term

lower-none : (l : ℕ) (t : Term) (levels : List ℕ) → ((y : ℕ) → slice_index levels y ≤ l) → length (lower l t levels) ≡ length levels → lower l t levels ≡ levels
lower-none l t levels h n = ext_get_or 0 (lower l t levels) levels n (λ y k. level-lower l t levels y ∙ step (occurs y t) (slice_index levels y) (h y))
  where
    step : (b : Bool) (m : ℕ) → m ≤ l → cond b (min m l) m ≡ m
    step true m k = omega arith
    step false m k = refl

-- a variable that stands nowhere may be bound to a term at once
pub binds-fresh : (nodes : Nodes) (old new : Table) (x : ℕ) (to : At) (us : List Term) → IsTable nodes old → x < count old → cell old x ≡ None
    → IsEnd nodes old to.0 → ((y : ℕ) → term_tree nodes to.0 ≡ Var y → ⊥)
    → StandsNowhere nodes old (term_tree nodes to.0 ∷ us) x → IsSet old new x to
    → Binds nodes old new (Var x) (term_tree nodes to.0) (bind old.levels x (sub (found nodes old) (term_tree nodes to.0))) true
binds-fresh nodes old new x to us tb b fr en n h set =
    let l = slice_index old.levels x in let t = sub (found nodes old) (term_tree nodes to.0) in
    binds-plain nodes old new x to tb b fr en n (bad-absent (occurs x t) (eigens_below l t) h.terms.0) (bad-eigens (occurs x t) (eigens_below l t) h.terms.0)
    (lower-none l t old.levels h.newest (length-lower l t old.levels)) set
