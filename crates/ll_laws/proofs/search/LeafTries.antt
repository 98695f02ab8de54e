-- A leaf that can be taken for an atom is among the candidates.
use Rattle.std.proofs.Common.{◌≡◌, inl, inr, ℕ, zero, suc, ◌+◌, ◌-◌, refl, ap, sym, subst, ◌∙◌, Bool, true, false, List, [], ◌∷◌, ◌++◌, length, nat_eq, arith}
use Rattle.std.specs.Prelude.{◌&&◌, if◌then◌else◌, nat_lt, Option, Some, option_map, slice_get, slice_index_or, flat_map}
use Rattle.std.proofs.lemmas.Bool.{eqb-true, eq-eqb}
use Rattle.std.proofs.lemmas.List.Concat.{flat_map-cons}
use Rattle.ll_bank.specs.declared.Head.{Head}
use Rattle.ll_bank.specs.declared.Head.TheVariants.{Name, Eigen, Bound}
use Rattle.ll_bank.specs.Term.{Term, Var, Int, Con, Ap, Env, sub, close, head_of, arity, is_spine, same_head, same_predicate}
use Rattle.ll_bank.specs.Form.{Form, Atom, With, Lolli, Imp, Forall, close_form}
use Rattle.ll_laws.specs.declared.Candidate.{Candidate}
use Rattle.ll_laws.specs.Leaf.{Premise, Needs, NeedsFree, Leaf, add_premise, leaf_from, leaf, ways}
use Rattle.ll_laws.specs.Settle.{Entry}
use Rattle.ll_laws.specs.Attempt.{entry_at, is_open, fits_head, leaf_head, leaf_tries, entry_tries, vars_from}
use Rattle.ll_laws.specs.Valid.{Allowed, Scope, ClauseSide}
use Rattle.ll_laws.proofs.unification.UnifyLaws.{head_eq-refl}
use Rattle.ll_laws.proofs.consistency.ConsistentTerms.{IsHead}
use Rattle.ll_laws.proofs.consistency.ConsistentForms.{FormFits}
use Rattle.ll_laws.proofs.consistency.ConsistentStates.{length-vars}
use Rattle.ll_laws.proofs.search.LeafWays.{under}
use Rattle.ll_laws.proofs.search.AnswerRuns.{Among}

-- ---- elements of lists

pub among_left : {A : Type 0} (x : A) (xs ys : List A) → Among x xs → Among x (xs ++ ys)
among_left x [] ys h = absurd h
among_left x (z ∷ xs) ys (inl e) = inl e
among_left x (z ∷ xs) ys (inr h) = inr (among_left x xs ys h)

pub among_right : {A : Type 0} (x : A) (xs ys : List A) → Among x ys → Among x (xs ++ ys)
among_right x [] ys h = h
among_right x (z ∷ xs) ys h = inr (among_right x xs ys h)

pub among_flat : {A B : Type 0} (f : A → List B) (x : A) (xs : List A) (y : B) → Among x xs → Among y (f x) → Among y (flat_map f xs)
among_flat f x [] y h k = absurd h
among_flat f x (z ∷ xs) y (inl e) k = subst (Among y) (sym (flat_map-cons f z xs)) (among_left y (f z) (flat_map f xs) (subst (λ w. Among y (f w)) (sym e) k))
among_flat f x (z ∷ xs) y (inr h) k = subst (Among y) (sym (flat_map-cons f z xs)) (among_right y (f z) (flat_map f xs) (among_flat f x xs y h k))

-- ---- the head of a leaf, whatever terms open it

-- no bound place may be a head
NoHeads : Scope → Type 0
NoHeads scope = (k : ℕ) → slice_index_or scope k false ≡ false

no_heads-under : (scope : Scope) → NoHeads scope → NoHeads (false ∷ scope)
unfolding NoHeads
no_heads-under scope h zero = refl
no_heads-under scope h (suc k) = h k

close-head : (scope : Scope) → NoHeads scope → (e d : Env) (t : Term) → IsHead scope t → head_of (close e t) ≡ head_of (close d t)
unfolding NoHeads
close-head scope n e d (Var x) h = cc
close-head scope n e d (Int z) h = cc
close-head scope n e d (Con (Name k)) h = refl
close-head scope n e d (Con (Eigen k)) h = refl
close-head scope n e d (Con (Bound k)) h = let a : true ≡ false = sym (h.1) ∙ n k in cc
close-head scope n e d (Ap t u) h = close-head scope n e d t h

close-arity : (scope : Scope) → NoHeads scope → (e d : Env) (t : Term) → IsHead scope t → arity (close e t) ≡ arity (close d t)
unfolding NoHeads
close-arity scope n e d (Var x) h = cc
close-arity scope n e d (Int z) h = cc
close-arity scope n e d (Con (Name k)) h = refl
close-arity scope n e d (Con (Eigen k)) h = refl
close-arity scope n e d (Con (Bound k)) h = let a : true ≡ false = sym (h.1) ∙ n k in cc
close-arity scope n e d (Ap t u) h = ap (λ m. suc m) (close-arity scope n e d t h)

-- the same leaf opened with other terms
record Likewise (o : Option Leaf) (l : Leaf) : Type 0 where
  leaf_of : Leaf
  is : o ≡ Some leaf_of
  head : head_of l.head ≡ head_of leaf_of.head
  places : arity l.head ≡ arity leaf_of.head

add_likewise : (p : Premise) (o : Option Leaf) (i l : Leaf) → l.head ≡ i.head → Likewise o i → Likewise (option_map (add_premise p) o) l
add_likewise p o i l e w = record {
  leaf_of = add_premise p w.leaf_of;
  is = ap (option_map (add_premise p)) w.is;
  head = ap head_of e ∙ w.head;
  places = ap arity e ∙ w.places;
}

likewise : (may : Allowed) (scope : Scope) (e d : Env) (r : Form) (k : ℕ) (us ws : List Term) (l : Leaf) → NoHeads scope → FormFits may ClauseSide scope r
    → length us ≡ length ws → leaf_from e r k us ≡ Some l
    → Likewise (leaf_from d r k ws) l
likewise may scope e d (Atom a) zero [] [] l n f q h =
    let x : Leaf = record { premises = []; head = close e a } in
    let w : x ≡ l = cc in
    let y : Likewise (Some (record { premises = []; head = close d a })) x =
    record { leaf_of = record { premises = []; head = close d a }; is = refl; head = close-head scope n e d a f.0; places = close-arity scope n e d a f.0 } in
    subst (λ z. Likewise (Some (record { premises = []; head = close d a })) z) w y
likewise may scope e d (Atom a) zero [] (w ∷ ws) l n f q h = absurd (omega arith)
likewise may scope e d (Atom a) zero (u ∷ us) ws l n f q h = cc
likewise may scope e d (Atom a) (suc k) [] ws l n f q h = cc
likewise may scope e d (Atom a) (suc k) (u ∷ us) ws l n f q h = cc
likewise may scope e d (With p r) k us ws l n f q h =
    step (nat_lt k (length (ways p))) (likewise may scope e d p k us ws l n f.0 q) (likewise may scope e d r (k - length (ways p)) us ws l n f.1 q) h
  where
    step : (b : Bool) → (leaf_from e p k us ≡ Some l → Likewise (leaf_from d p k ws) l)
        → (leaf_from e r (k - length (ways p)) us ≡ Some l → Likewise (leaf_from d r (k - length (ways p)) ws) l)
        → (if b then leaf_from e p k us else leaf_from e r (k - length (ways p)) us) ≡ Some l
        → Likewise (if b then leaf_from d p k ws else leaf_from d r (k - length (ways p)) ws) l
    step true i j h = i h
    step false i j h = j h
likewise may scope e d (Lolli g r) k us ws l n f q h =
    let u = under _ (leaf_from e r k us) l h in add_likewise (Needs (close_form d g)) (leaf_from d r k ws) u.inner l u.same
    (likewise may scope e d r k us ws u.inner n f.1 q u.is)
likewise may scope e d (Imp g r) k us ws l n f q h =
    let u = under _ (leaf_from e r k us) l h in add_likewise (NeedsFree (close_form d g)) (leaf_from d r k ws) u.inner l u.same
    (likewise may scope e d r k us ws u.inner n f.1 q u.is)
likewise may scope e d (Forall r) k [] ws l n f q h = cc
likewise may scope e d (Forall r) k (u ∷ us) [] l n f q h = absurd (omega arith)
likewise may scope e d (Forall r) k (u ∷ us) (w ∷ ws) l n f q h =
    likewise may (false ∷ scope) (Some u ∷ e) (Some w ∷ d) r k us ws l (no_heads-under scope n) f (omega arith) h
likewise may scope e d _ k us ws l n f q h = cc

-- ---- an atom and a head that a substitution makes equal

pub sub-head : (f : ℕ → Term) (t : Term) → is_spine t ≡ true → head_of (sub f t) ≡ head_of t
sub-head f (Var x) h = cc
sub-head f (Int z) h = cc
sub-head f (Con k) h = refl
sub-head f (Ap t u) h = sub-head f t h

sub-arity : (f : ℕ → Term) (t : Term) → is_spine t ≡ true → arity (sub f t) ≡ arity t
sub-arity f (Var x) h = cc
sub-arity f (Int z) h = cc
sub-arity f (Con k) h = refl
sub-arity f (Ap t u) h = ap (λ m. suc m) (sub-arity f t h)

same_heads : (t : Term) (o : Option Head) → is_spine t ≡ true → head_of t ≡ o → same_head (head_of t) o ≡ true
same_heads t o s e = ap (same_head (head_of t)) (sym e) ∙ self t s
  where
    self : (t : Term) → is_spine t ≡ true → same_head (head_of t) (head_of t) ≡ true
    self (Var x) h = cc
    self (Int z) h = cc
    self (Con k) h = head_eq-refl k
    self (Ap t u) h = self t h

predicates : (t u : Term) → is_spine t ≡ true → head_of t ≡ head_of u → arity t ≡ arity u → same_predicate t u ≡ true
predicates t u s h a = ap (λ b. b && nat_eq (arity t) (arity u)) (same_heads t (head_of u) s h) ∙ eq-eqb (arity t) (arity u) a

-- a leaf whose head can be made equal to the atom passes the test of heads
pub leaf-head-fits : (may : Allowed) (f : ℕ → Term) (a : Term) (r : Form) (k n m : ℕ) (l : Leaf) → IsHead [] a → IsHead [] l.head → FormFits may ClauseSide [] r
    → leaf r k (vars_from m n) ≡ Some l
    → sub f a ≡ sub f l.head → fits_head a (leaf_head r k n) ≡ true
unfolding NoHeads
leaf-head-fits may f a r k n m l ha hl fr h e =
    let w = likewise may [] [] [] r k (vars_from m n) (vars_from 0 n) l (λ j. refl) fr (length-vars m n ∙ sym (length-vars 0 n)) h in
    let p : head_of a ≡ head_of w.leaf_of.head = sym (sub-head f a ha.0) ∙ (ap head_of e ∙ (sub-head f l.head hl.0 ∙ w.head)) in
    let q : arity a ≡ arity w.leaf_of.head = sym (sub-arity f a ha.0) ∙ (ap arity e ∙ (sub-arity f l.head hl.0 ∙ w.places)) in
    ap (λ o. fits_head a (option_map (λ z. z.head) o)) w.is ∙ predicates a w.leaf_of.head ha.0 p q

-- ---- the candidates

in_leaf_tries : (a : Term) (e : Entry Form) (k : ℕ) (ns : List ℕ) (j n m : ℕ) → slice_get ns j ≡ Some n → k + j ≡ m
    → fits_head a (leaf_head e.clause m n) ≡ true
    → Among {A = Candidate} (record { label = e.label; leaf = m }) (leaf_tries a e k ns)
in_leaf_tries a e k [] j n m q s f = cc
in_leaf_tries a e k (x ∷ ns) zero n m q s f =
    let i : k ≡ m = omega arith in
    let v : x ≡ n = cc in
    let w : fits_head a (leaf_head e.clause k x) ≡ true = subst (λ z. fits_head a (leaf_head e.clause z x) ≡ true) (sym i)
    (subst (λ z. fits_head a (leaf_head e.clause m z) ≡ true) (sym v) f) in
    first (fits_head a (leaf_head e.clause k x)) w i
  where
    first : (b : Bool) → b ≡ true → k ≡ m → Among {A = Candidate} (record { label = e.label; leaf = m })
        (if b then record { label = e.label; leaf = k } ∷ leaf_tries a e (suc k) ns else leaf_tries a e (suc k) ns)
    first true h i = inl (ap (λ z. record { label = e.label; leaf = z }) i)
    first false h i = cc
in_leaf_tries a e k (x ∷ ns) (suc j) n m q s f = later (fits_head a (leaf_head e.clause k x)) (in_leaf_tries a e (suc k) ns j n m q (omega arith) f)
  where
    later : (b : Bool) → Among {A = Candidate} (record { label = e.label; leaf = m }) (leaf_tries a e (suc k) ns)
        → Among {A = Candidate} (record { label = e.label; leaf = m })
        (if b then record { label = e.label; leaf = k } ∷ leaf_tries a e (suc k) ns else leaf_tries a e (suc k) ns)
    later true h = inr h
    later false h = h

in_entry_tries : (a : Term) (e : Entry Form) (k n : ℕ) → is_open e ≡ true → slice_get (ways e.clause) k ≡ Some n → fits_head a (leaf_head e.clause k n) ≡ true
    → Among {A = Candidate} (record { label = e.label; leaf = k }) (entry_tries a e)
in_entry_tries a e k n o q f = step (is_open e) o
  where
    step : (b : Bool) → b ≡ true → Among {A = Candidate} (record { label = e.label; leaf = k }) (if b then leaf_tries a e 0 (ways e.clause) else [])
    step true h = in_leaf_tries a e 0 (ways e.clause) k n k q (omega arith) f
    step false h = cc

-- an entry that is found by its label
pub record FoundAt (es : List (Entry Form)) (label : ℕ) (e : Entry Form) : Type 0 where
  pub among : Among e es
  pub same : e.label ≡ label

pub found_at : (es : List (Entry Form)) (label : ℕ) (e : Entry Form) → entry_at es label ≡ Some e → FoundAt es label e
found_at [] label e h = cc
found_at (x ∷ es) label e h = step (nat_eq x.label label) refl (found_at es label e) h
  where
    step : (b : Bool) → nat_eq x.label label ≡ b → (entry_at es label ≡ Some e → FoundAt es label e) → (if b then Some x else entry_at es label) ≡ Some e
        → FoundAt (x ∷ es) label e
    step true q go h = let i : x ≡ e = cc in record { among = inl i; same = ap (λ z. z.label) (sym i) ∙ eqb-true x.label label q }
    step false q go h = let r = go h in record { among = inr r.among; same = r.same }

-- a leaf of an open entry, whose head passes the test, is a candidate
pub in_tries : (a : Term) (es : List (Entry Form)) (label k n : ℕ) (e : Entry Form) → entry_at es label ≡ Some e → is_open e ≡ true
    → slice_get (ways e.clause) k ≡ Some n
    → fits_head a (leaf_head e.clause k n) ≡ true → Among {A = Candidate} (record { label = label; leaf = k }) (flat_map (entry_tries a) es)
in_tries a es label k n e h o q f =
    let w = found_at es label e h in
    subst (λ z. Among {A = Candidate} (record { label = z; leaf = k }) (flat_map (entry_tries a) es)) w.same
    (among_flat (entry_tries a) e es _ w.among (in_entry_tries a e k n o q f))
