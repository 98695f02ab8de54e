-- The leaves of a clause by the predicates of their heads.
use Rattle.std.proofs.Common.{◌≡◌, ℕ, zero, suc, ◌+◌, ◌-◌, ◌<◌, List, [], ◌∷◌, ◌++◌, length, map, refl, ap, sym, subst, ◌∙◌, arith, Option, Some, None, Bool}
use Rattle.std.proofs.Common.{true, false, get_or, take, append_assoc}
use Rattle.std.specs.Prelude.{if◌then◌else◌, nat_lt, nat_eq, slice_get, option_map, ◌&&◌, flat_map}
use Rattle.std.proofs.lemmas.Bool.{ltb-true, ltb-false}
use Rattle.std.proofs.lemmas.List.{append-nil}
use Rattle.std.proofs.Math.ListN.{get_or-append}
use Rattle.ll_list_laws.proofs.CallerLemmas.{slice_get-append_left as get_left, slice_get-append_right as get_right}
use Rattle.ll_list_laws.proofs.CallerLemmas.{length-map_suc as length-suc, and_true_left as and_left, lt_zero as none_below}
use Rattle.ll_bank.specs.declared.Head.{Head}
use Rattle.ll_bank.specs.declared.Head.TheVariants.{Name, Eigen, Bound}
use Rattle.ll_bank.specs.Term.{Term, Var, Int, Con, Ap, Env, place, close, head_of, arity, head_eq, same_head, not_bound}
use Rattle.ll_bank.specs.Form.{Form, Top, One, Atom, With, Tensor, Plus, Bang, Lolli, Imp, Forall, Exists, Use, Num, close_form}
use Rattle.ll_laws.specs.declared.Candidate.{Candidate}
use Rattle.ll_laws.specs.Leaf.{Leaf, Premise, Needs, NeedsFree, add_premise, ways, leaf_from}
use Rattle.ll_laws.specs.Settle.{Entry}
use Rattle.ll_laws.specs.Attempt.{vars_from, leaf_head, fits_head, leaf_tries, entry_tries, is_open}
use Rattle.ll_laws.specs.Valid.{places_below}
use Rattle.ll_laws.proofs.CallerLemmas.{length-vars}
use Rattle.ll_engine.specs.declared.heads.Predicate.{Predicate}
use Rattle.ll_engine.specs.Leaves.{has_predicate, heads, head_tries, open_tries}

-- ---- lists

or_right : {A : Type 0} (xs ys : List A) (k j : ℕ) (d : A) → length xs + j ≡ k → get_or (xs ++ ys) k d ≡ get_or ys j d
or_right [] ys k j d h = ap (λ i. get_or ys i d) (let e : k ≡ j = omega arith in e)
or_right (x ∷ xs) ys zero j d h = absurd (omega arith)
or_right (x ∷ xs) ys (suc k) j d h = or_right xs ys k j d (omega arith)

get_some : (xs : List ℕ) (k : ℕ) → k < length xs → slice_get xs k ≡ Some (get_or xs k 0)
get_some [] k h = absurd (omega arith)
get_some (x ∷ xs) zero h = refl
get_some (x ∷ xs) (suc k) h = get_some xs k (omega arith)

suc_back : (xs : List ℕ) (k n : ℕ) → slice_get (map (λ n. suc n) xs) k ≡ Some (suc n) → slice_get xs k ≡ Some n
suc_back [] k n h = cc
suc_back (x ∷ xs) zero n h = let e : suc x ≡ suc n = cc in let f : x ≡ n = omega arith in ap Some f
suc_back (x ∷ xs) (suc k) n h = suc_back xs k n h

no_zero : {P : Type 0} (xs : List ℕ) (k : ℕ) → slice_get (map (λ n. suc n) xs) k ≡ Some 0 → P
no_zero [] k h = cc
no_zero (x ∷ xs) zero h = let e : suc x ≡ 0 = cc in absurd (omega arith)
no_zero (x ∷ xs) (suc k) h = no_zero xs k h

length-both : {A : Type 0} (xs ys : List A) → length (xs ++ ys) ≡ length xs + length ys
length-both [] ys = omega arith
length-both (x ∷ xs) ys = let e = length-both xs ys in omega arith

-- a clause has as many heads as ways
pub heads_ways : (r : Form) → length (heads r) ≡ length (ways r)
heads_ways (Atom a) = refl
heads_ways (With q r) = let e = heads_ways q in let f = heads_ways r in let g = length-both (heads q) (heads r) in let h = length-both (ways q) (ways r) in
    omega arith
heads_ways (Lolli q r) = heads_ways r
heads_ways (Imp q r) = heads_ways r
heads_ways (Forall r) = heads_ways r ∙ sym (length-suc (ways r))
heads_ways Top = refl
heads_ways One = refl
heads_ways (Tensor q r) = refl
heads_ways (Plus q r) = refl
heads_ways (Bang r) = refl
heads_ways (Exists r) = refl
heads_ways (Use m ts r) = refl
heads_ways (Num r t u) = refl

-- ---- predicates under variables in place of bound places

abbrev AreVars : List Term → Type 0
AreVars [] = Unit {0}
AreVars (Var x ∷ ts) = AreVars ts
AreVars (_ ∷ ts) = ⊥

abbrev AreBoundVars : Env → Type 0
AreBoundVars [] = Unit {0}
AreBoundVars (Some (Var x) ∷ e) = AreBoundVars e
AreBoundVars (_ ∷ e) = ⊥

vars_are : (n k : ℕ) → AreVars (vars_from n k)
vars_are n zero = tt
vars_are n (suc k) = vars_are (suc n) k

-- the head of an atom is no bound place
abbrev pub IsFreeHead : Head → Type 0
IsFreeHead h = not_bound h ≡ true

head_unbound : (h : Head) (k : ℕ) → IsFreeHead h → head_eq h (Bound k) ≡ false
head_unbound (Name n) k e = refl
head_unbound (Eigen n) k e = refl
head_unbound (Bound n) k e = cc

place_head : (h : Head) → IsFreeHead h → (e : Env) (k n : ℕ) → AreBoundVars e → same_head (Some h) (head_of (place e k n)) ≡ false
place_head h f [] k n v = head_unbound h (n + k) f
place_head h f (None ∷ e) k n v = absurd v
place_head h f (Some (Var x) ∷ e) zero n v = refl
place_head h f (Some (Var x) ∷ e) (suc k) n v = place_head h f e k n v
place_head h f (Some (Int z) ∷ e) k n v = absurd v
place_head h f (Some (Con c) ∷ e) k n v = absurd v
place_head h f (Some (Ap t u) ∷ e) k n v = absurd v

place_arity : (e : Env) (k n : ℕ) → AreBoundVars e → arity (place e k n) ≡ 0
place_arity [] k n v = refl
place_arity (None ∷ e) k n v = absurd v
place_arity (Some (Var x) ∷ e) zero n v = refl
place_arity (Some (Var x) ∷ e) (suc k) n v = place_arity e k n v
place_arity (Some (Int z) ∷ e) k n v = absurd v
place_arity (Some (Con c) ∷ e) k n v = absurd v
place_arity (Some (Ap t u) ∷ e) k n v = absurd v

close_head_same : (h : Head) → IsFreeHead h → (e : Env) → AreBoundVars e → (t : Term)
    → same_head (Some h) (head_of (close e t)) ≡ same_head (Some h) (head_of t)
close_head_same h f e v (Var x) = refl
close_head_same h f e v (Int z) = refl
close_head_same h f e v (Con (Name n)) = refl
close_head_same h f e v (Con (Eigen n)) = refl
close_head_same h f e v (Con (Bound k)) = place_head h f e k 0 v ∙ sym (head_unbound h k f)
close_head_same h f e v (Ap t u) = close_head_same h f e v t

close_arity : (e : Env) → AreBoundVars e → (t : Term) → arity (close e t) ≡ arity t
close_arity e v (Var x) = refl
close_arity e v (Int z) = refl
close_arity e v (Con (Name n)) = refl
close_arity e v (Con (Eigen n)) = refl
close_arity e v (Con (Bound k)) = place_arity e k 0 v
close_arity e v (Ap t u) = ap suc (close_arity e v t)

-- the atom has this predicate
pub record HasPredicate (p : Predicate) (a : Term) : Type 0 where
  pub head : head_of a ≡ Some p.head
  pub arity : arity a ≡ p.arity
  pub free : IsFreeHead p.head

module _ (p : Predicate) (a : Term) (is : HasPredicate p a) where
  fits_closed : (e : Env) → AreBoundVars e → (t : Term) → fits_head a (Some (close e t)) ≡ has_predicate p t
  fits_closed e v t =
      (λ i. same_head (is.head i) (head_of (close e t)) && nat_eq (is.arity i) (arity (close e t)))
      ∙ (λ i. close_head_same p.head is.free e v t i && nat_eq p.arity (close_arity e v t i))

  added : (q : Premise) (o : Option Leaf) → fits_head a (option_map (λ l. l.head) (option_map (add_premise q) o)) ≡ fits_head a (option_map (λ l. l.head) o)
  added q None = refl
  added q (Some l) = refl

  -- a leaf's head has the atom's predicate, opened or not
  leaf_fits : (e : Env) (r : Form) (k : ℕ) (ts : List Term) → AreBoundVars e → AreVars ts → slice_get (ways r) k ≡ Some (length ts)
      → fits_head a (option_map (λ l. l.head) (leaf_from e r k ts)) ≡ has_predicate p (get_or (heads r) k (Var 0))
  leaf_fits e (Atom t) zero [] v w h = fits_closed e v t
  leaf_fits e (Atom t) zero (u ∷ us) v w h = let x : 0 ≡ suc (length us) = cc in absurd (omega arith)
  leaf_fits e (Atom t) (suc k) ts v w h = cc
  leaf_fits e (With q r) k ts v w h = step (nat_lt k (length (ways q))) refl (leaf_fits e q k ts v w) (leaf_fits e r (k - length (ways q)) ts v w)
    where
      step : (b : Bool) → nat_lt k (length (ways q)) ≡ b
          → (slice_get (ways q) k ≡ Some (length ts) → fits_head a (option_map (λ l. l.head) (leaf_from e q k ts))
          ≡ has_predicate p (get_or (heads q) k (Var 0)))
          → (slice_get (ways r) (k - length (ways q)) ≡ Some (length ts)
          → fits_head a (option_map (λ l. l.head) (leaf_from e r (k - length (ways q)) ts)) ≡ has_predicate p (get_or (heads r) (k - length (ways q)) (Var 0)))
          → fits_head a (option_map (λ l. l.head) (if b then leaf_from e q k ts else leaf_from e r (k - length (ways q)) ts))
          ≡ has_predicate p (get_or (heads q ++ heads r) k (Var 0))
      step true t i j =
          let l = ltb-true k (length (ways q)) t in
          let n = heads_ways q in
          i (sym (get_left (ways q) (ways r) k l) ∙ h) ∙ ap (has_predicate p) (sym (get_or-append (heads q) (heads r) (Var 0) k (omega arith)))
      step false t i j =
          let l = ltb-false k (length (ways q)) t in
          let n = heads_ways q in
          let m : length (ways q) + (k - length (ways q)) ≡ k = omega arith in
          let o : length (heads q) + (k - length (ways q)) ≡ k = omega arith in
          j (sym (get_right (ways q) (ways r) k (k - length (ways q)) m) ∙ h)
          ∙ ap (has_predicate p) (sym (or_right (heads q) (heads r) k (k - length (ways q)) (Var 0) o))
  leaf_fits e (Lolli g r) k ts v w h = added (Needs (close_form e g)) (leaf_from e r k ts) ∙ leaf_fits e r k ts v w h
  leaf_fits e (Imp g r) k ts v w h = added (NeedsFree (close_form e g)) (leaf_from e r k ts) ∙ leaf_fits e r k ts v w h
  leaf_fits e (Forall r) k [] v w h = no_zero (ways r) k h
  leaf_fits e (Forall r) k (Var x ∷ us) v w h = leaf_fits (Some (Var x) ∷ e) r k us v w (suc_back (ways r) k (length us) h)
  leaf_fits e (Forall r) k (Int z ∷ us) v w h = absurd w
  leaf_fits e (Forall r) k (Con c ∷ us) v w h = absurd w
  leaf_fits e (Forall r) k (Ap t u ∷ us) v w h = absurd w
  leaf_fits e Top k ts v w h = cc
  leaf_fits e One k ts v w h = cc
  leaf_fits e (Tensor q r) k ts v w h = cc
  leaf_fits e (Plus q r) k ts v w h = cc
  leaf_fits e (Bang r) k ts v w h = cc
  leaf_fits e (Exists r) k ts v w h = cc
  leaf_fits e (Use m us r) k ts v w h = cc
  leaf_fits e (Num r t u) k ts v w h = cc

  -- so the candidates among the leaves are those with the predicate
  tries_by : (e : Entry Form) (k : ℕ) (ws : List ℕ) (hs : List Term) → length hs ≡ length ws
      → ((j m : ℕ) → m ≡ k + j → j < length ws → fits_head a (leaf_head e.clause m (get_or ws j 0)) ≡ has_predicate p (get_or hs j (Var 0)))
      → leaf_tries a e k ws ≡ head_tries (has_predicate p) e.label k hs
  tries_by e k [] [] n each = refl
  tries_by e k [] (h ∷ hs) n each = absurd (omega arith)
  tries_by e k (w ∷ ws) [] n each = absurd (omega arith)
  tries_by e k (w ∷ ws) (h ∷ hs) n each =
      let rest = tries_by e (suc k) ws hs (omega arith) (λ j m q l. each (suc j) m (omega arith) (omega arith)) in
      let here = each 0 k (omega arith) (omega arith) in
      let c : Candidate = record { label = e.label; leaf = k } in
      λ i. if here i then c ∷ rest i else rest i

  pub entry_tries_by : (e : Entry Form) → entry_tries a e ≡ open_tries (has_predicate p) e
  entry_tries_by e = ap (λ xs. if is_open e then xs else []) (tries_by e 0 (ways e.clause) (heads e.clause) (heads_ways e.clause) (λ j m q l.
      let q2 : m ≡ j = omega arith in
      let n = get_or (ways e.clause) j 0 in
      subst (λ i. fits_head a (leaf_head e.clause i n) ≡ has_predicate p (get_or (heads e.clause) j (Var 0))) (sym q2)
      (leaf_fits [] e.clause j (vars_from 0 n) tt (vars_are 0 n) (get_some (ways e.clause) j l ∙ ap Some (sym (length-vars 0 n))))))

-- an atom without a head has no candidate
none_fit : (a : Term) → head_of a ≡ None → (o : Option Term) → fits_head a o ≡ false
none_fit a h None = refl
none_fit a h (Some t) = ap (λ x. same_head x (head_of t) && nat_eq (arity a) (arity t)) h

no_leaf_tries : (a : Term) → head_of a ≡ None → (e : Entry Form) (k : ℕ) (ws : List ℕ) → leaf_tries a e k ws ≡ []
no_leaf_tries a h e k [] = refl
no_leaf_tries a h e k (w ∷ ws) =
    let c : Candidate = record { label = e.label; leaf = k } in
    ap (λ b. if b then c ∷ leaf_tries a e (suc k) ws else leaf_tries a e (suc k) ws) (none_fit a h (leaf_head e.clause k w)) ∙ no_leaf_tries a h e (suc k) ws

no_entry_tries : (a : Term) → head_of a ≡ None → (e : Entry Form) → entry_tries a e ≡ []
no_entry_tries a h e = go (is_open e)
  where
    go : (b : Bool) → (if b then leaf_tries a e 0 (ways e.clause) else []) ≡ []
    go true = no_leaf_tries a h e 0 (ways e.clause)
    go false = refl

pub no_tries : (a : Term) → head_of a ≡ None → (es : List (Entry Form)) → flat_map (entry_tries a) es ≡ []
no_tries a h [] = refl
no_tries a h (e ∷ es) = ap (λ xs. xs ++ flat_map (entry_tries a) es) (no_entry_tries a h e) ∙ no_tries a h es

-- the head of a term without free bound places is none
pub head_free : (a : Term) (h : Head) → places_below 0 a ≡ true → head_of a ≡ Some h → IsFreeHead h
head_free (Var x) h f e = cc
head_free (Int z) h f e = cc
head_free (Con (Name n)) h f e = let q : Name n ≡ h = cc in ap not_bound (sym q)
head_free (Con (Eigen n)) h f e = let q : Eigen n ≡ h = cc in ap not_bound (sym q)
head_free (Con (Bound n)) h f e = none_below n f
head_free (Ap t u) h f e = head_free t h (and_left (places_below 0 t) (places_below 0 u) f) e

-- the candidates among entries, by the predicate
pub tries_by_predicate : (p : Predicate) (a : Term) → HasPredicate p a → (es : List (Entry Form))
    → flat_map (entry_tries a) es ≡ flat_map (open_tries (has_predicate p)) es
tries_by_predicate p a is [] = refl
tries_by_predicate p a is (e ∷ es) = λ i. entry_tries_by p a is e i ++ tries_by_predicate p a is es i

-- one more of a list
pub flat_more : {A B C : Type 0} (f : B → List C) (g : A → B) (xs : List A) (i j : ℕ) (x : A) → j ≡ i + 1 → slice_get xs i ≡ Some x
    → flat_map f (map g (take j xs)) ≡ flat_map f (map g (take i xs)) ++ f (g x)
flat_more f g [] i j x e h = cc
flat_more f g (y ∷ xs) zero zero x e h = absurd (omega arith)
flat_more f g (y ∷ xs) zero (suc j) x e h =
    let z : j ≡ 0 = omega arith in
    let s : y ≡ x = cc in
    ap (λ k. f (g y) ++ flat_map f (map g (take k xs))) z ∙ (append-nil (f (g y)) ∙ ap (λ v. f (g v)) s)
flat_more f g (y ∷ xs) (suc i) zero x e h = absurd (omega arith)
flat_more f g (y ∷ xs) (suc i) (suc j) x e h =
    ap (λ us. f (g y) ++ us) (flat_more f g xs i j x (omega arith) h) ∙ sym (append_assoc (f (g y)) (flat_map f (map g (take i xs))) (f (g x)))
