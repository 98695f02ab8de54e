-- Atoms whose first arguments have outermost signs that clash have no unifier.
use Rattle.std.proofs.Common.{◌≡◌, ℕ, zero, suc, ◌+◌, refl, ap, sym, ◌∙◌, Bool, true, false, List, [], ◌∷◌, length, nat_eq, All, map, arith}
use Rattle.std.specs.Prelude.{◌&&◌, if◌then◌else◌, Option, Some, None, option_map, option_and_then, slice_get, unwrap_or, replicate, ◌++◌}
use Rattle.std.specs.Ordering.{int_eq}
use Rattle.std.proofs.Math.Dec.{eqb-suc-suc}
use Rattle.std.proofs.lemmas.List.Elements.{All-cons}
use Rattle.ll_list_laws.proofs.CallerLemmas.{false_from_not as not-true, and_true_left as and_left}
use Rattle.ll_bank.specs.declared.Head.{Head}
use Rattle.ll_bank.specs.declared.Head.TheVariants.{Name, Eigen, Bound}
use Rattle.ll_bank.specs.Term.{Term, Var, Int, Con, Ap, Env, sub, place, close, head_of, arity, head_eq, same_head, same_predicate}
use Rattle.ll_bank.specs.Form.{Form, Atom}
use Rattle.ll_laws.specs.declared.Candidate.{Candidate}
use Rattle.ll_laws.specs.Unify.{Diff, Same, Clash, and_then, when, diff, diff_lists, bound_to, resolve, solve, mgu}
use Rattle.ll_laws.specs.Module.{Setting}
use Rattle.ll_laws.specs.Settle.{Entry, Item, Goal}
use Rattle.ll_laws.specs.State.{State}
use Rattle.ll_laws.specs.Leaf.{Leaf, leaf, ways}
use Rattle.ll_laws.specs.Attempt.{entry_at, entry_tries, leaf_tries, is_open, leaf_head, fits_head, vars_from, instantiated, with_leaf, take_leaf, take_way}
use Rattle.ll_laws.specs.Attempt.{take_entry, attempt, attempt_agenda}
use Rattle.ll_index.specs.declared.laws.First.{First}
use Rattle.ll_index.specs.declared.laws.First.TheVariants.{Open, Int as IntSign, Head as NameSign}
use Rattle.ll_index.specs.Standing.{env_under}
use Rattle.ll_index.specs.First.{name_sign, sign_of, sign_if_some, first_argument, first_of, signs_clash, first_if_leaf, leaf_first, ClashesDiffer}
use Rattle.ll_index.specs.First.{ClashesGiveNothing}
use Rattle.ll_index.proofs.StandingLaws.{stands_as}

-- ---- signs that clash

-- two names with other numbers of arguments, or two other names
record AreApart (o p : Option Head) (k j : ℕ) : Type 0 where
  left : ℕ
  right : ℕ
  left_is : o ≡ Some (Name left)
  right_is : p ≡ Some (Name right)
  differ : (nat_eq left right && nat_eq k j) ≡ false

names_apart : (o p : Option Head) (k j : ℕ) → signs_clash (name_sign o k) (name_sign p j) ≡ true → AreApart o p k j
names_apart (Some (Name m)) (Some (Name n)) k j h = record {
  left = m;
  right = n;
  left_is = refl;
  right_is = refl;
  differ =
      not-true (nat_eq m n && nat_eq k j) h;
}
names_apart (Some (Name m)) (Some (Eigen n)) k j h = cc
names_apart (Some (Name m)) (Some (Bound n)) k j h = cc
names_apart (Some (Name m)) None k j h = cc
names_apart (Some (Eigen m)) p k j h = cc
names_apart (Some (Bound m)) p k j h = cc
names_apart None p k j h = cc

and-true : (b : Bool) → b && true ≡ b
and-true true = refl
and-true false = refl

-- terms that apply names that are apart differ at once
apart-differ : (f g : Term) (m n : ℕ) → head_of f ≡ Some (Name m) → head_of g ≡ Some (Name n) → (nat_eq m n && nat_eq (arity f) (arity g)) ≡ false
    → diff f g ≡ Clash
apart-differ (Con h) (Con k) m n p q d =
    let a : h ≡ Name m = cc in
    let b : k ≡ Name n = cc in
    let e : nat_eq m n ≡ false = sym (and-true (nat_eq m n)) ∙ d in
    ap (λ x. when (head_eq x k)) a ∙ (ap (λ x. when (head_eq (Name m) x)) b ∙ ap when e)
apart-differ (Con h) (Ap g b) m n p q d = refl
apart-differ (Ap f a) (Con k) m n p q d = refl
apart-differ (Ap f a) (Ap g b) m n p q d =
    ap (λ x. and_then x (diff a b)) (apart-differ f g m n p q (ap (λ x. nat_eq m n && x) (sym (eqb-suc-suc (arity f) (arity g))) ∙ d))
apart-differ (Var x) g m n p q d = cc
apart-differ (Int z) g m n p q d = cc
apart-differ (Con h) (Var x) m n p q d = cc
apart-differ (Con h) (Int z) m n p q d = refl
apart-differ (Ap f a) (Var x) m n p q d = cc
apart-differ (Ap f a) (Int z) m n p q d = refl

named-differ : (t u : Term) → signs_clash (name_sign (head_of t) (arity t)) (name_sign (head_of u) (arity u)) ≡ true → diff t u ≡ Clash
named-differ t u h = let w = names_apart (head_of t) (head_of u) (arity t) (arity u) h in apart-differ t u w.left w.right w.left_is w.right_is w.differ

open_right : (s : First) → signs_clash s Open ≡ true → true ≡ false
open_right Open h = sym h
open_right (IntSign z) h = sym h
open_right (NameSign n k) h = sym h

-- terms whose outermost signs clash differ at once
signs-differ : (t u : Term) → signs_clash (sign_of t) (sign_of u) ≡ true → diff t u ≡ Clash
signs-differ (Int y) (Int z) h = ap when (not-true (int_eq y z) h)
signs-differ (Int y) (Var x) h = cc
signs-differ (Int y) (Con k) h = refl
signs-differ (Int y) (Ap g b) h = refl
signs-differ (Var x) u h = cc
signs-differ (Con f) (Int z) h = refl
signs-differ (Con f) (Var x) h = let e = open_right (name_sign (Some f) 0) h in cc
signs-differ (Con f) (Con k) h = named-differ (Con f) (Con k) h
signs-differ (Con f) (Ap g b) h = refl
signs-differ (Ap f a) (Int z) h = refl
signs-differ (Ap f a) (Var x) h = let e = open_right (name_sign (head_of f) (suc (arity f))) h in cc
signs-differ (Ap f a) (Con k) h = refl
signs-differ (Ap f a) (Ap g b) h = named-differ (Ap f a) (Ap g b) h

then-clash : (b : Bool) (d : Diff) → d ≡ Clash → and_then (when b) d ≡ Clash
then-clash true d h = h
then-clash false d h = refl

-- terms with one head whose first arguments clash differ
first-differ : (a b : Term) → same_head (head_of a) (head_of b) ≡ true → signs_clash (first_of a) (first_of b) ≡ true → diff a b ≡ Clash
first-differ (Ap (Con h) x) (Ap (Con k) y) s c = then-clash (head_eq h k) (diff x y) (signs-differ x y c)
first-differ (Ap (Ap f w) x) (Ap (Ap g v) y) s c = ap (λ d. and_then d (diff x y)) (first-differ (Ap f w) (Ap g v) s c)
first-differ (Ap (Con h) x) (Ap (Ap g v) y) s c = refl
first-differ (Ap (Ap f w) x) (Ap (Con k) y) s c = refl
first-differ (Ap (Con h) x) (Ap (Var z) y) s c = cc
first-differ (Ap (Con h) x) (Ap (Int z) y) s c = cc
first-differ (Ap (Ap f w) x) (Ap (Var z) y) s c = no-head (head_of f) s
  where
    no-head : {P : Type 0} (o : Option Head) → same_head o None ≡ true → P
    no-head None h = cc
    no-head (Some k) h = cc
first-differ (Ap (Ap f w) x) (Ap (Int z) y) s c = no-head (head_of f) s
  where
    no-head : {P : Type 0} (o : Option Head) → same_head o None ≡ true → P
    no-head None h = cc
    no-head (Some k) h = cc
first-differ (Ap (Var z) x) b s c = cc
first-differ (Ap (Int z) x) b s c = cc
first-differ (Ap f x) (Var z) s c = let e = open_right (first_of (Ap f x)) c in cc
first-differ (Ap f x) (Int z) s c = let e = open_right (first_of (Ap f x)) c in cc
first-differ (Ap f x) (Con k) s c = let e = open_right (first_of (Ap f x)) c in cc
first-differ (Var z) b s c = cc
first-differ (Int z) b s c = cc
first-differ (Con h) b s c = cc

-- so nothing unifies them
clash-solve : (n : ℕ) (a b : Term) (levels : List ℕ) → diff_lists (a ∷ []) (b ∷ []) ≡ Clash → solve n (a ∷ []) (b ∷ []) levels ≡ None
clash-solve zero a b levels h = ap (λ d. resolve d levels (λ v. None)) h
clash-solve (suc n) a b levels h =
    ap (λ d. resolve d levels (λ v. solve n (map (sub (bound_to v.var v.value)) (a ∷ [])) (map (sub (bound_to v.var v.value)) (b ∷ [])) v.levels)) h

clash-mgu : (a b : Term) (levels : List ℕ) → same_head (head_of a) (head_of b) ≡ true → signs_clash (first_of a) (first_of b) ≡ true
    → mgu (a ∷ []) (b ∷ []) levels ≡ None
unfolding mgu
clash-mgu a b levels s c = clash-solve (length levels) a b levels (ap (λ d. and_then d Same) (first-differ a b s c))

pub clashes_differ : ClashesDiffer
clashes_differ a b levels s c = clash-mgu a b levels (and_left (same_head (head_of a) (head_of b)) (nat_eq (arity a) (arity b)) s) c

-- ---- a leaf's head as it stands, and opened with variables

-- two environments with variables for the same quantifiers
pub Alike : Env → Env → Type 0
Alike [] [] = Unit {0}
Alike (Some (Var x) ∷ e) (Some (Var y) ∷ d) = Alike e d
Alike _ _ = ⊥

pub alike_under : (e d : Env) (m j n : ℕ) → Alike e d → Alike (env_under e (vars_from m n)) (env_under d (vars_from j n))
unfolding Alike
alike_under e d m j zero a = a
alike_under e d m j (suc n) a = alike_under (Some (Var m) ∷ e) (Some (Var j) ∷ d) (suc m) (suc j) n a

pub no_env : Alike [] []
unfolding Alike
no_env = tt

-- what stands for a bound place then
record PlainPlace (t u : Term) : Type 0 where
  head : head_of t ≡ head_of u
  arity_is : arity t ≡ 0
  open_sign : sign_of t ≡ Open
  no_argument : first_argument t ≡ None
  no_name : (k : ℕ) → name_sign (head_of t) k ≡ Open

plain_place : (e d : Env) → Alike e d → (k m : ℕ) → PlainPlace (place e k m) (place d k m)
unfolding Alike
plain_place [] [] a k m = record { head = refl; arity_is = refl; open_sign = refl; no_argument = refl; no_name = λ j. refl }
plain_place (Some (Var x) ∷ e) (Some (Var y) ∷ d) a zero m = record { head = refl; arity_is = refl; open_sign = refl; no_argument = refl; no_name = λ j. refl }
plain_place (Some (Var x) ∷ e) (Some (Var y) ∷ d) a (suc k) m = plain_place e d a k m
plain_place _ _ a k m = absurd a

module _ (e d : Env) (alike : Alike e d) where
  -- the head is the same in both
  pub close-heads : (t : Term) → head_of (close e t) ≡ head_of (close d t)
  close-heads (Var x) = refl
  close-heads (Int z) = refl
  close-heads (Con (Name n)) = refl
  close-heads (Con (Eigen n)) = refl
  close-heads (Con (Bound k)) = (plain_place e d alike k 0).head
  close-heads (Ap f a) = close-heads f

  -- the number of arguments stays
  pub close-arity : (t : Term) → arity (close e t) ≡ arity t
  close-arity (Var x) = refl
  close-arity (Int z) = refl
  close-arity (Con (Name n)) = refl
  close-arity (Con (Eigen n)) = refl
  close-arity (Con (Bound k)) = (plain_place e d alike k 0).arity_is
  close-arity (Ap f a) = ap (λ n. suc n) (close-arity f)

  -- a name as head stays, and nothing else becomes one
  pub close-name : (t : Term) (k : ℕ) → name_sign (head_of (close e t)) k ≡ name_sign (head_of t) k
  close-name (Var x) k = refl
  close-name (Int z) k = refl
  close-name (Con (Name n)) k = refl
  close-name (Con (Eigen n)) k = refl
  close-name (Con (Bound j)) k = (plain_place e d alike j 0).no_name k
  close-name (Ap f a) k = close-name f k

  -- so does the outermost sign
  close-sign : (t : Term) → sign_of (close e t) ≡ sign_of t
  close-sign (Var x) = refl
  close-sign (Int z) = refl
  close-sign (Con (Name n)) = refl
  close-sign (Con (Eigen n)) = refl
  close-sign (Con (Bound k)) = (plain_place e d alike k 0).open_sign
  close-sign (Ap f a) = close-name f (suc (arity (close e f))) ∙ ap (λ n. name_sign (head_of f) (suc n)) (close-arity f)

  -- and that of the first argument
  pub close-first : (t : Term) → first_of (close e t) ≡ first_of t
  close-first (Var x) = refl
  close-first (Int z) = refl
  close-first (Con (Name n)) = refl
  close-first (Con (Eigen n)) = refl
  close-first (Con (Bound k)) = ap sign_if_some (plain_place e d alike k 0).no_argument
  close-first (Ap (Var x) a) = close-sign a
  close-first (Ap (Int z) a) = close-sign a
  close-first (Ap (Con (Name n)) a) = close-sign a
  close-first (Ap (Con (Eigen n)) a) = close-sign a
  close-first (Ap (Con (Bound k)) a) = ap (λ o. sign_of (unwrap_or o (close e a))) (plain_place e d alike k 0).no_argument ∙ close-sign a
  close-first (Ap (Ap f b) a) = close-first (Ap f b)

-- ---- candidates

-- a leaf whose head has the atom's predicate, opened as it is tested and as it is taken
module _ (s : State) (a : Term) (rest : List (Item Form)) (e : Entry Form) (k n : ℕ) (way : slice_get (ways e.clause) k ≡ Some n)
    (fits : fits_head a (leaf_head e.clause k n) ≡ true)
    (clash : signs_clash (first_of a) (leaf_first e.clause k) ≡ true) where
  tested : (o : Option Leaf) → leaf e.clause k (vars_from 0 n) ≡ o → (x : Leaf) × (leaf e.clause k (vars_from 0 n) ≡ Some x) × (same_predicate a x.head ≡ true)
  tested None h = let z : false ≡ true = ap (λ o. fits_head a (option_map (λ l. l.head) o)) (sym h) ∙ fits in cc
  tested (Some x) h = (x, h, ap (λ o. fits_head a (option_map (λ l. l.head) o)) (sym h) ∙ fits)

  no_leaf_taken : (o : Option Leaf) → leaf e.clause k (vars_from (length s.levels) n) ≡ o → option_and_then (take_leaf s a rest e.label k n) o ≡ None
  no_leaf_taken None h = refl
  no_leaf_taken (Some l) h =
      let t = tested (leaf e.clause k (vars_from 0 n)) refl in
      let x = stands_as e.clause k (vars_from 0 n) t.0 t.1 in
      let y = stands_as e.clause k (vars_from (length s.levels) n) l h in
      let one : x.standing ≡ y.standing = let p : Some x.standing ≡ Some y.standing = sym x.at ∙ y.at in cc in
      let alike = alike_under [] [] 0 (length s.levels) n no_env in
      let alike_back = alike_under [] [] (length s.levels) 0 n no_env in
      let head : head_of t.0.head ≡ head_of l.head =
      ap (λ z. head_of z.head) x.is ∙ (close-heads _ _ alike x.standing.head
      ∙ (ap (λ z. head_of (close (env_under [] (vars_from (length s.levels) n)) z.head)) one ∙ ap (λ z. head_of z.head) (sym y.is))) in
      let same : same_head (head_of a) (head_of l.head) ≡ true =
      ap (same_head (head_of a)) (sym head) ∙ and_left (same_head (head_of a) (head_of t.0.head)) (nat_eq (arity a) (arity t.0.head)) t.2 in
      let first : first_of l.head ≡ leaf_first e.clause k = ap (λ z. first_of z.head) y.is
      ∙ (close-first _ _ alike_back y.standing.head ∙ ap first_if_leaf (sym y.at)) in
      ap (option_map (instantiated (with_leaf s rest e.label k n l)))
      (clash-mgu a l.head (s.levels ++ replicate n s.eigens) same (ap (signs_clash (first_of a)) first ∙ clash))

  no_entry_taken : take_entry s a rest e.label k e ≡ None
  no_entry_taken = ap (option_and_then (take_way s a rest e.label k e)) way ∙ no_leaf_taken (leaf e.clause k (vars_from (length s.levels) n)) refl

module _ (m : Setting) (s : State) (a : Term) (rest : List (Item Form)) (e : Entry Form) (goal : s.agenda ≡ Goal (Atom a) ∷ rest)
    (here : entry_at s.context e.label ≡ Some e) where
  GivesNothing : Candidate → Type 0
  GivesNothing c = signs_clash (first_of a) (leaf_first e.clause c.leaf) ≡ true → attempt m s c ≡ None

  gives_nothing : (k n : ℕ) → slice_get (ways e.clause) k ≡ Some n → fits_head a (leaf_head e.clause k n) ≡ true
      → GivesNothing (record { label = e.label; leaf = k })
  unfolding attempt GivesNothing
  gives_nothing k n way fits clash =
      ap (λ g. attempt_agenda m s g (record { label = e.label; leaf = k })) goal
      ∙ (ap (option_and_then (take_entry s a rest e.label k)) here ∙ no_entry_taken s a rest e k n way fits clash)

  tries_give_nothing : (k : ℕ) (ns : List ℕ) → ((j n : ℕ) → slice_get ns j ≡ Some n → slice_get (ways e.clause) (k + j) ≡ Some n)
      → All GivesNothing (leaf_tries a e k ns)
  tries_give_nothing k [] at = λ i d l. absurd (omega arith)
  tries_give_nothing k (n ∷ ns) at =
      step (fits_head a (leaf_head e.clause k n)) refl
      (tries_give_nothing (suc k) ns (λ j x h. let q : suc k + j ≡ k + suc j = omega arith in ap (slice_get (ways e.clause)) q ∙ at (suc j) x h))
    where
      step : (b : Bool) → fits_head a (leaf_head e.clause k n) ≡ b → All GivesNothing (leaf_tries a e (suc k) ns)
          → All GivesNothing (if b then record { label = e.label; leaf = k } ∷ leaf_tries a e (suc k) ns else leaf_tries a e (suc k) ns)
      step true f h = All-cons GivesNothing _ _ (gives_nothing k n (let q : k + 0 ≡ k = omega arith in ap (slice_get (ways e.clause)) (sym q) ∙ at 0 n refl) f)
          h
      step false f h = h

  entry_gives_nothing : All GivesNothing (entry_tries a e)
  entry_gives_nothing = step (is_open e)
    where
      step : (b : Bool) → All GivesNothing (if b then leaf_tries a e 0 (ways e.clause) else [])
      step true = tries_give_nothing 0 (ways e.clause) (λ j n h. let q : 0 + j ≡ j = omega arith in ap (slice_get (ways e.clause)) q ∙ h)
      step false = λ i d l. absurd (omega arith)

pub clashes_give_nothing : ClashesGiveNothing
unfolding GivesNothing
clashes_give_nothing m s a rest e goal here = entry_gives_nothing m s a rest e goal here
