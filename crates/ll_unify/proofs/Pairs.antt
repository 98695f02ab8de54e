-- How pairs of applications are compared.
use Rattle.std.proofs.Common.{◌≡◌, ℕ, zero, suc, ◌+◌, ◌<◌, ◌≤◌, ◌⊎◌, inl, inr, Bool, true, false, List, [], ◌∷◌, ◌++◌, length, map, get_or, drop, All, refl}
use Rattle.std.proofs.Common.{ap, sym, subst, ◌∙◌, arith, nat_eq, append_assoc, length-append}
use Rattle.std.specs.Prelude.{ℤ, ◌||◌, ◌&&◌, Option, Some, None, slice_index, slice_set}
use Rattle.std.specs.Ordering.{int_eq}
use Rattle.std.proofs.lemmas.Bool.{eqb-true, eqb-false, eq-eqb, ne_eqb, cases_lt}
use Rattle.std.proofs.Math.Bool.{and-false}
use Rattle.std.proofs.lemmas.Bool.Decides.{Decides-int_eq}
use Rattle.std.proofs.lemmas.List.{length-set, get_or-set_same, get_or-set_other, map-append, length-map, append-nil, get_or_default}
use Rattle.std.proofs.lemmas.List.Elements.{All-push, All-tail}
use Rattle.std.proofs.lemmas.List.Sums.{sum_by_push}
use Rattle.std.proofs.Math.Seq.{drop-cons, get_or-append_seam}
use Rattle.std.proofs.Math.ListN.{get_or-append}
use Rattle.ll_list_laws.proofs.CallerLemmas.{and_true_left as and_left, All-front as All-before, All-last}
use Rattle.ll_bank.specs.declared.Head.{Head}
use Rattle.ll_bank.specs.declared.At.{At}
use Rattle.ll_bank.specs.Term.{Term, Var, Int, Con, Ap, sub, is_spine, head_of, arity, head_eq, same_head, same_predicate, app}
use Rattle.ll_bank.specs.Nodes.{Nodes, term_tree, term_trees}
use Rattle.ll_bank.proofs.CallerLemmas.{head_of-app, arity-app, spine_of_head}
use Rattle.ll_laws.specs.Unify.{Same, Clash, and_then, when, diff, diff_lists}
use Rattle.ll_laws.proofs.CallerLemmas.{diff-same as diff-is-same}
use Rattle.ll_unify.specs.Bindings.{Table, Obeys, IsEnd, AreSame, is_var}
use Rattle.ll_unify.specs.declared.meet.Pair.{Pair}
use Rattle.ll_unify.specs.declared.meet.Compared.{Compared}
use Rattle.ll_unify.specs.declared.meet.Compared.TheVariants.{Same as SameTerms, Clash as ClashTerms, Meet as MeetTerms, Open as OpenTerms}
use Rattle.ll_unify.specs.Spines.{args_in, arg, weight, rest_weight, ShowsArgument}
use Rattle.ll_unify.specs.Stacks.{Waits, is_empty, is_full}
use Rattle.ll_unify.specs.Pairs.{pair_trees, lefts, rights, AwaitsEqual, IsPair, IsComparing, ArePairs, Awaits, IsClass, AreClasses, AreBelow, Alike, Opens}
use Rattle.ll_unify.specs.Pairs.{MeetsAt, AreJoined, ComparesApplied, IsCompared, pairs_weight}
use Rattle.ll_unify.proofs.Spines.{below-suc, weight-two, rest_weight-more, weight-place, is_spine-app}
use Rattle.ll_unify.proofs.Stacks.{opened, Waits-push, Waits-last, no_item}
use Rattle.ll_unify.proofs.Stacks.{an_item, split_last}
use Rattle.ll_unify.proofs.Alike.{diff-refl, diff-same, diff-append, diff-spine, diff-clash, shape-length}

-- ---- classes of places

class-trans : (nodes : Nodes) (t : Table) (a b c : ℕ) → IsClass nodes t a b → IsClass nodes t b c → IsClass nodes t a c
class-trans nodes t a b c p q = record {
  below = let i = p.below in let j = q.below in omega arith;
  vars = λ v. q.vars (p.vars v);
  spine = λ h. q.spine (p.spine h);
  same = λ s o. q.same s o ∙ p.same s o;
}

pub class-refl : (nodes : Nodes) (t : Table) (a : ℕ) → IsClass nodes t a a
class-refl nodes t a = record { below = omega arith; vars = λ v. v; spine = λ h. h; same = λ s o. refl }

-- places that are the same
pub class-joined : (nodes : Nodes) (t : Table) (low high : ℕ) → low ≤ high → AreJoined nodes t low high → IsClass nodes t high low
class-joined nodes t low high l j = record { below = l; vars = λ v. j.vars_left; spine = λ h. j.left_spine; same = j.same }

pub joined-flip : (nodes : Nodes) (t : Table) (a b : ℕ) → AreJoined nodes t a b → AreJoined nodes t b a
joined-flip nodes t a b j = record {
  same = λ s o. sym (j.same s o);
  vars_left = j.vars_right;
  vars_right = j.vars_left;
  left_spine = j.right_spine;
  right_spine = j.left_spine;
}

-- a list of classes that grows by a place by itself
pub classes-more : (nodes : Nodes) (t : Table) (ups : List ℕ) → AreClasses nodes t ups → AreClasses nodes t (ups ++ length ups ∷ [])
classes-more nodes t ups h at b = elim (cases_lt at (length ups)) [
  | inl l ↦ subst (λ w. IsClass nodes t at w) (sym (get_or-append ups (length ups ∷ []) 0 at l)) (h at l)
  | inr l ↦
      let e : at ≡ length ups = let q = length-append ups (length ups ∷ []) in omega arith in
      subst (λ k. IsClass nodes t k (get_or (ups ++ length ups ∷ []) k 0)) (sym e)
      (subst (λ w. IsClass nodes t (length ups) w) (sym (get_or-append_seam ups (length ups) [] 0)) (class-refl nodes t (length ups)))
]

index-set : (ups : List ℕ) (k v at : ℕ) → k < length ups → (slice_index (slice_set ups k v) at ≡ v) × (at ≡ k)
    ⊎ (slice_index (slice_set ups k v) at ≡ slice_index ups at)
index-set ups k v at l = step (nat_eq at k) refl
  where
    step : (b : Bool) → nat_eq at k ≡ b → (slice_index (slice_set ups k v) at ≡ v) × (at ≡ k) ⊎ (slice_index (slice_set ups k v) at ≡ slice_index ups at)
    step true e = let q = eqb-true at k e in inl (ap (λ j. get_or (slice_set ups k v) j 0) q ∙ get_or-set_same ups k v 0 l, q)
    step false e = inr (get_or-set_other ups k at v 0 (eqb-false at k e))

-- a class is led to another
pub classes-set : (nodes : Nodes) (t : Table) (ups : List ℕ) (k v : ℕ) → k < length ups → AreClasses nodes t ups → IsClass nodes t k v
    → AreClasses nodes t (slice_set ups k v)
classes-set nodes t ups k v l h c = λ at b. elim (index-set ups k v at l) [
  | inl e ↦ subst (λ w. IsClass nodes t at w) (sym e.0) (subst (λ w. IsClass nodes t w v) (sym e.1) c)
  | inr e ↦ subst (λ w. IsClass nodes t at w) (sym e) (h at (let q = length-set ups k v in omega arith))
]

pub below-set : (ups : List ℕ) (k v : ℕ) → k < length ups → AreBelow ups → v ≤ k → AreBelow (slice_set ups k v)
below-set ups k v l h c at b = elim (index-set ups k v at l) [
  | inl e ↦ let p = e.0 in let q = e.1 in omega arith
  | inr e ↦ let q = h at (let r = length-set ups k v in omega arith) in omega arith
]

-- two steps at once
pub class-twice : (nodes : Nodes) (t : Table) (ups : List ℕ) (k : ℕ) → k < length ups → AreClasses nodes t ups
    → IsClass nodes t k (slice_index ups (slice_index ups k))
class-twice nodes t ups k l h =
    let p = h k l in
    class-trans nodes t k (slice_index ups k) (slice_index ups (slice_index ups k)) p (h (slice_index ups k) (let i = p.below in omega arith))

pub class-on : (nodes : Nodes) (t : Table) (ups : List ℕ) (a k : ℕ) → k < length ups → AreClasses nodes t ups → IsClass nodes t a k
    → IsClass nodes t a (slice_index ups (slice_index ups k))
class-on nodes t ups a k l h c = class-trans nodes t a k (slice_index ups (slice_index ups k)) c (class-twice nodes t ups k l h)

-- ---- how two terms compare

-- ends that show the two terms
pub record Ends (nodes : Nodes) (t : Table) (u v : Term) (a b : At) : Type 0 where
  pub left_end : IsEnd nodes t a.0
  pub right_end : IsEnd nodes t b.0
  pub left : AreSame nodes t (term_tree nodes a.0) u
  pub right : AreSame nodes t (term_tree nodes b.0) v

pub compare-int : (nodes : Nodes) (t : Table) (u v : Term) (a b : At) (m n : ℤ) → Ends nodes t u v a b → term_tree nodes a.0 ≡ Int m
    → term_tree nodes b.0 ≡ Int n → int_eq m n ≡ true → AreSame nodes t u v
compare-int nodes t u v a b m n e p q r s o =
    sym (e.left s o) ∙ (ap (sub s) (p ∙ (ap Int ((Decides-int_eq m n).0 r) ∙ sym q)) ∙ e.right s o)

pub compare-meet : (nodes : Nodes) (t : Table) (u v : Term) (a b : At) → Ends nodes t u v a b
    → is_var (term_tree nodes a.0) || is_var (term_tree nodes b.0) ≡ true
    → ((x : ℕ) → term_tree nodes a.0 ≡ Var x → term_tree nodes b.0 ≡ Var x → ⊥) → MeetsAt nodes t u v a b
compare-meet nodes t u v a b e w d = record {
  meeting = record { left_end = e.left_end; right_end = e.right_end; var = w; differ = d };
  left = e.left;
  right = e.right;
}

pub meet-left : (nodes : Nodes) (a b : At) (x : ℕ) → term_tree nodes a.0 ≡ Var x → is_var (term_tree nodes a.0) || is_var (term_tree nodes b.0) ≡ true
meet-left nodes a b x e = ap (λ u. is_var u || is_var (term_tree nodes b.0)) e

pub meet-right : (nodes : Nodes) (a b : At) (x : ℕ) → term_tree nodes b.0 ≡ Var x → is_var (term_tree nodes a.0) || is_var (term_tree nodes b.0) ≡ true
meet-right nodes a b x e = ap (λ u. is_var (term_tree nodes a.0) || is_var u) e ∙ always (is_var (term_tree nodes a.0))
  where
    always : (c : Bool) → c || true ≡ true
    always true = refl
    always false = refl

-- two ends that clash
pub compare-clash : (nodes : Nodes) (t : Table) (u v : Term) (a b : At) → Ends nodes t u v a b
    → ((s : ℕ → Term) → diff (sub s (term_tree nodes a.0)) (sub s (term_tree nodes b.0)) ≡ Clash)
    → (s : ℕ → Term) → Obeys nodes t s → diff (sub s u) (sub s v) ≡ Clash
compare-clash nodes t u v a b e c s o = (λ i. diff (sym (e.left s o) i) (sym (e.right s o) i)) ∙ c s

pub clash-ints : (u v : Term) (m n : ℤ) (s : ℕ → Term) → u ≡ Int m → v ≡ Int n → int_eq m n ≡ false → diff (sub s u) (sub s v) ≡ Clash
clash-ints u v m n s p q d = (λ i. diff (sub s (p i)) (sub s (q i))) ∙ ap when d

int-spine : (z : ℤ) (s : ℕ → Term) (v : Term) → is_spine v ≡ true → diff (Int z) (sub s v) ≡ Clash
int-spine z s (Var x) h = cc
int-spine z s (Int y) h = cc
int-spine z s (Con k) h = refl
int-spine z s (Ap f a) h = refl

spine-int : (z : ℤ) (s : ℕ → Term) (v : Term) → is_spine v ≡ true → diff (sub s v) (Int z) ≡ Clash
spine-int z s (Var x) h = cc
spine-int z s (Int y) h = cc
spine-int z s (Con k) h = refl
spine-int z s (Ap f a) h = refl

pub spine-place : (u : Term) (h : Head) (ts : List Term) → u ≡ app h ts → is_spine u ≡ true
spine-place u h ts e = subst (λ w. is_spine w ≡ true) (sym e) (is_spine-app h ts)

pub clash-int-app : (u v : Term) (m : ℤ) (h : Head) (ts : List Term) (s : ℕ → Term) → u ≡ Int m → v ≡ app h ts → diff (sub s u) (sub s v) ≡ Clash
clash-int-app u v m h ts s p q = ap (λ w. diff (sub s w) (sub s v)) p ∙ int-spine m s v (spine-place v h ts q)

pub clash-app-int : (u v : Term) (m : ℤ) (h : Head) (ts : List Term) (s : ℕ → Term) → u ≡ app h ts → v ≡ Int m → diff (sub s u) (sub s v) ≡ Clash
clash-app-int u v m h ts s p q = ap (λ w. diff (sub s u) (sub s w)) q ∙ spine-int m s u (spine-place u h ts p)

-- heads with arguments
pub shape-app : (u v : Term) (h k : Head) (ts us : List Term) → u ≡ app h ts → v ≡ app k us → same_predicate u v ≡ head_eq h k && nat_eq (length ts) (length us)
shape-app u v h k ts us p q =
    (λ i. same_predicate (p i) (q i)) ∙ (λ i. same_head (head_of-app h ts i) (head_of-app k us i) && nat_eq (arity-app h ts i) (arity-app k us i))

-- places of classes, compared by their places and signs
pub compare-classes : (nodes : Nodes) (t : Table) (u v : Term) (a b : At) (c d : At) (ups : List ℕ) → Ends nodes t u v a b
    → is_spine (term_tree nodes a.0) ≡ true → is_spine (term_tree nodes b.0) ≡ true
    → IsClass nodes t a.0 c.0 → IsClass nodes t b.0 d.0 → (r : Compared) → ComparesApplied nodes c d r → IsCompared nodes t u v r
compare-classes nodes t u v a b c d ups e sa sb ca cb SameTerms h =
    λ s o. sym (e.left s o) ∙ (sym (ca.same s o) ∙ (ap (λ k. sub s (term_tree nodes k)) h ∙ (cb.same s o ∙ e.right s o)))
compare-classes nodes t u v a b c d ups e sa sb ca cb ClashTerms h =
    λ s o. (λ i. diff ((sym (e.left s o) ∙ sym (ca.same s o)) i) ((sym (e.right s o) ∙ sym (cb.same s o)) i))
    ∙ diff-clash s (term_tree nodes c.0) (term_tree nodes d.0) (ca.spine sa) (cb.spine sb) h
compare-classes nodes t u v a b c d ups e sa sb ca cb (MeetTerms x y) h = absurd h
compare-classes nodes t u v a b c d ups e sa sb ca cb (OpenTerms x y) h =
    subst (λ z. Opens nodes t u v z y) (sym h.0) (subst (λ z. Opens nodes t u v c z) (sym h.1) (record {
      left_place = record { inside = let i = ca.below in let j = e.left_end.place.inside in omega arith; vars = ca.vars e.left_end.place.vars };
      right_place = record { inside = let i = cb.below in let j = e.right_end.place.inside in omega arith; vars = cb.vars e.right_end.place.vars };
      shape = h.2;
      left = λ s o. ca.same s o ∙ e.left s o;
      right = λ s o. cb.same s o ∙ e.right s o;
    }))

-- ---- what is left to compare

pub lefts-push : (nodes : Nodes) (ps : List Pair) (p : Pair) → lefts nodes (ps ++ p ∷ []) ≡ drop p.next (args_in (term_tree nodes p.left.0)) ++ lefts nodes ps
lefts-push nodes [] p = sym (append-nil (drop p.next (args_in (term_tree nodes p.left.0))))
lefts-push nodes (q ∷ ps) p =
    ap (λ ts. ts ++ drop q.next (args_in (term_tree nodes q.left.0))) (lefts-push nodes ps p)
    ∙ append_assoc (drop p.next (args_in (term_tree nodes p.left.0))) (lefts nodes ps) (drop q.next (args_in (term_tree nodes q.left.0)))

rights-push : (nodes : Nodes) (ps : List Pair) (p : Pair) → rights nodes (ps ++ p ∷ []) ≡ drop p.next (args_in (term_tree nodes p.right.0)) ++ rights nodes ps
rights-push nodes [] p = sym (append-nil (drop p.next (args_in (term_tree nodes p.right.0))))
rights-push nodes (q ∷ ps) p =
    ap (λ ts. ts ++ drop q.next (args_in (term_tree nodes q.right.0))) (rights-push nodes ps p)
    ∙ append_assoc (drop p.next (args_in (term_tree nodes p.right.0))) (rights nodes ps) (drop q.next (args_in (term_tree nodes q.right.0)))

drop_all : (n : ℕ) (ts : List Term) → length ts ≤ n → drop n ts ≡ []
drop_all zero [] l = refl
drop_all zero (x ∷ ts) l = absurd (omega arith)
drop_all (suc n) [] l = refl
drop_all (suc n) (x ∷ ts) l = drop_all n ts (omega arith)

-- the pair on top
pub pairs-top : (nodes : Nodes) (t : Table) (items ps : List Pair) (p : Pair) → ArePairs nodes t items → items ≡ ps ++ p ∷ [] → IsComparing nodes t ps p
pairs-top nodes t items ps p h e = opened (Unit {0}) (IsComparing nodes t) items ps p h e

alike-same : (nodes : Nodes) (t : Table) (ls rs ls2 rs2 : List Term) → ls ≡ ls2 → rs ≡ rs2 → Alike nodes t ls rs ls2 rs2
alike-same nodes t ls rs ls2 rs2 p q s o = λ i. diff_lists (map (sub s) (p i)) (map (sub s) (q i))

pub alike-trans : (nodes : Nodes) (t : Table) (a b c d e f : List Term) → Alike nodes t a b c d → Alike nodes t c d e f → Alike nodes t a b e f
alike-trans nodes t a b c d e f p q s o = p s o ∙ q s o

suc-next : (m n : ℕ) → m ≡ n + 1 → m ≡ suc n
suc-next m n e = omega arith

drop-first : (ts : List Term) (k : ℕ) (u : Term) → k < length ts → get_or ts k (Var 0) ≡ u → drop k ts ≡ u ∷ drop (suc k) ts
drop-first ts k u l g = drop-cons ts k (Var 0) l ∙ ap (λ v. v ∷ drop (suc k) ts) g

-- the next arguments of the pair on top
pub lefts-next : (nodes : Nodes) (items ps : List Pair) (p q : Pair) (a : At) → items ≡ ps ++ p ∷ [] → ShowsArgument nodes p.left.0 p.next a.0 → q.left ≡ p.left
    → q.next ≡ p.next + 1
    → lefts nodes items ≡ term_tree nodes a.0 ∷ lefts nodes (ps ++ q ∷ [])
lefts-next nodes items ps p q a e sa ql qn =
    ap (lefts nodes) e
    ∙ (lefts-push nodes ps p ∙ (ap (λ ts. ts ++ lefts nodes ps)
    (drop-first (args_in (term_tree nodes p.left.0)) p.next (term_tree nodes a.0) sa.among sa.is)
    ∙ ap (λ ts. term_tree nodes a.0 ∷ ts) (sym (lefts-push nodes ps q
    ∙ (λ i. drop (suc-next q.next p.next qn i) (args_in (term_tree nodes (ql i).0)) ++ lefts nodes ps)))))

rights-next : (nodes : Nodes) (items ps : List Pair) (p q : Pair) (b : At) → items ≡ ps ++ p ∷ [] → ShowsArgument nodes p.right.0 p.next b.0 → q.right ≡ p.right
    → q.next ≡ p.next + 1
    → rights nodes items ≡ term_tree nodes b.0 ∷ rights nodes (ps ++ q ∷ [])
rights-next nodes items ps p q b e sb qr qn =
    ap (rights nodes) e
    ∙ (rights-push nodes ps p ∙ (ap (λ ts. ts ++ rights nodes ps)
    (drop-first (args_in (term_tree nodes p.right.0)) p.next (term_tree nodes b.0) sb.among sb.is)
    ∙ ap (λ ts. term_tree nodes b.0 ∷ ts) (sym (rights-push nodes ps q
    ∙ (λ i. drop (suc-next q.next p.next qn i) (args_in (term_tree nodes (qr i).0)) ++ rights nodes ps)))))

pub alike-next : (nodes : Nodes) (t : Table) (items ps : List Pair) (p q : Pair) (a b : At) → items ≡ ps ++ p ∷ [] → ShowsArgument nodes p.left.0 p.next a.0
    → ShowsArgument nodes p.right.0 p.next b.0
    → q.left ≡ p.left → q.right ≡ p.right → q.next ≡ p.next + 1
    → Alike nodes t (lefts nodes items) (rights nodes items) (term_tree nodes a.0 ∷ lefts nodes (ps ++ q ∷ []))
    (term_tree nodes b.0 ∷ rights nodes (ps ++ q ∷ []))
alike-next nodes t items ps p q a b e sa sb ql qr qn =
    alike-same nodes t (lefts nodes items) (rights nodes items) (term_tree nodes a.0 ∷ lefts nodes (ps ++ q ∷ []))
    (term_tree nodes b.0 ∷ rights nodes (ps ++ q ∷ []))
    (lefts-next nodes items ps p q a e sa ql qn) (rights-next nodes items ps p q b e sb qr qn)

-- nothing is left of the pair on top
pub lefts-done : (nodes : Nodes) (items ps : List Pair) (p : Pair) → items ≡ ps ++ p ∷ [] → length (args_in (term_tree nodes p.left.0)) ≤ p.next
    → lefts nodes items ≡ lefts nodes ps
lefts-done nodes items ps p e l = ap (lefts nodes) e ∙ (lefts-push nodes ps p
    ∙ ap (λ ts. ts ++ lefts nodes ps) (drop_all p.next (args_in (term_tree nodes p.left.0)) l))

pub alike-done : (nodes : Nodes) (t : Table) (items ps : List Pair) (p : Pair) → items ≡ ps ++ p ∷ [] → length (args_in (term_tree nodes p.left.0)) ≤ p.next
    → length (args_in (term_tree nodes p.left.0)) ≡ length (args_in (term_tree nodes p.right.0))
    → Alike nodes t (lefts nodes items) (rights nodes items) (lefts nodes ps) (rights nodes ps)
alike-done nodes t items ps p e l n =
    alike-same nodes t (lefts nodes items) (rights nodes items) (lefts nodes ps) (rights nodes ps) (lefts-done nodes items ps p e l)
    (ap (rights nodes) e ∙ (rights-push nodes ps p ∙ ap (λ ts. ts ++ rights nodes ps) (drop_all p.next (args_in (term_tree nodes p.right.0)) (omega arith))))

-- equal terms in front
pub alike-equal : (nodes : Nodes) (t : Table) (u v : Term) (ls rs : List Term) → AreSame nodes t u v → Alike nodes t (u ∷ ls) (v ∷ rs) ls rs
alike-equal nodes t u v ls rs h s o = ap (λ d. and_then d (diff_lists (map (sub s) ls) (map (sub s) rs))) (diff-same (sub s u) (sub s v) (h s o))

-- applications of one head in front
pub alike-open : (nodes : Nodes) (t : Table) (u v : Term) (a b : At) (ps : List Pair) → Opens nodes t u v a b
    → Alike nodes t (u ∷ lefts nodes ps) (v ∷ rights nodes ps) (lefts nodes (ps ++ (record { left = a; right = b; next = 0 }) ∷ []))
    (rights nodes (ps ++ (record { left = a; right = b; next = 0 }) ∷ []))
alike-open nodes t u v a b ps h s o =
    ap (λ d. and_then d (diff_lists (map (sub s) (lefts nodes ps)) (map (sub s) (rights nodes ps))))
    ((λ i. diff (sym (h.left s o) i) (sym (h.right s o) i)) ∙ diff-spine s (term_tree nodes a.0) (term_tree nodes b.0) h.shape)
    ∙ (sym (diff-append (map (sub s) us) (map (sub s) vs) (map (sub s) (lefts nodes ps)) (map (sub s) (rights nodes ps)) n)
    ∙ (λ i. diff_lists ((sym (map-append (sub s) us (lefts nodes ps)) ∙ ap (map (sub s)) (sym (lefts-push nodes ps (record { left = a; right = b; next = 0 }))))
    i)
    ((sym (map-append (sub s) vs (rights nodes ps)) ∙ ap (map (sub s)) (sym (rights-push nodes ps (record { left = a; right = b; next = 0 })))) i)))
  where
    us : List Term
    us = args_in (term_tree nodes a.0)

    vs : List Term
    vs = args_in (term_tree nodes b.0)

    n : length (map (sub s) us) ≡ length (map (sub s) vs)
    n = length-map us (sub s) ∙ (shape-length (term_tree nodes a.0) (term_tree nodes b.0) h.shape ∙ sym (length-map vs (sub s)))

-- ---- the stack of pairs

-- the pair on top goes on, and waits for its next arguments
pub awaits-next : (nodes : Nodes) (t : Table) (items ps : List Pair) (p q : Pair) (a b : At) → ArePairs nodes t items → items ≡ ps ++ p ∷ []
    → ShowsArgument nodes p.left.0 p.next a.0 → ShowsArgument nodes p.right.0 p.next b.0
    → q.left ≡ p.left → q.right ≡ p.right → q.next ≡ p.next + 1
    → Awaits nodes t (ps ++ q ∷ []) (record { left = term_tree nodes a.0; right = term_tree nodes b.0 })
awaits-next nodes t items ps p q a b h e sa sb ql qr qn =
    subst (λ r. Awaits nodes t (ps ++ r ∷ []) (record { left = term_tree nodes a.0; right = term_tree nodes b.0 }))
    (λ i. record { left = sym ql i; right = sym qr i; next = sym qn i }) base
  where
    r : Pair
    r = record { left = p.left; right = p.right; next = p.next + 1 }

    c : IsComparing nodes t ps p
    c = pairs-top nodes t items ps p h e

    waits : AwaitsEqual nodes t r (record { left = term_tree nodes a.0; right = term_tree nodes b.0 })
    waits s o same k l = elim (below-suc k p.next l) [
      | inl m ↦ c.top s o k m
      | inr m ↦ subst (λ j. sub s (arg (term_tree nodes p.left.0) j) ≡ sub s (arg (term_tree nodes p.right.0) j)) (sym m)
          (ap (sub s) sa.is ∙ (same ∙ ap (sub s) (sym sb.is)))
    ]

    base : Awaits nodes t (ps ++ r ∷ []) (record { left = term_tree nodes a.0; right = term_tree nodes b.0 })
    base = record {
      waits = Waits-push (pair_trees nodes) (AwaitsEqual nodes t) ps r (record { left = term_tree nodes a.0; right = term_tree nodes b.0 }) c.waits waits;
      pairs = All-push (IsPair nodes t) ps r c.pairs (record { left_place = c.pair.left_place; right_place = c.pair.right_place; shape = c.pair.shape });
    }

-- what was waited for is equal
pub awaits-equal : (nodes : Nodes) (t : Table) (ps : List Pair) (u v : Term) → Awaits nodes t ps (record { left = u; right = v }) → AreSame nodes t u v
    → ArePairs nodes t ps
awaits-equal nodes t ps u v w h = elim (split_last ps) [
  | no_item e ↦ is_empty e tt
  | an_item qs q e ↦
      let w2 : Waits (pair_trees nodes) (AwaitsEqual nodes t) (qs ++ q ∷ []) (record { left = u; right = v }) =
      subst (λ z. Waits (pair_trees nodes) (AwaitsEqual nodes t) z (record { left = u; right = v })) e w.waits in
      let r = Waits-last (pair_trees nodes) (AwaitsEqual nodes t) qs q (record { left = u; right = v }) w2 in
      let a2 : All (IsPair nodes t) (qs ++ q ∷ []) = subst (All (IsPair nodes t)) e w.pairs in
      is_full qs q e (record {
        top = λ s o. r.1 s o (h s o);
        waits = r.0;
        pair = All-last (IsPair nodes t) qs q a2;
        pairs = All-before (IsPair nodes t) qs q a2;
      })
]

-- what was waited for is opened
pub awaits-open : (nodes : Nodes) (t : Table) (ps : List Pair) (u v : Term) (a b : At) → Awaits nodes t ps (record { left = u; right = v })
    → Opens nodes t u v a b
    → ArePairs nodes t (ps ++ (record { left = a; right = b; next = 0 }) ∷ [])
awaits-open nodes t ps u v a b w h = is_full ps (record { left = a; right = b; next = 0 }) refl (record {
  top = λ s o k l. absurd (omega arith);
  waits = awaits-other nodes t ps u v (term_tree nodes a.0) (term_tree nodes b.0) w h.left h.right;
  pair = record { left_place = h.left_place; right_place = h.right_place; shape = h.shape };
  pairs = w.pairs;
})
  where
    awaits-other : (nodes : Nodes) (t : Table) (ps : List Pair) (u v u2 v2 : Term) → Awaits nodes t ps (record { left = u; right = v }) → AreSame nodes t u2 u
        → AreSame nodes t v2 v
        → Waits (pair_trees nodes) (AwaitsEqual nodes t) ps (record { left = u2; right = v2 })
    awaits-other nodes t [] u v u2 v2 w p q = tt
    awaits-other nodes t (f ∷ []) u v u2 v2 w p q = (λ s o e. w.waits.0 s o (sym (p s o) ∙ (e ∙ q s o)), tt)
    awaits-other nodes t (f ∷ g ∷ fs) u v u2 v2 w p q =
        (w.waits.0, awaits-other nodes t (g ∷ fs) u v u2 v2 (record { waits = w.waits.1; pairs = All-tail (IsPair nodes t) f (g ∷ fs) w.pairs }) p q)

-- what was waited for meets at other places
pub awaits-meet : (nodes : Nodes) (t : Table) (ps : List Pair) (u v : Term) (a b : At) → Awaits nodes t ps (record { left = u; right = v })
    → AreSame nodes t (term_tree nodes a.0) u → AreSame nodes t (term_tree nodes b.0) v
    → Awaits nodes t ps (record { left = term_tree nodes a.0; right = term_tree nodes b.0 })
awaits-meet nodes t ps u v a b w p q = record { waits = go ps w.waits; pairs = w.pairs }
  where
    go : (qs : List Pair) → Waits (pair_trees nodes) (AwaitsEqual nodes t) qs (record { left = u; right = v })
        → Waits (pair_trees nodes) (AwaitsEqual nodes t) qs (record { left = term_tree nodes a.0; right = term_tree nodes b.0 })
    go [] w = tt
    go (f ∷ []) w = (λ s o e. w.0 s o (sym (p s o) ∙ (e ∙ q s o)), tt)
    go (f ∷ g ∷ fs) w = (w.0, go (g ∷ fs) w.1)

equal-terms : (s : ℕ → Term) (u v : Term) → same_predicate u v ≡ true → ((k : ℕ) → k < length (args_in u) → sub s (arg u k) ≡ sub s (arg v k))
    → diff (sub s u) (sub s v) ≡ Same
equal-terms s u v h e =
    diff-spine s u v h ∙ ap (diff_lists (map (sub s) (args_in u))) (sym (lists (args_in u) (args_in v) (shape-length u v h) e))
    ∙ all-refl (map (sub s) (args_in u))
  where
    lists : (ts us : List Term) → length ts ≡ length us → ((k : ℕ) → k < length ts → sub s (get_or ts k (Var 0)) ≡ sub s (get_or us k (Var 0)))
        → map (sub s) ts ≡ map (sub s) us
    lists [] [] n e = refl
    lists [] (y ∷ us) n e = absurd (omega arith)
    lists (x ∷ ts) [] n e = absurd (omega arith)
    lists (x ∷ ts) (y ∷ us) n e =
        let p : sub s x ≡ sub s y = e 0 (omega arith) in let q = lists ts us (omega arith) (λ k l. e (suc k) (omega arith)) in (λ i. p i ∷ q i)

    all-refl : (ts : List Term) → diff_lists ts ts ≡ Same
    all-refl [] = refl
    all-refl (x ∷ ts) = (λ i. and_then (diff-refl x i) (all-refl ts i))

-- the pair on top is equal
pub top-equal : (nodes : Nodes) (t : Table) (ps : List Pair) (p : Pair) → IsComparing nodes t ps p → length (args_in (term_tree nodes p.left.0)) ≤ p.next
    → AreSame nodes t (term_tree nodes p.left.0) (term_tree nodes p.right.0)
top-equal nodes t ps p c l s o =
    diff-is-same (sub s (term_tree nodes p.left.0)) (sub s (term_tree nodes p.right.0))
    (equal-terms s (term_tree nodes p.left.0) (term_tree nodes p.right.0) c.pair.shape (λ k m. c.top s o k (omega arith)))

pub shape-spine : (u v : Term) → same_predicate u v ≡ true → (is_spine u ≡ true) × (is_spine v ≡ true)
shape-spine u v h = (
  left (head_of u) (head_of v) refl (and_left (same_head (head_of u) (head_of v)) (nat_eq (arity u) (arity v)) h),
  right (head_of u) (head_of v) refl (and_left (same_head (head_of u) (head_of v)) (nat_eq (arity u) (arity v)) h),
)
  where
    left : (o q : Option Head) → head_of u ≡ o → same_head o q ≡ true → is_spine u ≡ true
    left None q e h = cc
    left (Some k) q e h = spine_of_head u k e

    right : (o q : Option Head) → head_of v ≡ q → same_head o q ≡ true → is_spine v ≡ true
    right None q e h = cc
    right (Some k) None e h = cc
    right (Some k) (Some j) e h = spine_of_head v j e

pub top-joined : (nodes : Nodes) (t : Table) (ps : List Pair) (p : Pair) → IsComparing nodes t ps p → length (args_in (term_tree nodes p.left.0)) ≤ p.next
    → AreJoined nodes t p.left.0 p.right.0
top-joined nodes t ps p c l =
    let h = shape-spine (term_tree nodes p.left.0) (term_tree nodes p.right.0) c.pair.shape in record {
      same = top-equal nodes t ps p c l;
      vars_left = c.pair.left_place.vars;
      vars_right = c.pair.right_place.vars;
      left_spine = h.0;
      right_spine = h.1;
    }

-- the pair on top is done
pub pairs-done : (nodes : Nodes) (t : Table) (ps : List Pair) (p : Pair) → IsComparing nodes t ps p → length (args_in (term_tree nodes p.left.0)) ≤ p.next
    → ArePairs nodes t ps
pairs-done nodes t ps p c l =
    awaits-equal nodes t ps (term_tree nodes p.left.0) (term_tree nodes p.right.0) (record { waits = c.waits; pairs = c.pairs }) (top-equal nodes t ps p c l)

-- ---- the weight of what is left

pub pairs_weight-next : (nodes : Nodes) (s : ℕ → Term) (ps : List Pair) (p q : Pair) → p.next < length (args_in (term_tree nodes p.left.0)) → q.left ≡ p.left
    → q.next ≡ p.next + 1
    → pairs_weight nodes s (ps ++ q ∷ []) < pairs_weight nodes s (ps ++ p ∷ [])
pairs_weight-next nodes s ps p q b ql qn =
    let w : Pair → ℕ = λ r. 1 + rest_weight s (term_tree nodes r.left.0) r.next in
    let e = sum_by_push w ps q in let f = sum_by_push w ps p in
    let r = rest_weight-more s (term_tree nodes p.left.0) p.next b in let v = weight-two (sub s (arg (term_tree nodes p.left.0) p.next)) in
    let g : rest_weight s (term_tree nodes q.left.0) q.next ≡ rest_weight s (term_tree nodes p.left.0) (p.next + 1) =
    λ i. rest_weight s (term_tree nodes (ql i).0) (qn i) in
    omega arith

pub pairs_weight-open : (nodes : Nodes) (s : ℕ → Term) (ps : List Pair) (p q : Pair) (a b : At) → p.next < length (args_in (term_tree nodes p.left.0))
    → q.left ≡ p.left → q.next ≡ p.next + 1
    → sub s (term_tree nodes a.0) ≡ sub s (arg (term_tree nodes p.left.0) p.next)
    → pairs_weight nodes s ((ps ++ q ∷ []) ++ (record { left = a; right = b; next = 0 }) ∷ []) < pairs_weight nodes s (ps ++ p ∷ [])
pairs_weight-open nodes s ps p q a b l ql qn same =
    let w : Pair → ℕ = λ r. 1 + rest_weight s (term_tree nodes r.left.0) r.next in
    let o = sum_by_push w (ps ++ q ∷ []) (record { left = a; right = b; next = 0 }) in
    let e = sum_by_push w ps q in let f = sum_by_push w ps p in
    let r = rest_weight-more s (term_tree nodes p.left.0) p.next l in let v = weight-place nodes s a.0 in
    let d : weight (sub s (term_tree nodes a.0)) ≡ weight (sub s (arg (term_tree nodes p.left.0) p.next)) = ap weight same in
    let g : rest_weight s (term_tree nodes q.left.0) q.next ≡ rest_weight s (term_tree nodes p.left.0) (p.next + 1) =
    λ i. rest_weight s (term_tree nodes (ql i).0) (qn i) in
    omega arith

-- two reads in a row
pub next-is : (ups : List ℕ) (k a b : ℕ) → k < length ups → slice_index ups k ≤ k → a ≡ get_or ups k a → b ≡ get_or ups a b
    → b ≡ slice_index ups (slice_index ups k)
next-is ups k a b l h p q =
    let e : a ≡ slice_index ups k = p ∙ get_or_default ups k a 0 l in
    q ∙ (get_or_default ups a b 0 (omega arith) ∙ ap (λ j. get_or ups j 0) e)

module _ (nodes : Nodes) (u v : Term) (h k : Head) (ats bts : List At) (p : u ≡ app h (term_trees nodes ats)) (q : v ≡ app k (term_trees nodes bts)) where
  lengths : same_predicate u v ≡ head_eq h k && nat_eq (length ats) (length bts)
  lengths =
      shape-app u v h k (term_trees nodes ats) (term_trees nodes bts) p q
      ∙ (λ i. head_eq h k && nat_eq (length-map ats (λ (a : At). term_tree nodes a.0) i) (length-map bts (λ (a : At). term_tree nodes a.0) i))

  pub shape-same : head_eq h k ≡ true → length ats ≡ length bts → same_predicate u v ≡ true
  shape-same e l = lengths ∙ (λ i. e i && eq-eqb (length ats) (length bts) l i)

  pub shape-other_head : head_eq h k ≡ false → same_predicate u v ≡ false
  shape-other_head e = lengths ∙ ap (λ b. b && nat_eq (length ats) (length bts)) e

  pub shape-other_length : (length ats ≡ length bts → ⊥) → same_predicate u v ≡ false
  shape-other_length n = lengths ∙ (ap (λ b. head_eq h k && b) (ne_eqb (length ats) (length bts) n) ∙ and-false (head_eq h k))
