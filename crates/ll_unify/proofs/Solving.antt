-- How bindings lead to what solves a list of equations.
use Rattle.std.proofs.Common.{◌≡◌, ℕ, zero, suc, ◌+◌, ◌≤◌, true, false, List, [], ◌∷◌, ◌++◌, length, map, get_or, refl, ap, sym, ◌∙◌, arith}
use Rattle.std.specs.Prelude.{Option, Some, None, option_map, option_and_then, slice_index}
use Rattle.ll_list_laws.proofs.CallerLemmas.{map_map, map_same}
use Rattle.ll_bank.specs.declared.At.{At}
use Rattle.ll_bank.specs.Term.{Term, Var, sub}
use Rattle.ll_bank.specs.Nodes.{Nodes, term_tree}
use Rattle.ll_laws.specs.Unify.{Clash, Meet, and_then, diff, diff_lists, bound_to, Solved, Binding, bind, after, resolve, solve, mgu}
use Rattle.ll_laws.proofs.CallerLemmas.{sub_comp, sub_id}
use Rattle.ll_unify.specs.Bindings.{Table, found, count, IsPlaceOf, IsTable, Obeys, AreSame, HasBound, Binds, Meets, unbound}
use Rattle.ll_unify.specs.declared.meet.Pair.{Pair}
use Rattle.ll_unify.specs.Pairs.{pair_trees, AwaitsEqual, IsPair, ArePairs, Awaits, AreClasses, Alike}
use Rattle.ll_unify.specs.Solving.{along, Solves, wanted, spare}
use Rattle.ll_unify.specs.Stacks.{is_full}
use Rattle.ll_unify.proofs.Stacks.{Waits-map}
use Rattle.ll_unify.proofs.Readings.{Obeys-found}
use Rattle.ll_unify.proofs.Alike.{alike-solve, solve-drop}
use Rattle.ll_unify.proofs.Pairs.{awaits-equal}

-- the same lists in another form
pub solves-alike : (nodes : Nodes) (t : Table) (k : ℕ) (goal : Option Solved) (ls rs ls2 rs2 : List Term) → IsTable nodes t → Alike nodes t ls rs ls2 rs2
    → Solves nodes t k goal ls rs → Solves nodes t k goal ls2 rs2
solves-alike nodes t k goal ls rs ls2 rs2 tb a h =
    h ∙ ap (option_map (along (found nodes t))) (alike-solve nodes t ls rs ls2 rs2 a (unbound t.bound + k) t.levels (found nodes t)
    (Obeys-found nodes t tb.ordered))

-- nothing is left
pub solves-none : (nodes : Nodes) (t : Table) (k : ℕ) (goal : Option Solved) → Solves nodes t k goal [] []
    → goal ≡ Some (record { subst = found nodes t; levels = t.levels })
solves-none nodes t k goal h = h ∙ (ap (option_map (along (found nodes t))) (no_more (unbound t.bound + k) t.levels)
    ∙ (λ i. Some (record { subst = λ x. sub_id (found nodes t x) i; levels = t.levels })))
  where
    no_more : (n : ℕ) (levels : List ℕ) → solve n [] [] levels ≡ Some (record { subst = Var; levels = levels })
    no_more zero levels = refl
    no_more (suc n) levels = refl

-- a clash
solve-clash : (n : ℕ) (ls rs : List Term) (levels : List ℕ) → diff_lists ls rs ≡ Clash → solve n ls rs levels ≡ None
solve-clash zero ls rs levels e = ap (λ d. resolve d levels (λ b. None)) e
solve-clash (suc n) ls rs levels e =
    ap (λ d. resolve d levels (λ b. solve n (map (sub (bound_to b.var b.value)) ls) (map (sub (bound_to b.var b.value)) rs) b.levels)) e

pub solves-clash : (nodes : Nodes) (t : Table) (k : ℕ) (goal : Option Solved) (ls rs : List Term) → IsTable nodes t
    → ((s : ℕ → Term) → Obeys nodes t s → diff_lists (map (sub s) ls) (map (sub s) rs) ≡ Clash) → Solves nodes t k goal ls rs → goal ≡ None
solves-clash nodes t k goal ls rs tb c h =
    h ∙ ap (option_map (along (found nodes t))) (solve-clash (unbound t.bound + k) (map (sub (found nodes t)) ls) (map (sub (found nodes t)) rs) t.levels
    (c (found nodes t) (Obeys-found nodes t tb.ordered)))

-- no binding
solve-unbound : (n : ℕ) (ls rs : List Term) (levels : List ℕ) (x : ℕ) (v : Term) → diff_lists ls rs ≡ Meet x v → bind levels x v ≡ None
    → solve n ls rs levels ≡ None
solve-unbound zero ls rs levels x v e b =
    ap (λ d. resolve d levels (λ b. None)) e ∙ ap (option_and_then (λ b. option_map (after b) None)) b
solve-unbound (suc n) ls rs levels x v e b =
    ap (λ d. resolve d levels (λ b. solve n (map (sub (bound_to b.var b.value)) ls) (map (sub (bound_to b.var b.value)) rs) b.levels)) e
    ∙ ap (option_and_then (λ b. option_map (after b) (solve n (map (sub (bound_to b.var b.value)) ls) (map (sub (bound_to b.var b.value)) rs) b.levels))) b

-- a binding
solve-bound : (n : ℕ) (ls rs : List Term) (levels : List ℕ) (x : ℕ) (v : Term) (b : Binding) → diff_lists ls rs ≡ Meet x v → bind levels x v ≡ Some b
    → solve (suc n) ls rs levels ≡ option_map (after b) (solve n (map (sub (bound_to b.var b.value)) ls) (map (sub (bound_to b.var b.value)) rs) b.levels)
solve-bound n ls rs levels x v c e q =
    ap (λ d. resolve d levels (λ b. solve n (map (sub (bound_to b.var b.value)) ls) (map (sub (bound_to b.var b.value)) rs) b.levels)) e
    ∙ ap (option_and_then (λ b. option_map (after b) (solve n (map (sub (bound_to b.var b.value)) ls) (map (sub (bound_to b.var b.value)) rs) b.levels))) q

diff-front : (u v : Term) (ls rs : List Term) (x : ℕ) (w : Term) → diff u v ≡ Meet x w → diff_lists (u ∷ ls) (v ∷ rs) ≡ Meet x w
diff-front u v ls rs x w e = ap (λ d. and_then d (diff_lists ls rs)) e

-- a refused meeting
pub solves-refused : (nodes : Nodes) (old new : Table) (k : ℕ) (goal : Option Solved) (u v : Term) (ls rs : List Term)
    → Solves nodes old k goal (u ∷ ls) (v ∷ rs) → Meets nodes old new u v false → goal ≡ None
solves-refused nodes old new k goal u v ls rs h m =
    h ∙ ap (option_map (along (found nodes old))) (solve-unbound (unbound old.bound + k) (map (sub (found nodes old)) (u ∷ ls))
    (map (sub (found nodes old)) (v ∷ rs)) old.levels m.var m.value
    (diff-front (sub (found nodes old) u) (sub (found nodes old) v) (map (sub (found nodes old)) ls) (map (sub (found nodes old)) rs) m.var m.value m.meet)
    (no_binding (bind old.levels m.var m.value) m.binds))
  where
    no_binding : (o : Option Binding) → Binds nodes old new u v o false → o ≡ None
    no_binding None b = refl
    no_binding (Some c) b = absurd b

-- a meeting that gave a binding
pub met : (nodes : Nodes) (old new : Table) (u v : Term) (m : Meets nodes old new u v true)
    → (b : Binding) × (bind old.levels m.var m.value ≡ Some b) × HasBound nodes old new u v b
met nodes old new u v m = go (bind old.levels m.var m.value) m.binds
  where
    go : (o : Option Binding) → Binds nodes old new u v o true → (b : Binding) × (o ≡ Some b) × HasBound nodes old new u v b
    go None h = absurd h
    go (Some b) h = (b, refl, h)

pub solves-bound : (nodes : Nodes) (old new : Table) (k : ℕ) (goal : Option Solved) (u v : Term) (ls rs : List Term) → IsTable nodes new
    → Solves nodes old k goal (u ∷ ls) (v ∷ rs) → Meets nodes old new u v true → Solves nodes new k goal ls rs
solves-bound nodes old new k goal u v ls rs tb h m =
    let r = met nodes old new u v m in
    step r.0 r.1 r.2
  where
    s : ℕ → Term
    s = found nodes old

    step : (b : Binding) → bind old.levels m.var m.value ≡ Some b → HasBound nodes old new u v b → Solves nodes new k goal ls rs
    step b e c =
        h ∙ (ap (λ n. option_map (along s) (solve n (map (sub s) (u ∷ ls)) (map (sub s) (v ∷ rs)) old.levels)) (let f = c.fewer in
        let q : unbound old.bound + k ≡ suc (unbound new.bound + k) = omega (arith, f) in q)
        ∙ (ap (option_map (along s)) (solve-bound (unbound new.bound + k) (map (sub s) (u ∷ ls)) (map (sub s) (v ∷ rs)) old.levels m.var m.value b
        (diff-front (sub s u) (sub s v) (map (sub s) ls) (map (sub s) rs) m.var m.value m.meet) e)
        ∙ (ap (λ o. option_map (along s) (option_map (after b) o)) rest
        ∙ together (solve (unbound new.bound + k) (map (sub (found nodes new)) ls) (map (sub (found nodes new)) rs) new.levels))))
      where
        g : ℕ → Term
        g = bound_to b.var b.value

        now : (w : Term) → sub (found nodes new) w ≡ sub g (sub s w)
        now w = (λ i. sub (λ x. c.subst x i) w) ∙ sym (sub_comp g s w)

        lists : (ts : List Term) → map (sub g) (map (sub s) ts) ≡ map (sub (found nodes new)) ts
        lists ts = map_map (sub g) (sub s) ts ∙ map_same _ _ (λ w. sym (now w)) ts

        front : sub g (sub s u) ≡ sub g (sub s v)
        front = sym (now u) ∙ (c.same (found nodes new) (Obeys-found nodes new tb.ordered) ∙ now v)

        rest : solve (unbound new.bound + k) (map (sub g) (map (sub s) (u ∷ ls))) (map (sub g) (map (sub s) (v ∷ rs))) b.levels
            ≡ solve (unbound new.bound + k) (map (sub (found nodes new)) ls) (map (sub (found nodes new)) rs) new.levels
        rest =
            ap (λ w. solve (unbound new.bound + k) (w ∷ map (sub g) (map (sub s) ls)) (sub g (sub s v) ∷ map (sub g) (map (sub s) rs)) b.levels) front
            ∙ (solve-drop (unbound new.bound + k) (sub g (sub s v)) (map (sub g) (map (sub s) ls)) (map (sub g) (map (sub s) rs)) b.levels
            ∙ (λ i. solve (unbound new.bound + k) (lists ls i) (lists rs i) (sym c.levels i)))

        together : (o : Option Solved) → option_map (along s) (option_map (after b) o) ≡ option_map (along (found nodes new)) o
        together None = refl
        together (Some w) = λ i. Some (record { subst = λ x. (sym (sub_comp w.subst g (s x)) ∙ ap (sub w.subst) (sym (c.subst x))) i; levels = w.levels })

-- ---- what stays as it was under one more binding

pub bound-same : (nodes : Nodes) (old new : Table) (u v p q : Term) (b : Binding) → HasBound nodes old new u v b → AreSame nodes old p q → AreSame nodes new p q
bound-same nodes old new u v p q b h a s o = a s (h.obeys s o)

pub place-bound : (nodes : Nodes) (old new : Table) (u v : Term) (b : Binding) (at : ℕ) → HasBound nodes old new u v b → IsPlaceOf nodes old at
    → IsPlaceOf nodes new at
place-bound nodes old new u v b at h p = record { inside = p.inside; vars = h.cells.terms (term_tree nodes at) p.vars }

pub classes-bound : (nodes : Nodes) (old new : Table) (u v : Term) (b : Binding) (ups : List ℕ) → HasBound nodes old new u v b → AreClasses nodes old ups
    → AreClasses nodes new ups
classes-bound nodes old new u v b ups h c at l = let k = c at l in record {
  below = k.below;
  vars = λ w. h.cells.terms (term_tree nodes (slice_index ups at)) (k.vars (h.cells_before (term_tree nodes at) w));
  spine = k.spine;
  same = bound-same nodes old new u v (term_tree nodes (slice_index ups at)) (term_tree nodes at) b h k.same;
}

pub awaits-bound : (nodes : Nodes) (old new : Table) (u v : Term) (b : Binding) (ps : List Pair) → HasBound nodes old new u v b
    → Awaits nodes old ps (record { left = u; right = v }) → ArePairs nodes new ps
awaits-bound nodes old new u v b ps h w =
    awaits-equal nodes new ps u v (record {
      waits = Waits-map (pair_trees nodes) (AwaitsEqual nodes old) (AwaitsEqual nodes new) (λ f c r s o e. r s (h.obeys s o) e) ps
          (record { left = u; right = v }) w.waits;
      pairs = λ k d l. let p = w.pairs k d l in record {
        left_place = place-bound nodes old new u v b (get_or ps k d).left.0 h p.left_place;
        right_place = place-bound nodes old new u v b (get_or ps k d).right.0 h p.right_place;
        shape = p.shape;
      };
    }) h.same

-- ---- the start

-- a list has no more unbound variables than it is long
unbound-le : (os : List (Option At)) → unbound os ≤ length os
unbound-le [] = omega arith
unbound-le (None ∷ os) = let h = unbound-le os in omega arith
unbound-le (Some at ∷ os) = let h = unbound-le os in omega arith

pub solves-start : (nodes : Nodes) (t : Table) (ls rs : List Term) → IsTable nodes t → Solves nodes t (spare t) (wanted nodes t ls rs) ls rs
unfolding mgu
solves-start nodes t ls rs h =
    ap (λ n. option_map (along (found nodes t)) (solve n (map (sub (found nodes t)) ls) (map (sub (found nodes t)) rs) t.levels))
    (let l = unbound-le t.bound in let e = h.bound in let q : count t ≡ unbound t.bound + spare t = omega arith in q)

pub pairs-start : (nodes : Nodes) (t : Table) (p : Pair) → IsPair nodes t p → p.next ≡ 0 → ArePairs nodes t ([] ++ p ∷ [])
pairs-start nodes t p h e = is_full [] p refl (record { top = λ s o k l. absurd (omega arith); waits = tt; pair = h; pairs = λ k d l. absurd (omega arith) })
