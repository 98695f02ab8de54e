-- What unification answers, from the bindings that were found.
use Rattle.std.proofs.Common.{◌≡◌, ℕ, zero, suc, ◌<◌, inl, inr, true, List, [], ◌∷◌, length, get_or, All, refl, ap, sym, subst, ◌∙◌, arith}
use Rattle.std.specs.Prelude.{Option, Some, None}
use Rattle.std.specs.List.{list_all}
use Rattle.std.proofs.lemmas.Bool.{eq-eqb, cases_lt}
use Rattle.std.proofs.Math.ListN.{get_or-eq_default}
use Rattle.ll_list_laws.proofs.CallerLemmas.{and_true_left as and_left, and_true_right as and_right}
use Rattle.ll_bank.specs.declared.At.{At}
use Rattle.ll_bank.specs.Term.{Term, Var, sub, occurs}
use Rattle.ll_bank.specs.Nodes.{Nodes, term_tree, term_trees, AllInTerms}
use Rattle.ll_laws.specs.Unify.{Solved, mgu, vars_below}
use Rattle.ll_laws.proofs.CallerLemmas.{sub_id, sub_same, found-unifier, found-falls, found-best, none-unifier}
use Rattle.ll_unify.specs.Bindings.{Table, cell, count, found, IsTable, IsPlaceOf, BindsPlaces}
use Rattle.ll_unify.specs.Solving.{IsAnswer, wanted}
use Rattle.ll_unify.specs.Copied.{IsFinal, AreFinal}
use Rattle.ll_unify.proofs.Readings.{found-free}
use Rattle.ll_unify.proofs.BindingLaws.{found-unbound, place-below, table-unbound}
use Rattle.ll_unify.proofs.EquationLaws.{wanted-start}
use Rattle.ll_unify.specs.declared.mgu_table.Table.{Table as KeptTable}
use Rattle.ll_unify.specs.declared.Subst.{Subst}
use Rattle.ll_unify.specs.Tables.{table_of, IsStart}
use Rattle.ll_unify.specs.Unifies.{shown, solved_of, IsEntry, HasEntries, IsBest}

-- ---- the start

pub start-table : (nodes : Nodes) (t : KeptTable) (ls : List ℕ) → IsStart t ls → IsTable nodes (table_of t)
start-table nodes t ls h = table-unbound nodes (table_of t) (h.count ∙ sym (ap length h.levels)) h.free

-- nothing is bound
pub start-bound : (nodes : Nodes) (t : KeptTable) (ls : List ℕ) → IsStart t ls → BindsPlaces nodes (table_of t)
start-bound nodes t ls h x at e = let f : None ≡ Some at = sym (h.free x) ∙ e in cc

levelled-at : (nodes : Nodes) (n : ℕ) (ats : List At) (k : ℕ) (d : At) → list_all (vars_below n) (term_trees nodes ats) ≡ true → k < length ats
    → vars_below n (term_tree nodes (get_or ats k d).0) ≡ true
levelled-at nodes n [] k d h l = absurd (omega arith)
levelled-at nodes n (a ∷ ats) zero d h l = and_left (vars_below n (term_tree nodes a.0)) (list_all (vars_below n) (term_trees nodes ats)) h
levelled-at nodes n (a ∷ ats) (suc k) d h l = levelled-at nodes n ats k d
    (and_right (vars_below n (term_tree nodes a.0)) (list_all (vars_below n) (term_trees nodes ats)) h) (omega arith)

-- terms whose variables have levels
pub start-places : (nodes : Nodes) (t : KeptTable) (ls : List ℕ) (ats : List At) → IsStart t ls → AllInTerms nodes ats
    → list_all (vars_below (length ls)) (term_trees nodes ats) ≡ true
    → All (λ (at : At). IsPlaceOf nodes (table_of t) at.0) ats
start-places nodes t ls ats h i b k d l =
    place-below nodes (table_of t) (get_or ats k d).0 (start-table nodes t ls h) (i k d l)
    (ap (vars_below (count (table_of t))) (same (term_tree nodes (get_or ats k d).0))
    ∙ levelled-at nodes (count (table_of t)) ats k d (subst (λ ks. list_all (vars_below (length ks)) (term_trees nodes ats) ≡ true) (sym h.levels) b) l)
  where
    same : (u : Term) → sub (found nodes (table_of t)) u ≡ u
    same u = sub_same (found nodes (table_of t)) Var (λ x. found-free nodes (table_of t) x (h.free x)) u ∙ sub_id u

-- what is solved are the two lists
pub start-wanted : (nodes : Nodes) (t : KeptTable) (levels : List ℕ) (ls rs : List Term) → IsStart t levels → wanted nodes (table_of t) ls rs ≡ mgu ls rs levels
start-wanted nodes t levels ls rs h = wanted-start nodes (table_of t) ls rs h.free ∙ ap (mgu ls rs) h.levels

-- ---- the end

-- what the answer shows is what the bindings say
answer-shows : (nodes new : Nodes) (t : Table) (u : Subst) → IsTable nodes t → AreFinal nodes new t (count t) u.bound.items → (x : ℕ)
    → shown new x (get_or u.bound.items x None) ≡ found nodes t x
answer-shows nodes new t u tb h x = elim (cases_lt x (count t)) [
  | inl l ↦ inside (cell t x) (get_or u.bound.items x None) refl (h.each x l)
  | inr l ↦ ap (shown new x) (get_or-eq_default u.bound.items None {n = x} (let e = h.size in omega arith))
      ∙ sym (found-free nodes t x (get_or-eq_default t.bound None {n = x} (let e = tb.bound in omega arith)))
]
  where
    inside : (to o : Option At) → cell t x ≡ to → IsFinal new (found nodes t x) to o → shown new x o ≡ found nodes t x
    inside None None c f = sym (found-free nodes t x c)
    inside None (Some b) c f = absurd f
    inside (Some a) None c f = absurd f
    inside (Some a) (Some b) c f = f.tree

pub answer-entries : (nodes new : Nodes) (t : Table) (u : Subst) (n : ℕ) → IsTable nodes t → count t ≡ n → AreFinal nodes new t (count t) u.bound.items
    → HasEntries new n u
answer-entries nodes new t u n tb c h = record {
  count = h.size ∙ c;
  each = λ x l. inside x (cell t x) (get_or u.bound.items x None) refl (h.each x (let e = c in omega arith));
}
  where
    inside : (x : ℕ) (to o : Option At) → cell t x ≡ to → IsFinal new (found nodes t x) to o → IsEntry new x o
    inside x None None c f = tt
    inside x None (Some b) c f = absurd f
    inside x (Some a) None c f = absurd f
    inside x (Some a) (Some b) c f = (
      f.inside,
      λ e.
          let o : occurs x (found nodes t x) ≡ true = ap (occurs x) (sym f.tree ∙ e) ∙ eq-eqb x x refl in
          let d : Some a ≡ None = sym c ∙ found-unbound nodes t x x tb o in cc,
    )

-- the answer, as trees, is what is asked for
pub answer-exact : (nodes new : Nodes) (old t : Table) (u : Subst) (goal : Option Solved) → IsAnswer nodes old t goal
    → AreFinal nodes new t (count t) u.bound.items → u.levels.items ≡ t.levels → Some (solved_of new u) ≡ goal
answer-exact nodes new old t u goal a h l =
    (λ i. Some (record { subst = λ x. answer-shows nodes new t u a.table h x i; levels = l i })) ∙ sym a.is

-- what is exact is best
pub exact-best : (ls rs : List Term) (levels : List ℕ) (o : Option Solved) → list_all (vars_below (length levels)) ls ≡ true
    → list_all (vars_below (length levels)) rs ≡ true → o ≡ mgu ls rs levels → IsBest ls rs levels o
exact-best ls rs levels None a b e = λ s new u. none-unifier ls rs levels s new a b (sym e) u
exact-best ls rs levels (Some v) a b e = record {
  unifier = found-unifier ls rs levels v a b (sym e);
  lowers = found-falls ls rs levels v (sym e);
  most_general = found-best ls rs levels v a b (sym e);
}
