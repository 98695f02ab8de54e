-- New variables where they are met for the first time.
use Rattle.std.proofs.Common.{◌≡◌, ◌≢◌, ◌<◌, ◌≤◌, ℕ, true, List, [], ◌∷◌, length, refl, ap, sym, subst, ◌∙◌, arith, inl, inr, nat_eq}
use Rattle.std.specs.Prelude.{◌||◌, ◌&&◌, Some, None, nat_lt, slice_index, if◌then◌else◌}
use Rattle.std.proofs.Math.Bool.{or-true}
use Rattle.std.proofs.lemmas.Bool.{or_left, eq-eqb, lt-ltb, cases_lt}
use Rattle.ll_bank.specs.declared.At.{At}
use Rattle.ll_bank.specs.Term.{Term, Var, Int, Con, Ap, sub}
use Rattle.ll_bank.specs.Nodes.{Nodes, term_tree}
use Rattle.ll_laws.specs.Unify.{bind, is_older, diff}
use Rattle.ll_unify.specs.declared.fresh.Fresh.{Fresh}
use Rattle.ll_unify.specs.Bindings.{Table, cell, count, found, is_var, IsTable, IsPlaceOf, IsEnd, IsMeeting, IsSet, Binds, Meets}
use Rattle.ll_unify.specs.Scanned.{is_bad}
use Rattle.ll_unify.specs.Fresh.{IsFresh, StandsNowhere, LeavesFresh, IsOther}
use Rattle.ll_unify.specs.Solving.{Settles}
use Rattle.ll_unify.proofs.Tables.{end-var}
use Rattle.ll_unify.proofs.Binding.{change-var, flip-bound, flip-binds, meet-vars, term-meet}
use Rattle.ll_unify.proofs.FreshLemmas.{binds-fresh, leaves-meet, clear-var}
use Rattle.ll_unify.proofs.Solving.{met, solves-bound}

-- a variable meets what is none
pub meeting-left : (nodes : Nodes) (t : Table) (left right : ℕ) → IsEnd nodes t left → IsPlaceOf nodes t right → is_var (term_tree nodes left) ≡ true
    → ((y : ℕ) → term_tree nodes right ≡ Var y → ⊥) → IsMeeting nodes t left right
meeting-left nodes t left right l r v h = record {
  left_end = l;
  right_end = record { place = r; free = λ y e. absurd (h y e) };
  var = or_left (is_var (term_tree nodes left)) (is_var (term_tree nodes right)) v;
  differ = λ y _ e. h y e;
}

-- of two variables the one with the smaller number is older, if its level is not higher
older-smaller : (levels : List ℕ) (y x : ℕ) → slice_index levels y ≤ slice_index levels x → y < x → is_older levels y x ≡ true
older-smaller levels y x le lt = elim (cases_lt (slice_index levels y) (slice_index levels x)) [
  | inl l ↦ ap (λ b. b || (nat_eq (slice_index levels y) (slice_index levels x) && nat_lt y x)) (lt-ltb (slice_index levels y) (slice_index levels x) l)
  | inr g ↦ (let e : slice_index levels y ≡ slice_index levels x = omega (arith, le, g) in
      ap (λ b. nat_lt (slice_index levels y) (slice_index levels x) || b)
      (λ i. eq-eqb (slice_index levels y) (slice_index levels x) e i && lt-ltb y x lt i)
      ∙ or-true (nat_lt (slice_index levels y) (slice_index levels x)))
]

-- An unbound variable x that stands nowhere is bound to what stands at an end, where no variable with a greater number stands: this is what
-- unification asks for.
module _ (nodes : Nodes) (old new : Table) (x : ℕ) (to : At) (tb : IsTable nodes old) (below : x < count old) (free : cell old x ≡ None)
    (en : IsEnd nodes old to.0) (before : (y : ℕ) → term_tree nodes to.0 ≡ Var y → y < x) (nowhere : StandsNowhere nodes old (term_tree nodes to.0 ∷ []) x)
    (set : IsSet old new x to) where
  meets-smaller : (y : ℕ) → term_tree nodes to.0 ≡ Var y → Meets nodes old new (term_tree nodes to.0) (Var x) true
  meets-smaller y e = record {
    var = y;
    value = Var x;
    meet = (λ i. diff ((ap (sub (found nodes old)) e ∙ end-var nodes old to.0 y tb en e) i) (nowhere.own i)) ∙ meet-vars y x apart;
    binds = subst (λ b. Binds nodes old new (term_tree nodes to.0) (Var x) b true)
        (sym (ap (λ c. if c then Some (record { var = x; value = Var y; levels = old.levels }) else
        Some (record { var = y; value = Var x; levels = old.levels })) (older-smaller old.levels y x (nowhere.newest y) (before y e))))
        (flip-bound nodes old new (Var x) (term_tree nodes to.0) _ (change-var nodes old new x y to tb below free en e (λ q. apart (sym q)) set));
  }
    where
      apart : y ≢ x
      apart q = let l = before y e in omega (arith, q, l)

  meets-term : ((y : ℕ) → term_tree nodes to.0 ≡ Var y → ⊥) → Meets nodes old new (term_tree nodes to.0) (Var x) true
  meets-term n = record {
    var = x;
    value = sub (found nodes old) (term_tree nodes to.0);
    meet = ap (diff (sub (found nodes old) (term_tree nodes to.0))) nowhere.own ∙ term-meet x (found nodes old) (term_tree nodes to.0) n;
    binds = flip-binds nodes old new (Var x) (term_tree nodes to.0) (bind old.levels x (sub (found nodes old) (term_tree nodes to.0))) true
        (binds-fresh nodes old new x to [] tb below free en n nowhere set);
  }

  meets-new : Meets nodes old new (term_tree nodes to.0) (Var x) true
  meets-new = by (term_tree nodes to.0) refl
    where
      by : (u : Term) → term_tree nodes to.0 ≡ u → Meets nodes old new (term_tree nodes to.0) (Var x) true
      by (Var y) e = meets-smaller y e
      by (Int z) e = meets-term (λ y q. let same : Int z ≡ Var y = sym e ∙ q in cc)
      by (Con h) e = meets-term (λ y q. let same : Con h ≡ Var y = sym e ∙ q in cc)
      by (Ap f a) e = meets-term (λ y q. let same : Ap f a ≡ Var y = sym e ∙ q in cc)

  pub settles-new : Settles nodes old new (term_tree nodes to.0 ∷ []) (Var x ∷ []) true
  settles-new =
      let r = met nodes old new (term_tree nodes to.0) (Var x) meets-new in record {
        table = r.2.table;
        count = ap length r.2.levels ∙ r.2.count;
        cells = r.2.cells;
        solves = λ k goal more others q. solves-bound nodes old new k goal (term_tree nodes to.0) (Var x) more others r.2.table q meets-new;
      }

  -- the other new variables go on to stand nowhere
  pub leaves-new : (f g : Fresh) → ((z : ℕ) → IsFresh g z → IsOther f x z) → LeavesFresh nodes old new f g (term_tree nodes to.0 ∷ []) []
  leaves-new f g h =
      leaves-meet nodes old new (term_tree nodes to.0) (Var x) f g meets-new (λ z q. let k = h z q in
      (k.was, λ n. ap (is_bad z (slice_index old.levels z)) nowhere.own ∙ clear-var z (slice_index old.levels z) x (λ i. k.other (sym i))))
