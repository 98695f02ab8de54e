-- How a binding changes a table.
use Rattle.std.proofs.Common.{◌≡◌, ◌≢◌, ℕ, zero, suc, ◌+◌, ◌<◌, ◌≤◌, Bool, true, false, List, [], ◌∷◌, ◌++◌, length, get_or, refl, ap, sym, subst, ◌∙◌, arith}
use Rattle.std.proofs.Common.{nat_eq, ◌⊎◌, inl, inr}
use Rattle.std.specs.Prelude.{ℤ, ◌||◌, not, cond, min, Option, Some, None, slice_index, slice_set, if◌then◌else◌}
use Rattle.std.specs.List.{list_any}
use Rattle.std.proofs.Math.Bool.{or-true}
use Rattle.std.proofs.lemmas.Bool.{or_left, or_right, eqb-true, eqb-false, eq-eqb, ne_eqb}
use Rattle.std.proofs.lemmas.List.{length-set, get_or-set_same, get_or-set_other, ext_get_or}
use Rattle.ll_list_laws.proofs.CallerLemmas.{same_from_both_ways as bool-same, or_elim as or_cases, or_false_left, or_false_right}
use Rattle.ll_bank.specs.declared.At.{At}
use Rattle.ll_bank.specs.declared.Head.{Head}
use Rattle.ll_bank.specs.Term.{Term, Var, Int, Con, Ap, sub, occurs, eigens_below, app}
use Rattle.ll_bank.specs.Nodes.{Nodes, HasTerm, term_tree}
use Rattle.ll_laws.specs.Unify.{bound_to, Binding, bind, bind_term, lower, is_older, diff, Meet, Same}
use Rattle.ll_laws.proofs.CallerLemmas.{sub_comp, length-lower, level-lower}
use Rattle.ll_unify.specs.Bindings.{Table, then_bound, found, cell, count, Reaches, stands, through, HasCells, KeepsCells, IsPlaceOf, IsOrdered, IsTable}
use Rattle.ll_unify.specs.Bindings.{Obeys, IsEnd, IsSet, IsLowered, unbound, HasBound, Binds, IsMeeting, Meets, is_var}
use Rattle.ll_unify.specs.Scanned.{is_among, IsScan, is_bad}
use Rattle.ll_unify.proofs.Spines.{app-var}
use Rattle.ll_unify.proofs.Readings.{found-free, Obeys-found, found-only}
use Rattle.ll_unify.proofs.Tables.{end-var, var-below}

-- a variable that does not stand in a term
pub sub-absent : (x : ℕ) (t u : Term) → occurs x u ≡ false → sub (bound_to x t) u ≡ u
sub-absent x t (Var y) o = step (nat_eq y x) refl
  where
    step : (b : Bool) → nat_eq y x ≡ b → (if b then t else Var y) ≡ Var y
    step true e = let q : nat_eq x y ≡ true = eq-eqb x y (sym (eqb-true y x e)) in cc
    step false e = refl
sub-absent x t (Int z) o = refl
sub-absent x t (Con h) o = refl
sub-absent x t (Ap f a) o =
    let p = sub-absent x t f (or_false_left (occurs x f) (occurs x a) o) in let q = sub-absent x t a (or_false_right (occurs x f) (occurs x a) o) in cc

bound-here : (x : ℕ) (t : Term) → bound_to x t x ≡ t
bound-here x t = ap (λ b. if b then t else Var x) (eq-eqb x x refl)

pub bound-other : (x y : ℕ) (t : Term) → y ≢ x → bound_to x t y ≡ Var y
bound-other x y t n = ap (λ b. if b then t else Var y) (ne_eqb y x n)

-- ---- cells

unbound-set : (os : List (Option At)) (x : ℕ) (at : At) → x < length os → get_or os x None ≡ None → suc (unbound (slice_set os x (Some at))) ≡ unbound os
unbound-set [] x at l e = absurd (omega arith)
unbound-set (None ∷ os) zero at l e = refl
unbound-set (Some b ∷ os) zero at l e = cc
unbound-set (None ∷ os) (suc x) at l e = ap suc (unbound-set os x at (omega arith) e)
unbound-set (Some b ∷ os) (suc x) at l e = unbound-set os x at (omega arith) e

-- a variable of a part
pub occurs-sub : (s : ℕ → Term) (x z : ℕ) (u : Term) → occurs z u ≡ true → occurs x (s z) ≡ true → occurs x (sub s u) ≡ true
occurs-sub s x z (Var y) o p = subst (λ w. occurs x (s w) ≡ true) (eqb-true z y o) p
occurs-sub s x z (Int y) o p = cc
occurs-sub s x z (Con k) o p = cc
occurs-sub s x z (Ap f a) o p =
    or_cases (occurs z f) (occurs z a) o (λ q. or_left (occurs x (sub s f)) (occurs x (sub s a)) (occurs-sub s x z f q p))
    (λ q. or_right (occurs x (sub s f)) (occurs x (sub s a)) (occurs-sub s x z a q p))

-- the highest rank of a term's variables
abbrev highest : (ℕ → ℕ) → Term → ℕ
highest r (Var y) = r y
highest r (Int z) = 0
highest r (Con h) = 0
highest r (Ap f a) = highest r f + highest r a

highest-le : (r : ℕ → ℕ) (y : ℕ) (u : Term) → occurs y u ≡ true → r y ≤ highest r u
highest-le r y (Var z) o = let e = ap r (eqb-true y z o) in omega arith
highest-le r y (Int z) o = cc
highest-le r y (Con k) o = cc
highest-le r y (Ap f a) o =
    or_cases (occurs y f) (occurs y a) o (λ p. let h = highest-le r y f p in omega arith) (λ p. let h = highest-le r y a p in omega arith)

-- what a table becomes by one binding
pub record Change (nodes : Nodes) (old new : Table) (x : ℕ) (to : At) : Type 0 where
  pub table : IsTable nodes old
  pub below : x < count old
  pub free : cell old x ≡ None
  pub place : IsPlaceOf nodes old to.0
  pub bound : new.bound ≡ slice_set old.bound x (Some to)
  pub count : length new.levels ≡ length old.levels
  pub absent : occurs x (sub (found nodes old) (term_tree nodes to.0)) ≡ false

module _ (nodes : Nodes) (old new : Table) (x : ℕ) (to : At) (c : Change nodes old new x to) where
  cell-here : cell new x ≡ Some to
  cell-here = ap (λ os. get_or os x None) c.bound ∙ get_or-set_same old.bound x (Some to) None (let e = c.table.bound in let l = c.below in omega arith)

  cell-other : (y : ℕ) → y ≢ x → cell new y ≡ cell old y
  cell-other y n = ap (λ os. get_or os y None) c.bound ∙ get_or-set_other old.bound x y (Some to) None n

  cell-kept : (y : ℕ) (at : At) → cell old y ≡ Some at → cell new y ≡ Some at
  cell-kept y at e = cell-other y (λ q. let d : Some at ≡ None = sym e ∙ (ap (cell old) q ∙ c.free) in cc) ∙ e

  -- the variable that is bound, or another one
  either : {P : Type 0} → (y : ℕ) → (y ≡ x → P) → (y ≢ x → P) → P
  either {P} y f g = step (nat_eq y x) refl
    where
      step : (b : Bool) → nat_eq y x ≡ b → P
      step true e = f (eqb-true y x e)
      step false e = g (eqb-false y x e)

  to-here : (y : ℕ) (at : At) → y ≡ x → cell new y ≡ Some at → at ≡ to
  to-here y at e d = some (sym d ∙ (ap (cell new) e ∙ cell-here))
    where
      some : let p : Option At = Some at in p ≡ Some to → at ≡ to
      some q = cc

  -- ---- the order

  abbrev raised : ℕ → Bool → ℕ
  raised n true = n + suc (highest c.table.ordered.rank (term_tree nodes to.0))
  raised n false = n

  abbrev rank-new : ℕ → ℕ
  rank-new y = raised (c.table.ordered.rank y) (occurs x (found nodes old y))

  raised-more : (m n : ℕ) (a b : Bool) → m < n → (a ≡ true → b ≡ true) → raised m a < raised n b
  raised-more m n true true l f = omega arith
  raised-more m n true false l f = let q = f refl in cc
  raised-more m n false true l f = omega arith
  raised-more m n false false l f = l

  falls-here : (y : ℕ) → occurs y (term_tree nodes to.0) ≡ true → rank-new y < rank-new x
  falls-here y o = step (occurs x (found nodes old y)) refl
    where
      step : (b : Bool) → occurs x (found nodes old y) ≡ b → raised (c.table.ordered.rank y) b < raised (c.table.ordered.rank x) (occurs x (found nodes old x))
      step true e = let p = occurs-sub (found nodes old) x y (term_tree nodes to.0) o e in let q = c.absent in cc
      step false e =
          subst (λ b. c.table.ordered.rank y < raised (c.table.ordered.rank x) b) (sym (ap (occurs x) (found-free nodes old x c.free) ∙ eq-eqb x x refl))
          (let h = highest-le c.table.ordered.rank y (term_tree nodes to.0) o in omega arith)

  falls-there : (y : ℕ) (at : At) → cell old y ≡ Some at → (z : ℕ) → occurs z (term_tree nodes at.0) ≡ true → rank-new z < rank-new y
  falls-there y at e z o =
      raised-more (c.table.ordered.rank z) (c.table.ordered.rank y) (occurs x (found nodes old z)) (occurs x (found nodes old y))
      (c.table.ordered.falls y at e z o)
      (λ p. ap (occurs x) (Obeys-found nodes old c.table.ordered y at e) ∙ occurs-sub (found nodes old) x z (term_tree nodes at.0) o p)

  new-ordered : IsOrdered nodes new
  new-ordered = record {
    rank = rank-new;
    falls = λ y at e z o. either y
        (λ q. subst (λ w. rank-new z < rank-new w) (sym q) (falls-here z (subst (λ (a : At). occurs z (term_tree nodes a.0) ≡ true) (to-here y at q e) o)))
        (λ q. falls-there y at (sym (cell-other y q) ∙ e) z o);
  }

  -- ---- what is found

  then-here : then_bound (found nodes old) x (sub (found nodes old) (term_tree nodes to.0)) x ≡ sub (found nodes old) (term_tree nodes to.0)
  then-here =
      ap (sub (bound_to x (sub (found nodes old) (term_tree nodes to.0)))) (found-free nodes old x c.free)
      ∙ bound-here x (sub (found nodes old) (term_tree nodes to.0))

  then-sub : (u : Term) → sub (then_bound (found nodes old) x (sub (found nodes old) (term_tree nodes to.0))) u
      ≡ sub (bound_to x (sub (found nodes old) (term_tree nodes to.0))) (sub (found nodes old) u)
  then-sub u = sym (sub_comp (bound_to x (sub (found nodes old) (term_tree nodes to.0))) (found nodes old) u)

  then-obeys : Obeys nodes new (then_bound (found nodes old) x (sub (found nodes old) (term_tree nodes to.0)))
  then-obeys y at e = either y
      (λ q. ap (then_bound (found nodes old) x (sub (found nodes old) (term_tree nodes to.0))) q
      ∙ (then-here
      ∙ (sym (sub-absent x (sub (found nodes old) (term_tree nodes to.0)) (sub (found nodes old) (term_tree nodes to.0)) c.absent)
      ∙ (sym (then-sub (term_tree nodes to.0))
      ∙ ap (λ (a : At). sub (then_bound (found nodes old) x (sub (found nodes old) (term_tree nodes to.0))) (term_tree nodes a.0)) (sym (to-here y at q e))))))
      (λ q. ap (sub (bound_to x (sub (found nodes old) (term_tree nodes to.0)))) (Obeys-found nodes old c.table.ordered y at (sym (cell-other y q) ∙ e))
      ∙ sym (then-sub (term_tree nodes at.0)))

  then-free : (y : ℕ) → cell new y ≡ None → then_bound (found nodes old) x (sub (found nodes old) (term_tree nodes to.0)) y ≡ Var y
  then-free y e = either y
      (λ q. let d : Some to ≡ None = sym cell-here ∙ (ap (cell new) (sym q) ∙ e) in cc)
      (λ q. ap (sub (bound_to x (sub (found nodes old) (term_tree nodes to.0)))) (found-free nodes old y (sym (cell-other y q) ∙ e))
      ∙ bound-other x y (sub (found nodes old) (term_tree nodes to.0)) q)

  pub new-found : found nodes new ≡ then_bound (found nodes old) x (sub (found nodes old) (term_tree nodes to.0))
  new-found = λ i y. found-only nodes new new-ordered (then_bound (found nodes old) x (sub (found nodes old) (term_tree nodes to.0))) then-obeys then-free y i

  -- ---- what is reached

  reached-before : (y : ℕ) (u : Term) → Reaches nodes old y u → Reaches nodes new y u
  reached-before y u (stands w o) = stands u o
  reached-before y u (through w z at o e r) = through u z at o (cell-kept z at e) (reached-before y (term_tree nodes at.0) r)

  reached-after : (y : ℕ) (u : Term) → Reaches nodes new y u → Reaches nodes old y u ⊎ Reaches nodes old y (term_tree nodes to.0)
  reached-after y u (stands w o) = inl (stands u o)
  reached-after y u (through w z at o e r) = elim (reached-after y (term_tree nodes at.0) r) [
    | inl q ↦ either z
        (λ i. inr (subst (λ (a : At). Reaches nodes old y (term_tree nodes a.0)) (to-here z at i e) q))
        (λ i. inl (through u z at o (sym (cell-other z i) ∙ e) q))
    | inr q ↦ inr q
  ]

  new-cells : (w : Term) → HasCells nodes old w → HasCells nodes new w
  new-cells w h y r = elim (reached-after y w r) [
    | inl q ↦ let l = h y q in let e = c.count in omega arith
    | inr q ↦ let l = c.place.vars y q in let e = c.count in omega arith
  ]

  old-cells : (w : Term) → HasCells nodes new w → HasCells nodes old w
  old-cells w h y r = let l = h y (reached-before y w r) in let e = c.count in omega arith

  keeps-cells : KeepsCells nodes old new
  keeps-cells = record {
    terms = new-cells;
    bound = λ k y at e. either y
        (λ q. subst (λ (a : At). IsPlaceOf nodes new a.0) (sym (to-here y at q e))
        (record { inside = c.place.inside; vars = new-cells (term_tree nodes to.0) c.place.vars }))
        (λ q. let p = k y at (sym (cell-other y q) ∙ e) in record { inside = p.inside; vars = new-cells (term_tree nodes at.0) p.vars });
  }

  -- ---- the table

  pub new-table : IsTable nodes new
  new-table = record {
    bound = ap length c.bound ∙ (length-set old.bound x (Some to) ∙ (c.table.bound ∙ sym c.count));
    places = λ y at e. either y
        (λ q. subst (λ (a : At). HasTerm nodes a.0) (sym (to-here y at q e)) c.place.inside)
        (λ q. c.table.places y at (sym (cell-other y q) ∙ e));
    ordered = new-ordered;
  }

  -- the binding is had
  pub has-bound : HasBound nodes old new (Var x) (term_tree nodes to.0)
      (record { var = x; value = sub (found nodes old) (term_tree nodes to.0); levels = new.levels })
  has-bound = record {
    table = new-table;
    levels = refl;
    count = c.count;
    subst = λ y. ap (λ s. s y) new-found;
    fewer = ap (λ os. suc (unbound os)) c.bound ∙ unbound-set old.bound x to (let e = c.table.bound in let l = c.below in omega arith) c.free;
    obeys = λ s o y at e. o y at (cell-kept y at e);
    same = λ s o. o x to cell-here;
    cells = keeps-cells;
    cells_before = old-cells;
  }

-- ---- a variable and a term that is no variable

-- levels that fell for these variables are those that the definition asks for
lowered-is : (old : List ℕ) (vars : List ℕ) (l : ℕ) (new : List ℕ) (t : Term) → IsLowered old vars l new → ((y : ℕ) → is_among vars y ≡ occurs y t)
    → new ≡ lower l t old
lowered-is old vars l new t h e =
    ext_get_or 0 new (lower l t old) (h.same_length ∙ sym (length-lower l t old))
    (λ y k. h.each y ∙ (ap (λ b. cond b (min (slice_index old y) l) (slice_index old y)) (e y) ∙ sym (level-lower l t old y)))

-- a term that is no variable stays none
bind-no_var : (levels : List ℕ) (x : ℕ) (s : ℕ → Term) (u : Term) → ((y : ℕ) → u ≡ Var y → ⊥) → bind levels x (sub s u) ≡ bind_term levels x (sub s u)
bind-no_var levels x s (Var y) n = absurd (n y refl)
bind-no_var levels x s (Int z) n = refl
bind-no_var levels x s (Con h) n = refl
bind-no_var levels x s (Ap f a) n = refl

-- there is no binding to a bad term
pub binds-bad : (nodes : Nodes) (old new : Table) (u v : Term) (x : ℕ) (to : At) → ((y : ℕ) → term_tree nodes to.0 ≡ Var y → ⊥)
    → is_bad x (slice_index old.levels x) (sub (found nodes old) (term_tree nodes to.0)) ≡ true
    → Binds nodes old new u v (bind old.levels x (sub (found nodes old) (term_tree nodes to.0))) false
binds-bad nodes old new u v x to n b =
    subst (λ o. Binds nodes old new u v o false) (sym (bind-no_var old.levels x (found nodes old) (term_tree nodes to.0) n
    ∙ ap (λ c. if c then None else Some (record {
      var = x;
      value = sub (found nodes old) (term_tree nodes to.0);
      levels =
          lower (slice_index old.levels x) (sub (found nodes old) (term_tree nodes to.0)) old.levels;
    })) b)) tt

-- the binding to a good term
pub binds-good : (nodes : Nodes) (old new : Table) (x : ℕ) (to : At) (vars : List ℕ) → IsTable nodes old → x < count old → cell old x ≡ None
    → IsEnd nodes old to.0 → ((y : ℕ) → term_tree nodes to.0 ≡ Var y → ⊥)
    → IsScan old x (slice_index old.levels x) vars (sub (found nodes old) (term_tree nodes to.0)) true
    → IsLowered old.levels vars (slice_index old.levels x) new.levels
    → new.bound ≡ slice_set old.bound x (Some to)
    → Binds nodes old new (Var x) (term_tree nodes to.0) (bind old.levels x (sub (found nodes old) (term_tree nodes to.0))) true
binds-good nodes old new x to vars tb b fr en n scan low bound =
    subst (λ o. Binds nodes old new (Var x) (term_tree nodes to.0) o true) (sym (bind-no_var old.levels x (found nodes old) (term_tree nodes to.0) n
    ∙ (ap (λ c. if c then None else Some (record { var = x; value = t; levels = lower l t old.levels })) good
    ∙ ap (λ ls. Some (record { var = x; value = t; levels = ls })) (sym is)))) (has-bound nodes old new x to change)
  where
    l : ℕ
    l = slice_index old.levels x

    t : Term
    t = sub (found nodes old) (term_tree nodes to.0)

    good : occurs x t || not (eigens_below l t) ≡ false
    good = let p = scan.0.free in let q = scan.0.eigens in λ i. p i || not (q i)

    same : (y : ℕ) → is_among vars y ≡ occurs y t
    same y = bool-same (is_among vars y) (occurs y t) (scan.1.stand y) (scan.0.noted y)

    is : new.levels ≡ lower l t old.levels
    is = lowered-is old.levels vars l new.levels t low same

    change : Change nodes old new x to
    change = record {
      table = tb;
      below = b;
      free = fr;
      place = en.place;
      bound = bound;
      count = low.same_length;
      absent = scan.0.free;
    }

-- the binding to a term in which no level falls
pub binds-plain : (nodes : Nodes) (old new : Table) (x : ℕ) (to : At) → IsTable nodes old → x < count old → cell old x ≡ None → IsEnd nodes old to.0
    → ((y : ℕ) → term_tree nodes to.0 ≡ Var y → ⊥)
    → occurs x (sub (found nodes old) (term_tree nodes to.0)) ≡ false
    → eigens_below (slice_index old.levels x) (sub (found nodes old) (term_tree nodes to.0)) ≡ true
    → lower (slice_index old.levels x) (sub (found nodes old) (term_tree nodes to.0)) old.levels ≡ old.levels → IsSet old new x to
    → Binds nodes old new (Var x) (term_tree nodes to.0) (bind old.levels x (sub (found nodes old) (term_tree nodes to.0))) true
binds-plain nodes old new x to tb b fr en n absent eigens low set =
    subst (λ o. Binds nodes old new (Var x) (term_tree nodes to.0) o true) (sym (bind-no_var old.levels x (found nodes old) (term_tree nodes to.0) n
    ∙ (ap (λ c. if c then None else Some (record { var = x; value = t; levels = lower l t old.levels })) (λ i. absent i || not (eigens i))
    ∙ ap (λ ls. Some (record { var = x; value = t; levels = ls })) (low ∙ sym set.levels)))) (has-bound nodes old new x to change)
  where
    l : ℕ
    l = slice_index old.levels x

    t : Term
    t = sub (found nodes old) (term_tree nodes to.0)

    change : Change nodes old new x to
    change = record {
      table = tb;
      below = b;
      free = fr;
      place = en.place;
      bound = set.bound;
      count = ap length set.levels;
      absent = absent;
    }

-- ---- two variables

-- one variable is bound to another
pub change-var : (nodes : Nodes) (old new : Table) (x y : ℕ) (to : At) → IsTable nodes old → x < count old → cell old x ≡ None → IsEnd nodes old to.0
    → term_tree nodes to.0 ≡ Var y → x ≢ y
    → IsSet old new x to
    → HasBound nodes old new (Var x) (term_tree nodes to.0) (record { var = x; value = Var y; levels = old.levels })
change-var nodes old new x y to tb b fr en v n set =
    subst (HasBound nodes old new (Var x) (term_tree nodes to.0)) (λ i. record { var = x; value = is i; levels = set.levels i })
    (has-bound nodes old new x to change)
  where
    is : sub (found nodes old) (term_tree nodes to.0) ≡ Var y
    is = ap (sub (found nodes old)) v ∙ end-var nodes old to.0 y tb en v

    change : Change nodes old new x to
    change = record {
      table = tb;
      below = b;
      free = fr;
      place = en.place;
      bound = set.bound;
      count = ap length set.levels;
      absent = ap (occurs x) is ∙ ne_eqb x y n;
    }

pub flip-bound : (nodes : Nodes) (old new : Table) (u v : Term) (b : Binding) → HasBound nodes old new u v b → HasBound nodes old new v u b
flip-bound nodes old new u v b h = record {
  table = h.table;
  levels = h.levels;
  count = h.count;
  subst = h.subst;
  fewer = h.fewer;
  obeys = h.obeys;
  same = λ s o. sym (h.same s o);
  cells = h.cells;
  cells_before = h.cells_before;
}

retree : (nodes : Nodes) (old new : Table) (u u' v v' : Term) (b : Binding) → u ≡ u' → v ≡ v' → HasBound nodes old new u v b → HasBound nodes old new u' v' b
retree nodes old new u u' v v' b p q h = subst (λ w. HasBound nodes old new w v' b) p (subst (λ w. HasBound nodes old new u w b) q h)

-- a variable that is met has a cell
pub left-below : (nodes : Nodes) (t : Table) (left right : At) (x : ℕ) → IsMeeting nodes t left.0 right.0 → term_tree nodes left.0 ≡ Var x → x < count t
left-below nodes t left right x m e = var-below nodes t x (term_tree nodes left.0) m.left_end.place.vars e

pub right-below : (nodes : Nodes) (t : Table) (left right : At) (y : ℕ) → IsMeeting nodes t left.0 right.0 → term_tree nodes right.0 ≡ Var y → y < count t
right-below nodes t left right y m e = var-below nodes t y (term_tree nodes right.0) m.right_end.place.vars e

pub meet-vars : (x y : ℕ) → x ≢ y → diff (Var x) (Var y) ≡ Meet x (Var y)
meet-vars x y n = ap (λ b. if b then Same else Meet x (Var y)) (ne_eqb x y n)

module _ (nodes : Nodes) (old new : Table) (left right : At) (x y : ℕ) (tb : IsTable nodes old) (m : IsMeeting nodes old left.0 right.0)
    (ex : term_tree nodes left.0 ≡ Var x) (ey : term_tree nodes right.0 ≡ Var y) where
  x-below : x < length old.levels
  x-below = var-below nodes old x (term_tree nodes left.0) m.left_end.place.vars ex

  y-below : y < length old.levels
  y-below = var-below nodes old y (term_tree nodes right.0) m.right_end.place.vars ey

  apart : x ≢ y
  apart e = m.differ x ex (ey ∙ ap Var (sym e))

  vars-meet : diff (sub (found nodes old) (term_tree nodes left.0)) (sub (found nodes old) (term_tree nodes right.0)) ≡ Meet x (Var y)
  vars-meet =
      (λ i. diff ((ap (sub (found nodes old)) ex ∙ end-var nodes old left.0 x tb m.left_end ex) i)
      ((ap (sub (found nodes old)) ey ∙ end-var nodes old right.0 y tb m.right_end ey) i))
      ∙ meet-vars x y apart

  -- the right one is bound
  pub meets-older : is_older old.levels x y ≡ true → IsSet old new y left → Meets nodes old new (term_tree nodes left.0) (term_tree nodes right.0) true
  meets-older o set = record {
    var = x;
    value = Var y;
    meet = vars-meet;
    binds = subst (λ b. Binds nodes old new (term_tree nodes left.0) (term_tree nodes right.0) b true)
        (sym (ap (λ c. if c then Some (record { var = y; value = Var x; levels = old.levels }) else
        Some (record { var = x; value = Var y; levels = old.levels })) o))
        (flip-bound nodes old new (term_tree nodes right.0) (term_tree nodes left.0) _
        (retree nodes old new (Var y) (term_tree nodes right.0) (term_tree nodes left.0) (term_tree nodes left.0) _ (sym ey) refl
        (change-var nodes old new y x left tb y-below (m.right_end.free y ey) m.left_end ex (λ e. apart (sym e)) set)));
  }

  -- the left one is bound
  pub meets-newer : is_older old.levels x y ≡ false → IsSet old new x right → Meets nodes old new (term_tree nodes left.0) (term_tree nodes right.0) true
  meets-newer o set = record {
    var = x;
    value = Var y;
    meet = vars-meet;
    binds = subst (λ b. Binds nodes old new (term_tree nodes left.0) (term_tree nodes right.0) b true)
        (sym (ap (λ c. if c then Some (record { var = y; value = Var x; levels = old.levels }) else
        Some (record { var = x; value = Var y; levels = old.levels })) o))
        (retree nodes old new (Var x) (term_tree nodes left.0) (term_tree nodes right.0) (term_tree nodes right.0) _ (sym ex) refl
        (change-var nodes old new x y right tb x-below (m.left_end.free x ex) m.right_end ey apart set));
  }

-- ---- a variable and a term

meet-term : (x : ℕ) (s : ℕ → Term) (u : Term) → ((y : ℕ) → u ≡ Var y → ⊥) → diff (Var x) (sub s u) ≡ Meet x (sub s u)
meet-term x s (Var y) n = absurd (n y refl)
meet-term x s (Int z) n = refl
meet-term x s (Con h) n = refl
meet-term x s (Ap f a) n = refl

pub term-meet : (x : ℕ) (s : ℕ → Term) (u : Term) → ((y : ℕ) → u ≡ Var y → ⊥) → diff (sub s u) (Var x) ≡ Meet x (sub s u)
term-meet x s (Var y) n = absurd (n y refl)
term-meet x s (Int z) n = refl
term-meet x s (Con h) n = refl
term-meet x s (Ap f a) n = refl

binds-tree : (nodes : Nodes) (old new : Table) (u u' v : Term) (o : Option Binding) (b : Bool) → u ≡ u' → Binds nodes old new u v o b
    → Binds nodes old new u' v o b
binds-tree nodes old new u u' v o b e h = subst (λ w. Binds nodes old new w v o b) e h

pub flip-binds : (nodes : Nodes) (old new : Table) (u v : Term) (o : Option Binding) (b : Bool) → Binds nodes old new u v o b → Binds nodes old new v u o b
flip-binds nodes old new u v (Some c) true h = flip-bound nodes old new u v c h
flip-binds nodes old new u v (Some c) false h = h
flip-binds nodes old new u v None true h = h
flip-binds nodes old new u v None false h = h

pub meets-left : (nodes : Nodes) (old new : Table) (left right : At) (x : ℕ) (b : Bool) → IsTable nodes old → IsMeeting nodes old left.0 right.0
    → term_tree nodes left.0 ≡ Var x → ((y : ℕ) → term_tree nodes right.0 ≡ Var y → ⊥)
    → Binds nodes old new (Var x) (term_tree nodes right.0) (bind old.levels x (sub (found nodes old) (term_tree nodes right.0))) b
    → Meets nodes old new (term_tree nodes left.0) (term_tree nodes right.0) b
meets-left nodes old new left right x b tb m ex n h = record {
  var = x;
  value = sub (found nodes old) (term_tree nodes right.0);
  meet = ap (λ u. diff u (sub (found nodes old) (term_tree nodes right.0))) (ap (sub (found nodes old)) ex ∙ end-var nodes old left.0 x tb m.left_end ex)
      ∙ meet-term x (found nodes old) (term_tree nodes right.0) n;
  binds = binds-tree nodes old new (Var x) (term_tree nodes left.0) (term_tree nodes right.0)
      (bind old.levels x (sub (found nodes old) (term_tree nodes right.0))) b (sym ex) h;
}

pub meets-right : (nodes : Nodes) (old new : Table) (left right : At) (y : ℕ) (b : Bool) → IsTable nodes old → IsMeeting nodes old left.0 right.0
    → term_tree nodes right.0 ≡ Var y → ((x : ℕ) → term_tree nodes left.0 ≡ Var x → ⊥)
    → Binds nodes old new (Var y) (term_tree nodes left.0) (bind old.levels y (sub (found nodes old) (term_tree nodes left.0))) b
    → Meets nodes old new (term_tree nodes left.0) (term_tree nodes right.0) b
meets-right nodes old new left right y b tb m ey n h = record {
  var = y;
  value = sub (found nodes old) (term_tree nodes left.0);
  meet = ap (diff (sub (found nodes old) (term_tree nodes left.0))) (ap (sub (found nodes old)) ey ∙ end-var nodes old right.0 y tb m.right_end ey)
      ∙ term-meet y (found nodes old) (term_tree nodes left.0) n;
  binds = flip-binds nodes old new (term_tree nodes right.0) (term_tree nodes left.0) (bind old.levels y (sub (found nodes old) (term_tree nodes left.0))) b
      (binds-tree nodes old new (Var y) (term_tree nodes right.0) (term_tree nodes left.0) (bind old.levels y (sub (found nodes old) (term_tree nodes left.0)))
      b (sym ey) h);
}

-- a place with a head or a number is no variable
pub no-var-int : (u : Term) (z : ℤ) → u ≡ Int z → (y : ℕ) → u ≡ Var y → ⊥
no-var-int u z e y q = let d : Int z ≡ Var y = sym e ∙ q in cc

pub no-var-app : (u : Term) (h : Head) (ts : List Term) → u ≡ app h ts → (y : ℕ) → u ≡ Var y → ⊥
no-var-app u h ts e y q = app-var h ts y (sym e ∙ q)

var-is : (u : Term) → is_var u ≡ true → ((y : ℕ) → u ≡ Var y → ⊥) → ⊥
var-is (Var x) e n = n x refl
var-is (Int z) e n = cc
var-is (Con h) e n = cc
var-is (Ap f a) e n = cc

-- one of the two is a variable
pub no-meeting : (nodes : Nodes) (t : Table) (left right : ℕ) → IsMeeting nodes t left right → ((y : ℕ) → term_tree nodes left ≡ Var y → ⊥)
    → ((y : ℕ) → term_tree nodes right ≡ Var y → ⊥) → ⊥
no-meeting nodes t left right m p q =
    or_cases (is_var (term_tree nodes left)) (is_var (term_tree nodes right)) m.var (λ e. var-is (term_tree nodes left) e p)
    (λ e. var-is (term_tree nodes right) e q)

-- what a scan with the level that was read says
pub scan-level : (t : Table) (x l : ℕ) (vars : List ℕ) (u : Term) (b c : Bool) → l ≡ slice_index t.levels x → b ≡ c → IsScan t x l vars u b
    → IsScan t x (slice_index t.levels x) vars u c
scan-level t x l vars u b c e f h = subst (λ k. IsScan t x k vars u c) e (subst (IsScan t x l vars u) f h)

-- what holds of an answer, another way
-- ---- levels that fall one by one

pub any-push : (x v : ℕ) (vs : List ℕ) → list_any (nat_eq x) (vs ++ v ∷ []) ≡ (list_any (nat_eq x) vs || nat_eq x v)
any-push x v [] = step (nat_eq x v)
  where
    step : (b : Bool) → (b || false) ≡ b
    step true = refl
    step false = refl
any-push x v (w ∷ vs) = step (nat_eq x w) (any-push x v vs)
  where
    step : (b : Bool) → list_any (nat_eq x) (vs ++ v ∷ []) ≡ (list_any (nat_eq x) vs || nat_eq x v)
        → (b || list_any (nat_eq x) (vs ++ v ∷ [])) ≡ ((b || list_any (nat_eq x) vs) || nat_eq x v)
    step true h = refl
    step false h = h

min-twice : (o l : ℕ) (b : Bool) → min (cond b (min o l) o) l ≡ min o l
min-twice o l true = omega arith
min-twice o l false = refl

or-false : (b : Bool) → (b || false) ≡ b
or-false true = refl
or-false false = refl

-- one level more
pub lowered-more : (old mid new vs : List ℕ) (v l : ℕ) → v < length mid → IsLowered old vs l mid → new ≡ slice_set mid v (min (slice_index mid v) l)
    → IsLowered old (vs ++ v ∷ []) l new
lowered-more old mid new vs v l b h e = record {
  same_length = ap length e ∙ (length-set mid v (min (slice_index mid v) l) ∙ h.same_length);
  each = λ x. at x (nat_eq x v) refl;
}
  where
    at : (x : ℕ) (c : Bool) → nat_eq x v ≡ c → slice_index new x ≡ cond (list_any (nat_eq x) (vs ++ v ∷ [])) (min (slice_index old x) l) (slice_index old x)
    at x true q =
        let p : x ≡ v = eqb-true x v q in
        ap (λ ys. slice_index ys x) e
        ∙ (ap (λ z. slice_index (slice_set mid v (min (slice_index mid v) l)) z) p ∙ (get_or-set_same mid v (min (slice_index mid v) l) 0 b
        ∙ (ap (λ z. min (slice_index mid z) l) (sym p) ∙ (ap (λ z. min z l) (h.each x) ∙ (min-twice (slice_index old x) l (list_any (nat_eq x) vs)
        ∙ sym (ap (λ k. cond k (min (slice_index old x) l) (slice_index old x))
        (any-push x v vs ∙ (ap (λ k. list_any (nat_eq x) vs || k) q ∙ or-true (list_any (nat_eq x) vs)))))))))
    at x false q =
        ap (λ ys. slice_index ys x) e
        ∙ (get_or-set_other mid v x (min (slice_index mid v) l) 0 (eqb-false x v q)
        ∙ (h.each x ∙ sym (ap (λ k. cond k (min (slice_index old x) l) (slice_index old x))
        (any-push x v vs ∙ (ap (λ k. list_any (nat_eq x) vs || k) q ∙ or-false (list_any (nat_eq x) vs))))))
