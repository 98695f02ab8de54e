-- Laws of bindings that are cited above.
use Rattle.std.proofs.Common.{◌≡◌, ℕ, zero, suc, ◌<◌, true, List, [], ◌∷◌, ◌++◌, length, get_or, refl, ap, sym, subst, ◌∙◌, arith, length-append}
use Rattle.std.specs.Prelude.{Option, Some, None, replicate}
use Rattle.std.proofs.lemmas.Bool.{or_left, or_right, eqb-true, eq-eqb, ltb-true}
use Rattle.ll_list_laws.proofs.CallerLemmas.{or_elim as or_cases}
use Rattle.ll_bank.specs.declared.At.{At}
use Rattle.ll_bank.specs.Term.{Term, Var, Int, Con, Ap, sub, occurs}
use Rattle.ll_bank.specs.Nodes.{Nodes, HasTerm, term_tree, Extends}
use Rattle.ll_bank.proofs.CallerLemmas.{HasTerm-extends, term_tree-extends}
use Rattle.ll_laws.specs.Unify.{vars_below}
use Rattle.ll_laws.proofs.CallerLemmas.{vars_below-part}
use Rattle.ll_unify.specs.Bindings.{Table, cell, count, shown, followed, found, Reaches, stands, through, HasCells, IsPlaceOf, IsTable}
use Rattle.ll_unify.proofs.Readings.{sub-agree}
use Rattle.ll_unify.proofs.Readings.{found-free}
use Rattle.ll_unify.proofs.Readings.{Obeys-found}
use Rattle.ll_unify.proofs.Readings.{found-only}
use Rattle.ll_unify.proofs.Readings.{bound-inside}

-- Laws of bindings for the crates above.

-- for a bound one what is found for the term that it is bound to
pub found-bound : (nodes : Nodes) (t : Table) (x : ℕ) (at : At) → IsTable nodes t → cell t x ≡ Some at
    → found nodes t x ≡ sub (found nodes t) (term_tree nodes at.0)
found-bound nodes t x at h e = Obeys-found nodes t h.ordered x at e

-- the places that cells name show the same in both
pub record SameBound (old new : Nodes) (t : Table) : Type 0 where
  pub places : (x : ℕ) (at : At) → cell t x ≡ Some at → HasTerm new at.0
  pub trees : (x : ℕ) (at : At) → cell t x ≡ Some at → term_tree new at.0 ≡ term_tree old at.0

-- a table depends on the nodes by the places that cells name alone
pub table-replaced : (old new : Nodes) (t : Table) → IsTable old t → SameBound old new t → IsTable new t
table-replaced old new t h s = record {
  bound = h.bound;
  places = s.places;
  ordered = record {
    rank = h.ordered.rank;
    falls = λ x at e y o. h.ordered.falls x at e y (subst (λ u. occurs y u ≡ true) (s.trees x at e) o);
  };
}

-- and so does what is found
pub found-replaced : (old new : Nodes) (t : Table) → SameBound old new t → (x : ℕ) → found new t x ≡ found old t x
found-replaced old new t s = go (length t.bound)
  where
    go : (n x : ℕ) → followed new t.bound n x ≡ followed old t.bound n x
    go zero x = refl
    go (suc n) x = step (λ y. go n y) (cell t x) refl
      where
        step : ((y : ℕ) → followed new t.bound n y ≡ followed old t.bound n y) → (o : Option At) → cell t x ≡ o
            → followed new t.bound (suc n) x ≡ followed old t.bound (suc n) x
        step ih None e =
            ap (λ c. sub (followed new t.bound n) (shown new x c)) e
            ∙ (ih x ∙ ap (λ c. sub (followed old t.bound n) (shown old x c)) (sym e))
        step ih (Some at) e =
            ap (λ c. sub (followed new t.bound n) (shown new x c)) e
            ∙ (ap (sub (followed new t.bound n)) (s.trees x at e)
            ∙ (sub-agree (followed new t.bound n) (followed old t.bound n) (term_tree old at.0) (λ y o. ih y)
            ∙ ap (λ c. sub (followed old t.bound n) (shown old x c)) (sym e)))

-- a bank that grew
pub SameBound-extends : (old new : Nodes) (t : Table) → IsTable old t → Extends old new → SameBound old new t
SameBound-extends old new t h e = record {
  places = λ x at c. HasTerm-extends e at.0 (h.places x at c);
  trees = λ x at c. term_tree-extends e at.0 (h.places x at c);
}

pub table-extends : (old new : Nodes) (t : Table) → IsTable old t → Extends old new → IsTable new t
table-extends old new t h e = table-replaced old new t h (SameBound-extends old new t h e)

pub found-extends : (old new : Nodes) (t : Table) → IsTable old t → Extends old new → (x : ℕ) → found new t x ≡ found old t x
found-extends old new t h e = found-replaced old new t (SameBound-extends old new t h e)

-- what a place shows with all bindings applied stays the same
pub sub-extends : (old new : Nodes) (t : Table) (at : ℕ) → IsTable old t → Extends old new → HasTerm old at
    → sub (found new t) (term_tree new at) ≡ sub (found old t) (term_tree old at)
sub-extends old new t at h e l =
    ap (sub (found new t)) (term_tree-extends e at l)
    ∙ sub-agree (found new t) (found old t) (term_tree old at) (λ y o. found-extends old new t h e y)

-- what is reached in the grown bank was reached before
reaches-before : (old new : Nodes) (t : Table) (y : ℕ) (u : Term) → IsTable old t → Extends old new → Reaches new t y u → Reaches old t y u
reaches-before old new t y u h e (stands w o) = stands w o
reaches-before old new t y u h e (through w x at o c r) =
    through w x at o c (subst (Reaches old t y) (term_tree-extends e at.0 (h.places x at c)) (reaches-before old new t y (term_tree new at.0) h e r))

-- and what was reached before is reached
pub reaches-after : (old new : Nodes) (t : Table) (y : ℕ) (u : Term) → IsTable old t → Extends old new → Reaches old t y u → Reaches new t y u
reaches-after old new t y u h e (stands w o) = stands w o
reaches-after old new t y u h e (through w x at o c r) =
    through w x at o c (subst (Reaches new t y) (sym (term_tree-extends e at.0 (h.places x at c))) (reaches-after old new t y (term_tree old at.0) h e r))

-- a place stays one
pub place-extends : (old new : Nodes) (t : Table) (at : ℕ) → IsTable old t → Extends old new → IsPlaceOf old t at → IsPlaceOf new t at
place-extends old new t at h e p = record {
  inside = HasTerm-extends e at p.inside;
  vars = λ y r. p.vars y (subst (Reaches old t y) (term_tree-extends e at p.inside) (reaches-before old new t y (term_tree new at) h e r));
}

-- the table with one unbound cell more, of this level
abbrev pub with_cell : Table → ℕ → Table
with_cell t l = record { bound = t.bound ++ None ∷ []; levels = t.levels ++ l ∷ [] }

-- each cell is as it was
pub cell-fresh : (t : Table) (l x : ℕ) → cell (with_cell t l) x ≡ cell t x
cell-fresh t l x = go t.bound x
  where
    go : (os : List (Option At)) (n : ℕ) → get_or (os ++ None ∷ []) n None ≡ get_or os n None
    go [] zero = refl
    go [] (suc n) = refl
    go (o ∷ os) zero = refl
    go (o ∷ os) (suc n) = go os n

pub table-fresh : (nodes : Nodes) (t : Table) (l : ℕ) → IsTable nodes t → IsTable nodes (with_cell t l)
table-fresh nodes t l h = record {
  bound = let a = length-append t.bound (None ∷ []) in let b = length-append t.levels (l ∷ []) in let c = h.bound in omega arith;
  places = λ x at e. h.places x at (sym (cell-fresh t l x) ∙ e);
  ordered = record { rank = h.ordered.rank; falls = λ x at e. h.ordered.falls x at (sym (cell-fresh t l x) ∙ e) };
}

pub found-fresh : (nodes : Nodes) (t : Table) (l : ℕ) → IsTable nodes t → (x : ℕ) → found nodes (with_cell t l) x ≡ found nodes t x
found-fresh nodes t l h =
    found-only nodes (with_cell t l) (table-fresh nodes t l h).ordered (found nodes t)
    (λ x at e. Obeys-found nodes t h.ordered x at (sym (cell-fresh t l x) ∙ e))
    (λ x e. found-free nodes t x (sym (cell-fresh t l x) ∙ e))

-- cells that are all unbound
pub table-unbound : (nodes : Nodes) (t : Table) → length t.bound ≡ count t → ((x : ℕ) → cell t x ≡ None) → IsTable nodes t
table-unbound nodes t n h = record {
  bound = n;
  places = λ x at e. no_cell x at e;
  ordered = record { rank = λ x. 0; falls = λ x at e y o. no_cell x at e };
}
  where
    no_cell : {P : Type 0} → (x : ℕ) (at : At) → cell t x ≡ Some at → P
    no_cell x at e = let f = sym (h x) ∙ e in cc

-- unbound cells alone, of these levels
abbrev pub unbound_cells : List ℕ → Table
unbound_cells levels = record { bound = replicate (length levels) None; levels = levels }

-- a term that, with all bindings applied, has only variables with cells has only such
pub cells-below : (nodes : Nodes) (t : Table) (u : Term) → IsTable nodes t → vars_below (count t) (sub (found nodes t) u) ≡ true → HasCells nodes t u
cells-below nodes t u h b y r = go y u b r
  where
    free : (y : ℕ) (u : Term) → vars_below (count t) (found nodes t y) ≡ true → (o : Option At) → cell t y ≡ o → y < count t
    free y u b None e = ltb-true y (count t) (subst (λ w. vars_below (count t) w ≡ true) (found-free nodes t y e) b)
    free y u b (Some to) e = let i = bound-inside t.bound y to e in let c = h.bound in omega arith

    go : (y : ℕ) (u : Term) → vars_below (count t) (sub (found nodes t) u) ≡ true → Reaches nodes t y u → y < count t
    go y u b (stands w o) = free y w (vars_below-part (count t) y (found nodes t) w b o) (cell t y) refl
    go y u b (through w x to o c r) =
        go y (term_tree nodes to.0) (subst (λ v. vars_below (count t) v ≡ true) (found-bound nodes t x to h c)
        (vars_below-part (count t) x (found nodes t) w b o)) r

-- a place whose term, with all bindings applied, has only variables with cells is one of the table
pub place-below : (nodes : Nodes) (t : Table) (at : ℕ) → IsTable nodes t → HasTerm nodes at
    → vars_below (count t) (sub (found nodes t) (term_tree nodes at)) ≡ true → IsPlaceOf nodes t at
place-below nodes t at h l b = record { inside = l; vars = cells-below nodes t (term_tree nodes at) h b }

-- a variable of an instance stands in what some variable is replaced by
occurs-from : {P : Type 0} (s : ℕ → Term) (z : ℕ) (u : Term) → occurs z (sub s u) ≡ true → ((w : ℕ) → occurs w u ≡ true → occurs z (s w) ≡ true → P) → P
occurs-from s z (Var x) o f = f x (eq-eqb x x refl) o
occurs-from s z (Int i) o f = cc
occurs-from s z (Con h) o f = cc
occurs-from s z (Ap g a) o f =
    or_cases (occurs z (sub s g)) (occurs z (sub s a)) o
    (λ q. occurs-from s z g q (λ w i j. f w (or_left (occurs w g) (occurs w a) i) j))
    (λ q. occurs-from s z a q (λ w i j. f w (or_right (occurs w g) (occurs w a) i) j))

pub found-unbound : (nodes : Nodes) (t : Table) (y z : ℕ) → IsTable nodes t → occurs z (found nodes t y) ≡ true → cell t z ≡ None
found-unbound nodes t y z h = go (suc (h.ordered.rank y)) y (omega arith)
  where
    go : (n y : ℕ) → h.ordered.rank y < n → occurs z (found nodes t y) ≡ true → cell t z ≡ None
    go zero y l o = absurd (omega arith)
    go (suc n) y l o = step (λ w. go n w) (cell t y) refl
      where
        step : ((w : ℕ) → h.ordered.rank w < n → occurs z (found nodes t w) ≡ true → cell t z ≡ None) → (c : Option At) → cell t y ≡ c → cell t z ≡ None
        step ih None e =
            let q : occurs z (Var y) ≡ true = subst (λ u. occurs z u ≡ true) (found-free nodes t y e) o in
            subst (λ x. cell t x ≡ None) (sym (eqb-true z y q)) e
        step ih (Some at) e =
            occurs-from (found nodes t) z (term_tree nodes at.0) (subst (λ u. occurs z u ≡ true) (found-bound nodes t y at h e) o)
            (λ w i j. ih w (let f = h.ordered.falls y at e w i in omega arith) j)
