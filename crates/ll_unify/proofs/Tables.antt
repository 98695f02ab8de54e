-- Bindings seen as a substitution.
use Rattle.std.proofs.Common.{◌≡◌, ℕ, ◌<◌, true, ap, sym, subst, ◌∙◌, arith, refl}
use Rattle.std.proofs.lemmas.Bool.{or_left, or_right, eq-eqb}
use Rattle.ll_bank.specs.declared.At.{At}
use Rattle.ll_bank.specs.Term.{Term, Var, Ap, sub, occurs}
use Rattle.ll_bank.specs.Nodes.{Nodes, term_tree}
use Rattle.ll_unify.specs.Spines.{ShowsArgument}
use Rattle.ll_unify.proofs.Spines.{take_down}
use Rattle.ll_unify.proofs.Readings.{found-free}
use Rattle.ll_unify.specs.Bindings.{Table, found, count, Reaches, stands, through, HasCells, IsPlaceOf, IsTable, Leads, IsEnd, AreSame}

-- a variable at a place has a cell
pub var-below : (nodes : Nodes) (t : Table) (x : ℕ) (u : Term) → HasCells nodes t u → u ≡ Var x → x < count t
var-below nodes t x u h e = h x (stands u (ap (occurs x) e ∙ eq-eqb x x refl))

-- a step along a bound variable
pub step-place : (nodes : Nodes) (t : Table) (u : Term) (to : At) → IsTable nodes t → HasCells nodes t u → Leads t u to → IsPlaceOf nodes t to.0
step-place nodes t u to h v l = record {
  inside = h.places l.var to l.bound;
  vars = λ y r. v y (through u l.var to (ap (occurs l.var) l.is ∙ eq-eqb l.var l.var refl) l.bound r);
}

pub step-same : (nodes : Nodes) (t : Table) (u : Term) (to : At) → Leads t u to → AreSame nodes t (term_tree nodes to.0) u
step-same nodes t u to l s o = sym (o l.var to l.bound) ∙ ap (sub s) (sym l.is)

-- what is reached from a part is reached from the whole
reaches-whole : (nodes : Nodes) (t : Table) (y : ℕ) (u v : Term) → ((x : ℕ) → occurs x u ≡ true → occurs x v ≡ true) → Reaches nodes t y u → Reaches nodes t y v
reaches-whole nodes t y u v f (stands w o) = stands v (f y o)
reaches-whole nodes t y u v f (through w x at o c r) = through v x at (f x o) c r

cells-apply : (nodes : Nodes) (t : Table) (f a : Term) → HasCells nodes t (Ap f a) → HasCells nodes t f × HasCells nodes t a
cells-apply nodes t f a h = (
  λ y r. h y (reaches-whole nodes t y f (Ap f a) (λ x o. or_left (occurs x f) (occurs x a) o) r),
  λ y r. h y (reaches-whole nodes t y a (Ap f a) (λ x o. or_right (occurs x f) (occurs x a) o) r),
)

-- the place of an argument
pub step-inside : (nodes : Nodes) (t : Table) (at k to : ℕ) → IsPlaceOf nodes t at → ShowsArgument nodes at k to → IsPlaceOf nodes t to
step-inside nodes t at k to p a = record {
  inside = let i = p.inside in let j = a.below in omega arith;
  vars = subst (HasCells nodes t) a.is (take_down (HasCells nodes t) (cells-apply nodes t) (term_tree nodes at) p.vars k a.among);
}

-- an unbound variable at a place stands for itself
pub end-var : (nodes : Nodes) (t : Table) (at x : ℕ) → IsTable nodes t → IsEnd nodes t at → term_tree nodes at ≡ Var x → found nodes t x ≡ Var x
end-var nodes t at x h e v = found-free nodes t x (e.free x v)
