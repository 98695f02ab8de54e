-- Formulas of consistent states, by a type that goes down the formula, and how weakening, substitution and closing keep it.
use Rattle.std.proofs.Common.{◌≡◌, ℕ, suc, refl, sym, subst, Bool, true, false, List, [], ◌∷◌, map, length}
use Rattle.std.proofs.lemmas.List.{length-map}
use Rattle.std.specs.Prelude.{◌&&◌, Option, Some, None, nat_eq, slice_get}
use Rattle.std.specs.List.{list_all}
use Rattle.std.proofs.lemmas.Bool.{and_from as and_intro}
use Rattle.ll_list_laws.proofs.CallerLemmas.{and_true_left as and_left, and_true_right as and_right}
use Rattle.ll_bank.specs.Term.{Term, Env, sub, close, head_of, is_spine, eigens_below}
use Rattle.ll_bank.specs.Form.{Form, Top, One, Atom, With, Tensor, Plus, Bang, Lolli, Imp, Forall, Exists, Use, sub_form, close_form, Num}
use Rattle.ll_laws.specs.Module.{ModuleTree}
use Rattle.ll_laws.specs.Unify.{vars_below}
use Rattle.ll_laws.specs.Valid.{Side, GoalSide, ClauseSide, Allowed, Scope, IsFormula, is_on, each_term, places_below, may_head, is_headed, is_atom, has_heads}
use Rattle.ll_laws.specs.Valid.{fits_module, loads_fit}
use Rattle.ll_laws.proofs.consistency.ConsistentTerms.{IsHead, Fit, AllFit, fit, fit-places, fit-headed, fit-vars, fit-eigens, Widens, Grows, is_head-more}
use Rattle.ll_laws.proofs.consistency.ConsistentTerms.{fit-more, all_fit-more, GoesToFitting, is_head-sub}
use Rattle.ll_laws.proofs.consistency.ConsistentTerms.{fit-sub, all_fit-sub, Closes, is_head-close, fit-close}
use Rattle.ll_laws.proofs.consistency.ConsistentTerms.{all_fit-close}

-- the other side
abbrev pub other : Side → Side
other GoalSide = ClauseSide
other ClauseSide = GoalSide

-- the bound place of a `forall` on this side may be a predicate
abbrev pub opens_on : Bool → Side → Bool
opens_on opens GoalSide = opens
opens_on opens ClauseSide = false

-- only a goal has this form
abbrev pub OnGoals : Side → Type 0
OnGoals GoalSide = Unit {0}
OnGoals ClauseSide = ⊥

-- the formula may stand on this side, and its terms fit
abbrev pub FormFits : Allowed → Side → Scope → Form → Type 0
FormFits may side scope Top = Unit {0}
FormFits may side scope One = OnGoals side
FormFits may side scope (Atom a) = IsHead scope a × Fit may scope a
FormFits may side scope (With f g) = FormFits may side scope f × FormFits may side scope g
FormFits may side scope (Tensor f g) = OnGoals side × FormFits may side scope f × FormFits may side scope g
FormFits may side scope (Plus f g) = OnGoals side × FormFits may side scope f × FormFits may side scope g
FormFits may side scope (Bang f) = OnGoals side × FormFits may side scope f
FormFits may side scope (Lolli f g) = FormFits may (other side) scope f × FormFits may side scope g
FormFits may side scope (Imp f g) = FormFits may (other side) scope f × FormFits may side scope g
FormFits may side scope (Forall f) = FormFits may side (opens_on may.opens side ∷ scope) f
FormFits may side scope (Exists f) = OnGoals side × FormFits may side (false ∷ scope) f
FormFits may side scope (Use m ts f) = OnGoals side × (fits_module (slice_get may.modules m) ts ≡ true) × AllFit may scope ts × FormFits may side scope f
FormFits may side scope (Num r t u) = OnGoals side × Fit may scope t × Fit may scope u

-- ---- the type and the tests

-- what the six tests of a formula say
record Six : Type 0 where
  sorted : Bool
  closed : Bool
  heads : Bool
  variables : Bool
  eigens : Bool
  loads : Bool

-- the tests of a formula in a scope, with m quantifiers counted round it
abbrev tests : Allowed → Side → Scope → ℕ → Form → Six
tests may side scope m f =
    record {
      sorted = is_on side f;
      closed = each_term places_below (length scope) f;
      heads = has_heads may.opens side scope f;
      variables = each_term (λ n. vars_below may.variables) m f;
      eigens = each_term (λ n. eigens_below may.eigens) m f;
      loads = loads_fit may.modules f;
    }

-- all six hold
record Passes (x : Six) : Type 0 where
  sorted : x.sorted ≡ true
  closed : x.closed ≡ true
  heads : x.heads ≡ true
  variables : x.variables ≡ true
  eigens : x.eigens ≡ true
  loads : x.loads ≡ true

-- the tests of two parts
abbrev both : Six → Six → Six
both x y =
    record {
      sorted = x.sorted && y.sorted;
      closed = x.closed && y.closed;
      heads = x.heads && y.heads;
      variables = x.variables && y.variables;
      eigens = x.eigens && y.eigens;
      loads = x.loads && y.loads;
    }

left_passes : (x y : Six) → Passes (both x y) → Passes x
left_passes x y h =
    record {
      sorted = and_left x.sorted y.sorted h.sorted;
      closed = and_left x.closed y.closed h.closed;
      heads = and_left x.heads y.heads h.heads;
      variables = and_left x.variables y.variables h.variables;
      eigens = and_left x.eigens y.eigens h.eigens;
      loads = and_left x.loads y.loads h.loads;
    }

right_passes : (x y : Six) → Passes (both x y) → Passes y
right_passes x y h =
    record {
      sorted = and_right x.sorted y.sorted h.sorted;
      closed = and_right x.closed y.closed h.closed;
      heads = and_right x.heads y.heads h.heads;
      variables = and_right x.variables y.variables h.variables;
      eigens = and_right x.eigens y.eigens h.eigens;
      loads = and_right x.loads y.loads h.loads;
    }

-- what each part gives
each_part : {A B : Type 0} → (x y : Six) → (Passes x → A) → (Passes y → B) → Passes (both x y) → A × B
each_part x y f g h = (f (left_passes x y h), g (right_passes x y h))

both_pass : (x y : Six) → Passes x → Passes y → Passes (both x y)
both_pass x y h i =
    record {
      sorted = and_intro x.sorted y.sorted h.sorted i.sorted;
      closed = and_intro x.closed y.closed h.closed i.closed;
      heads = and_intro x.heads y.heads h.heads i.heads;
      variables = and_intro x.variables y.variables h.variables i.variables;
      eigens = and_intro x.eigens y.eigens h.eigens i.eigens;
      loads = and_intro x.loads y.loads h.loads i.loads;
    }

all_fit : (may : Allowed) (scope : Scope) (ts : List Term) → list_all (places_below (length scope)) ts ≡ true → list_all (is_headed scope) ts ≡ true
    → list_all (vars_below may.variables) ts ≡ true → list_all (eigens_below may.eigens) ts ≡ true → AllFit may scope ts
all_fit may scope [] p h v e = tt
all_fit may scope (t ∷ ts) p h v e = (
  fit may scope t (and_left _ (list_all (places_below (length scope)) ts) p) (and_left _ (list_all (is_headed scope) ts) h)
      (and_left _ (list_all (vars_below may.variables) ts) v)
      (and_left _ (list_all (eigens_below may.eigens) ts) e),
  all_fit may scope ts (and_right (places_below (length scope) t) _ p) (and_right (is_headed scope t) _ h) (and_right (vars_below may.variables t) _ v)
      (and_right (eigens_below may.eigens t) _ e),
)

atom_fits : (may : Allowed) (scope : Scope) (a : Term) → places_below (length scope) a ≡ true → is_atom scope a ≡ true → vars_below may.variables a ≡ true
    → eigens_below may.eigens a ≡ true
    → IsHead scope a × Fit may scope a
atom_fits may scope a p h v e =
    let i = and_left (is_spine a && may_head scope (head_of a)) (is_headed scope a) h in (
      (and_left (is_spine a) (may_head scope (head_of a)) i, and_right (is_spine a) (may_head scope (head_of a)) i),
      fit may scope a p (and_right (is_spine a && may_head scope (head_of a)) (is_headed scope a) h) v e,
    )

fits_of : (may : Allowed) (side : Side) (scope : Scope) (m : ℕ) (f : Form) → Passes (tests may side scope m f) → FormFits may side scope f
fits_of may side scope m Top t = tt
fits_of may GoalSide scope m One t = tt
fits_of may ClauseSide scope m One t = absurd (cc (t.sorted))
fits_of may side scope m (Atom a) t = atom_fits may scope a t.closed t.heads t.variables t.eigens
fits_of may GoalSide scope m (With f g) t = each_part (tests may GoalSide scope m f) (tests may GoalSide scope m g) (fits_of may GoalSide scope m f)
    (fits_of may GoalSide scope m g) t
fits_of may ClauseSide scope m (With f g) t = each_part (tests may ClauseSide scope m f) (tests may ClauseSide scope m g) (fits_of may ClauseSide scope m f)
    (fits_of may ClauseSide scope m g) t
fits_of may GoalSide scope m (Tensor f g) t = let p = each_part (tests may GoalSide scope m f) (tests may GoalSide scope m g) (fits_of may GoalSide scope m f)
    (fits_of may GoalSide scope m g) t in (tt, p.0, p.1)
fits_of may ClauseSide scope m (Tensor f g) t = absurd (cc (t.sorted))
fits_of may GoalSide scope m (Plus f g) t = let p = each_part (tests may GoalSide scope m f) (tests may GoalSide scope m g) (fits_of may GoalSide scope m f)
    (fits_of may GoalSide scope m g) t in (tt, p.0, p.1)
fits_of may ClauseSide scope m (Plus f g) t = absurd (cc (t.sorted))
fits_of may GoalSide scope m (Bang f) t = (tt, fits_of may GoalSide scope m f t)
fits_of may ClauseSide scope m (Bang f) t = absurd (cc (t.sorted))
fits_of may GoalSide scope m (Lolli f g) t = each_part (tests may ClauseSide scope m f) (tests may GoalSide scope m g) (fits_of may ClauseSide scope m f)
    (fits_of may GoalSide scope m g) t
fits_of may ClauseSide scope m (Lolli f g) t = each_part (tests may GoalSide scope m f) (tests may ClauseSide scope m g) (fits_of may GoalSide scope m f)
    (fits_of may ClauseSide scope m g) t
fits_of may GoalSide scope m (Imp f g) t = each_part (tests may ClauseSide scope m f) (tests may GoalSide scope m g) (fits_of may ClauseSide scope m f)
    (fits_of may GoalSide scope m g) t
fits_of may ClauseSide scope m (Imp f g) t = each_part (tests may GoalSide scope m f) (tests may ClauseSide scope m g) (fits_of may GoalSide scope m f)
    (fits_of may ClauseSide scope m g) t
fits_of may GoalSide scope m (Forall f) t = fits_of may GoalSide (may.opens ∷ scope) (suc m) f t
fits_of may ClauseSide scope m (Forall f) t = fits_of may ClauseSide (false ∷ scope) (suc m) f t
fits_of may GoalSide scope m (Exists f) t = (tt, fits_of may GoalSide (false ∷ scope) (suc m) f t)
fits_of may ClauseSide scope m (Exists f) t = absurd (cc (t.sorted))
fits_of may GoalSide scope m (Use k ts f) t = (
  tt,
  and_left (fits_module (slice_get may.modules k) ts) (loads_fit may.modules f) t.loads,
  all_fit may scope ts (and_left _ (each_term places_below (length scope) f) t.closed) (and_left _ (has_heads may.opens GoalSide scope f) t.heads)
      (and_left _ (each_term (λ n. vars_below may.variables) m f) t.variables) (and_left _ (each_term (λ n. eigens_below may.eigens) m f) t.eigens),
  fits_of may GoalSide scope m f
      (record {
        sorted = t.sorted;
        closed = and_right (list_all (places_below (length scope)) ts) _ t.closed;
        heads = and_right (list_all (is_headed scope) ts) _ t.heads;
        variables = and_right (list_all (vars_below may.variables) ts) _ t.variables;
        eigens = and_right (list_all (eigens_below may.eigens) ts) _ t.eigens;
        loads = and_right (fits_module (slice_get may.modules k) ts) (loads_fit may.modules f) t.loads;
      }),
)
fits_of may ClauseSide scope m (Use k ts f) t = absurd (cc (t.sorted))
fits_of may GoalSide scope m (Num r a b) t = (
  tt,
  fit may scope a (and_left _ (places_below (length scope) b) t.closed) (and_left _ (is_headed scope b) t.heads)
      (and_left _ (vars_below may.variables b) t.variables) (and_left _ (eigens_below may.eigens b) t.eigens),
  fit may scope b (and_right (places_below (length scope) a) _ t.closed) (and_right (is_headed scope a) _ t.heads)
      (and_right (vars_below may.variables a) _ t.variables) (and_right (eigens_below may.eigens a) _ t.eigens),
)
fits_of may ClauseSide scope m (Num r a b) t = absurd (cc (t.sorted))

each_fit : (may : Allowed) (scope : Scope) (test : Term → Bool) → ((t : Term) → Fit may scope t → test t ≡ true) → (ts : List Term) → AllFit may scope ts
    → list_all test ts ≡ true
each_fit may scope test p [] h = refl
each_fit may scope test p (t ∷ ts) h = and_intro _ _ (p t h.0) (each_fit may scope test p ts h.1)

tests_of : (may : Allowed) (side : Side) (scope : Scope) (m : ℕ) (f : Form) → FormFits may side scope f → Passes (tests may side scope m f)
tests_of may GoalSide scope m Top h = record { sorted = refl; closed = refl; heads = refl; variables = refl; eigens = refl; loads = refl }
tests_of may ClauseSide scope m Top h = record { sorted = refl; closed = refl; heads = refl; variables = refl; eigens = refl; loads = refl }
tests_of may GoalSide scope m One h = record { sorted = refl; closed = refl; heads = refl; variables = refl; eigens = refl; loads = refl }
tests_of may ClauseSide scope m One h = absurd h
tests_of may side scope m (Atom a) h = record {
  sorted = step side;
  closed = fit-places may scope a h.1;
  heads = and_intro (is_spine a && may_head scope (head_of a)) (is_headed scope a) (and_intro (is_spine a) (may_head scope (head_of a)) (h.0).0 (h.0).1)
      (fit-headed may scope a h.1);
  variables = fit-vars may scope a h.1;
  eigens = fit-eigens may scope a h.1;
  loads = refl;
}
  where
    step : (s : Side) → is_on s (Atom a) ≡ true
    step GoalSide = refl
    step ClauseSide = refl
tests_of may GoalSide scope m (With f g) h = both_pass (tests may GoalSide scope m f) (tests may GoalSide scope m g) (tests_of may GoalSide scope m f h.0)
    (tests_of may GoalSide scope m g h.1)
tests_of may ClauseSide scope m (With f g) h = both_pass (tests may ClauseSide scope m f) (tests may ClauseSide scope m g)
    (tests_of may ClauseSide scope m f h.0) (tests_of may ClauseSide scope m g h.1)
tests_of may GoalSide scope m (Tensor f g) h = both_pass (tests may GoalSide scope m f) (tests may GoalSide scope m g) (tests_of may GoalSide scope m f h.1)
    (tests_of may GoalSide scope m g h.2)
tests_of may ClauseSide scope m (Tensor f g) h = absurd (h.0)
tests_of may GoalSide scope m (Plus f g) h = both_pass (tests may GoalSide scope m f) (tests may GoalSide scope m g) (tests_of may GoalSide scope m f h.1)
    (tests_of may GoalSide scope m g h.2)
tests_of may ClauseSide scope m (Plus f g) h = absurd (h.0)
tests_of may GoalSide scope m (Bang f) h = tests_of may GoalSide scope m f h.1
tests_of may ClauseSide scope m (Bang f) h = absurd (h.0)
tests_of may GoalSide scope m (Lolli f g) h = both_pass (tests may ClauseSide scope m f) (tests may GoalSide scope m g) (tests_of may ClauseSide scope m f h.0)
    (tests_of may GoalSide scope m g h.1)
tests_of may ClauseSide scope m (Lolli f g) h = both_pass (tests may GoalSide scope m f) (tests may ClauseSide scope m g) (tests_of may GoalSide scope m f h.0)
    (tests_of may ClauseSide scope m g h.1)
tests_of may GoalSide scope m (Imp f g) h = both_pass (tests may ClauseSide scope m f) (tests may GoalSide scope m g) (tests_of may ClauseSide scope m f h.0)
    (tests_of may GoalSide scope m g h.1)
tests_of may ClauseSide scope m (Imp f g) h = both_pass (tests may GoalSide scope m f) (tests may ClauseSide scope m g) (tests_of may GoalSide scope m f h.0)
    (tests_of may ClauseSide scope m g h.1)
tests_of may GoalSide scope m (Forall f) h = tests_of may GoalSide (may.opens ∷ scope) (suc m) f h
tests_of may ClauseSide scope m (Forall f) h = tests_of may ClauseSide (false ∷ scope) (suc m) f h
tests_of may GoalSide scope m (Exists f) h = tests_of may GoalSide (false ∷ scope) (suc m) f h.1
tests_of may ClauseSide scope m (Exists f) h = absurd (h.0)
tests_of may GoalSide scope m (Use k ts f) h =
    let t = tests_of may GoalSide scope m f h.3 in
    record {
      sorted = t.sorted;
      closed = and_intro _ _ (each_fit may scope (places_below (length scope)) (fit-places may scope) ts h.2) t.closed;
      heads = and_intro _ _ (each_fit may scope (is_headed scope) (fit-headed may scope) ts h.2) t.heads;
      variables = and_intro _ _ (each_fit may scope (vars_below may.variables) (fit-vars may scope) ts h.2) t.variables;
      eigens = and_intro _ _ (each_fit may scope (eigens_below may.eigens) (fit-eigens may scope) ts h.2) t.eigens;
      loads = and_intro _ _ h.1 t.loads;
    }
tests_of may ClauseSide scope m (Use k ts f) h = absurd (h.0)
tests_of may GoalSide scope m (Num r a b) h = record {
  sorted = refl;
  closed = and_intro _ _ (fit-places may scope a h.1) (fit-places may scope b h.2);
  heads = and_intro _ _ (fit-headed may scope a h.1) (fit-headed may scope b h.2);
  variables = and_intro _ _ (fit-vars may scope a h.1) (fit-vars may scope b h.2);
  eigens = and_intro _ _ (fit-eigens may scope a h.1) (fit-eigens may scope b h.2);
  loads = refl;
}
tests_of may ClauseSide scope m (Num r a b) h = absurd (h.0)

pub fits_of_formula : (may : Allowed) (side : Side) (scope : Scope) (f : Form) → IsFormula may side scope f → FormFits may side scope f
fits_of_formula may side scope f h =
    fits_of may side scope 0 f (record { sorted = h.sorted; closed = h.closed; heads = h.heads; variables = h.variables; eigens = h.eigens; loads = h.loads })

pub formula_of_fits : (may : Allowed) (side : Side) (scope : Scope) (f : Form) → FormFits may side scope f → IsFormula may side scope f
formula_of_fits may side scope f h =
    let t = tests_of may side scope 0 f h in
    record { sorted = t.sorted; closed = t.closed; heads = t.heads; variables = t.variables; eigens = t.eigens; loads = t.loads }

-- ---- weakening, substitution and closing

pub fits-more : (may more : Allowed) (side : Side) (scope wide : Scope) (f : Form) → Grows may more → Widens scope wide → FormFits may side scope f
    → FormFits more side wide f
fits-more may more side scope wide Top g w h = tt
fits-more may more side scope wide One g w h = h
fits-more may more side scope wide (Atom a) g w h = (is_head-more scope wide a w h.0, fit-more may more scope wide a g w h.1)
fits-more may more side scope wide (With p q) g w h = (fits-more may more side scope wide p g w h.0, fits-more may more side scope wide q g w h.1)
fits-more may more side scope wide (Tensor p q) g w h = (h.0, fits-more may more side scope wide p g w h.1, fits-more may more side scope wide q g w h.2)
fits-more may more side scope wide (Plus p q) g w h = (h.0, fits-more may more side scope wide p g w h.1, fits-more may more side scope wide q g w h.2)
fits-more may more side scope wide (Bang p) g w h = (h.0, fits-more may more side scope wide p g w h.1)
fits-more may more side scope wide (Lolli p q) g w h = (fits-more may more (other side) scope wide p g w h.0, fits-more may more side scope wide q g w h.1)
fits-more may more side scope wide (Imp p q) g w h = (fits-more may more (other side) scope wide p g w h.0, fits-more may more side scope wide q g w h.1)
fits-more may more side scope wide (Forall p) g w h = fits-more may more side (opens_on may.opens side ∷ scope) (opens_on more.opens side ∷ wide) p g
    (step side, w) h
  where
    step : (s : Side) → opens_on may.opens s ≡ true → opens_on more.opens s ≡ true
    step GoalSide i = g.opens i
    step ClauseSide i = i
fits-more may more side scope wide (Exists p) g w h = (h.0, fits-more may more side (false ∷ scope) (false ∷ wide) p g (λ i. i, w) h.1)
fits-more may more side scope wide (Use m ts p) g w h = (
  h.0,
  subst (λ ms. fits_module (slice_get ms m) ts ≡ true) g.modules h.1,
  all_fit-more may more scope wide ts g w h.2,
  fits-more may more side scope wide p g w h.3,
)
fits-more may more side scope wide (Num r a b) g w h = (h.0, fit-more may more scope wide a g w h.1, fit-more may more scope wide b g w h.2)

-- only the number of arguments decides whether they fit a module
pub fits_module-length : (o : Option ModuleTree) (ts us : List Term) → length us ≡ length ts → fits_module o ts ≡ true → fits_module o us ≡ true
fits_module-length None ts us e h = cc
fits_module-length (Some m) ts us e h = subst (λ n. nat_eq n m.params ≡ true) (sym e) h

pub fits-sub : (may : Allowed) (s : ℕ → Term) (side : Side) (scope : Scope) (f : Form) → GoesToFitting may s
    → FormFits may side scope f → FormFits may side scope (sub_form s f)
fits-sub may s side scope Top g h = tt
fits-sub may s side scope One g h = h
fits-sub may s side scope (Atom a) g h = (is_head-sub s scope a h.0, fit-sub may s scope a g h.1)
fits-sub may s side scope (With p q) g h = (fits-sub may s side scope p g h.0, fits-sub may s side scope q g h.1)
fits-sub may s side scope (Tensor p q) g h = (h.0, fits-sub may s side scope p g h.1, fits-sub may s side scope q g h.2)
fits-sub may s side scope (Plus p q) g h = (h.0, fits-sub may s side scope p g h.1, fits-sub may s side scope q g h.2)
fits-sub may s side scope (Bang p) g h = (h.0, fits-sub may s side scope p g h.1)
fits-sub may s side scope (Lolli p q) g h = (fits-sub may s (other side) scope p g h.0, fits-sub may s side scope q g h.1)
fits-sub may s side scope (Imp p q) g h = (fits-sub may s (other side) scope p g h.0, fits-sub may s side scope q g h.1)
fits-sub may s side scope (Forall p) g h = fits-sub may s side (opens_on may.opens side ∷ scope) p g h
fits-sub may s side scope (Exists p) g h = (h.0, fits-sub may s side (false ∷ scope) p g h.1)
fits-sub may s side scope (Use m ts p) g h = (
  h.0,
  fits_module-length (slice_get may.modules m) ts (map (sub s) ts) (length-map ts (sub s)) h.1,
  all_fit-sub may s scope ts g h.2,
  fits-sub may s side scope p g h.3,
)
fits-sub may s side scope (Num r a b) g h = (h.0, fit-sub may s scope a g h.1, fit-sub may s scope b g h.2)

pub fits-close : (may : Allowed) (e : Env) (side : Side) (inner outer : Scope) (f : Form) → Closes may e inner outer → FormFits may side inner f
    → FormFits may side outer (close_form e f)
fits-close may e side inner outer Top c h = tt
fits-close may e side inner outer One c h = h
fits-close may e side inner outer (Atom a) c h = (is_head-close may e inner outer a c h.0, fit-close may e inner outer a c h.1)
fits-close may e side inner outer (With p q) c h = (fits-close may e side inner outer p c h.0, fits-close may e side inner outer q c h.1)
fits-close may e side inner outer (Tensor p q) c h = (h.0, fits-close may e side inner outer p c h.1, fits-close may e side inner outer q c h.2)
fits-close may e side inner outer (Plus p q) c h = (h.0, fits-close may e side inner outer p c h.1, fits-close may e side inner outer q c h.2)
fits-close may e side inner outer (Bang p) c h = (h.0, fits-close may e side inner outer p c h.1)
fits-close may e side inner outer (Lolli p q) c h = (fits-close may e (other side) inner outer p c h.0, fits-close may e side inner outer q c h.1)
fits-close may e side inner outer (Imp p q) c h = (fits-close may e (other side) inner outer p c h.0, fits-close may e side inner outer q c h.1)
fits-close may e side inner outer (Forall p) c h =
    fits-close may (None ∷ e) side (opens_on may.opens side ∷ inner) (opens_on may.opens side ∷ outer) p (λ i. i, c) h
fits-close may e side inner outer (Exists p) c h = (h.0, fits-close may (None ∷ e) side (false ∷ inner) (false ∷ outer) p (λ i. i, c) h.1)
fits-close may e side inner outer (Use m ts p) c h = (
  h.0,
  fits_module-length (slice_get may.modules m) ts (map (close e) ts) (length-map ts (close e)) h.1,
  all_fit-close may e inner outer ts c h.2,
  fits-close may e side inner outer p c h.3,
)
fits-close may e side inner outer (Num r a b) c h = (h.0, fit-close may e inner outer a c h.1, fit-close may e inner outer b c h.2)
