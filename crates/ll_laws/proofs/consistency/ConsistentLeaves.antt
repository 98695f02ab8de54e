-- The leaves of a clause that fits, and the goals that loads of fitting modules stand for.
use Rattle.std.proofs.Common.{◌≡◌, ℕ, zero, suc, refl, ap, sym, subst, ◌∙◌, Bool, true, false, List, [], ◌∷◌, ◌++◌, map, length, reverse, replicate}
use Rattle.std.proofs.lemmas.List.{append-nil, length-reverse}
use Rattle.std.specs.Prelude.{Option, Some, None, option_map, if◌then◌else◌, ◌-◌, nat_lt}
use mathlib.Core.List.{reverse_aux}
use Rattle.ll_bank.specs.Term.{Term, Env, close}
use Rattle.ll_bank.specs.Form.{Form, Atom, With, Lolli, Imp, Forall, close_form}
use Rattle.ll_laws.specs.declared.Kind.{Kind}
use Rattle.ll_laws.specs.declared.Kind.TheVariants.{Linear, Unbounded}
use Rattle.ll_laws.specs.Leaf.{Premise, Needs, NeedsFree, premise_goal, Leaf, add_premise, ways, leaf_from, leaf}
use Rattle.ll_laws.specs.Module.{ClauseTree, ModuleTree, load, load_all, forall_all, unfold_load}
use Rattle.ll_laws.specs.Valid.{GoalSide, ClauseSide, Allowed, Scope, module_scope}
use Rattle.ll_laws.proofs.consistency.ConsistentTerms.{IsHead, Fit, AllFit, widens-refl, grows-refl, Closes, is_head-close, fit-close}
use Rattle.ll_laws.proofs.consistency.ConsistentForms.{FormFits, fits-more, fits-close}

-- ---- leaves

-- the goal of each premise fits
abbrev pub PremisesFit : Allowed → List Premise → Type 0
PremisesFit may [] = Unit {0}
PremisesFit may (p ∷ ps) = FormFits may GoalSide [] (premise_goal p) × PremisesFit may ps

pub record LeafFits (may : Allowed) (l : Leaf) : Type 0 where
  pub premises : PremisesFit may l.premises
  pub head : IsHead [] l.head × Fit may [] l.head

premises-append : (may : Allowed) (ps : List Premise) (p : Premise) → PremisesFit may ps → FormFits may GoalSide [] (premise_goal p)
    → PremisesFit may (ps ++ p ∷ [])
premises-append may [] p h f = (f, tt)
premises-append may (q ∷ ps) p h f = (h.0, premises-append may ps p h.1 f)

-- a leaf with a premise more comes from one without it
under : (may : Allowed) (p : Premise) (o : Option Leaf) (l : Leaf) → option_map (add_premise p) o ≡ Some l → FormFits may GoalSide [] (premise_goal p)
    → ((i : Leaf) → o ≡ Some i → LeafFits may i) → LeafFits may l
under may p None l h f g = cc
under may p (Some i) l h f g =
    let e : add_premise p i ≡ l = cc in let k = g i refl in
    subst (λ z. LeafFits may z) e (record { premises = premises-append may i.premises p k.premises f; head = k.head })

pub leaf_from-fits : (may : Allowed) (e : Env) (inner : Scope) (r : Form) (k : ℕ) (ts : List Term) (l : Leaf) → Closes may e inner []
    → FormFits may ClauseSide inner r → AllFit may [] ts
    → leaf_from e r k ts ≡ Some l → LeafFits may l
leaf_from-fits may e inner (Atom a) zero [] l c f t h =
    let x : Leaf = record { premises = []; head = close e a } in
    let w : x ≡ l = cc in
    subst (λ z. LeafFits may z) w (record { premises = tt; head = (is_head-close may e inner [] a c f.0, fit-close may e inner [] a c f.1) })
leaf_from-fits may e inner (Atom a) zero (u ∷ us) l c f t h = cc
leaf_from-fits may e inner (Atom a) (suc k) [] l c f t h = cc
leaf_from-fits may e inner (Atom a) (suc k) (u ∷ us) l c f t h = cc
leaf_from-fits may e inner (With q r) k ts l c f t h =
    step (nat_lt k (length (ways q))) (leaf_from-fits may e inner q k ts l c f.0 t) (leaf_from-fits may e inner r (k - length (ways q)) ts l c f.1 t) h
  where
    step : (b : Bool) → (leaf_from e q k ts ≡ Some l → LeafFits may l) → (leaf_from e r (k - length (ways q)) ts ≡ Some l → LeafFits may l)
        → (if b then leaf_from e q k ts else leaf_from e r (k - length (ways q)) ts) ≡ Some l → LeafFits may l
    step true i j h = i h
    step false i j h = j h
leaf_from-fits may e inner (Lolli g r) k ts l c f t h =
    under may (Needs (close_form e g)) (leaf_from e r k ts) l h (fits-close may e GoalSide inner [] g c f.0)
    (λ i q. leaf_from-fits may e inner r k ts i c f.1 t q)
leaf_from-fits may e inner (Imp g r) k ts l c f t h =
    under may (NeedsFree (close_form e g)) (leaf_from e r k ts) l h (tt, fits-close may e GoalSide inner [] g c f.0)
    (λ i q. leaf_from-fits may e inner r k ts i c f.1 t q)
leaf_from-fits may e inner (Forall r) k [] l c f t h = cc
leaf_from-fits may e inner (Forall r) k (u ∷ us) l c f t h = leaf_from-fits may (Some u ∷ e) (false ∷ inner) r k us l (t.0, λ i. absurd (cc (i)), c) f t.1 h
leaf_from-fits may e inner _ k ts l c f t h = cc

pub leaf-fits : (may : Allowed) (r : Form) (k : ℕ) (ts : List Term) (l : Leaf) → FormFits may ClauseSide [] r → AllFit may [] ts → leaf r k ts ≡ Some l
    → LeafFits may l
leaf-fits may r k ts l f t h = leaf_from-fits may [] [] r k ts l tt f t h

-- ---- modules

-- each clause fits
abbrev pub ClausesFit : Allowed → Scope → List ClauseTree → Type 0
ClausesFit may scope [] = Unit {0}
ClausesFit may scope (c ∷ cs) = FormFits may ClauseSide scope c.form × ClausesFit may scope cs

load-fits : (may : Allowed) (kind : Kind) (scope : Scope) (r g : Form) → FormFits may ClauseSide scope r → FormFits may GoalSide scope g
    → FormFits may GoalSide scope (load kind r g)
load-fits may Linear scope r g f h = (f, h)
load-fits may Unbounded scope r g f h = (f, h)

load_all-fits : (may : Allowed) (e : Env) (inner outer : Scope) (cs : List ClauseTree) (g : Form) → Closes may e inner outer → ClausesFit may inner cs
    → FormFits may GoalSide outer g
    → FormFits may GoalSide outer (load_all e cs g)
load_all-fits may e inner outer [] g c f h = h
load_all-fits may e inner outer (d ∷ cs) g c f h =
    load-fits may d.kind outer (close_form e d.form) (load_all e cs g) (fits-close may e ClauseSide inner outer d.form c f.0)
    (load_all-fits may e inner outer cs g c f.1 h)

pub replicate-front : (n : ℕ) (b : Bool) (scope : Scope) → replicate n b ++ b ∷ scope ≡ b ∷ (replicate n b ++ scope)
replicate-front zero b scope = refl
replicate-front (suc n) b scope = ap (λ xs. b ∷ xs) (replicate-front n b scope)

forall_all-fits : (may : Allowed) (n : ℕ) (scope : Scope) (g : Form) → may.opens ≡ true → FormFits may GoalSide (replicate n true ++ scope) g
    → FormFits may GoalSide scope (forall_all n g)
forall_all-fits may zero scope g o h = h
forall_all-fits may (suc n) scope g o h =
    let i = subst (λ xs. FormFits may GoalSide xs g) (sym (replicate-front n true scope)) h in
    forall_all-fits may n (may.opens ∷ scope) g o (subst (λ b. FormFits may GoalSide (replicate n true ++ b ∷ scope) g) (sym o) i)

-- closed arguments go to the parameters
arguments-close : (may : Allowed) (us : List Term) (outer : Scope) → AllFit may [] us
    → Closes may (map (λ t. Some t) us) (replicate (length us) false ++ outer) outer
arguments-close may [] outer h = widens-refl outer
arguments-close may (u ∷ us) outer h = (h.0, λ i. absurd (cc (i)), arguments-close may us outer h.1)

reverse_aux-fits : (may : Allowed) (ts us : List Term) → AllFit may [] ts → AllFit may [] us → AllFit may [] (reverse_aux ts us)
reverse_aux-fits may [] us h i = i
reverse_aux-fits may (t ∷ ts) us h i = reverse_aux-fits may ts (t ∷ us) h.1 (h.0, i)

pub unfold_load-fits : (may : Allowed) (m : ModuleTree) (ts : List Term) (g : Form) → may.opens ≡ true → ClausesFit may (module_scope m) m.clauses
    → length ts ≡ m.params → AllFit may [] ts
    → FormFits may GoalSide [] g → FormFits may GoalSide [] (unfold_load m ts g)
unfold_load-fits may m ts g o f n t h =
    let us = reverse ts in
    let c = arguments-close may us (replicate m.locals true) (reverse_aux-fits may ts [] t tt) in
    let q : length us ≡ m.params = length-reverse ts ∙ n in
    let d = subst (λ k. Closes may (map (λ t. Some t) us) (replicate k false ++ replicate m.locals true) (replicate m.locals true)) q c in
    let w = fits-more may may GoalSide [] (replicate m.locals true) g (grows-refl may) tt h in
    let all = load_all-fits may (map (λ t. Some t) us) (module_scope m) (replicate m.locals true) m.clauses g d f w in
    forall_all-fits may m.locals [] (load_all (map (λ t. Some t) us) m.clauses g) o
    (subst (λ xs. FormFits may GoalSide xs (load_all (map (λ t. Some t) us) m.clauses g)) (sym (append-nil (replicate m.locals true))) all)
