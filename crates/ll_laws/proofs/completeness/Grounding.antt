-- A state in which closed terms stand for its variables.
use Rattle.std.proofs.Common.{◌≡◌, ℕ, zero, suc, refl, ap, sym, ◌∙◌, Bool, true, false, List, [], ◌∷◌, map, reverse, arith}
use Rattle.std.specs.Prelude.{◌&&◌, ◌||◌, nat_lt, Option, Some, None, option_map}
use Rattle.std.specs.List.{list_any}
use Rattle.std.proofs.lemmas.Bool.{ltb-true, ne_eqb, and_from as and_intro}
use Rattle.ll_list_laws.proofs.CallerLemmas.{and_true_left as and_left, and_true_right as and_right, map_map, lt_zero as none_below}
use mathlib.Core.List.{reverse_aux}
use Rattle.ll_bank.specs.declared.Head.TheVariants.{Name, Eigen, Bound}
use Rattle.ll_bank.specs.Term.{Term, Var, Int, Con, Ap, sub, has_eigen, is_closed, is_spine, Env}
use Rattle.ll_bank.specs.Form.{Form, Top, One, Atom, With, Tensor, Plus, Bang, Lolli, Imp, Forall, Exists, Use, sub_form, form_has_eigen, close_form, Num}
use Rattle.ll_laws.specs.declared.Kind.{Kind}
use Rattle.ll_laws.specs.declared.Kind.TheVariants.{Linear, Unbounded}
use Rattle.ll_laws.specs.Module.{ModuleTree, ClauseTree, load, load_all, forall_all, unfold_load}
use Rattle.ll_laws.specs.Settle.{Front}
use Rattle.ll_laws.specs.State.{State, settle, front_of, with_front, sub_item, sub_entry, sub_state}
use Rattle.ll_laws.specs.Valid.{Allowed, given, Side, Scope}
use Rattle.ll_laws.proofs.unification.SubLaws.{IsClosing, sub_env, sub_close_form}
use Rattle.ll_laws.proofs.search.SettleLaws.{settle-sub}
use Rattle.ll_laws.proofs.consistency.ConsistentTerms.{Fit, AllFit}
use Rattle.ll_laws.proofs.consistency.ConsistentForms.{FormFits}
use Rattle.ll_laws.proofs.consistency.ConsistentLeaves.{ClausesFit}

-- the state with terms for its variables, and without their levels
abbrev pub grounded : (ℕ → Term) → State → State
grounded f s = record s { agenda = map (sub_item f) s.agenda; context = map (sub_entry f) s.context; levels = []; terms = map (sub f) s.terms }

-- ---- settling

-- levels play no part in it
front_with : (ls : List ℕ) (s : State) (o : Option (Front Form Form)) (t : State) → front_of s o ≡ Some t
    → front_of (record s { levels = ls }) o ≡ Some (record t { levels = ls })
front_with ls s None t h = cc
front_with ls s (Some x) t h = let e : with_front s x ≡ t = cc in ap {A = State} (λ z. Some (record z { levels = ls })) e

pub settle_with : (ls : List ℕ) (s t : State) → settle s ≡ Some t → settle (record s { levels = ls }) ≡ Some (record t { levels = ls })
unfolding settle
settle_with ls s t h = front_with ls s _ t h

pub settle_grounded : (f : ℕ → Term) (s t : State) → settle s ≡ Some t → settle (grounded f s) ≡ Some (grounded f t)
settle_grounded f s t h = settle_with [] (sub_state f s) (sub_state f t) (settle-sub f s ∙ ap (option_map (sub_state f)) h)

-- ---- eigenvariables

pub or_none : (a b : Bool) → a ≡ false → b ≡ false → a || b ≡ false
or_none false b h k = k
or_none true b h k = h

-- each variable that there is has a term without this eigenvariable
abbrev pub Avoids : ℕ → ℕ → (ℕ → Term) → Type 0
Avoids c n f = (x : ℕ) → nat_lt x n ≡ true → has_eigen c (f x) ≡ false

pub term_avoids : (may : Allowed) (f : ℕ → Term) → Avoids may.eigens may.variables f → (scope : Scope) (t : Term) → Fit may scope t
    → has_eigen may.eigens (sub f t) ≡ false
term_avoids may f v scope (Var x) h = v x h
term_avoids may f v scope (Int z) h = refl
term_avoids may f v scope (Con (Name n)) h = refl
term_avoids may f v scope (Con (Bound n)) h = refl
term_avoids may f v scope (Con (Eigen k)) h = ne_eqb may.eigens k (λ e. let l = ltb-true k may.eigens h in omega (arith, e, l))
term_avoids may f v scope (Ap t u) h = or_none _ _ (term_avoids may f v scope t h.1) (term_avoids may f v scope u h.2)

terms_avoid : (may : Allowed) (f : ℕ → Term) → Avoids may.eigens may.variables f → (scope : Scope) (ts : List Term) → AllFit may scope ts
    → list_any (has_eigen may.eigens) (map (sub f) ts) ≡ false
terms_avoid may f v scope [] h = refl
terms_avoid may f v scope (t ∷ ts) h = or_none _ _ (term_avoids may f v scope t h.0) (terms_avoid may f v scope ts h.1)

pub form_avoids : (may : Allowed) (f : ℕ → Term) → Avoids may.eigens may.variables f → (side : Side) (scope : Scope) (g : Form) → FormFits may side scope g
    → form_has_eigen may.eigens (sub_form f g) ≡ false
form_avoids may f v side scope Top h = refl
form_avoids may f v side scope One h = refl
form_avoids may f v side scope (Atom a) h = term_avoids may f v scope a h.1
form_avoids may f v side scope (With g k) h = or_none _ _ (form_avoids may f v _ scope g h.0) (form_avoids may f v _ scope k h.1)
form_avoids may f v side scope (Tensor g k) h = or_none _ _ (form_avoids may f v _ scope g h.1) (form_avoids may f v _ scope k h.2)
form_avoids may f v side scope (Plus g k) h = or_none _ _ (form_avoids may f v _ scope g h.1) (form_avoids may f v _ scope k h.2)
form_avoids may f v side scope (Bang g) h = form_avoids may f v _ scope g h.1
form_avoids may f v side scope (Lolli g k) h = or_none _ _ (form_avoids may f v _ scope g h.0) (form_avoids may f v _ scope k h.1)
form_avoids may f v side scope (Imp g k) h = or_none _ _ (form_avoids may f v _ scope g h.0) (form_avoids may f v _ scope k h.1)
form_avoids may f v side scope (Forall g) h = form_avoids may f v _ _ g h
form_avoids may f v side scope (Exists g) h = form_avoids may f v _ _ g h.1
form_avoids may f v side scope (Use m ts g) h = or_none _ _ (terms_avoid may f v scope ts h.2) (form_avoids may f v _ scope g h.3)
form_avoids may f v side scope (Num r a b) h = or_none _ _ (term_avoids may f v scope a h.1) (term_avoids may f v scope b h.2)

-- ---- formulas without variables

sub_none : (ms : List ModuleTree) (f : ℕ → Term) (scope : Scope) (t : Term) → Fit (given ms 0) scope t → sub f t ≡ t
sub_none ms f scope (Var x) h = none_below x h
sub_none ms f scope (Int z) h = refl
sub_none ms f scope (Con k) h = refl
sub_none ms f scope (Ap t u) h = let a = sub_none ms f scope t h.1 in let b = sub_none ms f scope u h.2 in cc

sub_none_all : (ms : List ModuleTree) (f : ℕ → Term) (scope : Scope) (ts : List Term) → AllFit (given ms 0) scope ts → map (sub f) ts ≡ ts
sub_none_all ms f scope [] h = refl
sub_none_all ms f scope (t ∷ ts) h = let a = sub_none ms f scope t h.0 in let b = sub_none_all ms f scope ts h.1 in cc

pub sub_none_form : (ms : List ModuleTree) (f : ℕ → Term) (side : Side) (scope : Scope) (g : Form) → FormFits (given ms 0) side scope g → sub_form f g ≡ g
sub_none_form ms f side scope Top h = refl
sub_none_form ms f side scope One h = refl
sub_none_form ms f side scope (Atom a) h = ap Atom (sub_none ms f scope a h.1)
sub_none_form ms f side scope (With g k) h = let a = sub_none_form ms f _ scope g h.0 in let b = sub_none_form ms f _ scope k h.1 in cc
sub_none_form ms f side scope (Tensor g k) h = let a = sub_none_form ms f _ scope g h.1 in let b = sub_none_form ms f _ scope k h.2 in cc
sub_none_form ms f side scope (Plus g k) h = let a = sub_none_form ms f _ scope g h.1 in let b = sub_none_form ms f _ scope k h.2 in cc
sub_none_form ms f side scope (Bang g) h = ap Bang (sub_none_form ms f _ scope g h.1)
sub_none_form ms f side scope (Lolli g k) h = let a = sub_none_form ms f _ scope g h.0 in let b = sub_none_form ms f _ scope k h.1 in cc
sub_none_form ms f side scope (Imp g k) h = let a = sub_none_form ms f _ scope g h.0 in let b = sub_none_form ms f _ scope k h.1 in cc
sub_none_form ms f side scope (Forall g) h = ap Forall (sub_none_form ms f _ _ g h)
sub_none_form ms f side scope (Exists g) h = ap Exists (sub_none_form ms f _ _ g h.1)
sub_none_form ms f side scope (Use m ts g) h = let a = sub_none_all ms f scope ts h.2 in let b = sub_none_form ms f _ scope g h.3 in cc
sub_none_form ms f side scope (Num r t u) h = let a = sub_none ms f scope t h.1 in let b = sub_none ms f scope u h.2 in cc

-- ---- loads

forall_sub : (f : ℕ → Term) (n : ℕ) (g : Form) → sub_form f (forall_all n g) ≡ forall_all n (sub_form f g)
forall_sub f zero g = refl
forall_sub f (suc n) g = ap Forall (forall_sub f n g)

load_sub : (f : ℕ → Term) (k : Kind) (r g : Form) → sub_form f (load k r g) ≡ load k (sub_form f r) (sub_form f g)
load_sub f Linear r g = refl
load_sub f Unbounded r g = refl

loads_sub : (f : ℕ → Term) → IsClosing f → (ms : List ModuleTree) (scope : Scope) (e : Env) (cs : List ClauseTree) (g : Form) → ClausesFit (given ms 0) scope cs
    → sub_form f (load_all e cs g) ≡ load_all (sub_env f e) cs (sub_form f g)
loads_sub f cl ms scope e [] g h = refl
loads_sub f cl ms scope e (c ∷ cs) g h =
    let a = loads_sub f cl ms scope e cs g h.1 in
    let b = sub_close_form f cl e c.form ∙ ap (close_form (sub_env f e)) (sub_none_form ms f _ scope c.form h.0) in
    load_sub f c.kind (close_form e c.form) (load_all e cs g)
    ∙ (ap (λ z. load c.kind z (sub_form f (load_all e cs g))) b ∙ ap (λ z. load c.kind (close_form (sub_env f e) c.form) z) a)

pub map_onto : {A B : Type 0} (f : A → B) (xs acc : List A) → map f (reverse_aux xs acc) ≡ reverse_aux (map f xs) (map f acc)
map_onto f [] acc = refl
map_onto f (x ∷ xs) acc = map_onto f xs (x ∷ acc)

pub unfold_sub : (f : ℕ → Term) → IsClosing f → (ms : List ModuleTree) (scope : Scope) (m : ModuleTree) (ts : List Term) (g : Form)
    → ClausesFit (given ms 0) scope m.clauses
    → sub_form f (unfold_load m ts g) ≡ unfold_load m (map (sub f) ts) (sub_form f g)
unfold_sub f cl ms scope m ts g h =
    let e : sub_env f (map (λ t. Some t) (reverse ts)) ≡ map (λ t. Some t) (reverse (map (sub f) ts)) =
    map_map (option_map (sub f)) (λ t. Some t) (reverse ts) ∙
    (sym (map_map (λ t. Some t) (sub f) (reverse ts)) ∙ ap (map (λ t. Some t)) (map_onto (sub f) ts [])) in
    forall_sub f m.locals (load_all (map (λ t. Some t) (reverse ts)) m.clauses g)
    ∙ ap (forall_all m.locals) (loads_sub f cl ms scope (map (λ t. Some t) (reverse ts)) m.clauses g h ∙ ap (λ z. load_all z m.clauses (sub_form f g)) e)

-- ---- closed terms

spine_sub : (f : ℕ → Term) (t : Term) → is_spine t ≡ true → is_spine (sub f t) ≡ true
spine_sub f (Var x) h = cc
spine_sub f (Int z) h = cc
spine_sub f (Con k) h = refl
spine_sub f (Ap t u) h = spine_sub f t h

pub closed_sub : (f : ℕ → Term) → IsClosing f → (t : Term) → is_closed t ≡ true → is_closed (sub f t) ≡ true
closed_sub f cl (Var x) h = cl x
closed_sub f cl (Int z) h = refl
closed_sub f cl (Con k) h = h
closed_sub f cl (Ap t u) h =
    let a = and_left (is_spine t && is_closed t) (is_closed u) h in
    and_intro _ _ (and_intro _ _ (spine_sub f t (and_left (is_spine t) (is_closed t) a)) (closed_sub f cl t (and_right (is_spine t) (is_closed t) a)))
    (closed_sub f cl u (and_right (is_spine t && is_closed t) (is_closed u) h))
