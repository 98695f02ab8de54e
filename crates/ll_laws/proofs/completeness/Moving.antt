-- Terms and formulas of a derivation with the eigenvariables of a run in place of their own, and variables in place of what no eigenvariable
-- of the run stands for.
use Rattle.std.proofs.Common.{◌≡◌, ◌≤◌, ℕ, zero, suc, ◌+◌, refl, ap, sym, subst, ◌∙◌, Bool, true, false, List, [], ◌∷◌, ◌++◌, map, length, replicate, reverse}
use Rattle.std.proofs.Common.{arith}
use Rattle.std.specs.Prelude.{◌&&◌, ◌||◌, if◌then◌else◌, ◌-◌, nat_lt, Option, Some, None, option_map, is_some, slice_get, slice_index_or}
use Rattle.std.proofs.lemmas.Bool.{ltb-true, lt-ltb, and_from as and_intro}
use Rattle.std.proofs.Math.Bool.{or-true}
use Rattle.std.proofs.lemmas.List.{append-nil, map-append, length-map, length-reverse}
use Rattle.ll_list_laws.proofs.CallerLemmas.{and_true_left as and_left, and_true_right as and_right, map_map, lt_more, lt_zero as none_below}
use mathlib.Core.List.{reverse_aux}
use Rattle.ll_bank.specs.declared.Head.{Head}
use Rattle.ll_bank.specs.declared.Head.TheVariants.{Name, Eigen, Bound}
use Rattle.ll_bank.specs.Term.{Term, Var, Int, Con, Ap, Env, place, close, sub, head_of, is_closed, is_spine}
use Rattle.ll_bank.specs.Form.{Form, Top, One, Atom, With, Tensor, Plus, Bang, Lolli, Imp, Forall, Exists, Use, close_form, sub_form, Num}
use Rattle.ll_laws.specs.declared.Kind.{Kind}
use Rattle.ll_laws.specs.declared.Kind.TheVariants.{Linear, Unbounded}
use Rattle.ll_laws.specs.Leaf.{Premise, Needs, NeedsFree, Leaf, add_premise, premise_goal, ways, leaf_from, leaf}
use Rattle.ll_laws.specs.Module.{ClauseTree, ModuleTree, load, load_all, forall_all, unfold_load}
use Rattle.ll_laws.specs.Valid.{Allowed, Side, GoalSide, ClauseSide, Scope, module_scope, fits_module}
use Rattle.ll_laws.specs.Derive.{AreClosed}
use Rattle.ll_laws.specs.Instance.{hide, is_eigen_head}
use Rattle.ll_laws.proofs.unification.SubLaws.{close_closed, IsClosing}
use Rattle.ll_laws.proofs.consistency.ConsistentTerms.{IsHead, Fit, AllFit, Widens, widens-refl, is_head-sub, is_head-more, head_of_closed, widens-length}
use Rattle.ll_laws.proofs.consistency.ConsistentTerms.{widens-may, Deep, deep-none}
use Rattle.ll_laws.proofs.consistency.ConsistentForms.{FormFits, other, opens_on, fits_module-length}
use Rattle.ll_laws.proofs.consistency.ConsistentLeaves.{ClausesFit, replicate-front}
use Rattle.ll_laws.proofs.completeness.Grounding.{map_onto}
use Rattle.ll_laws.proofs.search.LeafTries.{sub-head}

-- for each eigenvariable of a derivation the one of the run that stands for it, if there is one
abbrev pub Numbers : Type 0
Numbers = ℕ → Option ℕ

-- no eigenvariable of the run stands for any
abbrev pub no_numbers : Numbers
no_numbers c = None

-- the head is no eigenvariable, or one that has a number
abbrev pub known : Numbers → Option Head → Bool
known to (Some (Eigen c)) = is_some (to c)
known to _ = true

abbrev pub numbered : Option ℕ → ℕ → Term
numbered (Some j) x = Con (Eigen j)
numbered None x = Var x

abbrev pub move_con : Numbers → (Term → ℕ) → Head → Term
move_con to name (Eigen c) = numbered (to c) (name (Con (Eigen c)))
move_con to name h = Con h

-- the term with the run's eigenvariables; an outermost part whose head has no number gives way to the variable that it is named
abbrev pub move : Numbers → (Term → ℕ) → Term → Term
move to name (Var x) = Var x
move to name (Int z) = Int z
move to name (Con h) = move_con to name h
move to name (Ap f a) = if known to (head_of f) then Ap (move to name f) (move to name a) else Var (name (Ap f a))

abbrev pub move_form : Numbers → (Term → ℕ) → Form → Form
move_form to name Top = Top
move_form to name One = One
move_form to name (Atom a) = Atom (move to name a)
move_form to name (With f g) = With (move_form to name f) (move_form to name g)
move_form to name (Tensor f g) = Tensor (move_form to name f) (move_form to name g)
move_form to name (Plus f g) = Plus (move_form to name f) (move_form to name g)
move_form to name (Bang f) = Bang (move_form to name f)
move_form to name (Lolli f g) = Lolli (move_form to name f) (move_form to name g)
move_form to name (Imp f g) = Imp (move_form to name f) (move_form to name g)
move_form to name (Forall f) = Forall (move_form to name f)
move_form to name (Exists f) = Exists (move_form to name f)
move_form to name (Use m ts f) = Use m (map (move to name) ts) (move_form to name f)
move_form to name (Num r t u) = Num r (move to name t) (move to name u)

-- ---- without numbers

hide_con : (name : Term → ℕ) (h : Head) → move no_numbers name (Con h) ≡ hide name (Con h)
hide_con name (Name n) = refl
hide_con name (Eigen c) = refl
hide_con name (Bound k) = refl

pub move-hides : (name : Term → ℕ) (t : Term) → move no_numbers name t ≡ hide name t
move-hides name (Var x) = refl
move-hides name (Int z) = refl
move-hides name (Con h) = hide_con name h
move-hides name (Ap f a) = step (head_of f) (move-hides name f) (move-hides name a)
  where
    step : (o : Option Head) → move no_numbers name f ≡ hide name f → move no_numbers name a ≡ hide name a
        → (if known no_numbers o then Ap (move no_numbers name f) (move no_numbers name a) else Var (name (Ap f a)))
        ≡ (if is_eigen_head o then Var (name (Ap f a)) else Ap (hide name f) (hide name a))
    step None p q = cc
    step (Some (Name n)) p q = cc
    step (Some (Eigen c)) p q = refl
    step (Some (Bound k)) p q = cc

-- ---- tame terms: a part whose head has no number is closed, and what stands in front of arguments is a head that may have them

abbrev pub Tame : Numbers → Scope → Term → Type 0
Tame to scope (Con (Bound k)) = nat_lt k (length scope) ≡ true
Tame to scope (Ap f a) = IsHead scope f × (known to (head_of f) || is_closed (Ap f a) ≡ true) × Tame to scope f × Tame to scope a
Tame to scope _ = Unit {0}

abbrev pub AllTame : Numbers → Scope → List Term → Type 0
AllTame to scope [] = Unit {0}
AllTame to scope (t ∷ ts) = Tame to scope t × AllTame to scope ts

abbrev pub TameForm : List ModuleTree → Numbers → Side → Scope → Form → Type 0
TameForm ms to side scope Top = Unit {0}
TameForm ms to side scope One = Unit {0}
TameForm ms to side scope (Atom a) = Tame to scope a
TameForm ms to side scope (With f g) = TameForm ms to side scope f × TameForm ms to side scope g
TameForm ms to side scope (Tensor f g) = TameForm ms to side scope f × TameForm ms to side scope g
TameForm ms to side scope (Plus f g) = TameForm ms to side scope f × TameForm ms to side scope g
TameForm ms to side scope (Bang f) = TameForm ms to side scope f
TameForm ms to side scope (Lolli f g) = TameForm ms to (other side) scope f × TameForm ms to side scope g
TameForm ms to side scope (Imp f g) = TameForm ms to (other side) scope f × TameForm ms to side scope g
TameForm ms to side scope (Forall f) = TameForm ms to side (opens_on true side ∷ scope) f
TameForm ms to side scope (Exists f) = TameForm ms to side (false ∷ scope) f
TameForm ms to side scope (Use m ts f) = (fits_module (slice_get ms m) ts ≡ true) × AllTame to scope ts × TameForm ms to side scope f
TameForm ms to side scope (Num r t u) = Tame to scope t × Tame to scope u

-- a closed term is tame in every scope
pub closed-tame : (to : Numbers) (scope : Scope) (t : Term) → is_closed t ≡ true → Tame to scope t
closed-tame to scope (Var x) c = tt
closed-tame to scope (Int z) c = tt
closed-tame to scope (Con (Name n)) c = tt
closed-tame to scope (Con (Eigen k)) c = tt
closed-tame to scope (Con (Bound k)) c = cc
closed-tame to scope (Ap f a) c =
    let i = and_left (is_spine f && is_closed f) (is_closed a) c in
    let g = and_right (is_spine f) (is_closed f) i in (
      (and_left (is_spine f) (is_closed f) i, head_of_closed scope f g),
      ap (λ b. known to (head_of f) || b) c ∙ or-true (known to (head_of f)),
      closed-tame to scope f g,
      closed-tame to scope a (and_right (is_spine f && is_closed f) (is_closed a) c),
    )

-- a tame term without quantifiers round it is closed
pub tame-closed : (to : Numbers) (t : Term) → Tame to [] t → is_closed t ≡ true
tame-closed to (Var x) h = refl
tame-closed to (Int z) h = refl
tame-closed to (Con (Name n)) h = refl
tame-closed to (Con (Eigen k)) h = refl
tame-closed to (Con (Bound k)) h = none_below k h
tame-closed to (Ap f a) h = and_intro _ _ (and_intro _ _ (h.0).0 (tame-closed to f h.2)) (tame-closed to a h.3)

-- ---- more eigenvariables that have a number

abbrev pub More : Numbers → Numbers → Type 0
More to more = (c : ℕ) → is_some (to c) ≡ true → is_some (more c) ≡ true

known-more : (to more : Numbers) (o : Option Head) → More to more → known to o ≡ true → known more o ≡ true
known-more to more None m h = refl
known-more to more (Some (Name n)) m h = refl
known-more to more (Some (Bound n)) m h = refl
known-more to more (Some (Eigen c)) m h = m c h

or_more : (a b c : Bool) → (a ≡ true → b ≡ true) → a || c ≡ true → b || c ≡ true
or_more true b c f h = ap (λ z. z || c) (f refl)
or_more false true c f h = refl
or_more false false c f h = h

pub tame-more : (to more : Numbers) (scope : Scope) (t : Term) → More to more → Tame to scope t → Tame more scope t
tame-more to more scope (Var x) m h = tt
tame-more to more scope (Int z) m h = tt
tame-more to more scope (Con (Name n)) m h = tt
tame-more to more scope (Con (Eigen k)) m h = tt
tame-more to more scope (Con (Bound k)) m h = h
tame-more to more scope (Ap f a) m h = (
  h.0,
  or_more (known to (head_of f)) (known more (head_of f)) (is_closed (Ap f a)) (known-more to more (head_of f) m) h.1,
  tame-more to more scope f m h.2,
  tame-more to more scope a m h.3,
)

all_tame-more : (to more : Numbers) (scope : Scope) (ts : List Term) → More to more → AllTame to scope ts → AllTame more scope ts
all_tame-more to more scope [] m h = tt
all_tame-more to more scope (t ∷ ts) m h = (tame-more to more scope t m h.0, all_tame-more to more scope ts m h.1)

pub form-more : (ms : List ModuleTree) (to more : Numbers) (side : Side) (scope : Scope) (f : Form) → More to more → TameForm ms to side scope f
    → TameForm ms more side scope f
form-more ms to more side scope Top m h = tt
form-more ms to more side scope One m h = tt
form-more ms to more side scope (Atom a) m h = tame-more to more scope a m h
form-more ms to more side scope (With f g) m h = (form-more ms to more side scope f m h.0, form-more ms to more side scope g m h.1)
form-more ms to more side scope (Tensor f g) m h = (form-more ms to more side scope f m h.0, form-more ms to more side scope g m h.1)
form-more ms to more side scope (Plus f g) m h = (form-more ms to more side scope f m h.0, form-more ms to more side scope g m h.1)
form-more ms to more side scope (Bang f) m h = form-more ms to more side scope f m h
form-more ms to more side scope (Lolli f g) m h = (form-more ms to more (other side) scope f m h.0, form-more ms to more side scope g m h.1)
form-more ms to more side scope (Imp f g) m h = (form-more ms to more (other side) scope f m h.0, form-more ms to more side scope g m h.1)
form-more ms to more side scope (Forall f) m h = form-more ms to more side (opens_on true side ∷ scope) f m h
form-more ms to more side scope (Exists f) m h = form-more ms to more side (false ∷ scope) f m h
form-more ms to more side scope (Use n ts f) m h = (h.0, all_tame-more to more scope ts m h.1, form-more ms to more side scope f m h.2)
form-more ms to more side scope (Num r t u) m h = (tame-more to more scope t m h.0, tame-more to more scope u m h.1)

-- ---- closing

-- the environment takes terms of the inner scope to the outer one: places that stay are places there too, and the others go
-- to closed terms, with a head that has a number where arguments may stand
abbrev pub Fills : Numbers → Env → Scope → Scope → Type 0
Fills to [] inner outer = Widens inner outer
Fills to (None ∷ e) (b ∷ inner) (c ∷ outer) = (b ≡ true → c ≡ true) × Fills to e inner outer
Fills to (Some t ∷ e) (b ∷ inner) outer = (is_closed t ≡ true) × (b ≡ true → (is_spine t ≡ true) × (known to (head_of t) ≡ true)) × Fills to e inner outer
Fills to _ _ _ = ⊥

place-tame : (to : Numbers) (e : Env) (inner outer full : Scope) (k n : ℕ) → Fills to e inner outer → n + length outer ≤ length full
    → nat_lt k (length inner) ≡ true → Tame to full (place e k n)
place-tame to [] inner outer full k n c le h =
    let l = ltb-true k (length inner) h in let w = widens-length inner outer c in lt-ltb (n + k) (length full) (omega arith)
place-tame to (None ∷ e) [] outer full k n c le h = absurd c
place-tame to (None ∷ e) (b ∷ inner) [] full k n c le h = absurd c
place-tame to (None ∷ e) (b ∷ inner) (d ∷ outer) full zero n c le h = lt-ltb n (length full) (omega arith)
place-tame to (None ∷ e) (b ∷ inner) (d ∷ outer) full (suc k) n c le h =
    let l = ltb-true (suc k) (suc (length inner)) h in place-tame to e inner outer full k (suc n) c.1 (omega arith) (lt-ltb k (length inner) (omega arith))
place-tame to (Some t ∷ e) [] outer full k n c le h = absurd c
place-tame to (Some t ∷ e) (b ∷ inner) outer full zero n c le h = closed-tame to full t c.0
place-tame to (Some t ∷ e) (b ∷ inner) outer full (suc k) n c le h =
    let l = ltb-true (suc k) (suc (length inner)) h in place-tame to e inner outer full k n c.2 le (lt-ltb k (length inner) (omega arith))

-- the head of a term that may be one, and it has a number
abbrev KnownHead : Numbers → Scope → Term → Type 0
KnownHead to scope t = IsHead scope t × (known to (head_of t) ≡ true)

place-head : (to : Numbers) (e : Env) (inner outer full : Scope) (k n : ℕ) → Fills to e inner outer → Deep n outer full → slice_index_or inner k false ≡ true
    → KnownHead to full (place e k n)
place-head to [] inner outer full k n c d h = ((refl, d k (widens-may inner outer k c h)), refl)
place-head to (None ∷ e) [] outer full k n c d h = absurd c
place-head to (None ∷ e) (b ∷ inner) [] full k n c d h = absurd c
place-head to (None ∷ e) (b ∷ inner) (o ∷ outer) full zero n c d h =
    ((refl, subst (λ j. slice_index_or full j false ≡ true) (let q : n + 0 ≡ n = omega arith in q) (d 0 (c.0 h))), refl)
place-head to (None ∷ e) (b ∷ inner) (o ∷ outer) full (suc k) n c d h =
    place-head to e inner outer full k (suc n) c.1 (λ j p. subst (λ i. slice_index_or full i false ≡ true) (let q : n + suc j ≡ suc n + j = omega arith in
    q) (d (suc j) p)) h
place-head to (Some t ∷ e) [] outer full k n c d h = absurd c
place-head to (Some t ∷ e) (b ∷ inner) outer full zero n c d h = (((c.1 h).0, head_of_closed full t c.0), (c.1 h).1)
place-head to (Some t ∷ e) (b ∷ inner) outer full (suc k) n c d h = place-head to e inner outer full k n c.2 d h

known-close : (to : Numbers) (e : Env) (inner outer : Scope) (t : Term) → Fills to e inner outer → IsHead inner t → known to (head_of t) ≡ true
    → KnownHead to outer (close e t)
known-close to e inner outer (Var x) c h k = absurd (cc (h.0))
known-close to e inner outer (Int z) c h k = absurd (cc (h.0))
known-close to e inner outer (Con (Name n)) c h k = ((refl, refl), refl)
known-close to e inner outer (Con (Eigen j)) c h k = ((refl, refl), k)
known-close to e inner outer (Con (Bound j)) c h k = place-head to e inner outer outer j 0 c (deep-none outer) h.1
known-close to e inner outer (Ap f a) c h k = known-close to e inner outer f c h k

pub tame-close : (to : Numbers) (e : Env) (inner outer : Scope) (t : Term) → Fills to e inner outer → Tame to inner t → Tame to outer (close e t)
tame-close to e inner outer (Var x) c h = tt
tame-close to e inner outer (Int z) c h = tt
tame-close to e inner outer (Con (Name n)) c h = tt
tame-close to e inner outer (Con (Eigen k)) c h = tt
tame-close to e inner outer (Con (Bound k)) c h = place-tame to e inner outer outer k 0 c (omega arith) h
tame-close to e inner outer (Ap f a) c h = step (known to (head_of f)) refl h.1 (tame-close to e inner outer f c h.2) (tame-close to e inner outer a c h.3)
  where
    step : (b : Bool) → known to (head_of f) ≡ b → b || is_closed (Ap f a) ≡ true → Tame to outer (close e f) → Tame to outer (close e a)
        → Tame to outer (Ap (close e f) (close e a))
    step true q k i j = let w = known-close to e inner outer f c h.0 q in (w.0, ap (λ b. b || is_closed (Ap (close e f) (close e a))) (w.1), i, j)
    step false q k i j = subst (Tame to outer) (sym (close_closed e (Ap f a) k)) (closed-tame to outer (Ap f a) k)

all_tame-close : (to : Numbers) (e : Env) (inner outer : Scope) (ts : List Term) → Fills to e inner outer → AllTame to inner ts
    → AllTame to outer (map (close e) ts)
all_tame-close to e inner outer [] c h = tt
all_tame-close to e inner outer (t ∷ ts) c h = (tame-close to e inner outer t c h.0, all_tame-close to e inner outer ts c h.1)

pub form-close : (ms : List ModuleTree) (to : Numbers) (e : Env) (side : Side) (inner outer : Scope) (f : Form) → Fills to e inner outer
    → TameForm ms to side inner f → TameForm ms to side outer (close_form e f)
form-close ms to e side inner outer Top c h = tt
form-close ms to e side inner outer One c h = tt
form-close ms to e side inner outer (Atom a) c h = tame-close to e inner outer a c h
form-close ms to e side inner outer (With p q) c h = (form-close ms to e side inner outer p c h.0, form-close ms to e side inner outer q c h.1)
form-close ms to e side inner outer (Tensor p q) c h = (form-close ms to e side inner outer p c h.0, form-close ms to e side inner outer q c h.1)
form-close ms to e side inner outer (Plus p q) c h = (form-close ms to e side inner outer p c h.0, form-close ms to e side inner outer q c h.1)
form-close ms to e side inner outer (Bang p) c h = form-close ms to e side inner outer p c h
form-close ms to e side inner outer (Lolli p q) c h = (form-close ms to e (other side) inner outer p c h.0, form-close ms to e side inner outer q c h.1)
form-close ms to e side inner outer (Imp p q) c h = (form-close ms to e (other side) inner outer p c h.0, form-close ms to e side inner outer q c h.1)
form-close ms to e side inner outer (Forall p) c h = form-close ms to (None ∷ e) side (opens_on true side ∷ inner) (opens_on true side ∷ outer) p (λ i. i, c) h
form-close ms to e side inner outer (Exists p) c h = form-close ms to (None ∷ e) side (false ∷ inner) (false ∷ outer) p (λ i. i, c) h
form-close ms to e side inner outer (Use m ts p) c h = (
  fits_module-length (slice_get ms m) ts (map (close e) ts) (length-map ts (close e)) h.0,
  all_tame-close to e inner outer ts c h.1,
  form-close ms to e side inner outer p c h.2,
)
form-close ms to e side inner outer (Num r t u) c h = (tame-close to e inner outer t c h.0, tame-close to e inner outer u c h.1)

-- ---- moving goes along with closing

abbrev pub move_env : Numbers → (Term → ℕ) → Env → Env
move_env to name e = map (option_map (move to name)) e

module _ (to : Numbers) (name : Term → ℕ) where
  move_place : (e : Env) (k n : ℕ) → move to name (place e k n) ≡ place (move_env to name e) k n
  move_place [] k n = refl
  move_place (None ∷ e) zero n = refl
  move_place (None ∷ e) (suc k) n = move_place e k (suc n)
  move_place (Some t ∷ e) zero n = refl
  move_place (Some t ∷ e) (suc k) n = move_place e k n

  close_numbered : (e : Env) (o : Option ℕ) (x : ℕ) → numbered o x ≡ close e (numbered o x)
  close_numbered e None x = refl
  close_numbered e (Some j) x = refl

  pub move_close : (e : Env) (inner outer : Scope) (t : Term) → Fills to e inner outer → Tame to inner t
      → move to name (close e t) ≡ close (move_env to name e) (move to name t)
  move_close e inner outer (Var x) c h = refl
  move_close e inner outer (Int z) c h = refl
  move_close e inner outer (Con (Name n)) c h = refl
  move_close e inner outer (Con (Eigen k)) c h = close_numbered (move_env to name e) (to k) (name (Con (Eigen k)))
  move_close e inner outer (Con (Bound k)) c h = move_place e k 0
  move_close e inner outer (Ap f a) c h = step (known to (head_of f)) refl h.1 (move_close e inner outer f c h.2) (move_close e inner outer a c h.3)
    where
      step : (b : Bool) → known to (head_of f) ≡ b → b || is_closed (Ap f a) ≡ true → move to name (close e f) ≡ close (move_env to name e) (move to name f)
          → move to name (close e a) ≡ close (move_env to name e) (move to name a)
          → move to name (close e (Ap f a)) ≡ close (move_env to name e) (if b then Ap (move to name f) (move to name a) else Var (name (Ap f a)))
      step true q k i j =
          let w = known-close to e inner outer f c h.0 q in
          ap (λ b. if b then Ap (move to name (close e f)) (move to name (close e a)) else Var (name (Ap (close e f) (close e a)))) (w.1) ∙ cc
      step false q k i j = ap (move to name) (close_closed e (Ap f a) k) ∙ ap (λ b. if b then Ap (move to name f) (move to name a) else Var (name (Ap f a))) q

  all_move_close : (e : Env) (inner outer : Scope) (ts : List Term) → Fills to e inner outer → AllTame to inner ts
      → map (move to name) (map (close e) ts) ≡ map (close (move_env to name e)) (map (move to name) ts)
  all_move_close e inner outer [] c h = refl
  all_move_close e inner outer (t ∷ ts) c h = let a = move_close e inner outer t c h.0 in let b = all_move_close e inner outer ts c h.1 in cc

  pub move_close_form : (ms : List ModuleTree) (e : Env) (side : Side) (inner outer : Scope) (f : Form) → Fills to e inner outer → TameForm ms to side inner f
      → move_form to name (close_form e f) ≡ close_form (move_env to name e) (move_form to name f)
  move_close_form ms e side inner outer Top c h = refl
  move_close_form ms e side inner outer One c h = refl
  move_close_form ms e side inner outer (Atom a) c h = ap Atom (move_close e inner outer a c h)
  move_close_form ms e side inner outer (With p q) c h = let a = move_close_form ms e side inner outer p c h.0 in
      let b = move_close_form ms e side inner outer q c h.1 in cc
  move_close_form ms e side inner outer (Tensor p q) c h = let a = move_close_form ms e side inner outer p c h.0 in
      let b = move_close_form ms e side inner outer q c h.1 in cc
  move_close_form ms e side inner outer (Plus p q) c h = let a = move_close_form ms e side inner outer p c h.0 in
      let b = move_close_form ms e side inner outer q c h.1 in cc
  move_close_form ms e side inner outer (Bang p) c h = ap Bang (move_close_form ms e side inner outer p c h)
  move_close_form ms e side inner outer (Lolli p q) c h = let a = move_close_form ms e (other side) inner outer p c h.0 in
      let b = move_close_form ms e side inner outer q c h.1 in cc
  move_close_form ms e side inner outer (Imp p q) c h = let a = move_close_form ms e (other side) inner outer p c h.0 in
      let b = move_close_form ms e side inner outer q c h.1 in cc
  move_close_form ms e side inner outer (Forall p) c h = ap Forall
      (move_close_form ms (None ∷ e) side (opens_on true side ∷ inner) (opens_on true side ∷ outer) p (λ i. i, c) h)
  move_close_form ms e side inner outer (Exists p) c h = ap Exists (move_close_form ms (None ∷ e) side (false ∷ inner) (false ∷ outer) p (λ i. i, c) h)
  move_close_form ms e side inner outer (Use m ts p) c h = let a = all_move_close e inner outer ts c h.1 in
      let b = move_close_form ms e side inner outer p c h.2 in cc
  move_close_form ms e side inner outer (Num r t u) c h = let a = move_close e inner outer t c h.0 in let b = move_close e inner outer u c h.1 in cc

  -- ---- leaves

  abbrev pub move_premise : Premise → Premise
  move_premise (Needs g) = Needs (move_form to name g)
  move_premise (NeedsFree g) = NeedsFree (move_form to name g)

  abbrev pub move_leaf : Leaf → Leaf
  move_leaf l = record { premises = map move_premise l.premises; head = move to name l.head }

  pub ways_move : (r : Form) → ways (move_form to name r) ≡ ways r
  ways_move (Atom a) = refl
  ways_move (With q r) = let e1 = ways_move q in let e2 = ways_move r in cc
  ways_move (Lolli q r) = ways_move r
  ways_move (Imp q r) = ways_move r
  ways_move (Forall r) = ap (map (λ n. suc n)) (ways_move r)
  ways_move Top = refl
  ways_move One = refl
  ways_move (Tensor q r) = refl
  ways_move (Plus q r) = refl
  ways_move (Bang r) = refl
  ways_move (Exists r) = refl
  ways_move (Use m ts r) = refl
  ways_move (Num r t u) = refl

  add_move : (p : Premise) (o : Option Leaf) → option_map (add_premise (move_premise p)) (option_map move_leaf o)
      ≡ option_map move_leaf (option_map (add_premise p) o)
  add_move p None = refl
  add_move p (Some l) =
      let f : List Premise → Option Leaf = λ ps. Some (record { premises = ps; head = move to name l.head }) in
      ap f (sym (map-append move_premise l.premises (p ∷ [])))

  either : (b : Bool) (x y u v : Option Leaf) → u ≡ option_map move_leaf x → v ≡ option_map move_leaf y
      → (if b then u else v) ≡ option_map move_leaf (if b then x else y)
  either true x y u v e f = e
  either false x y u v e f = f

  leaf_from_move : (ms : List ModuleTree) (e : Env) (inner : Scope) (r : Form) (k : ℕ) (ts : List Term) → Fills to e inner []
      → TameForm ms to ClauseSide inner r → AreClosed ts
      → leaf_from (move_env to name e) (move_form to name r) k (map (move to name) ts) ≡ option_map move_leaf (leaf_from e r k ts)
  leaf_from_move ms e inner (Atom a) zero [] c h t = let f : Term → Option Leaf = λ h. Some (record { premises = []; head = h }) in
      ap f (sym (move_close e inner [] a c h))
  leaf_from_move ms e inner (Atom a) zero (u ∷ ts) c h t = refl
  leaf_from_move ms e inner (Atom a) (suc k) [] c h t = refl
  leaf_from_move ms e inner (Atom a) (suc k) (u ∷ ts) c h t = refl
  leaf_from_move ms e inner (With q r) k ts c h t =
      rw (ways_move q) (either (nat_lt k (length (ways q))) (leaf_from e q k ts) (leaf_from e r (k - length (ways q)) ts) _ _
      (leaf_from_move ms e inner q k ts c h.0 t) (leaf_from_move ms e inner r (k - length (ways q)) ts c h.1 t))
  leaf_from_move ms e inner (Lolli g r) k ts c h t =
      let i = leaf_from_move ms e inner r k ts c h.1 t in let j = move_close_form ms e GoalSide inner [] g c h.0 in
      rw (i, ← j) (add_move (Needs (close_form e g)) (leaf_from e r k ts))
  leaf_from_move ms e inner (Imp g r) k ts c h t =
      let i = leaf_from_move ms e inner r k ts c h.1 t in let j = move_close_form ms e GoalSide inner [] g c h.0 in
      rw (i, ← j) (add_move (NeedsFree (close_form e g)) (leaf_from e r k ts))
  leaf_from_move ms e inner (Forall r) k [] c h t = refl
  leaf_from_move ms e inner (Forall r) k (u ∷ ts) c h t = leaf_from_move ms (Some u ∷ e) (false ∷ inner) r k ts (t.0, λ i. absurd (cc (i)), c) h t.1
  leaf_from_move ms e inner _ k ts c h t = refl

  -- the leaf of a clause that was moved is the clause's leaf, moved
  pub leaf_move : (ms : List ModuleTree) (r : Form) (k : ℕ) (ts : List Term) → TameForm ms to ClauseSide [] r → AreClosed ts
      → leaf (move_form to name r) k (map (move to name) ts) ≡ option_map move_leaf (leaf r k ts)
  leaf_move ms r k ts h t = leaf_from_move ms [] [] r k ts tt h t

-- ---- leaves of tame clauses

abbrev pub TamePremises : List ModuleTree → Numbers → List Premise → Type 0
TamePremises ms to [] = Unit {0}
TamePremises ms to (p ∷ ps) = TameForm ms to GoalSide [] (premise_goal p) × TamePremises ms to ps

premises-append : (ms : List ModuleTree) (to : Numbers) (ps : List Premise) (p : Premise) → TamePremises ms to ps → TameForm ms to GoalSide [] (premise_goal p)
    → TamePremises ms to (ps ++ p ∷ [])
premises-append ms to [] p h f = (f, tt)
premises-append ms to (q ∷ ps) p h f = (h.0, premises-append ms to ps p h.1 f)

under_tame : (ms : List ModuleTree) (to : Numbers) (p : Premise) (o : Option Leaf) (l : Leaf) → option_map (add_premise p) o ≡ Some l
    → TameForm ms to GoalSide [] (premise_goal p)
    → ((i : Leaf) → o ≡ Some i → TamePremises ms to i.premises) → TamePremises ms to l.premises
under_tame ms to p None l h f g = cc
under_tame ms to p (Some i) l h f g = let e : add_premise p i ≡ l = cc in
    subst (λ z. TamePremises ms to z.premises) e (premises-append ms to i.premises p (g i refl) f)

leaf_from_tame : (ms : List ModuleTree) (to : Numbers) (e : Env) (inner : Scope) (r : Form) (k : ℕ) (ts : List Term) (l : Leaf) → Fills to e inner []
    → TameForm ms to ClauseSide inner r → AreClosed ts
    → leaf_from e r k ts ≡ Some l → TamePremises ms to l.premises
leaf_from_tame ms to e inner (Atom a) zero [] l c h t q =
    let x : Leaf = record { premises = []; head = close e a } in
    let w : x ≡ l = cc in subst (λ z. TamePremises ms to z.premises) w tt
leaf_from_tame ms to e inner (Atom a) zero (u ∷ ts) l c h t q = cc
leaf_from_tame ms to e inner (Atom a) (suc k) [] l c h t q = cc
leaf_from_tame ms to e inner (Atom a) (suc k) (u ∷ ts) l c h t q = cc
leaf_from_tame ms to e inner (With p r) k ts l c h t q =
    step (nat_lt k (length (ways p))) (leaf_from_tame ms to e inner p k ts l c h.0 t) (leaf_from_tame ms to e inner r (k - length (ways p)) ts l c h.1 t) q
  where
    step : (b : Bool) → (leaf_from e p k ts ≡ Some l → TamePremises ms to l.premises)
        → (leaf_from e r (k - length (ways p)) ts ≡ Some l → TamePremises ms to l.premises)
        → (if b then leaf_from e p k ts else leaf_from e r (k - length (ways p)) ts) ≡ Some l → TamePremises ms to l.premises
    step true i j h = i h
    step false i j h = j h
leaf_from_tame ms to e inner (Lolli g r) k ts l c h t q =
    under_tame ms to (Needs (close_form e g)) (leaf_from e r k ts) l q (form-close ms to e GoalSide inner [] g c h.0)
    (λ i w. leaf_from_tame ms to e inner r k ts i c h.1 t w)
leaf_from_tame ms to e inner (Imp g r) k ts l c h t q =
    under_tame ms to (NeedsFree (close_form e g)) (leaf_from e r k ts) l q (form-close ms to e GoalSide inner [] g c h.0)
    (λ i w. leaf_from_tame ms to e inner r k ts i c h.1 t w)
leaf_from_tame ms to e inner (Forall r) k [] l c h t q = cc
leaf_from_tame ms to e inner (Forall r) k (u ∷ ts) l c h t q = leaf_from_tame ms to (Some u ∷ e) (false ∷ inner) r k ts l (t.0, λ i. absurd (cc (i)), c) h t.1 q
leaf_from_tame ms to e inner _ k ts l c h t q = cc

pub leaf_tame : (ms : List ModuleTree) (to : Numbers) (r : Form) (k : ℕ) (ts : List Term) (l : Leaf) → TameForm ms to ClauseSide [] r → AreClosed ts
    → leaf r k ts ≡ Some l → TamePremises ms to l.premises
leaf_tame ms to r k ts l h t q = leaf_from_tame ms to [] [] r k ts l tt h t q

-- ---- formulas without eigenvariables

-- what formulas without eigenvariables may mention
abbrev pub clear : List ModuleTree → ℕ → Allowed
clear ms n = record { modules = ms; variables = n; eigens = 0; opens = true }

known-free : (ms : List ModuleTree) (n : ℕ) (to : Numbers) (scope : Scope) (t : Term) → Fit (clear ms n) scope t → known to (head_of t) ≡ true
known-free ms n to scope (Var x) h = refl
known-free ms n to scope (Int z) h = refl
known-free ms n to scope (Con (Name k)) h = refl
known-free ms n to scope (Con (Bound k)) h = refl
known-free ms n to scope (Con (Eigen k)) h = none_below k h
known-free ms n to scope (Ap f a) h = known-free ms n to scope f h.1

module _ (ms : List ModuleTree) (n : ℕ) (to : Numbers) where
  fit-tame : (scope : Scope) (t : Term) → Fit (clear ms n) scope t → Tame to scope t
  fit-tame scope (Var x) h = tt
  fit-tame scope (Int z) h = tt
  fit-tame scope (Con (Name k)) h = tt
  fit-tame scope (Con (Bound k)) h = h
  fit-tame scope (Con (Eigen k)) h = none_below k h
  fit-tame scope (Ap f a) h = (h.0, ap (λ b. b || is_closed (Ap f a)) (known-free ms n to scope f h.1), fit-tame scope f h.1, fit-tame scope a h.2)

  all_fit-tame : (scope : Scope) (ts : List Term) → AllFit (clear ms n) scope ts → AllTame to scope ts
  all_fit-tame scope [] h = tt
  all_fit-tame scope (t ∷ ts) h = (fit-tame scope t h.0, all_fit-tame scope ts h.1)

  pub fits-tame : (side : Side) (scope : Scope) (f : Form) → FormFits (clear ms n) side scope f → TameForm ms to side scope f
  fits-tame side scope Top h = tt
  fits-tame side scope One h = tt
  fits-tame side scope (Atom a) h = fit-tame scope a h.1
  fits-tame side scope (With f g) h = (fits-tame side scope f h.0, fits-tame side scope g h.1)
  fits-tame side scope (Tensor f g) h = (fits-tame side scope f h.1, fits-tame side scope g h.2)
  fits-tame side scope (Plus f g) h = (fits-tame side scope f h.1, fits-tame side scope g h.2)
  fits-tame side scope (Bang f) h = fits-tame side scope f h.1
  fits-tame side scope (Lolli f g) h = (fits-tame (other side) scope f h.0, fits-tame side scope g h.1)
  fits-tame side scope (Imp f g) h = (fits-tame (other side) scope f h.0, fits-tame side scope g h.1)
  fits-tame side scope (Forall f) h = fits-tame side (opens_on true side ∷ scope) f h
  fits-tame side scope (Exists f) h = fits-tame side (false ∷ scope) f h.1
  fits-tame side scope (Use k ts f) h = (h.1, all_fit-tame scope ts h.2, fits-tame side scope f h.3)
  fits-tame side scope (Num r t u) h = (fit-tame scope t h.1, fit-tame scope u h.2)

  module _ (name : Term → ℕ) where
    stays : (scope : Scope) (t : Term) → Fit (clear ms n) scope t → move to name t ≡ t
    stays scope (Var x) h = refl
    stays scope (Int z) h = refl
    stays scope (Con (Name k)) h = refl
    stays scope (Con (Bound k)) h = refl
    stays scope (Con (Eigen k)) h = none_below k h
    stays scope (Ap f a) h =
        let p = stays scope f h.1 in let q = stays scope a h.2 in
        ap (λ b. if b then Ap (move to name f) (move to name a) else Var (name (Ap f a))) (known-free ms n to scope f h.1) ∙ cc

    all_stay : (scope : Scope) (ts : List Term) → AllFit (clear ms n) scope ts → map (move to name) ts ≡ ts
    all_stay scope [] h = refl
    all_stay scope (t ∷ ts) h = let p = stays scope t h.0 in let q = all_stay scope ts h.1 in cc

    pub form-stays : (side : Side) (scope : Scope) (f : Form) → FormFits (clear ms n) side scope f → move_form to name f ≡ f
    form-stays side scope Top h = refl
    form-stays side scope One h = refl
    form-stays side scope (Atom a) h = ap Atom (stays scope a h.1)
    form-stays side scope (With f g) h = let p = form-stays side scope f h.0 in let q = form-stays side scope g h.1 in cc
    form-stays side scope (Tensor f g) h = let p = form-stays side scope f h.1 in let q = form-stays side scope g h.2 in cc
    form-stays side scope (Plus f g) h = let p = form-stays side scope f h.1 in let q = form-stays side scope g h.2 in cc
    form-stays side scope (Bang f) h = ap Bang (form-stays side scope f h.1)
    form-stays side scope (Lolli f g) h = let p = form-stays (other side) scope f h.0 in let q = form-stays side scope g h.1 in cc
    form-stays side scope (Imp f g) h = let p = form-stays (other side) scope f h.0 in let q = form-stays side scope g h.1 in cc
    form-stays side scope (Forall f) h = ap Forall (form-stays side (opens_on true side ∷ scope) f h)
    form-stays side scope (Exists f) h = ap Exists (form-stays side (false ∷ scope) f h.1)
    form-stays side scope (Use k ts f) h = let p = all_stay scope ts h.2 in let q = form-stays side scope f h.3 in cc
    form-stays side scope (Num r t u) h = let p = stays scope t h.1 in let q = stays scope u h.2 in cc

    -- terms put for the variables of a formula without eigenvariables
    module _ (f : ℕ → Term) where
      move_sub : (scope : Scope) (t : Term) → Fit (clear ms n) scope t → move to name (sub f t) ≡ sub (λ x. move to name (f x)) t
      move_sub scope (Var x) h = refl
      move_sub scope (Int z) h = refl
      move_sub scope (Con (Name k)) h = refl
      move_sub scope (Con (Bound k)) h = refl
      move_sub scope (Con (Eigen k)) h = none_below k h
      move_sub scope (Ap t u) h =
          let p = move_sub scope t h.1 in let q = move_sub scope u h.2 in
          ap (λ o. if known to o then Ap (move to name (sub f t)) (move to name (sub f u)) else Var (name (Ap (sub f t) (sub f u)))) (sub-head f t (h.0).0)
          ∙ (ap (λ b. if b then Ap (move to name (sub f t)) (move to name (sub f u)) else Var (name (Ap (sub f t) (sub f u)))) (known-free ms n to scope t h.1)
          ∙ cc)

      all_move_sub : (scope : Scope) (ts : List Term) → AllFit (clear ms n) scope ts
          → map (move to name) (map (sub f) ts) ≡ map (sub (λ x. move to name (f x))) ts
      all_move_sub scope [] h = refl
      all_move_sub scope (t ∷ ts) h = let p = move_sub scope t h.0 in let q = all_move_sub scope ts h.1 in cc

      pub move_sub_form : (side : Side) (scope : Scope) (g : Form) → FormFits (clear ms n) side scope g
          → move_form to name (sub_form f g) ≡ sub_form (λ x. move to name (f x)) g
      move_sub_form side scope Top h = refl
      move_sub_form side scope One h = refl
      move_sub_form side scope (Atom a) h = ap Atom (move_sub scope a h.1)
      move_sub_form side scope (With g k) h = let p = move_sub_form side scope g h.0 in let q = move_sub_form side scope k h.1 in cc
      move_sub_form side scope (Tensor g k) h = let p = move_sub_form side scope g h.1 in let q = move_sub_form side scope k h.2 in cc
      move_sub_form side scope (Plus g k) h = let p = move_sub_form side scope g h.1 in let q = move_sub_form side scope k h.2 in cc
      move_sub_form side scope (Bang g) h = ap Bang (move_sub_form side scope g h.1)
      move_sub_form side scope (Lolli g k) h = let p = move_sub_form (other side) scope g h.0 in let q = move_sub_form side scope k h.1 in cc
      move_sub_form side scope (Imp g k) h = let p = move_sub_form (other side) scope g h.0 in let q = move_sub_form side scope k h.1 in cc
      move_sub_form side scope (Forall g) h = ap Forall (move_sub_form side (opens_on true side ∷ scope) g h)
      move_sub_form side scope (Exists g) h = ap Exists (move_sub_form side (false ∷ scope) g h.1)
      move_sub_form side scope (Use k ts g) h = let p = all_move_sub scope ts h.2 in let q = move_sub_form side scope g h.3 in cc
      move_sub_form side scope (Num r t u) h = let p = move_sub scope t h.1 in let q = move_sub scope u h.2 in cc

  module _ (f : ℕ → Term) (cl : IsClosing f) where
    sub-tame : (scope : Scope) (t : Term) → Fit (clear ms n) scope t → Tame to scope (sub f t)
    sub-tame scope (Var x) h = closed-tame to scope (f x) (cl x)
    sub-tame scope (Int z) h = tt
    sub-tame scope (Con (Name k)) h = tt
    sub-tame scope (Con (Bound k)) h = h
    sub-tame scope (Con (Eigen k)) h = none_below k h
    sub-tame scope (Ap t u) h = (
      is_head-sub f scope t h.0,
      ap (λ o. known to o || is_closed (Ap (sub f t) (sub f u))) (sub-head f t (h.0).0)
          ∙ ap (λ b. b || is_closed (Ap (sub f t) (sub f u))) (known-free ms n to scope t h.1),
      sub-tame scope t h.1,
      sub-tame scope u h.2,
    )

    all_sub-tame : (scope : Scope) (ts : List Term) → AllFit (clear ms n) scope ts → AllTame to scope (map (sub f) ts)
    all_sub-tame scope [] h = tt
    all_sub-tame scope (t ∷ ts) h = (sub-tame scope t h.0, all_sub-tame scope ts h.1)

    pub sub_form-tame : (side : Side) (scope : Scope) (g : Form) → FormFits (clear ms n) side scope g → TameForm ms to side scope (sub_form f g)
    sub_form-tame side scope Top h = tt
    sub_form-tame side scope One h = tt
    sub_form-tame side scope (Atom a) h = sub-tame scope a h.1
    sub_form-tame side scope (With g k) h = (sub_form-tame side scope g h.0, sub_form-tame side scope k h.1)
    sub_form-tame side scope (Tensor g k) h = (sub_form-tame side scope g h.1, sub_form-tame side scope k h.2)
    sub_form-tame side scope (Plus g k) h = (sub_form-tame side scope g h.1, sub_form-tame side scope k h.2)
    sub_form-tame side scope (Bang g) h = sub_form-tame side scope g h.1
    sub_form-tame side scope (Lolli g k) h = (sub_form-tame (other side) scope g h.0, sub_form-tame side scope k h.1)
    sub_form-tame side scope (Imp g k) h = (sub_form-tame (other side) scope g h.0, sub_form-tame side scope k h.1)
    sub_form-tame side scope (Forall g) h = sub_form-tame side (opens_on true side ∷ scope) g h
    sub_form-tame side scope (Exists g) h = sub_form-tame side (false ∷ scope) g h.1
    sub_form-tame side scope (Use k ts g) h = (
      fits_module-length (slice_get ms k) ts (map (sub f) ts) (length-map ts (sub f)) h.1,
      all_sub-tame scope ts h.2,
      sub_form-tame side scope g h.3,
    )
    sub_form-tame side scope (Num r t u) h = (sub-tame scope t h.1, sub-tame scope u h.2)

-- ---- loads

-- closed arguments go to the parameters
arguments-fill : (to : Numbers) (us : List Term) (outer : Scope) → AllTame to [] us
    → Fills to (map (λ t. Some t) us) (replicate (length us) false ++ outer) outer
arguments-fill to [] outer h = widens-refl outer
arguments-fill to (u ∷ us) outer h = (tame-closed to u h.0, λ i. absurd (cc (i)), arguments-fill to us outer h.1)

reverse-tame : (to : Numbers) (ts us : List Term) → AllTame to [] ts → AllTame to [] us → AllTame to [] (reverse_aux ts us)
reverse-tame to [] us h i = i
reverse-tame to (t ∷ ts) us h i = reverse-tame to ts (t ∷ us) h.1 (h.0, i)

-- a goal that is tame in no scope is so in every one
widen-term : (to : Numbers) (scope wide : Scope) (t : Term) → Widens scope wide → Tame to scope t → Tame to wide t
widen-term to scope wide (Var x) w h = tt
widen-term to scope wide (Int z) w h = tt
widen-term to scope wide (Con (Name n)) w h = tt
widen-term to scope wide (Con (Eigen k)) w h = tt
widen-term to scope wide (Con (Bound k)) w h = lt_more k (length scope) (length wide) (widens-length scope wide w) h
widen-term to scope wide (Ap f a) w h = (is_head-more scope wide f w h.0, h.1, widen-term to scope wide f w h.2, widen-term to scope wide a w h.3)

widen-terms : (to : Numbers) (scope wide : Scope) (ts : List Term) → Widens scope wide → AllTame to scope ts → AllTame to wide ts
widen-terms to scope wide [] w h = tt
widen-terms to scope wide (t ∷ ts) w h = (widen-term to scope wide t w h.0, widen-terms to scope wide ts w h.1)

widen : (ms : List ModuleTree) (to : Numbers) (side : Side) (scope wide : Scope) (f : Form) → Widens scope wide → TameForm ms to side scope f
    → TameForm ms to side wide f
widen ms to side scope wide Top w h = tt
widen ms to side scope wide One w h = tt
widen ms to side scope wide (Atom a) w h = widen-term to scope wide a w h
widen ms to side scope wide (With f g) w h = (widen ms to side scope wide f w h.0, widen ms to side scope wide g w h.1)
widen ms to side scope wide (Tensor f g) w h = (widen ms to side scope wide f w h.0, widen ms to side scope wide g w h.1)
widen ms to side scope wide (Plus f g) w h = (widen ms to side scope wide f w h.0, widen ms to side scope wide g w h.1)
widen ms to side scope wide (Bang f) w h = widen ms to side scope wide f w h
widen ms to side scope wide (Lolli f g) w h = (widen ms to (other side) scope wide f w h.0, widen ms to side scope wide g w h.1)
widen ms to side scope wide (Imp f g) w h = (widen ms to (other side) scope wide f w h.0, widen ms to side scope wide g w h.1)
widen ms to side scope wide (Forall f) w h = widen ms to side (opens_on true side ∷ scope) (opens_on true side ∷ wide) f (λ i. i, w) h
widen ms to side scope wide (Exists f) w h = widen ms to side (false ∷ scope) (false ∷ wide) f (λ i. i, w) h
widen ms to side scope wide (Use k ts f) w h = (h.0, widen-terms to scope wide ts w h.1, widen ms to side scope wide f w h.2)
widen ms to side scope wide (Num r t u) w h = (widen-term to scope wide t w h.0, widen-term to scope wide u w h.1)

module _ (ms : List ModuleTree) (to : Numbers) where
  load-tame : (kind : Kind) (scope : Scope) (r g : Form) → TameForm ms to ClauseSide scope r → TameForm ms to GoalSide scope g
      → TameForm ms to GoalSide scope (load kind r g)
  load-tame Linear scope r g f h = (f, h)
  load-tame Unbounded scope r g f h = (f, h)

  loads-tame : (e : Env) (inner outer : Scope) (cs : List ClauseTree) (g : Form) → Fills to e inner outer → ClausesFit (clear ms 0) inner cs
      → TameForm ms to GoalSide outer g → TameForm ms to GoalSide outer (load_all e cs g)
  loads-tame e inner outer [] g c f h = h
  loads-tame e inner outer (d ∷ cs) g c f h =
      load-tame d.kind outer (close_form e d.form) (load_all e cs g)
      (form-close ms to e ClauseSide inner outer d.form c (fits-tame ms 0 to ClauseSide inner d.form f.0)) (loads-tame e inner outer cs g c f.1 h)

  foralls-tame : (n : ℕ) (scope : Scope) (g : Form) → TameForm ms to GoalSide (replicate n true ++ scope) g → TameForm ms to GoalSide scope (forall_all n g)
  foralls-tame zero scope g h = h
  foralls-tame (suc n) scope g h = foralls-tame n (true ∷ scope) g (subst (λ xs. TameForm ms to GoalSide xs g) (sym (replicate-front n true scope)) h)

  module _ (m : ModuleTree) (ts : List Term) (g : Form) (f : ClausesFit (clear ms 0) (module_scope m) m.clauses) (n : length ts ≡ m.params)
      (t : AllTame to [] ts) (h : TameForm ms to GoalSide [] g) where
    filled : Fills to (map (λ t. Some t) (reverse ts)) (module_scope m) (replicate m.locals true)
    filled =
        let q : length (reverse ts) ≡ m.params = length-reverse ts ∙ n in
        subst (λ k. Fills to (map (λ t. Some t) (reverse ts)) (replicate k false ++ replicate m.locals true) (replicate m.locals true)) q
        (arguments-fill to (reverse ts) (replicate m.locals true) (reverse-tame to ts [] t tt))

    inside : TameForm ms to GoalSide (replicate m.locals true) g
    inside = widen ms to GoalSide [] (replicate m.locals true) g tt h

    pub unfold_tame : TameForm ms to GoalSide [] (unfold_load m ts g)
    unfold_tame =
        foralls-tame m.locals [] (load_all (map (λ t. Some t) (reverse ts)) m.clauses g)
        (subst (λ xs. TameForm ms to GoalSide xs (load_all (map (λ t. Some t) (reverse ts)) m.clauses g)) (sym (append-nil (replicate m.locals true)))
        (loads-tame (map (λ t. Some t) (reverse ts)) (module_scope m) (replicate m.locals true) m.clauses g filled f inside))

    module _ (name : Term → ℕ) where
      forall_move : (n : ℕ) (g : Form) → move_form to name (forall_all n g) ≡ forall_all n (move_form to name g)
      forall_move zero g = refl
      forall_move (suc n) g = ap Forall (forall_move n g)

      load_move : (k : Kind) (r g : Form) → move_form to name (load k r g) ≡ load k (move_form to name r) (move_form to name g)
      load_move Linear r g = refl
      load_move Unbounded r g = refl

      loads_move : (e : Env) (inner outer : Scope) (cs : List ClauseTree) → Fills to e inner outer → ClausesFit (clear ms 0) inner cs
          → move_form to name (load_all e cs g) ≡ load_all (move_env to name e) cs (move_form to name g)
      loads_move e inner outer [] c f = refl
      loads_move e inner outer (d ∷ cs) c f =
          let a = loads_move e inner outer cs c f.1 in
          let b = move_close_form to name ms e ClauseSide inner outer d.form c (fits-tame ms 0 to ClauseSide inner d.form f.0)
          ∙ ap (close_form (move_env to name e)) (form-stays ms 0 to name ClauseSide inner d.form f.0) in
          load_move d.kind (close_form e d.form) (load_all e cs g)
          ∙ (ap (λ z. load d.kind z (move_form to name (load_all e cs g))) b ∙ ap (λ z. load d.kind (close_form (move_env to name e) d.form) z) a)

      pub unfold_move : move_form to name (unfold_load m ts g) ≡ unfold_load m (map (move to name) ts) (move_form to name g)
      unfold_move =
          let e : move_env to name (map (λ t. Some t) (reverse ts)) ≡ map (λ t. Some t) (reverse (map (move to name) ts)) =
          map_map (option_map (move to name)) (λ t. Some t) (reverse ts)
          ∙ (sym (map_map (λ t. Some t) (move to name) (reverse ts)) ∙ ap (map (λ t. Some t)) (map_onto (move to name) ts [])) in
          forall_move m.locals (load_all (map (λ t. Some t) (reverse ts)) m.clauses g)
          ∙ ap (forall_all m.locals) (loads_move (map (λ t. Some t) (reverse ts)) (module_scope m) (replicate m.locals true) m.clauses filled f
          ∙ ap (λ z. load_all z m.clauses (move_form to name g)) e)
