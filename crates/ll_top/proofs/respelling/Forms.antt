-- Substitution and closing keep formulas whose names have as many arguments as they may; so do leaves and loads.
use Rattle.std.proofs.Common.{◌≡◌, ◌≤◌, ℕ, zero, suc, refl, ap, sym, subst, ◌∙◌, Bool, true, false, List, [], ◌∷◌, ◌++◌, map, length, replicate, reverse}
use Rattle.std.proofs.lemmas.List.{append-nil, length-reverse}
use Rattle.std.specs.Prelude.{Option, Some, None, option_map, if◌then◌else◌, ◌-◌, nat_lt, slice_get}
use mathlib.Core.List.{reverse_aux}
use Rattle.ll_bank.specs.Term.{Term, Env, sub, place, close}
use Rattle.ll_bank.specs.Form.{Form, Top, One, Atom, With, Tensor, Plus, Bang, Lolli, Imp, Forall, Exists, Use, Num, Is, Less, Most, Relation, sub_form}
use Rattle.ll_bank.specs.Form.{close_form}
use Rattle.ll_laws.specs.declared.Kind.{Kind}
use Rattle.ll_laws.specs.declared.Kind.TheVariants.{Linear, Unbounded}
use Rattle.ll_laws.specs.Leaf.{Premise, Needs, NeedsFree, premise_goal, Leaf, add_premise, ways, leaf_from, leaf}
use Rattle.ll_laws.specs.Module.{ClauseTree, ModuleTree, load, load_all, forall_all, unfold_load}
use Rattle.ll_laws.specs.Valid.{Side, GoalSide, ClauseSide, module_scope}
use Rattle.ll_laws.proofs.CallerLemmas.{ways-sub, replicate-front}
use Rattle.ll_top.specs.spelled.Taking.{Places, TakesAt, TermTakes, TermsTake, IsLight, anyhow, BoundTakes, FormTakes}
use Rattle.ll_top.proofs.respelling.Terms.{Wider, wider-more, wider-none, takes-wider, all-wider, SubTakes, takes-sub, all-sub, EnvTakes, env-none, env-stays}
use Rattle.ll_top.proofs.respelling.Terms.{env-term}
use Rattle.ll_top.proofs.respelling.Terms.{takes-close, all-close, takes-anyhow}

-- ---- ways

pub ways-close : (e : Env) (r : Form) → ways (close_form e r) ≡ ways r
ways-close e Top = refl
ways-close e One = refl
ways-close e (Atom a) = refl
ways-close e (With r s) = ap (λ ws. ws ++ ways (close_form e s)) (ways-close e r) ∙ ap (λ ws. ways r ++ ws) (ways-close e s)
ways-close e (Tensor f g) = refl
ways-close e (Plus f g) = refl
ways-close e (Bang f) = refl
ways-close e (Lolli g r) = ways-close e r
ways-close e (Imp g r) = ways-close e r
ways-close e (Forall r) = ap (map (λ n. suc n)) (ways-close (None ∷ e) r)
ways-close e (Exists f) = refl
ways-close e (Use m ts f) = refl
ways-close e (Num r t u) = refl

pub light-by : (most : ℕ) (r s : Form) → ways s ≡ ways r → IsLight most r → IsLight most s
light-by most r s e l = record {
  leaves = subst (λ ws. length ws ≤ most) (sym e) l.leaves;
  quantifiers = subst (λ ws. (k n : ℕ) → slice_get ws k ≡ Some n → n ≤ most) (sym e) l.quantifiers;
}

module _ (takes : TakesAt) (most : ℕ) where
  -- ---- more places

  bound-wider : (a b : Places) (r : Relation) (t u : Term) → Wider a b → BoundTakes takes a r t u → BoundTakes takes b r t u
  bound-wider a b Is t u w h = (takes-wider takes a b 0 t w h.0, takes-wider anyhow a b 0 u w h.1)
  bound-wider a b Less t u w h = tt
  bound-wider a b Most t u w h = tt

  pub form-wider : (a b : Places) (side : Side) (f : Form) → Wider a b → FormTakes takes most side a f → FormTakes takes most side b f
  form-wider a b side Top w h = tt
  form-wider a b side One w h = tt
  form-wider a b side (Atom t) w h = takes-wider takes a b 0 t w h
  form-wider a b side (With f g) w h = (form-wider a b side f w h.0, form-wider a b side g w h.1)
  form-wider a b side (Tensor f g) w h = (form-wider a b side f w h.0, form-wider a b side g w h.1)
  form-wider a b side (Plus f g) w h = (form-wider a b side f w h.0, form-wider a b side g w h.1)
  form-wider a b side (Bang f) w h = form-wider a b side f w h
  form-wider a b GoalSide (Lolli r g) w h = (h.0, (form-wider a b ClauseSide r w h.1.0, form-wider a b GoalSide g w h.1.1))
  form-wider a b ClauseSide (Lolli g r) w h = (form-wider a b GoalSide g w h.0, form-wider a b ClauseSide r w h.1)
  form-wider a b GoalSide (Imp r g) w h = (h.0, (form-wider a b ClauseSide r w h.1.0, form-wider a b GoalSide g w h.1.1))
  form-wider a b ClauseSide (Imp g r) w h = (form-wider a b GoalSide g w h.0, form-wider a b ClauseSide r w h.1)
  form-wider a b GoalSide (Forall f) w h = form-wider (true ∷ a) (true ∷ b) GoalSide f (wider-more a b true w) h
  form-wider a b ClauseSide (Forall f) w h = form-wider (false ∷ a) (false ∷ b) ClauseSide f (wider-more a b false w) h
  form-wider a b side (Exists f) w h = form-wider (false ∷ a) (false ∷ b) side f (wider-more a b false w) h
  form-wider a b side (Use m ts f) w h = (all-wider takes a b ts w h.0, form-wider a b side f w h.1)
  form-wider a b side (Num r t u) w h = bound-wider a b r t u w h

  -- ---- substitutions

  module _ (s : ℕ → Term) (g : SubTakes takes s) where
    bound-sub : (a : Places) (r : Relation) (t u : Term) → BoundTakes takes a r t u → BoundTakes takes a r (sub s t) (sub s u)
    bound-sub a Is t u h = (takes-sub takes s g a 0 t h.0, takes-sub anyhow s (λ x. takes-anyhow takes [] 0 (s x) (g x)) a 0 u h.1)
    bound-sub a Less t u h = tt
    bound-sub a Most t u h = tt

    light-sub : (r : Form) → IsLight most r → IsLight most (sub_form s r)
    light-sub r l = light-by most r (sub_form s r) (ways-sub s r) l

    pub form-sub : (a : Places) (side : Side) (f : Form) → FormTakes takes most side a f → FormTakes takes most side a (sub_form s f)
    form-sub a side Top h = tt
    form-sub a side One h = tt
    form-sub a side (Atom t) h = takes-sub takes s g a 0 t h
    form-sub a side (With p q) h = (form-sub a side p h.0, form-sub a side q h.1)
    form-sub a side (Tensor p q) h = (form-sub a side p h.0, form-sub a side q h.1)
    form-sub a side (Plus p q) h = (form-sub a side p h.0, form-sub a side q h.1)
    form-sub a side (Bang p) h = form-sub a side p h
    form-sub a GoalSide (Lolli r q) h = (light-sub r h.0, (form-sub a ClauseSide r h.1.0, form-sub a GoalSide q h.1.1))
    form-sub a ClauseSide (Lolli q r) h = (form-sub a GoalSide q h.0, form-sub a ClauseSide r h.1)
    form-sub a GoalSide (Imp r q) h = (light-sub r h.0, (form-sub a ClauseSide r h.1.0, form-sub a GoalSide q h.1.1))
    form-sub a ClauseSide (Imp q r) h = (form-sub a GoalSide q h.0, form-sub a ClauseSide r h.1)
    form-sub a GoalSide (Forall p) h = form-sub (true ∷ a) GoalSide p h
    form-sub a ClauseSide (Forall p) h = form-sub (false ∷ a) ClauseSide p h
    form-sub a side (Exists p) h = form-sub (false ∷ a) side p h
    form-sub a side (Use m ts p) h = (all-sub takes s g a ts h.0, form-sub a side p h.1)
    form-sub a side (Num r t u) h = bound-sub a r t u h

  -- ---- closing

  bound-close : (e : Env) (a b : Places) → EnvTakes takes e a b → (r : Relation) (t u : Term) → BoundTakes takes a r t u
      → BoundTakes takes b r (close e t) (close e u)
  bound-close e a b g Is t u h = (
    takes-close takes e a b g 0 t h.0,
    takes-close anyhow e a b (λ n j k q. takes-anyhow takes (replicate j false ++ b) k (place e n j) (g n j k q)) 0 u h.1,
  )
  bound-close e a b g Less t u h = tt
  bound-close e a b g Most t u h = tt

  light-close : (e : Env) (r : Form) → IsLight most r → IsLight most (close_form e r)
  light-close e r l = light-by most r (close_form e r) (ways-close e r) l

  pub form-close : (e : Env) (a b : Places) → EnvTakes takes e a b → (side : Side) (f : Form) → FormTakes takes most side a f
      → FormTakes takes most side b (close_form e f)
  form-close e a b g side Top h = tt
  form-close e a b g side One h = tt
  form-close e a b g side (Atom t) h = takes-close takes e a b g 0 t h
  form-close e a b g side (With p q) h = (form-close e a b g side p h.0, form-close e a b g side q h.1)
  form-close e a b g side (Tensor p q) h = (form-close e a b g side p h.0, form-close e a b g side q h.1)
  form-close e a b g side (Plus p q) h = (form-close e a b g side p h.0, form-close e a b g side q h.1)
  form-close e a b g side (Bang p) h = form-close e a b g side p h
  form-close e a b g GoalSide (Lolli r q) h = (light-close e r h.0, (form-close e a b g ClauseSide r h.1.0, form-close e a b g GoalSide q h.1.1))
  form-close e a b g ClauseSide (Lolli q r) h = (form-close e a b g GoalSide q h.0, form-close e a b g ClauseSide r h.1)
  form-close e a b g GoalSide (Imp r q) h = (light-close e r h.0, (form-close e a b g ClauseSide r h.1.0, form-close e a b g GoalSide q h.1.1))
  form-close e a b g ClauseSide (Imp q r) h = (form-close e a b g GoalSide q h.0, form-close e a b g ClauseSide r h.1)
  form-close e a b g GoalSide (Forall p) h = form-close (None ∷ e) (true ∷ a) (true ∷ b) (env-stays takes true e a b g) GoalSide p h
  form-close e a b g ClauseSide (Forall p) h = form-close (None ∷ e) (false ∷ a) (false ∷ b) (env-stays takes false e a b g) ClauseSide p h
  form-close e a b g side (Exists p) h = form-close (None ∷ e) (false ∷ a) (false ∷ b) (env-stays takes false e a b g) side p h
  form-close e a b g side (Use m ts p) h = (all-close takes e a b g ts h.0, form-close e a b g side p h.1)
  form-close e a b g side (Num r t u) h = bound-close e a b g r t u h

  -- ---- leaves

  -- the goals of premises have names with as many arguments as they may
  abbrev pub PremisesTake : List Premise → Type 0
  PremisesTake [] = Unit {0}
  PremisesTake (p ∷ ps) = FormTakes takes most GoalSide [] (premise_goal p) × PremisesTake ps

  -- and so have the premises and the head of a leaf
  pub record LeafTakes (l : Leaf) : Type 0 where
    pub premises : PremisesTake l.premises
    pub head : TermTakes takes [] 0 l.head

  premises-append : (ps : List Premise) (p : Premise) → PremisesTake ps → FormTakes takes most GoalSide [] (premise_goal p) → PremisesTake (ps ++ p ∷ [])
  premises-append [] p h f = (f, tt)
  premises-append (q ∷ ps) p h f = (h.0, premises-append ps p h.1 f)

  under : (p : Premise) (o : Option Leaf) (l : Leaf) → option_map (add_premise p) o ≡ Some l → FormTakes takes most GoalSide [] (premise_goal p)
      → ((i : Leaf) → o ≡ Some i → LeafTakes i) → LeafTakes l
  under p None l h f g = cc
  under p (Some i) l h f g =
      let e : add_premise p i ≡ l = cc in let k = g i refl in
      subst LeafTakes e (record { premises = premises-append i.premises p k.premises f; head = k.head })

  pub leaf_from-takes : (e : Env) (a : Places) (r : Form) (k : ℕ) (ts : List Term) (l : Leaf) → EnvTakes takes e a []
      → FormTakes takes most ClauseSide a r → TermsTake takes [] ts → leaf_from e r k ts ≡ Some l → LeafTakes l
  leaf_from-takes e a (Atom x) zero [] l c f t h =
      let y : Leaf = record { premises = []; head = close e x } in
      let w : y ≡ l = cc in
      subst LeafTakes w (record { premises = tt; head = takes-close takes e a [] c 0 x f })
  leaf_from-takes e a (Atom x) zero (u ∷ us) l c f t h = cc
  leaf_from-takes e a (Atom x) (suc k) [] l c f t h = cc
  leaf_from-takes e a (Atom x) (suc k) (u ∷ us) l c f t h = cc
  leaf_from-takes e a (With q r) k ts l c f t h =
      step (nat_lt k (length (ways q))) (leaf_from-takes e a q k ts l c f.0 t) (leaf_from-takes e a r (k - length (ways q)) ts l c f.1 t) h
    where
      step : (b : Bool) → (leaf_from e q k ts ≡ Some l → LeafTakes l) → (leaf_from e r (k - length (ways q)) ts ≡ Some l → LeafTakes l)
          → (if b then leaf_from e q k ts else leaf_from e r (k - length (ways q)) ts) ≡ Some l → LeafTakes l
      step true i j h = i h
      step false i j h = j h
  leaf_from-takes e a (Lolli g r) k ts l c f t h =
      under (Needs (close_form e g)) (leaf_from e r k ts) l h (form-close e a [] c GoalSide g f.0) (λ i q. leaf_from-takes e a r k ts i c f.1 t q)
  leaf_from-takes e a (Imp g r) k ts l c f t h =
      under (NeedsFree (close_form e g)) (leaf_from e r k ts) l h (form-close e a [] c GoalSide g f.0) (λ i q. leaf_from-takes e a r k ts i c f.1 t q)
  leaf_from-takes e a (Forall r) k [] l c f t h = cc
  leaf_from-takes e a (Forall r) k (u ∷ us) l c f t h =
      leaf_from-takes (Some u ∷ e) (false ∷ a) r k us l (env-term takes u e a [] t.0 c) f t.1 h
  leaf_from-takes e a _ k ts l c f t h = cc

  pub leaf-takes : (r : Form) (k : ℕ) (ts : List Term) (l : Leaf) → FormTakes takes most ClauseSide [] r → TermsTake takes [] ts → leaf r k ts ≡ Some l
      → LeafTakes l
  leaf-takes r k ts l f t h = leaf_from-takes [] [] r k ts l (env-none takes []) f t h

  -- ---- loads

  -- each clause of a module is light, and its names take what they may
  abbrev pub ClausesTake : Places → List ClauseTree → Type 0
  ClausesTake a [] = Unit {0}
  ClausesTake a (c ∷ cs) = (IsLight most c.form × FormTakes takes most ClauseSide a c.form) × ClausesTake a cs

  load-takes : (kind : Kind) (a : Places) (r g : Form) → IsLight most r → FormTakes takes most ClauseSide a r → FormTakes takes most GoalSide a g
      → FormTakes takes most GoalSide a (load kind r g)
  load-takes Linear a r g l f h = (l, (f, h))
  load-takes Unbounded a r g l f h = (l, (f, h))

  load_all-takes : (e : Env) (a b : Places) (cs : List ClauseTree) (g : Form) → EnvTakes takes e a b → ClausesTake a cs → FormTakes takes most GoalSide b g
      → FormTakes takes most GoalSide b (load_all e cs g)
  load_all-takes e a b [] g c f h = h
  load_all-takes e a b (d ∷ cs) g c f h =
      load-takes d.kind b (close_form e d.form) (load_all e cs g) (light-close e d.form f.0.0) (form-close e a b c ClauseSide d.form f.0.1)
      (load_all-takes e a b cs g c f.1 h)

  forall_all-takes : (n : ℕ) (a : Places) (g : Form) → FormTakes takes most GoalSide (replicate n true ++ a) g
      → FormTakes takes most GoalSide a (forall_all n g)
  forall_all-takes zero a g h = h
  forall_all-takes (suc n) a g h = forall_all-takes n (true ∷ a) g (subst (λ xs. FormTakes takes most GoalSide xs g) (sym (replicate-front n true a)) h)

  arguments-take : (us : List Term) (b : Places) → TermsTake takes [] us → EnvTakes takes (map (λ t. Some t) us) (replicate (length us) false ++ b) b
  arguments-take [] b h = env-none takes b
  arguments-take (u ∷ us) b h = env-term takes u (map (λ t. Some t) us) (replicate (length us) false ++ b) b h.0 (arguments-take us b h.1)

  reverse_aux-take : (ts us : List Term) → TermsTake takes [] ts → TermsTake takes [] us → TermsTake takes [] (reverse_aux ts us)
  reverse_aux-take [] us h i = i
  reverse_aux-take (t ∷ ts) us h i = reverse_aux-take ts (t ∷ us) h.1 (h.0, i)

  pub unfold_load-takes : (m : ModuleTree) (ts : List Term) (g : Form) → ClausesTake (module_scope m) m.clauses → length ts ≡ m.params → TermsTake takes [] ts
      → FormTakes takes most GoalSide [] g → FormTakes takes most GoalSide [] (unfold_load m ts g)
  unfold_load-takes m ts g f n t h =
      let us = reverse ts in
      let c = arguments-take us (replicate m.locals true) (reverse_aux-take ts [] t tt) in
      let q : length us ≡ m.params = length-reverse ts ∙ n in
      let d = subst (λ k. EnvTakes takes (map (λ t. Some t) us) (replicate k false ++ replicate m.locals true) (replicate m.locals true)) q c in
      let w = form-wider [] (replicate m.locals true) GoalSide g (wider-none (replicate m.locals true)) h in
      let all = load_all-takes (map (λ t. Some t) us) (module_scope m) (replicate m.locals true) m.clauses g d f w in
      forall_all-takes m.locals [] (load_all (map (λ t. Some t) us) m.clauses g)
      (subst (λ xs. FormTakes takes most GoalSide xs (load_all (map (λ t. Some t) us) m.clauses g)) (sym (append-nil (replicate m.locals true))) all)
