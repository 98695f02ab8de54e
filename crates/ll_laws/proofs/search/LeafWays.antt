-- A leaf has as many terms as there are quantifiers on its way; and the leaves of clauses that wait are counted.
use Rattle.std.proofs.Common.{◌≡◌, ◌<◌, ℕ, zero, suc, ◌+◌, ◌-◌, refl, ap, ◌∙◌, Bool, true, false, List, [], ◌∷◌, ◌++◌, map, length, length-append, arith}
use Rattle.std.specs.Prelude.{if◌then◌else◌, nat_lt, Option, Some, None, option_map, slice_get, sum_by}
use Rattle.std.proofs.lemmas.Bool.{ltb-true, ltb-false}
use Rattle.std.proofs.lemmas.List.Sums.{sum_by-append}
use Rattle.ll_list_laws.proofs.CallerLemmas.{slice_get-append_left as get_left, slice_get-append_right as get_right}
use Rattle.ll_list_laws.proofs.CallerLemmas.{slice_get-map_suc as get_suc, length-map_suc}
use Rattle.ll_bank.specs.declared.At.{At}
use Rattle.ll_bank.specs.declared.FormAt.{FormAt}
use Rattle.ll_bank.specs.declared.FormNode.{FormNode}
use Rattle.ll_bank.specs.declared.FormNode.TheVariants.{Top as TopView, One as OneView, Atom as AtomView, With as WithView, Tensor as TensorView}
use Rattle.ll_bank.specs.declared.FormNode.TheVariants.{Plus as PlusView, Bang as BangView, Lolli as LolliView, Imp as ImpView, Forall as ForallView}
use Rattle.ll_bank.specs.declared.FormNode.TheVariants.{Exists as ExistsView, Use as UseView, Is as IsView, Less as LessView, Most as MostView}
use Rattle.ll_bank.specs.Term.{Term, Env}
use Rattle.ll_bank.specs.Form.{Form, Atom, With, Lolli, Imp, Forall}
use Rattle.ll_bank.specs.Nodes.{Nodes, form_of, form_tree}
use Rattle.ll_laws.specs.Leaf.{Premise, Leaf, add_premise, leaf_from, ways}

pub record Under (p : Premise) (o : Option Leaf) (l : Leaf) : Type 0 where
  pub inner : Leaf
  pub is : o ≡ Some inner
  pub same : l.head ≡ inner.head
  pub premises : l.premises ≡ inner.premises ++ p ∷ []

pub under : (p : Premise) (o : Option Leaf) (l : Leaf) → option_map (add_premise p) o ≡ Some l → Under p o l
under p None l h = cc
under p (Some i) l h =
    let e : l ≡ add_premise p i = cc in record { inner = i; is = refl; same = ap (λ x. x.head) e; premises = ap (λ x. x.premises) e }

-- the leaf has as many terms as quantifiers on its way
pub leaf_ways : (e : Env) (r : Form) (k : ℕ) (us : List Term) (l : Leaf) → leaf_from e r k us ≡ Some l → slice_get (ways r) k ≡ Some (length us)
leaf_ways e (Atom a) zero [] l h = refl
leaf_ways e (Atom a) zero (u ∷ us) l h = cc
leaf_ways e (Atom a) (suc k) [] l h = cc
leaf_ways e (Atom a) (suc k) (u ∷ us) l h = cc
leaf_ways e (With q r) k us l h = step (nat_lt k (length (ways q))) refl (leaf_ways e q k us l) (leaf_ways e r (k - length (ways q)) us l) h
  where
    step : (b : Bool) → nat_lt k (length (ways q)) ≡ b → (leaf_from e q k us ≡ Some l → slice_get (ways q) k ≡ Some (length us))
        → (leaf_from e r (k - length (ways q)) us ≡ Some l → slice_get (ways r) (k - length (ways q)) ≡ Some (length us))
        → (if b then leaf_from e q k us else leaf_from e r (k - length (ways q)) us) ≡ Some l → slice_get (ways q ++ ways r) k ≡ Some (length us)
    step true t i j h = get_left (ways q) (ways r) k (ltb-true k _ t) ∙ i h
    step false t i j h = let le = ltb-false k (length (ways q)) t in get_right (ways q) (ways r) k (k - length (ways q)) (omega arith) ∙ j h
leaf_ways e (Lolli g r) k us l h = let u = under _ (leaf_from e r k us) l h in leaf_ways e r k us u.inner u.is
leaf_ways e (Imp g r) k us l h = let u = under _ (leaf_from e r k us) l h in leaf_ways e r k us u.inner u.is
leaf_ways e (Forall r) k [] l h = cc
leaf_ways e (Forall r) k (u ∷ us) l h = get_suc (ways r) k (length us) (leaf_ways (Some u ∷ e) r k us l h)
leaf_ways e _ k us l h = cc

-- ---- clauses that wait

-- the leaves of all clauses that wait
abbrev pub waiting_ways : Nodes → List FormAt → ℕ
waiting_ways bank fs = sum_by (λ (f : FormAt). length (ways (form_tree bank f.0))) fs

-- one more clause
pub ways-push : (bank : Nodes) (fs : List FormAt) (f : FormAt) → waiting_ways bank (fs ++ f ∷ []) ≡ waiting_ways bank fs + length (ways (form_tree bank f.0))
ways-push bank fs f = let e = sum_by-append (λ (g : FormAt). length (ways (form_tree bank g.0))) fs (f ∷ []) in omega (arith, e)

-- a clause in place of another with as many leaves
pub count_in : (bank : Nodes) (old rest new : List FormAt) (f g : FormAt) (n goal : ℕ) → old ≡ rest ++ f ∷ [] → new ≡ rest ++ g ∷ []
    → length (ways (form_tree bank f.0)) ≡ length (ways (form_tree bank g.0))
    → n + waiting_ways bank old ≡ goal → n + waiting_ways bank new ≡ goal
count_in bank old rest new f g n goal o w same h = let a = ap (waiting_ways bank) o ∙ ways-push bank rest f in
    let b = ap (waiting_ways bank) w ∙ ways-push bank rest g in omega arith

-- or two
pub count_both : (bank : Nodes) (old rest mid new : List FormAt) (f g r : FormAt) (n goal : ℕ) → old ≡ rest ++ f ∷ [] → mid ≡ rest ++ r ∷ []
    → new ≡ mid ++ g ∷ []
    → ways (form_tree bank f.0) ≡ ways (form_tree bank g.0) ++ ways (form_tree bank r.0) → n + waiting_ways bank old ≡ goal → n + waiting_ways bank new ≡ goal
count_both bank old rest mid new f g r n goal o m w both h =
    let a = ap (waiting_ways bank) o ∙ ways-push bank rest f in
    let b = ap (waiting_ways bank) m ∙ ways-push bank rest r in
    let c = ap (waiting_ways bank) w ∙ ways-push bank mid g in
    let d = ap (λ (ws : List ℕ). length ws) both ∙ length-append (ways (form_tree bank g.0)) (ways (form_tree bank r.0)) in omega arith

pub ways_quantified : (r : Form) → length (ways (Forall r)) ≡ length (ways r)
ways_quantified r = length-map_suc (ways r)

-- what is no clause has no leaves
pub other_ways : (forms : Nodes) (view : FormNode) → ((a : At) → view ≡ AtomView a → ⊥) → ((f g : FormAt) → view ≡ WithView f g → ⊥)
    → ((f g : FormAt) → view ≡ LolliView f g → ⊥) → ((f g : FormAt) → view ≡ ImpView f g → ⊥) → ((f : FormAt) → view ≡ ForallView f → ⊥)
    → length (ways (form_of forms view)) ≡ 0
other_ways forms (AtomView a) none _ _ _ _ = absurd (none a refl)
other_ways forms (WithView f g) _ none _ _ _ = absurd (none f g refl)
other_ways forms (LolliView f g) _ _ none _ _ = absurd (none f g refl)
other_ways forms (ImpView f g) _ _ _ none _ = absurd (none f g refl)
other_ways forms (ForallView f) _ _ _ _ none = absurd (none f refl)
other_ways forms TopView _ _ _ _ _ = refl
other_ways forms OneView _ _ _ _ _ = refl
other_ways forms (TensorView f g) _ _ _ _ _ = refl
other_ways forms (PlusView f g) _ _ _ _ _ = refl
other_ways forms (BangView f) _ _ _ _ _ = refl
other_ways forms (ExistsView f) _ _ _ _ _ = refl
other_ways forms (UseView m args f) _ _ _ _ _ = refl
other_ways forms (IsView t u) _ _ _ _ _ = refl
other_ways forms (LessView t u) _ _ _ _ _ = refl
other_ways forms (MostView t u) _ _ _ _ _ = refl
