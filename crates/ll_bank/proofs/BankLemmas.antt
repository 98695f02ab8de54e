-- A bank's nodes and the trees that they show: what each call reads and leaves.
use Rattle.std.proofs.Common.{◌≡◌, ℕ, zero, suc, ◌+◌, ◌<◌, ◌≤◌, List, [], ◌∷◌, ◌++◌, length, map, All, get_or, take, drop, refl, ap, sym, subst, ◌∙◌, inl, inr}
use Rattle.std.proofs.Common.{arith, length-append, max, Some, true, true≢false, eqb}
use Rattle.std.specs.Prelude.{ℤ, FitsSigned, slice_get, slice_index, fold}
use Rattle.std.specs.Int.{w64}
use Rattle.std.proofs.Common.{to_z, of_z}
use Rattle.std.proofs.lemmas.Int.{to_z-of_z}
use Rattle.std.proofs.Math.ListN.{get_or-map}
use Rattle.std.specs.List.{list_any}
use Rattle.std.proofs.lemmas.Bool.{or_cases, eqb-true}
use Rattle.std.proofs.lemmas.List.{append-nil, length-map, map-append, take-append-le, take-append-drop, length-take, length-take-le, take-map, take-take}
use Rattle.std.proofs.lemmas.List.{take_at, get_or_default}
use Rattle.std.proofs.lemmas.List.Elements.{All-head, All-tail, All-cons}
use Rattle.std.proofs.lemmas.Option.{get_or_from_slice_get}
use Rattle.ll_list_laws.proofs.CallerLemmas.{each-push as push_all, map_map, same_front}
use Rattle.ll_bank.specs.declared.At.{At}
use Rattle.ll_bank.specs.declared.Head.{Head}
use Rattle.ll_bank.specs.declared.BankSize.{BankSize}
use Rattle.ll_bank.specs.declared.TermView.{TermView}
use Rattle.ll_bank.specs.declared.TermView.TheVariants.{Var as VarView, Int as IntView, App as AppView}
use Rattle.ll_bank.specs.declared.FormNode.{FormNode}
use Rattle.ll_bank.specs.declared.FormNode.TheVariants.{Top as TopView, One as OneView, Atom as AtomView, With as WithView, Tensor as TensorView}
use Rattle.ll_bank.specs.declared.FormNode.TheVariants.{Plus as PlusView, Bang as BangView, Lolli as LolliView, Imp as ImpView, Forall as ForallView}
use Rattle.ll_bank.specs.declared.FormNode.TheVariants.{Exists as ExistsView, Use as UseView, Is as IsView, Less as LessView, Most as MostView}
use Rattle.ll_bank.specs.Term.{Term, Var, Con, Ap, app, apply, sub, term_depth}
use Rattle.ll_bank.specs.Form.{Form, Top, Atom, With, Tensor, Plus, Bang, Lolli, Imp, Forall, Exists, Use, Num}
use Rattle.ll_bank.specs.Nodes.{Nodes, TermNode, VarNode, IntNode, AppNode, FormulaNode, TopNode, OneNode, AtomNode, WithNode, TensorNode, PlusNode, BangNode}
use Rattle.ll_bank.specs.Nodes.{LolliNode, ImpNode, ForallNode, ExistsNode, UseNode, NumNode, grow, term_in, build_term, form_in, build_form, term_tree}
use Rattle.ll_bank.specs.Nodes.{form_tree, term_trees, HasTerm, HasForm, ShowsTerm, ShowsForm, Extends, form_of, HasPartsBelow, IsTermView, IsFormView}
use Rattle.ll_bank.specs.Nodes.{IsTermBelow, IsFormBelow, IsWellFounded, places, node_of_term, node_of, with_term, with_form, size_of, front, HasSize, IsCutTo}
use Rattle.ll_bank.specs.Kept.{all_terms, IsKept, depth_over}
use Rattle.ll_bank.proofs.Growing.{grow-append, grow_kept, grow_last, get_or-grow_at, length-grow, grow-take}

-- ---- places as numbers

-- a place among places that lie below a number lies below it
pub place_below : (args : List At) (k n : ℕ) → All (λ a. a.0 < n) args → list_any (eqb k) (places args) ≡ true → k < n
place_below [] k n h e = absurd (true≢false (sym e))
place_below (a ∷ args) k n h e = elim (or_cases (eqb k a.0) (list_any (eqb k) (places args)) e) [
  | inl q ↦ let x = eqb-true k a.0 q in let y = All-head (λ (b : At). b.0 < n) a args h in omega arith
  | inr q ↦ place_below args k n (All-tail (λ (b : At). b.0 < n) a args h) q
]

-- each place shows one term
pub length-term_trees : (nodes : Nodes) (ats : List At) → length (term_trees nodes ats) ≡ length ats
length-term_trees nodes ats = length-map ats (λ (a : At). term_tree nodes a.0)

-- a substitution in the terms of places, one by one
pub sub-term_trees : (s : ℕ → Term) (nodes : Nodes) (ats : List At) → map (sub s) (term_trees nodes ats) ≡ map (λ a. sub s (term_tree nodes a.0)) ats
sub-term_trees s nodes ats = map_map (sub s) (λ (a : At). term_tree nodes a.0) ats

-- ---- sizes

-- a bank cut to its own size is itself
pub cut_same : (old new : Nodes) (size : BankSize) → size ≡ size_of old → IsCutTo size old new → new ≡ old
cut_same old new size e c =
    let p : size_of new ≡ size_of old = c.places ∙ e in
    let a = same_front old.terms new.terms c.trees.more_terms c.trees.terms (ap (λ s. s.terms) p) in
    let b = same_front old.forms new.forms c.trees.more_forms c.trees.forms (ap (λ s. s.forms) p) in
    let make : List _ → List _ → Nodes = λ xs ys. record { terms = xs; forms = ys } in
    ap (λ xs. make xs new.forms) a ∙ ap (λ ys. make old.terms ys) b

-- a size is had by the first nodes that it counts
pub HasSize-front : (a b : Nodes) (size : BankSize) → front a size ≡ front b size → HasSize a size → HasSize b size
HasSize-front a b size e h = record { counts = subst (λ n. size_of n ≡ size) e h.counts; whole = subst IsWellFounded e h.whole }

-- which are there
pub HasSize-terms : (nodes : Nodes) (size : BankSize) → HasSize nodes size → size.terms ≤ length nodes.terms
HasSize-terms nodes size h = let e = ap (λ s. s.terms) h.counts in let f = length-take size.terms nodes.terms in omega arith

pub HasSize-forms : (nodes : Nodes) (size : BankSize) → HasSize nodes size → size.forms ≤ length nodes.forms
HasSize-forms nodes size h = let e = ap (λ s. s.forms) h.counts in let f = length-take size.forms nodes.forms in omega arith

-- so more nodes behind leave it
HasSize-append : (old : Nodes) (ts : List TermNode) (fs : List FormulaNode) (size : BankSize) → HasSize old size
    → HasSize (record { terms = old.terms ++ ts; forms = old.forms ++ fs }) size
HasSize-append old ts fs size h =
    HasSize-front old (record { terms = old.terms ++ ts; forms = old.forms ++ fs }) size
    (λ i. record {
      terms = sym (take-append-le size.terms old.terms ts (HasSize-terms old size h)) i;
      forms = sym (take-append-le size.forms old.forms fs (HasSize-forms old size h)) i;
    }) h

-- all nodes on lower ones have their size
take_whole : {A : Type 0} (xs : List A) → take (length xs) xs ≡ xs
take_whole xs = ap (take (length xs)) (sym (append-nil xs)) ∙ take_at xs [] (length xs) refl

-- and a bank that has its own size stands on lower nodes
pub whole_of_size : (nodes : Nodes) (size : BankSize) → size ≡ size_of nodes → HasSize nodes size → IsWellFounded nodes
whole_of_size nodes size is h =
    subst IsWellFounded (ap (front nodes) is ∙ (λ i. record { terms = take_whole nodes.terms i; forms = take_whole nodes.forms i })) h.whole

-- ---- the tree that a node builds depends on what is below it alone

-- functions that agree below k map numbers below k alike
same_map : (f g : ℕ → Term) (k : ℕ) (xs : List ℕ) → ((a : ℕ) → a < k → f a ≡ g a) → All (λ a. a < k) xs → map f xs ≡ map g xs
same_map f g k [] h a = refl
same_map f g k (x ∷ xs) h a =
    let e1 = h x (All-head (λ a. a < k) x xs a) in let e2 = same_map f g k xs h (All-tail (λ a. a < k) x xs a) in cc

-- a term's node builds one term over trees that agree below it
pub same_build_term : (trees trees' : List Term) (at : ℕ) → ((a : ℕ) → a < at → term_in trees a ≡ term_in trees' a) → (n : TermNode) → IsTermBelow at n
    → build_term trees n ≡ build_term trees' n
same_build_term trees trees' at h (VarNode x) w = refl
same_build_term trees trees' at h (IntNode z) w = refl
same_build_term trees trees' at h (AppNode k args) w = ap (app k) (same_map (term_in trees) (term_in trees') at args h w)

module _ (term term' : ℕ → Term) (terms : ℕ) (same : (a : ℕ) → a < terms → term a ≡ term' a) where
  -- and a formula's node one formula
  pub same_build_form : (trees trees' : List Form) (at : ℕ) → ((f : ℕ) → f < at → form_in trees f ≡ form_in trees' f) → (n : FormulaNode)
      → IsFormBelow terms at n
      → build_form term trees n ≡ build_form term' trees' n
  same_build_form trees trees' at h TopNode w = refl
  same_build_form trees trees' at h OneNode w = refl
  same_build_form trees trees' at h (AtomNode a) w = ap Atom (same a w)
  same_build_form trees trees' at h (WithNode f g) w = λ i. With (h f w.0 i) (h g w.1 i)
  same_build_form trees trees' at h (TensorNode f g) w = λ i. Tensor (h f w.0 i) (h g w.1 i)
  same_build_form trees trees' at h (PlusNode f g) w = λ i. Plus (h f w.0 i) (h g w.1 i)
  same_build_form trees trees' at h (BangNode f) w = ap Bang (h f w)
  same_build_form trees trees' at h (LolliNode f g) w = λ i. Lolli (h f w.0 i) (h g w.1 i)
  same_build_form trees trees' at h (ImpNode f g) w = λ i. Imp (h f w.0 i) (h g w.1 i)
  same_build_form trees trees' at h (ForallNode f) w = ap Forall (h f w)
  same_build_form trees trees' at h (ExistsNode f) w = ap Exists (h f w)
  same_build_form trees trees' at h (UseNode m args f) w = λ i. Use m (same_map term term' terms args same w.0 i) (h f w.1 i)
  same_build_form trees trees' at h (NumNode r t u) w = λ i. Num r (same t w.0 i) (same u w.1 i)

  -- formulas grow alike over terms that are alike
  same_grow : (trees : List Form) (ns : List FormulaNode) → All (λ n. (at : ℕ) × IsFormBelow terms at n) ns
      → grow (build_form term) trees ns ≡ grow (build_form term') trees ns
  same_grow trees [] h = refl
  same_grow trees (n ∷ ns) h =
      let w = All-head (λ n. (at : ℕ) × IsFormBelow terms at n) n ns h in
      let e = same_build_form trees trees w.0 (λ f l. refl) n w.1 in
      ap (λ t. grow (build_form term) (trees ++ t ∷ []) ns) e
      ∙ same_grow (trees ++ build_form term' trees n ∷ []) ns (All-tail (λ n. (at : ℕ) × IsFormBelow terms at n) n ns h)

-- ---- a bank whose nodes stand on lower ones

module _ (old : Nodes) (low : IsWellFounded old) where
  -- a term's tree is what its node builds over all terms
  pub term_tree-node : (at : ℕ) (d : TermNode) → HasTerm old at → term_tree old at ≡ build_term (all_terms old) (get_or old.terms at d)
  unfolding term_tree
  term_tree-node at d h =
      get_or-grow_at build_term old.terms at d (Var 0) h
      ∙ same_build_term (grow build_term [] (take at old.terms)) (grow build_term [] old.terms) at earlier (get_or old.terms at d) (low.terms at d h)
    where
      earlier : (a : ℕ) → a < at → term_in (grow build_term [] (take at old.terms)) a ≡ term_in (grow build_term [] old.terms) a
      earlier a l =
          let s : length (take at old.terms) ≡ at = length-take-le at old.terms (omega arith) in
          sym (subst (λ ns. term_in (grow build_term [] ns) a ≡ term_in (grow build_term [] (take at old.terms)) a) (take-append-drop at old.terms)
          (grow_kept build_term (take at old.terms) (drop at old.terms) a (Var 0) (omega arith)))

  -- a formula's tree is what its node builds over all formulas
  pub form_tree-node : (at : ℕ) (d : FormulaNode) → HasForm old at
      → form_tree old at ≡ build_form (term_tree old) (grow (build_form (term_tree old)) [] old.forms) (get_or old.forms at d)
  unfolding form_tree
  form_tree-node at d h =
      get_or-grow_at (build_form (term_tree old)) old.forms at d Top h
      ∙ same_build_form (term_tree old) (term_tree old) (length old.terms) (λ a l. refl) (grow (build_form (term_tree old)) [] (take at old.forms))
      (grow (build_form (term_tree old)) [] old.forms) at earlier (get_or old.forms at d) (low.forms at d h)
    where
      earlier : (a : ℕ) → a < at → form_in (grow (build_form (term_tree old)) [] (take at old.forms)) a
          ≡ form_in (grow (build_form (term_tree old)) [] old.forms) a
      earlier a l =
          let s : length (take at old.forms) ≡ at = length-take-le at old.forms (omega arith) in
          sym (subst (λ ns. form_in (grow (build_form (term_tree old)) [] ns) a ≡ form_in (grow (build_form (term_tree old)) [] (take at old.forms)) a)
          (take-append-drop at old.forms)
          (grow_kept (build_form (term_tree old)) (take at old.forms) (drop at old.forms) a Top (omega arith)))

  -- more nodes leave the trees
  module _ (ts : List TermNode) (fs : List FormulaNode) where
    same_terms : (at : ℕ) → at < length old.terms → term_tree (record { terms = old.terms ++ ts; forms = old.forms ++ fs }) at ≡ term_tree old at
    unfolding term_tree
    same_terms at h = grow_kept build_term old.terms ts at (Var 0) h

    same_forms : (at : ℕ) → at < length old.forms → form_tree (record { terms = old.terms ++ ts; forms = old.forms ++ fs }) at ≡ form_tree old at
    unfolding form_tree
    same_forms at h =
        grow_kept (build_form (term_tree (record { terms = old.terms ++ ts; forms = old.forms ++ fs }))) old.forms fs at Top h
        ∙ ap (λ trees. form_in trees at) (same_grow (term_tree (record { terms = old.terms ++ ts; forms = old.forms ++ fs })) (term_tree old)
        (length old.terms) same_terms [] old.forms (λ k d l. (k, low.forms k d l)))

    pub extends : Extends old (record { terms = old.terms ++ ts; forms = old.forms ++ fs })
    extends = record { more_terms = ts; more_forms = fs; terms = refl; forms = refl; same_forms = same_forms; sizes = HasSize-append old ts fs }

-- a node behind the others leaves the trees
pub keeps_term : (old : Nodes) (low : IsWellFounded old) (n : TermNode) → Extends old (with_term old n)
keeps_term old low n =
    subst (λ same. Extends old (record { terms = old.terms ++ n ∷ []; forms = same })) (append-nil old.forms) (extends old low (n ∷ []) [])

pub keeps_form : (old : Nodes) (low : IsWellFounded old) (n : FormulaNode) → Extends old (with_form old n)
keeps_form old low n =
    subst (λ same. Extends old (record { terms = same; forms = old.forms ++ n ∷ [] })) (append-nil old.terms) (extends old low [] (n ∷ []))

-- and shows the tree that it builds
pub shows_term : (old : Nodes) (n : TermNode) (at : ℕ) (tree : Term) → at ≡ length old.terms → build_term (all_terms old) n ≡ tree
    → ShowsTerm (with_term old n) at tree
unfolding term_tree
shows_term old n at tree last e = subst (λ k. ShowsTerm (with_term old n) k tree) (sym last) (record {
  inside = simp length-append (omega arith);
  tree = grow_last build_term old.terms n (Var 0) ∙ e;
})

pub shows_form : (old : Nodes) (n : FormulaNode) (at : ℕ) (tree : Form) → at ≡ length old.forms
    → build_form (term_tree old) (grow (build_form (term_tree old)) [] old.forms) n ≡ tree
    → ShowsForm (with_form old n) at tree
unfolding form_tree term_tree
shows_form old n at tree last e = subst (λ k. ShowsForm (with_form old n) k tree) (sym last) (record {
  inside = simp length-append (omega arith);
  tree = grow_last (build_form (term_tree old)) old.forms n Top ∙ e;
})

-- ---- a node put behind the others stands on lower ones

-- parts below some terms are below more terms
more_terms : (terms more at : ℕ) → terms ≤ more → (n : FormulaNode) → IsFormBelow terms at n → IsFormBelow more at n
more_terms terms more at le TopNode w = tt
more_terms terms more at le OneNode w = tt
more_terms terms more at le (AtomNode a) w = omega arith
more_terms terms more at le (WithNode f g) w = w
more_terms terms more at le (TensorNode f g) w = w
more_terms terms more at le (PlusNode f g) w = w
more_terms terms more at le (BangNode f) w = w
more_terms terms more at le (LolliNode f g) w = w
more_terms terms more at le (ImpNode f g) w = w
more_terms terms more at le (ForallNode f) w = w
more_terms terms more at le (ExistsNode f) w = w
more_terms terms more at le (UseNode m args f) w = (λ k d l. let h = w.0 k d l in omega arith, w.1)
more_terms terms more at le (NumNode r t u) w = (let a = w.0 in omega arith, let a = w.1 in omega arith)

module _ (old : Nodes) (low : IsWellFounded old) where
  -- a term on lower ones keeps a bank well-founded
  low_term : (n : TermNode) → IsTermBelow (length old.terms) n → IsWellFounded (record { terms = old.terms ++ n ∷ []; forms = old.forms })
  low_term n below = record {
    terms = push_all IsTermBelow old.terms n low.terms below;
    forms = λ at d h.
        more_terms (length old.terms) (length (old.terms ++ n ∷ [])) at (let e = length-append old.terms (n ∷ []) in
        omega arith) (get_or old.forms at d) (low.forms at d h);
  }

  -- and so does a formula on lower ones
  low_form : (n : FormulaNode) → IsFormBelow (length old.terms) (length old.forms) n → IsWellFounded (record { terms = old.terms; forms = old.forms ++ n ∷ [] })
  low_form n below = record {
    terms = low.terms;
    forms = push_all (IsFormBelow (length old.terms)) old.forms n low.forms below;
  }

-- ---- what a sign builds, and where its parts lie

-- places below k, as numbers
pub below_places : (k : ℕ) (args : List At) → All (λ a. a.0 < k) args → All (λ a. a < k) (places args)
below_places k [] h = λ j d q. absurd (omega arith)
below_places k (a ∷ args) h =
    All-cons (λ a. a < k) a.0 (places args) (All-head (λ (a : At). a.0 < k) a args h) (below_places k args (All-tail (λ (a : At). a.0 < k) a args h))

-- and back
pub places_below : (k : ℕ) (args : List At) → All (λ a. a < k) (places args) → All (λ a. a.0 < k) args
places_below k args h = λ j d q. subst (λ z. z < k) (get_or-map (λ (a : At). a.0) args j d) (h j d.0 (simp length-map q))

-- parts of a sign that are below lie below in its node
pub below_parts : (terms forms : ℕ) (view : FormNode) → HasPartsBelow terms forms view → IsFormBelow terms forms (node_of view)
below_parts terms forms TopView h = tt
below_parts terms forms OneView h = tt
below_parts terms forms (AtomView a) h = h
below_parts terms forms (WithView f g) h = h
below_parts terms forms (TensorView f g) h = h
below_parts terms forms (PlusView f g) h = h
below_parts terms forms (BangView f) h = h
below_parts terms forms (LolliView f g) h = h
below_parts terms forms (ImpView f g) h = h
below_parts terms forms (ForallView f) h = h
below_parts terms forms (ExistsView f) h = h
below_parts terms forms (UseView m args f) h = (below_places terms args.now h.0, h.1)
below_parts terms forms (IsView t u) h = h
below_parts terms forms (LessView t u) h = h
below_parts terms forms (MostView t u) h = h

-- and back
pub parts_below : (terms forms : ℕ) (view : FormNode) → IsFormBelow terms forms (node_of view) → HasPartsBelow terms forms view
parts_below terms forms TopView h = tt
parts_below terms forms OneView h = tt
parts_below terms forms (AtomView a) h = h
parts_below terms forms (WithView f g) h = h
parts_below terms forms (TensorView f g) h = h
parts_below terms forms (PlusView f g) h = h
parts_below terms forms (BangView f) h = h
parts_below terms forms (LolliView f g) h = h
parts_below terms forms (ImpView f g) h = h
parts_below terms forms (ForallView f) h = h
parts_below terms forms (ExistsView f) h = h
parts_below terms forms (UseView m args f) h = (places_below terms args.now h.0, h.1)
parts_below terms forms (IsView t u) h = h
parts_below terms forms (LessView t u) h = h
parts_below terms forms (MostView t u) h = h

-- a head with places builds the head with their terms
pub build_app : (old : Nodes) (h : Head) (args : List At) → build_term (all_terms old) (AppNode h (places args)) ≡ app h (term_trees old args)
unfolding term_tree
build_app old h args = ap (app h) (map_map (term_in (all_terms old)) (λ a. a.0) args)

-- a sign with the places of its parts builds its formula
pub build_parts : (old : Nodes) (view : FormNode) → build_form (term_tree old) (grow (build_form (term_tree old)) [] old.forms) (node_of view)
    ≡ form_of old view
unfolding form_tree
build_parts old TopView = refl
build_parts old OneView = refl
build_parts old (AtomView a) = refl
build_parts old (WithView f g) = refl
build_parts old (TensorView f g) = refl
build_parts old (PlusView f g) = refl
build_parts old (BangView f) = refl
build_parts old (LolliView f g) = refl
build_parts old (ImpView f g) = refl
build_parts old (ForallView f) = refl
build_parts old (ExistsView f) = refl
build_parts old (UseView m args f) = ap (λ ts. Use m ts (form_tree old f.0)) (map_map (term_tree old) (λ a. a.0) args.now)
build_parts old (IsView t u) = refl
build_parts old (LessView t u) = refl
build_parts old (MostView t u) = refl

-- ---- depths

-- the depth of an application, argument by argument
depth-apply : (depths : List ℕ) (trees : List Term) → depths ≡ map term_depth trees → (f : Term) (d : ℕ) → d ≡ term_depth f → (args : List At)
    → fold (λ deepest a. max deepest (suc (slice_index depths a.0))) d args ≡ term_depth (apply f (map (term_in trees) (places args)))
depth-apply depths trees e f d h [] = h
depth-apply depths trees e f d h (a ∷ args) =
    let g : slice_index depths a.0 ≡ term_depth (term_in trees a.0) = ap (λ ds. slice_index ds a.0) e ∙ get_or-map term_depth trees a.0 (Var 0) in
    depth-apply depths trees e (Ap f (term_in trees a.0)) (max d (suc (slice_index depths a.0))) (rw (h, g) refl) args

-- ---- what the calls leave

module _ (old : Nodes) (depths : List ℕ) (kept : IsKept old depths) where
  pub depths_count : length depths ≡ length old.terms
  depths_count = ap length kept.beside ∙ (length-map (all_terms old) term_depth ∙ length-grow build_term [] old.terms
      ∙ (let e : zero + length old.terms ≡ length old.terms = omega arith in e))

  -- the depth of each place
  pub depth_at : (at d : ℕ) → at < length depths → get_or depths at d ≡ term_depth (term_tree old at)
  unfolding term_tree
  depth_at at d l =
      ap (λ ds. get_or ds at d) kept.beside
      ∙ (get_or_default (map term_depth (all_terms old)) at d 0 (let e = ap length kept.beside in omega arith)
      ∙ get_or-map term_depth (all_terms old) at (Var 0))

  -- a term was put behind the others
  pub kept_term : (n : TermNode) (d : ℕ) → IsTermBelow (length old.terms) n → d ≡ term_depth (build_term (all_terms old) n)
      → IsKept (with_term old n) (depths ++ d ∷ [])
  kept_term n d below e = record {
    lower = low_term old kept.lower n below;
    beside = rw (grow-append build_term [] old.terms (n ∷ []), map-append term_depth (all_terms old) (build_term (all_terms old) n ∷ []))
        (λ i. kept.beside i ++ e i ∷ []);
  }

  -- a formula was put behind the others
  pub kept_form : (n : FormulaNode) → IsFormBelow (length old.terms) (length old.forms) n → IsKept (with_form old n) depths
  kept_form n below = record { lower = low_form old kept.lower n below; beside = kept.beside }

  -- the first nodes were kept
  pub kept_front : (size : BankSize) → HasSize old size → IsKept (front old size) (take size.terms depths)
  kept_front size h = record {
    lower = h.whole;
    beside = ap (take size.terms) kept.beside ∙ (take-map term_depth size.terms (all_terms old)
        ∙ ap (map term_depth) (grow-take build_term size.terms old.terms (HasSize-terms old size h)));
  }

-- the first nodes are what a cut leaves
pub front_is_cut : (old : Nodes) (size : BankSize) → HasSize old size → IsCutTo size old (front old size)
front_is_cut old size h = record {
  places = h.counts;
  trees = subst (Extends (front old size)) (λ i. record { terms = take-append-drop size.terms old.terms i; forms = take-append-drop size.forms old.forms i })
      (extends (front old size) h.whole (drop size.terms old.terms) (drop size.forms old.forms));
  sizes = λ other had past. HasSize-front old (front old size) other
      (λ i. record {
        terms = sym (take-take other.terms size.terms old.terms past.terms) i;
        forms =
            sym (take-take other.forms size.forms old.forms past.forms) i;
      }) had;
}

-- ---- a node was read

module _ (old : Nodes) (low : IsWellFounded old) (at : ℕ) where
  pub views_term : (seen : TermView) → HasTerm old at → slice_get old.terms at ≡ Some (node_of_term seen) → IsTermView old at seen
  views_term seen inside e =
      let is = get_or_from_slice_get old.terms at (node_of_term seen) (node_of_term seen) e in
      by seen (term_tree-node old low at (node_of_term seen) inside ∙ ap (build_term (all_terms old)) is)
      (subst (IsTermBelow at) is (low.terms at (node_of_term seen) inside))
    where
      by : (v : TermView) → term_tree old at ≡ build_term (all_terms old) (node_of_term v) → IsTermBelow at (node_of_term v) → IsTermView old at v
      by (VarView n) p low = p
      by (IntView z) p low = p
      by (AppView h args) p low = (p ∙ build_app old h args.now, places_below at args.now low)

  pub views_form : (seen : FormNode) → HasForm old at → slice_get old.forms at ≡ Some (node_of seen) → IsFormView old at seen
  views_form seen inside e =
      let is = get_or_from_slice_get old.forms at (node_of seen) (node_of seen) e in
      record {
        tree = form_tree-node old low at (node_of seen) inside
            ∙ (ap (build_form (term_tree old) (grow (build_form (term_tree old)) [] old.forms)) is ∙ build_parts old seen);
        parts = parts_below (length old.terms) at seen (subst (IsFormBelow (length old.terms) at) is (low.forms at (node_of seen) inside));
      }

-- ---- in the words of the calls: what is inside a bank, and what callers see

module _ (inner old : Nodes) (view : inner ≡ old) (depths : List ℕ) (kept : IsKept inner depths) (new : Nodes) where
  -- a term was put behind the others
  module _ (n : TermNode) (is : new ≡ with_term inner n) where
    pub kept_more : (d : ℕ) (more : List ℕ) → more ≡ depths ++ d ∷ [] → IsTermBelow (length old.terms) n → d ≡ term_depth (build_term (all_terms old) n)
        → IsKept new more
    kept_more d more e below deep =
        rw (is, e) (kept_term inner depths kept n d (subst (λ o. IsTermBelow (length o.terms) n) (sym view) below)
        (deep ∙ ap (λ o. term_depth (build_term (all_terms o) n)) (sym view)))

    pub term_extends : Extends old new
    term_extends = subst (λ o. Extends o new) view (subst (Extends inner) (sym is) (keeps_term inner kept.lower n))

    pub term_shown : (at : ℕ) (tree : Term) → at ≡ length inner.terms → build_term (all_terms old) n ≡ tree → ShowsTerm new at tree
    term_shown at tree last e =
        subst (λ m. ShowsTerm m at tree) (sym is)
        (shows_term inner n at tree last (ap (λ o. build_term (all_terms o) n) view ∙ e))

  -- a formula was put behind the others
  module _ (n : FormulaNode) (is : new ≡ with_form inner n) where
    pub kept_more_forms : (same : List ℕ) → same ≡ depths → IsFormBelow (length old.terms) (length old.forms) n → IsKept new same
    kept_more_forms same e below = rw (is, e) (kept_form inner depths kept n (subst (λ o. IsFormBelow (length o.terms) (length o.forms) n) (sym view) below))

    pub form_extends : Extends old new
    form_extends = subst (λ o. Extends o new) view (subst (Extends inner) (sym is) (keeps_form inner kept.lower n))

    pub form_shown : (at : ℕ) (tree : Form) → at ≡ length inner.forms → build_form (term_tree old) (grow (build_form (term_tree old)) [] old.forms) n ≡ tree
        → ShowsForm new at tree
    form_shown at tree last e =
        subst (λ m. ShowsForm m at tree) (sym is)
        (shows_form inner n at tree last (ap (λ o. build_form (term_tree o) (grow (build_form (term_tree o)) [] o.forms) n) view ∙ e))

  -- the first nodes were kept
  module _ (size : BankSize) (had : HasSize old size) (is : new ≡ front inner size) where
    inner_had : HasSize inner size
    inner_had = subst (λ o. HasSize o size) (sym view) had

    pub kept_first : (first : List ℕ) → first ≡ take size.terms depths → IsKept new first
    kept_first first e = rw (is, e) (kept_front inner depths kept size inner_had)

    pub is_cut : IsCutTo size old new
    is_cut = subst (λ m. IsCutTo size old m) (sym (is ∙ ap (λ o. front o size) view)) (front_is_cut old size had)

-- the depth over the depths of the arguments is that of the application
pub depth_of_app : (inner old : Nodes) → inner ≡ old → (depths : List ℕ) → IsKept inner depths → (h : Head) (args : List At) (d : ℕ)
    → d ≡ depth_over depths args → d ≡ term_depth (build_term (all_terms old) (AppNode h (places args)))
depth_of_app inner old view depths kept h args d e =
    e ∙ (depth-apply depths (all_terms inner) kept.beside (Con h) 0 refl args ∙ ap (λ o. term_depth (build_term (all_terms o) (AppNode h (places args)))) view)

-- a whole number of 64 bits goes in as it is
pub exact_int : (inner new : Nodes) (z : ℤ) → FitsSigned w64 z → new ≡ with_term inner (IntNode (to_z w64 (of_z w64 z))) → new ≡ with_term inner (IntNode z)
exact_int inner new z fits e = e ∙ ap (λ v. with_term inner (IntNode v)) (to_z-of_z w64 z fits)
