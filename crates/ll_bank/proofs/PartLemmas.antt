-- Applications, the parts of terms and formulas, and nodes that are equal by their test.
use Rattle.std.proofs.Common.{◌≡◌, ℕ, ◌+◌, ◌<◌, true, false, List, [], ◌∷◌, ◌++◌, length, map, All, get_or, refl, ap, sym, ◌∙◌}
use Rattle.std.proofs.Common.{arith, eqb, true≢false, Some, Bor}
use Rattle.std.specs.Prelude.{◌&&◌, sum_by, slice_get}
use Rattle.std.specs.List.{list_all}
use Rattle.std.proofs.Math.ListN.{get_or-append}
use Rattle.std.proofs.lemmas.Bool.{and_parts, eqb-true}
use Rattle.std.proofs.lemmas.Bool.Decides.{Decides-int_eq}
use Rattle.std.specs.Bool.{◌==◌}
use lib.Pointwise.{pointwise}
use Rattle.std.proofs.lemmas.List.{map-append}
use Rattle.std.proofs.lemmas.List.Elements.{All-cons, All-head, All-tail}
use Rattle.std.proofs.lemmas.List.Sums.{sum_by-cons}
use Rattle.std.proofs.lemmas.Option.{get_or_from_slice_get}
use Rattle.ll_bank.specs.declared.At.{At}
use Rattle.ll_bank.specs.declared.FormAt.{FormAt}
use Rattle.ll_bank.specs.declared.Head.{Head}
use Rattle.ll_bank.specs.declared.Head.TheVariants.{Name, Eigen, Bound}
use Rattle.ll_bank.specs.declared.TermView.{TermView}
use Rattle.ll_bank.specs.declared.TermView.TheVariants.{Var as VarView, Int as IntView, App as AppView}
use Rattle.ll_bank.specs.declared.FormNode.{FormNode}
use Rattle.ll_bank.specs.declared.FormNode.TheVariants.{Top as TopView, One as OneView, Atom as AtomView, With as WithView, Tensor as TensorView}
use Rattle.ll_bank.specs.declared.FormNode.TheVariants.{Plus as PlusView, Bang as BangView, Lolli as LolliView, Imp as ImpView, Forall as ForallView}
use Rattle.ll_bank.specs.declared.FormNode.TheVariants.{Exists as ExistsView, Use as UseView, Is as IsView, Less as LessView, Most as MostView}
use Rattle.ll_bank.specs.Term.{Term, Var, Int, Con, Ap, Env, apply, app, close, close_head, is_spine, applies_heads}
use Rattle.ll_bank.specs.Form.{Form, Top, One, Atom, With, Tensor, Plus, Bang, Lolli, Imp, Forall, Exists, Use, Num, Is, Less, Most}
use Rattle.ll_bank.specs.Nodes.{Nodes, VarNode, IntNode, AppNode, FormulaNode, TopNode, AtomNode, WithNode, TensorNode, PlusNode, BangNode, LolliNode, ImpNode}
use Rattle.ll_bank.specs.Nodes.{ForallNode, ExistsNode, UseNode, NumNode, grow, build_term, build_form, term_tree, term_trees, HasTerm, HasForm}
use Rattle.ll_bank.specs.Nodes.{TermNode, HasPartsBelow, Extends, IsTermView, places, node_of_term, node_of, form_of}
use Rattle.ll_bank.specs.Kept.{all_terms}
use Rattle.ll_bank.specs.Opened.{Spot, term_node_at, term_parts, form_parts, form_node_at, term_size, form_size, term_size_at, term_parts_at, form_parts_at}
use Rattle.ll_bank.proofs.BankLemmas.{build_parts, build_app}
use Rattle.ll_bank.specs.contracts.HeadPartialEq.TheImpl.{eq-value as head_eq_value}
use Rattle.ll_bank.specs.contracts.TermViewPartialEq.TheImpl.{eq-value as view_eq_value}
use Rattle.ll_bank.specs.contracts.FormNodePartialEq.TheImpl.{eq-value as node_eq_value}

-- ---- applications

pub close-apply : (e : Env) (f : Term) (ts : List Term) → close e (apply f ts) ≡ apply (close e f) (map (close e) ts)
close-apply e f [] = refl
close-apply e f (t ∷ ts) = close-apply e (Ap f t) ts

pub apply-append : (f : Term) (ts us : List Term) → apply f (ts ++ us) ≡ apply (apply f ts) us
apply-append f [] us = refl
apply-append f (t ∷ ts) us = apply-append (Ap f t) ts us

-- a term that has arguments behind heads alone has a head where it is applied
spine_below : (f : Term) (ts : List Term) → applies_heads (apply f ts) ≡ true → applies_heads f ≡ true
spine_below f [] h = h
spine_below f (t ∷ ts) h =
    let p = spine_below (Ap f t) ts h in (and_parts (is_spine f) (applies_heads f) (and_parts (is_spine f && applies_heads f) (applies_heads t) p).0).1

pub spine_applied : (f t : Term) (ts : List Term) → applies_heads (apply f (t ∷ ts)) ≡ true → is_spine f ≡ true
spine_applied f t ts h = let p = spine_below (Ap f t) ts h in
    (and_parts (is_spine f) (applies_heads f) (and_parts (is_spine f && applies_heads f) (applies_heads t) p).0).0

-- and so have its arguments
pub heads_args : (f : Term) (ts : List Term) → applies_heads (apply f ts) ≡ true → All (λ t. applies_heads t ≡ true) ts
heads_args f [] h = λ k d l. absurd (omega arith)
heads_args f (t ∷ ts) h =
    let p = spine_below (Ap f t) ts h in
    All-cons (λ u. applies_heads u ≡ true) t ts (and_parts (is_spine f && applies_heads f) (applies_heads t) p).1 (heads_args (Ap f t) ts h)

pub opened_app : (e : Env) (t : Term) (h : Head) (ts us : List Term) → t ≡ app h ts → us ≡ map (close e) ts → close e t ≡ apply (close_head e h) us
opened_app e t h ts us p q = ap (close e) p ∙ (close-apply e (Con h) ts ∙ ap (apply (close_head e h)) (sym q))

-- a term that gets arguments begins with a head
pub spine_of_value : (bank : Nodes) (t : Term) (args : List At) → (length args == 0) ≡ false → applies_heads (apply t (term_trees bank args)) ≡ true
    → is_spine t ≡ true
spine_of_value bank t [] e h = absurd (true≢false e)
spine_of_value bank t (a ∷ args) e h = spine_applied t (term_tree bank a.0) (term_trees bank args) h

-- more arguments behind those of an application
pub more_args : (bank : Nodes) (t : Term) (h : Head) (own args all : List At) → t ≡ app h (term_trees bank own) → all ≡ own ++ args
    → app h (term_trees bank all) ≡ apply t (term_trees bank args)
more_args bank t h own args all e f =
    ap (λ xs. app h (term_trees bank xs)) f
    ∙ (ap (app h) (map-append (λ (a : At). term_tree bank a.0) own args)
    ∙ (apply-append (Con h) (term_trees bank own) (term_trees bank args) ∙ ap (λ u. apply u (term_trees bank args)) (sym e)))

pub load_heads : (e : Env) (bank : Nodes) (args : List At) → list_all applies_heads (map (close e) (term_trees bank args)) ≡ true
    → All (λ (a : At). applies_heads (close e (term_tree bank a.0)) ≡ true) args
load_heads e bank [] h = λ j d l. absurd (omega arith)
load_heads e bank (a ∷ args) h =
    let p = and_parts (applies_heads (close e (term_tree bank a.0))) (list_all applies_heads (map (close e) (term_trees bank args))) h in
    All-cons (λ (x : At). applies_heads (close e (term_tree bank x.0)) ≡ true) a args p.0 (load_heads e bank args p.1)

-- ---- sizes

pub term_size-apply : (f : Term) (ts : List Term) → term_size (apply f ts) ≡ term_size f + sum_by term_size ts
term_size-apply f [] = omega arith
term_size-apply f (t ∷ ts) = let e = term_size-apply (Ap f t) ts in let g = sum_by-cons term_size t ts in omega arith

pub term_size-some : (t : Term) → 0 < term_size t
term_size-some (Var x) = omega arith
term_size-some (Int z) = omega arith
term_size-some (Con h) = omega arith
term_size-some (Ap f a) = let p = term_size-some f in omega arith

pub form_size-some : (f : Form) → 0 < form_size f
form_size-some Top = omega arith
form_size-some One = omega arith
form_size-some (Atom a) = omega arith
form_size-some (With f g) = omega arith
form_size-some (Tensor f g) = omega arith
form_size-some (Plus f g) = omega arith
form_size-some (Bang f) = omega arith
form_size-some (Lolli f g) = omega arith
form_size-some (Imp f g) = omega arith
form_size-some (Forall f) = omega arith
form_size-some (Exists f) = omega arith
form_size-some (Use m ts f) = omega arith
form_size-some (Num r t u) = omega arith

-- the arguments of a term as parts
pub sizes_of_args : (bank : Nodes) (n : ℕ) (args : List At) → sum_by (term_size_at bank) (map (λ (a : ℕ). let k : Spot = (a, n) in k) (places args))
    ≡ sum_by term_size (term_trees bank args)
sizes_of_args bank n [] = refl
sizes_of_args bank n (a ∷ args) =
    sum_by-cons (term_size_at bank) (a.0, n) (map (λ (b : ℕ). let k : Spot = (b, n) in k) (places args))
    ∙ (ap (λ m. term_size (term_tree bank a.0) + m) (sizes_of_args bank n args) ∙ sym (sum_by-cons term_size (term_tree bank a.0) (term_trees bank args)))

pub sum_same : (f g : Spot → ℕ) (ps : List Spot) → All (λ p. f p ≡ g p) ps → sum_by f ps ≡ sum_by g ps
sum_same f g [] h = refl
sum_same f g (p ∷ ps) h =
    let e = sum_by-cons f p ps in let e' = sum_by-cons g p ps in let a = All-head (λ q. f q ≡ g q) p ps h in
    let b = sum_same f g ps (All-tail (λ q. f q ≡ g q) p ps h) in omega arith

-- ---- nodes and their parts

-- the node that is seen at a place is the one that stands there
pub node_seen : (nodes : Nodes) (at : ℕ) (n : TermNode) → slice_get nodes.terms at ≡ Some n → term_node_at nodes at ≡ n
node_seen nodes at n e = get_or_from_slice_get nodes.terms at n (VarNode 0) e

pub form_node_seen : (nodes : Nodes) (at : ℕ) (n : FormulaNode) → slice_get nodes.forms at ≡ Some n → form_node_at nodes at ≡ n
form_node_seen nodes at n e = get_or_from_slice_get nodes.forms at n TopNode e

pub one_part : (at n f m : ℕ) → f < at → All (λ (p : Spot). p.0 < at) ((f, m) ∷ [])
one_part at n f m l = All-cons (λ (p : Spot). p.0 < at) (f, m) [] l (λ j d k. absurd (omega arith))

pub two_parts : (at n f g m : ℕ) → f < at → g < at → All (λ (p : Spot). p.0 < at) ((f, m) ∷ (g, m) ∷ [])
two_parts at n f g m l k = All-cons (λ (p : Spot). p.0 < at) (f, m) ((g, m) ∷ []) l (one_part at n g m k)

pub no_parts : (at : ℕ) → All (λ (p : Spot). p.0 < at) []
no_parts at = λ j d k. absurd (omega arith)

-- arguments as parts, and as places
pub spots_of_args : {X : Type 0} (f : Spot → X) (n : ℕ) (args : List At)
    → map (λ (a : At). f (a.0, n)) args ≡ map f (map (λ (a : ℕ). let k : Spot = (a, n) in k) (places args))
spots_of_args f n [] = refl
spots_of_args f n (a ∷ args) = ap (λ xs. f (a.0, n) ∷ xs) (spots_of_args f n args)

-- ---- nodes that are equal by their test

same_places : (xs ys : List At) → pointwise (λ (x y : At). eqb x.0 y.0) xs ys ≡ true → places xs ≡ places ys
same_places [] [] e = refl
same_places [] (y ∷ ys) e = absurd (true≢false (sym e))
same_places (x ∷ xs) [] e = absurd (true≢false (sym e))
same_places (x ∷ xs) (y ∷ ys) e =
    let p = and_parts (eqb x.0 y.0) (pointwise (λ (a b : At). eqb a.0 b.0) xs ys) e in let q = same_places xs ys p.1 in λ i. eqb-true x.0 y.0 p.0 i ∷ q i

pub same_heads : (x y : Head) → (head_eq_value).it x y ≡ true → x ≡ y
same_heads (Name m) (Name n) e = ap Name (eqb-true m n e)
same_heads (Eigen m) (Eigen n) e = ap Eigen (eqb-true m n e)
same_heads (Bound m) (Bound n) e = ap Bound (eqb-true m n e)
same_heads x y e = absurd (true≢false (sym e))

pub same_view : (x y : TermView) → (view_eq_value).it x y ≡ true → node_of_term x ≡ node_of_term y
same_view (VarView m) (VarView n) e = ap VarNode (eqb-true m n e)
same_view (IntView m) (IntView n) e = ap IntNode ((Decides-int_eq m n).0 e)
same_view (AppView h xs) (AppView k ys) e =
    let p = and_parts ((head_eq_value).it h k) (pointwise (λ (a b : At). eqb a.0 b.0) xs.now ys.now) e in
    λ i. AppNode (same_heads h k p.0 i) (same_places xs.now ys.now p.1 i)
same_view x y e = absurd (true≢false (sym e))

pub same_node : (x y : FormNode) → (node_eq_value).it x y ≡ true → node_of x ≡ node_of y
same_node TopView TopView e = refl
same_node OneView OneView e = refl
same_node (AtomView a) (AtomView b) e = ap AtomNode (eqb-true a.0 b.0 e)
same_node (WithView f g) (WithView h k) e = let p = and_parts (eqb f.0 h.0) (eqb g.0 k.0) e in λ i. WithNode (eqb-true f.0 h.0 p.0 i) (eqb-true g.0 k.0 p.1 i)
same_node (TensorView f g) (TensorView h k) e = let p = and_parts (eqb f.0 h.0) (eqb g.0 k.0) e in
    λ i. TensorNode (eqb-true f.0 h.0 p.0 i) (eqb-true g.0 k.0 p.1 i)
same_node (PlusView f g) (PlusView h k) e = let p = and_parts (eqb f.0 h.0) (eqb g.0 k.0) e in λ i. PlusNode (eqb-true f.0 h.0 p.0 i) (eqb-true g.0 k.0 p.1 i)
same_node (BangView f) (BangView h) e = ap BangNode (eqb-true f.0 h.0 e)
same_node (LolliView f g) (LolliView h k) e = let p = and_parts (eqb f.0 h.0) (eqb g.0 k.0) e in
    λ i. LolliNode (eqb-true f.0 h.0 p.0 i) (eqb-true g.0 k.0 p.1 i)
same_node (ImpView f g) (ImpView h k) e = let p = and_parts (eqb f.0 h.0) (eqb g.0 k.0) e in λ i. ImpNode (eqb-true f.0 h.0 p.0 i) (eqb-true g.0 k.0 p.1 i)
same_node (ForallView f) (ForallView h) e = ap ForallNode (eqb-true f.0 h.0 e)
same_node (ExistsView f) (ExistsView h) e = ap ExistsNode (eqb-true f.0 h.0 e)
same_node (UseView m xs f) (UseView n ys h) e =
    let p = and_parts (eqb m n) (pointwise (λ (a b : At). eqb a.0 b.0) xs.now ys.now && eqb f.0 h.0) e in
    let q = and_parts (pointwise (λ (a b : At). eqb a.0 b.0) xs.now ys.now) (eqb f.0 h.0) p.1 in
    λ i. UseNode (eqb-true m n p.0 i) (same_places xs.now ys.now q.0 i) (eqb-true f.0 h.0 q.1 i)
same_node (IsView f g) (IsView h k) e = let p = and_parts (eqb f.0 h.0) (eqb g.0 k.0) e in λ i. NumNode Is (eqb-true f.0 h.0 p.0 i) (eqb-true g.0 k.0 p.1 i)
same_node (LessView f g) (LessView h k) e = let p = and_parts (eqb f.0 h.0) (eqb g.0 k.0) e in
    λ i. NumNode Less (eqb-true f.0 h.0 p.0 i) (eqb-true g.0 k.0 p.1 i)
same_node (MostView f g) (MostView h k) e = let p = and_parts (eqb f.0 h.0) (eqb g.0 k.0) e in
    λ i. NumNode Most (eqb-true f.0 h.0 p.0 i) (eqb-true g.0 k.0 p.1 i)
same_node x y e = absurd (true≢false (sym e))

-- so they build one tree
pub same_form_of : (bank : Nodes) (x y : FormNode) → node_of x ≡ node_of y → form_of bank x ≡ form_of bank y
same_form_of bank x y e = sym (build_parts bank x) ∙ (ap (build_form (term_tree bank) (grow (build_form (term_tree bank)) [] bank.forms)) e
    ∙ build_parts bank y)

view_builds : (bank : Nodes) (at : ℕ) (x : TermView) → IsTermView bank at x → term_tree bank at ≡ build_term (all_terms bank) (node_of_term x)
view_builds bank at (VarView n) h = h
view_builds bank at (IntView z) h = h
view_builds bank at (AppView k args) h = h.0 ∙ sym (build_app bank k args.now)

pub same_term_of : (bank : Nodes) (at : ℕ) (x : TermView) (h : Head) (args : List At) → IsTermView bank at x → node_of_term x ≡ AppNode h (places args)
    → term_tree bank at ≡ app h (term_trees bank args)
same_term_of bank at x h args v e = view_builds bank at x v ∙ (ap (build_term (all_terms bank)) e ∙ build_app bank h args)

-- ---- a bank that grows

-- below a place there are places
pub HasTerm-below : (nodes : Nodes) (at below : ℕ) → HasTerm nodes at → below < at → HasTerm nodes below
HasTerm-below nodes at below h l = omega arith

pub HasForm-below : (nodes : Nodes) (at below : ℕ) → HasForm nodes at → below < at → HasForm nodes below
HasForm-below nodes at below h l = omega arith

module _ (first now : Nodes) (e : Extends first now) where
  pub term_parts_same : (k : Spot) → HasTerm first k.0 → term_parts_at now k ≡ term_parts_at first k
  term_parts_same k h = ap (λ node. term_parts node k.1) (ap (λ ns. get_or ns k.0 (VarNode 0)) e.terms
      ∙ get_or-append first.terms e.more_terms (VarNode 0) k.0 h)

  pub form_parts_same : (k : Spot) → HasForm first k.0 → form_parts_at now k ≡ form_parts_at first k
  form_parts_same k h = ap (λ node. form_parts node k.1) (ap (λ ns. get_or ns k.0 TopNode) e.forms ∙ get_or-append first.forms e.more_forms TopNode k.0 h)

-- a node that does not look like a load is none
pub no_load_node : (view : FormNode) → ((m : ℕ) (args : Bor (List At)) (f : FormAt) → view ≡ UseView m args f → ⊥) → (m : ℕ) (args : List ℕ) (f : ℕ)
    → node_of view ≡ UseNode m args f → ⊥
no_load_node (UseView k ats f) n m args g e = n k ats f refl
no_load_node x n m args g e = cc

-- a node without terms has one of the signs without terms
pub no_other_node : (view : FormNode) (at : ℕ) → HasPartsBelow 0 at view → ((m : ℕ) (args : List ℕ) (f : ℕ) → node_of view ≡ UseNode m args f → ⊥)
    → (view ≡ TopView → ⊥) → (view ≡ OneView → ⊥)
    → ((f g : FormAt) → view ≡ WithView f g → ⊥)
    → ((f g : FormAt) → view ≡ TensorView f g → ⊥)
    → ((f g : FormAt) → view ≡ PlusView f g → ⊥)
    → ((f : FormAt) → view ≡ BangView f → ⊥)
    → ((f g : FormAt) → view ≡ LolliView f g → ⊥)
    → ((f g : FormAt) → view ≡ ImpView f g → ⊥)
    → ((f : FormAt) → view ≡ ForallView f → ⊥)
    → ((f : FormAt) → view ≡ ExistsView f → ⊥)
    → ⊥
no_other_node TopView at h _ n _ _ _ _ _ _ _ _ _ = n refl
no_other_node OneView at h _ _ n _ _ _ _ _ _ _ _ = n refl
no_other_node (WithView f g) at h _ _ _ n _ _ _ _ _ _ _ = n f g refl
no_other_node (TensorView f g) at h _ _ _ _ n _ _ _ _ _ _ = n f g refl
no_other_node (PlusView f g) at h _ _ _ _ _ n _ _ _ _ _ = n f g refl
no_other_node (BangView f) at h _ _ _ _ _ _ n _ _ _ _ = n f refl
no_other_node (LolliView f g) at h _ _ _ _ _ _ _ n _ _ _ = n f g refl
no_other_node (ImpView f g) at h _ _ _ _ _ _ _ _ n _ _ = n f g refl
no_other_node (ForallView f) at h _ _ _ _ _ _ _ _ _ n _ = n f refl
no_other_node (ExistsView f) at h _ _ _ _ _ _ _ _ _ _ n = n f refl
no_other_node (AtomView a) at h _ _ _ _ _ _ _ _ _ _ _ = absurd (omega arith)
no_other_node (UseView m args f) at h n _ _ _ _ _ _ _ _ _ _ = n m (places args.now) f.0 refl
no_other_node (IsView t u) at h _ _ _ _ _ _ _ _ _ _ _ = absurd (let l = h.0 in omega arith)
no_other_node (LessView t u) at h _ _ _ _ _ _ _ _ _ _ _ = absurd (let l = h.0 in omega arith)
no_other_node (MostView t u) at h _ _ _ _ _ _ _ _ _ _ _ = absurd (let l = h.0 in omega arith)
