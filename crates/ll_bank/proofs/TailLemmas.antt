-- The nodes between two sizes: copied from one bank, and taken over by another.
use Rattle.std.proofs.Common.{◌≡◌, ℕ, zero, suc, ◌+◌, ◌-◌, ◌<◌, ◌≤◌, List, [], ◌∷◌, ◌++◌, length, get_or, take, drop, refl, ap, sym, subst, ◌∙◌, inl, inr}
use Rattle.std.proofs.Common.{arith, length-append, length-drop, Some}
use Rattle.std.specs.Prelude.{slice_get, sum_by}
use Rattle.std.proofs.lemmas.Bool.{cases_lt}
use Rattle.std.proofs.lemmas.List.{append-nil, length-take-le, take-take, take_more, drop-append-le, get_or-drop, get_or-append_right}
use Rattle.std.proofs.lemmas.List.Sums.{sum_by-take-drop, sum_by-append}
use Rattle.std.proofs.lemmas.Option.{get_or_from_slice_get}
use Rattle.ll_bank.specs.declared.BankSize.{BankSize}
use Rattle.ll_bank.specs.declared.FormNode.{FormNode}
use Rattle.ll_bank.specs.Nodes.{Nodes, TermNode, VarNode, FormulaNode, TopNode, build_term, build_form, term_tree, form_tree, HasParts, Extends, IsTermBelow}
use Rattle.ll_bank.specs.Nodes.{IsFormBelow, IsWellFounded, node_of, argument_count, load_argument_count, size_of, front, HasSize, IsNotPast, with_term}
use Rattle.ll_bank.specs.Nodes.{with_form}
use Rattle.ll_bank.specs.Kept.{all_terms, all_forms}
use Rattle.ll_bank.specs.Tail.{Tail, size_after, IsBehind, IsTailOf, with_nodes, with_terms, with_forms, IsBuilt, SameTrees, Adds}
use Rattle.ll_bank.proofs.Trees.{Extends-refl, Extends-trans, term_tree-extends, form_tree-extends}
use Rattle.ll_bank.proofs.BankLemmas.{HasSize-terms, HasSize-forms, front_is_cut, term_tree-node, form_tree-node, same_build_term, same_build_form, parts_below}

-- ---- one more element of a part of a list

take_more_got : {X : Type 0} (xs : List X) (i : ℕ) (x : X) → i < length xs → slice_get xs i ≡ Some x → take (i + 1) xs ≡ take i xs ++ x ∷ []
take_more_got xs i x l e = take_more xs i x l ∙ ap (λ y. take i xs ++ y ∷ []) (get_or_from_slice_get xs i x x e)

drop_take_more : {X : Type 0} (xs : List X) (from i : ℕ) (x : X) → from ≤ i → i < length xs → slice_get xs i ≡ Some x
    → drop from (take (i + 1) xs) ≡ drop from (take i xs) ++ x ∷ []
drop_take_more xs from i x le l e =
    ap (drop from) (take_more_got xs i x l e) ∙ drop-append-le from (take i xs) (x ∷ []) (let k =
    length-take-le i xs (let h : i ≤ length xs = omega arith in h) in omega arith)

append_more : {X : Type 0} (xs ys : List X) (x : X) → (xs ++ ys) ++ x ∷ [] ≡ xs ++ (ys ++ x ∷ [])
append_more [] ys x = refl
append_more (y ∷ xs) ys x = ap (λ zs. y ∷ zs) (append_more xs ys x)

-- ---- a copy grows by a node

pub more_terms_copied : (bank nodes now next : Nodes) (from at : ℕ) (x : TermNode) → now ≡ with_terms nodes (drop from (take at bank.terms))
    → next ≡ with_term now x → from ≤ at
    → at < length bank.terms → slice_get bank.terms at ≡ Some x → next ≡ with_terms nodes (drop from (take (at + 1) bank.terms))
more_terms_copied bank nodes now next from at x is more le l e =
    more ∙ (ap (λ n. with_term n x) is
    ∙
    (λ i. record {
      terms = (append_more nodes.terms (drop from (take at bank.terms)) x
          ∙ ap (λ xs. nodes.terms ++ xs) (sym (drop_take_more bank.terms from at x le l e))) i;
      forms = nodes.forms;
    }))

pub more_forms_copied : (bank nodes now next : Nodes) (from at : ℕ) (x : FormulaNode) → now ≡ with_forms nodes (drop from (take at bank.forms))
    → next ≡ with_form now x → from ≤ at
    → at < length bank.forms → slice_get bank.forms at ≡ Some x → next ≡ with_forms nodes (drop from (take (at + 1) bank.forms))
more_forms_copied bank nodes now next from at x is more le l e =
    more ∙ (ap (λ n. with_form n x) is
    ∙
    (λ i. record {
      terms = nodes.terms;
      forms = (append_more nodes.forms (drop from (take at bank.forms)) x
          ∙ ap (λ xs. nodes.forms ++ xs) (sym (drop_take_more bank.forms from at x le l e))) i;
    }))

-- the same of a bank that takes nodes over
pub none_added : (bank : Nodes) → Adds bank bank (with_terms bank [])
none_added bank = record { keeps = Extends-refl bank; is = λ i. record { terms = sym (append-nil bank.terms) i; forms = bank.forms } }

pub none_added_forms : (bank : Nodes) → Adds bank bank (with_forms bank [])
none_added_forms bank = record { keeps = Extends-refl bank; is = λ i. record { terms = bank.terms; forms = sym (append-nil bank.forms) i } }

pub term_added : (bank now next nodes : Nodes) (i : ℕ) (x : TermNode) → Adds bank now (with_terms bank (take i nodes.terms)) → next ≡ with_term now x
    → Extends now next
    → i < length nodes.terms → slice_get nodes.terms i ≡ Some x → Adds bank next (with_terms bank (take (i + 1) nodes.terms))
term_added bank now next nodes i x adds more keeps l e = record {
  keeps = Extends-trans adds.keeps keeps;
  is = more ∙ (ap (λ n. with_term n x) adds.is
      ∙ (λ j. record {
        terms = (append_more bank.terms (take i nodes.terms) x ∙ ap (λ xs. bank.terms ++ xs) (sym (take_more_got nodes.terms i x l e))) j;
        forms = bank.forms;
      }));
}

pub form_added : (bank now next nodes : Nodes) (i : ℕ) (x : FormulaNode) → Adds bank now (with_forms bank (take i nodes.forms)) → next ≡ with_form now x
    → Extends now next
    → i < length nodes.forms → slice_get nodes.forms i ≡ Some x → Adds bank next (with_forms bank (take (i + 1) nodes.forms))
form_added bank now next nodes i x adds more keeps l e = record {
  keeps = Extends-trans adds.keeps keeps;
  is = more ∙ (ap (λ n. with_form n x) adds.is
      ∙
      (λ j. record {
        terms = bank.terms;
        forms = (append_more bank.forms (take i nodes.forms) x
            ∙ ap (λ xs. bank.forms ++ xs) (sym (take_more_got nodes.forms i x l e))) j;
      }));
}

-- the next node has its parts below the nodes so far
pub term_fits : (bank now nodes : Nodes) (i : ℕ) (x : TermNode) → now ≡ with_terms bank (take i nodes.terms) → i < length nodes.terms
    → slice_get nodes.terms i ≡ Some x
    → IsTermBelow (length bank.terms + i) (get_or nodes.terms i x) → IsTermBelow (length now.terms) x
term_fits bank now nodes i x is l e below =
    subst (λ n. IsTermBelow (length n.terms) x) (sym is)
    (let a = length-append bank.terms (take i nodes.terms) in let b = length-take-le i nodes.terms (let h : i ≤ length nodes.terms = omega arith in h) in
    subst (λ k. IsTermBelow k x) (let q : length bank.terms + i ≡ length (bank.terms ++ take i nodes.terms) = omega arith in q)
    (subst (IsTermBelow (length bank.terms + i)) (get_or_from_slice_get nodes.terms i x x e) below))

pub form_fits : (bank now nodes : Nodes) (i : ℕ) (view : FormNode) → now ≡ with_forms bank (take i nodes.forms) → i < length nodes.forms
    → slice_get nodes.forms i ≡ Some (node_of view)
    → IsFormBelow (length bank.terms) (length bank.forms + i) (get_or nodes.forms i (node_of view)) → HasParts now view
form_fits bank now nodes i view is l e below =
    subst (λ n. HasParts n view) (sym is)
    (let a = length-append bank.forms (take i nodes.forms) in let b = length-take-le i nodes.forms (let h : i ≤ length nodes.forms = omega arith in h) in
    parts_below (length bank.terms) (length (bank.forms ++ take i nodes.forms)) view
    (subst (λ k. IsFormBelow (length bank.terms) k (node_of view)) (let q : length bank.forms + i ≡ length (bank.forms ++ take i nodes.forms) = omega arith in
    q)
    (subst (IsFormBelow (length bank.terms) (length bank.forms + i)) (get_or_from_slice_get nodes.forms i (node_of view) (node_of view) e) below)))

-- ---- the nodes between two sizes

-- how many there are, and with how many children
between : {N : Type 0} (count : N → ℕ) (xs : List N) (n m a b : ℕ) → n ≤ m → sum_by count (take n xs) ≡ a → sum_by count (take m xs) ≡ b
    → a + sum_by count (drop n (take m xs)) ≡ b
between count xs n m a b le e f =
    let g = sum_by-take-drop count (take m xs) n in let h = ap (sum_by count) (take-take n m xs le) in omega arith

length-between : {N : Type 0} (xs : List N) (n m : ℕ) → n ≤ m → m ≤ length xs → n + length (drop n (take m xs)) ≡ m
length-between xs n m le inside = let a = length-drop n (take m xs) in let b = length-take-le m xs inside in omega arith

pub between_sizes : (bank nodes : Nodes) (from to : BankSize) → HasSize bank from → HasSize bank to → IsNotPast from to
    → nodes ≡ record { terms = drop from.terms (take to.terms bank.terms); forms = drop from.forms (take to.forms bank.forms) }
    → IsBehind (record { from = from; to = to; nodes = nodes })
between_sizes bank nodes from to f t past is = rw is (record {
  sizes = λ i. record {
    terms = length-between bank.terms from.terms to.terms past.terms (HasSize-terms bank to t) i;
    forms = length-between bank.forms from.forms to.forms past.forms (HasSize-forms bank to t) i;
    arguments = between argument_count bank.terms from.terms to.terms from.arguments to.arguments past.terms (ap (λ s. s.arguments) f.counts)
        (ap (λ s. s.arguments) t.counts) i;
    load_arguments = between load_argument_count bank.forms from.forms to.forms from.load_arguments to.load_arguments past.forms
        (ap (λ s. s.load_arguments) f.counts) (ap (λ s. s.load_arguments) t.counts) i;
  };
  terms = λ i d l.
      let n = length-between bank.terms from.terms to.terms past.terms (HasSize-terms bank to t) in
      let m = length-take-le to.terms bank.terms (HasSize-terms bank to t) in
      subst (IsTermBelow (from.terms + i)) (sym (get_or-drop from.terms (take to.terms bank.terms) i d)) (t.whole.terms (from.terms + i) d (omega arith));
  forms = λ i d l.
      let n = length-between bank.forms from.forms to.forms past.forms (HasSize-forms bank to t) in
      let m = length-take-le to.forms bank.forms (HasSize-forms bank to t) in
      let k = length-take-le to.terms bank.terms (HasSize-terms bank to t) in
      subst (IsFormBelow to.terms (from.forms + i)) (sym (get_or-drop from.forms (take to.forms bank.forms) i d))
      (subst (λ z. IsFormBelow z (from.forms + i) (get_or (take to.forms bank.forms) (from.forms + i) d)) k (t.whole.forms (from.forms + i) d (omega arith)));
})

-- ---- what the places of the longer bank show

-- its size is the later one
pub extended_size : (inner tail : Tail) → inner ≡ tail → IsBehind inner → (old new : Nodes) → size_of old ≡ tail.from → new ≡ with_nodes old tail.nodes
    → size_of new ≡ tail.to
extended_size inner tail view behind old new starts is =
    ap size_of is
    ∙ ((λ i. record {
      terms = length-append old.terms tail.nodes.terms i;
      forms = length-append old.forms tail.nodes.forms i;
      arguments = sum_by-append argument_count old.terms tail.nodes.terms i;
      load_arguments = sum_by-append load_argument_count old.forms tail.nodes.forms i;
    })
    ∙ (ap (λ s. size_after s tail.nodes) starts ∙ (subst IsBehind view behind).sizes))

-- nodes on lower ones show what they build
pub built : (nodes : Nodes) → IsWellFounded nodes → IsBuilt nodes
built nodes low = record { terms = term_tree-node nodes low; forms = form_tree-node nodes low }

module _ (bank : Nodes) (tail : Tail) (of : IsTailOf bank tail) (old new : Nodes) (keeps : Extends old new) (is : new ≡ with_nodes old tail.nodes)
    (size : size_of old ≡ tail.from)
    (ends : size_of new ≡ tail.to) (low : IsWellFounded new) (same : SameTrees tail.from bank old) where
  abbrev part : Nodes
  part = front bank tail.to

  part_trees : Extends part bank
  part_trees = (front_is_cut bank tail.to of.to).trees

  part_terms : length part.terms ≡ tail.to.terms
  part_terms = length-take-le tail.to.terms bank.terms (HasSize-terms bank tail.to of.to)

  part_forms : length part.forms ≡ tail.to.forms
  part_forms = length-take-le tail.to.forms bank.forms (HasSize-forms bank tail.to of.to)

  -- behind the old nodes both have the same ones
  same_term_node : (at : ℕ) (d : TermNode) → tail.from.terms ≤ at → get_or new.terms at d ≡ get_or part.terms at d
  same_term_node at d le =
      ap (λ n. get_or n.terms at d) is
      ∙ (get_or-append_right old.terms tail.nodes.terms tail.from.terms at d (ap (λ s. s.terms) size) le
      ∙ (ap (λ xs. get_or xs (at - tail.from.terms) d) of.terms
      ∙ (get_or-drop tail.from.terms part.terms (at - tail.from.terms) d
      ∙ ap (λ k. get_or part.terms k d) (let q : tail.from.terms + (at - tail.from.terms) ≡ at = omega arith in q))))

  same_form_node : (at : ℕ) (d : FormulaNode) → tail.from.forms ≤ at → get_or new.forms at d ≡ get_or part.forms at d
  same_form_node at d le =
      ap (λ n. get_or n.forms at d) is
      ∙ (get_or-append_right old.forms tail.nodes.forms tail.from.forms at d (ap (λ s. s.forms) size) le
      ∙ (ap (λ xs. get_or xs (at - tail.from.forms) d) of.forms
      ∙ (get_or-drop tail.from.forms part.forms (at - tail.from.forms) d
      ∙ ap (λ k. get_or part.forms k d) (let q : tail.from.forms + (at - tail.from.forms) ≡ at = omega arith in q))))

  old_terms : (at : ℕ) → at < tail.from.terms → at < tail.to.terms → term_tree new at ≡ term_tree part at
  old_terms at l m =
      let e = ap (λ s. s.terms) size in let p = part_terms in
      term_tree-extends keeps at (omega arith) ∙ (same.terms at l ∙ term_tree-extends part_trees at (omega arith))

  old_forms : (at : ℕ) → at < tail.from.forms → at < tail.to.forms → form_tree new at ≡ form_tree part at
  old_forms at l m =
      let e = ap (λ s. s.forms) size in let p = part_forms in
      form_tree-extends keeps at (omega arith) ∙ (same.forms at l ∙ form_tree-extends part_trees at (omega arith))

  terms_within : (n at : ℕ) → at < n → at < tail.to.terms → term_tree new at ≡ term_tree part at
  unfolding term_tree
  terms_within zero at l m = absurd (omega arith)
  terms_within (suc n) at l m = elim (cases_lt at tail.from.terms) [
    | inl h ↦ old_terms at h m
    | inr h ↦
        let e = ap (λ s. s.terms) ends in let p = part_terms in
        term_tree-node new low at (VarNode 0) (omega arith)
        ∙ (ap (build_term (all_terms new)) (same_term_node at (VarNode 0) h)
        ∙ (same_build_term (all_terms new) (all_terms part) at (λ a b. terms_within n a (omega arith) (omega arith)) (get_or part.terms at (VarNode 0))
        (of.to.whole.terms at (VarNode 0) (omega arith))
        ∙ sym (term_tree-node part of.to.whole at (VarNode 0) (omega arith))))
  ]

  same_terms : (at : ℕ) → at < tail.to.terms → term_tree new at ≡ term_tree part at
  same_terms at m = terms_within (suc at) at (omega arith) m

  forms_within : (n at : ℕ) → at < n → at < tail.to.forms → form_tree new at ≡ form_tree part at
  unfolding form_tree
  forms_within zero at l m = absurd (omega arith)
  forms_within (suc n) at l m = elim (cases_lt at tail.from.forms) [
    | inl h ↦ old_forms at h m
    | inr h ↦
        let e = ap (λ s. s.forms) ends in let p = part_forms in let q = part_terms in
        form_tree-node new low at TopNode (omega arith)
        ∙ (ap (build_form (term_tree new) (all_forms new)) (same_form_node at TopNode h)
        ∙ (same_build_form (term_tree new) (term_tree part) tail.to.terms same_terms (all_forms new) (all_forms part) at
        (λ a b. forms_within n a (omega arith) (omega arith)) (get_or part.forms at TopNode)
        (subst (λ k. IsFormBelow k at (get_or part.forms at TopNode)) q (of.to.whole.forms at TopNode (omega arith)))
        ∙ sym (form_tree-node part of.to.whole at TopNode (omega arith))))
  ]

  pub same_trees : SameTrees tail.to bank new
  same_trees = record {
    terms = λ at m. let p = part_terms in same_terms at m ∙ sym (term_tree-extends part_trees at (omega arith));
    forms = λ at m. let p = part_forms in forms_within (suc at) at (omega arith) m ∙ sym (form_tree-extends part_trees at (omega arith));
  }
