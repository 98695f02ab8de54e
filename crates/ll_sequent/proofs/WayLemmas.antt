-- The way to a leaf, step by step.
use Rattle.std.proofs.Common.{◌≡◌, ℕ, zero, suc, ◌+◌, ◌<◌, ◌≤◌, refl, ap, sym, subst, ◌∙◌, arith, true, false, List, [], ◌∷◌, ◌++◌, length, length-drop, map}
use Rattle.std.proofs.Common.{take, drop, drop-cons, length-take-le, inl, inr, reverse, get_or, Some, None}
use Rattle.std.specs.Prelude.{option_map}
use Rattle.std.specs.List.{list_all}
use Rattle.std.proofs.lemmas.Bool.{and_parts, cases_lt}
use Rattle.std.proofs.lemmas.List.{length-map, map-append, map_more, drop_all, take_all, reverse-append}
use Rattle.std.proofs.lemmas.List.Elements.{All-push, All-head, All-tail, All-take}
use Rattle.ll_list_laws.proofs.CallerLemmas.{All-reverse as all_reversed}
use Rattle.ll_bank.specs.declared.At.{At}
use Rattle.ll_bank.specs.declared.FormAt.{FormAt}
use Rattle.ll_bank.specs.declared.FormNode.{FormNode}
use Rattle.ll_bank.specs.declared.FormNode.TheVariants.{Atom as AtomView, With as WithView, Lolli as LolliView, Imp as ImpView, Forall as ForallView}
use Rattle.ll_bank.specs.Term.{Term, Var, Env, close, is_closed, applies_heads}
use Rattle.ll_bank.specs.Form.{Form, Atom, Forall, close_form, form_applies_heads}
use Rattle.ll_bank.specs.Nodes.{Nodes, form_tree, form_of, term_tree, term_trees, HasForm, HasTerm, AllInTerms, ShowsForm, ShowsTerm, IsFormView, Extends}
use Rattle.ll_bank.proofs.CallerLemmas.{HasForm-extends, form_tree-extends, term_tree-extends, AllInTerms-extends, Extends-refl, Extends-trans}
use Rattle.ll_laws.specs.Leaf.{Leaf, Needs, NeedsFree, add_premise, ways, leaf, leaf_from}
use Rattle.ll_bank.specs.Closing.{env_of}
use Rattle.ll_laws.specs.Valid.{GoalSide, ClauseSide, Scope, has_heads}
use Rattle.ll_sequent.specs.declared.leaves.Needed.{Needed}
use Rattle.ll_sequent.specs.declared.leaves.Needed.TheVariants.{Bounded, Unbounded}
use Rattle.ll_sequent.specs.declared.leaves.Opened.{Opened}
use Rattle.ll_sequent.specs.declared.leaves.Side.{Side}
use Rattle.ll_sequent.specs.Opened.{needed_in, needed_at, AreNeeded, ShowsLeaf, IsSide}
use Rattle.ll_sequent.proofs.Closings.{Puts, form_heads, heads_apply, closed_free, closed_headed}
use Rattle.ll_sequent.proofs.UnfoldLemmas.{puts_one, puts_nothing}
use Rattle.ll_sequent.proofs.LeafLemmas.{put_behind, behind_none, behind_one, leaf_left, leaf_right, leaf_no, leaf_past_atom, leaf_more_terms}

-- ---- premises in a bank that grows

pub needed_extend : {old new : Nodes} (keeps : Extends old new) (ps : List Needed) → AreNeeded old ps → AreNeeded new ps
needed_extend keeps ps h = λ k d l. HasForm-extends keeps (needed_at (get_or ps k d)).0 (h k d l)

pub needed_one : {old new : Nodes} (keeps : Extends old new) (p : Needed) → HasForm old (needed_at p).0 → needed_in new p ≡ needed_in old p
needed_one keeps (Bounded g) h = ap Needs (form_tree-extends keeps g.0 h)
needed_one keeps (Unbounded g) h = ap NeedsFree (form_tree-extends keeps g.0 h)

pub needed_same : {old new : Nodes} (keeps : Extends old new) (ps : List Needed) → AreNeeded old ps → map (needed_in new) ps ≡ map (needed_in old) ps
needed_same keeps [] h = refl
needed_same {old} keeps (p ∷ ps) h =
    λ i. needed_one keeps p (All-head (λ (p : Needed). HasForm old (needed_at p).0) p ps h) i
    ∷ needed_same keeps ps (All-tail (λ (p : Needed). HasForm old (needed_at p).0) p ps h) i

map_reverse : {X Y : Type 0} (f : X → Y) (xs : List X) → map f (reverse xs) ≡ reverse (map f xs)
map_reverse f [] = refl
map_reverse f (x ∷ xs) = ap (map f) (reverse-append (x ∷ []) xs)
    ∙ (map-append f (reverse xs) (x ∷ []) ∙ (ap (λ ys. ys ++ f x ∷ []) (map_reverse f xs) ∙ sym (reverse-append (f x ∷ []) (map f xs))))

pub closed_at : (ts : List Term) (i : ℕ) (d : Term) → i < length ts → list_all is_closed ts ≡ true → is_closed (get_or ts i d) ≡ true
closed_at [] i d l h = absurd (omega arith)
closed_at (t ∷ ts) zero d l h = (and_parts (is_closed t) (list_all is_closed ts) h).0
closed_at (t ∷ ts) (suc i) d l h = closed_at ts i d (omega arith) (and_parts (is_closed t) (list_all is_closed ts) h).1

-- what stands for the quantifiers that were passed, with these terms for them, the outermost first
abbrev pub env : List Term → Env
env ts = reverse (map (λ t. Some t) ts)

-- one term more
env_more : (ts : List Term) (n : ℕ) (d : Term) → n < length ts → env (take (n + 1) ts) ≡ Some (get_or ts n d) ∷ env (take n ts)
env_more ts n d l = ap reverse (map_more (λ (t : Term). Some t) ts n d l) ∙ reverse-append (map (λ (t : Term). Some t) (take n ts)) (Some (get_or ts n d) ∷ [])

-- What is left of a clause on the way to one of its leaves, so many quantifiers having been passed. The premises that were met come behind
-- those of the leaf that is left.
pub record IsOnWay (first : Nodes) (clause k : ℕ) (ts : List Term) (bank : Nodes) (form at passed : ℕ) (ps : List Needed) : Type 0 where
  pub keeps : Extends first bank
  pub inside : HasForm bank form
  pub scope : Scope
  pub puts : Puts (env (take passed ts)) scope []
  pub heads : has_heads true ClauseSide scope (form_tree bank form) ≡ true
  pub within : passed ≤ length ts
  pub needed : AreNeeded bank ps
  pub same : leaf (form_tree first clause) k ts ≡ option_map (put_behind (map (needed_in bank) ps))
      (leaf_from (env (take passed ts)) (form_tree bank form) at (drop passed ts))

module _ (first : Nodes) (clause k : ℕ) (ts : List Term) where
  pub way_start : (ps : List Needed) → ps ≡ [] → HasForm first clause → has_heads true ClauseSide [] (form_tree first clause) ≡ true
      → IsOnWay first clause k ts first clause k 0 ps
  way_start ps e h g = record {
    keeps = Extends-refl first;
    inside = h;
    scope = [];
    puts = puts_nothing [];
    heads = g;
    within = omega arith;
    needed = let P : List Needed → Type 0 = AreNeeded first in subst P (sym e) (λ k d l. absurd (omega arith));
    same = behind_none (leaf (form_tree first clause) k ts) ∙ ap (λ qs. option_map (put_behind (map (needed_in first) qs)) (leaf (form_tree first clause) k ts))
        (sym e);
  }

  module _ (bank : Nodes) (form : FormAt) (at passed : ℕ) (ps : List Needed) (way : IsOnWay first clause k ts bank form.0 at passed ps) where
    -- on to a part, with the same premises
    onto : (next : FormAt) (j : ℕ) → HasForm bank next.0 → has_heads true ClauseSide way.scope (form_tree bank next.0) ≡ true
        → leaf_from (env (take passed ts)) (form_tree bank form.0) at (drop passed ts)
        ≡ leaf_from (env (take passed ts)) (form_tree bank next.0) j (drop passed ts)
        → IsOnWay first clause k ts bank next.0 j passed ps
    onto next j h g e = record {
      keeps = way.keeps;
      inside = h;
      scope = way.scope;
      puts = way.puts;
      heads = g;
      within = way.within;
      needed = way.needed;
      same = way.same ∙ ap (option_map (put_behind (map (needed_in bank) ps))) e;
    }

    pub way_side : (q r : FormAt) (side : Side) → IsFormView bank form.0 (WithView q r) → IsSide (length (ways (form_tree bank q.0))) q r at side
        → IsOnWay first clause k ts bank side.form.0 side.leaf passed ps
    way_side q r side seen is =
        let i = way.inside in
        let e = env (take passed ts) in
        let p = and_parts (has_heads true ClauseSide way.scope (form_tree bank q.0)) (has_heads true ClauseSide way.scope (form_tree bank r.0))
        (sym (ap (has_heads true ClauseSide way.scope) seen.tree) ∙ way.heads) in
        elim (cases_lt at (length (ways (form_tree bank q.0)))) [
          | inl l ↦
              let s = is.0 l in
              let P : FormAt → Type 0 = λ f. IsOnWay first clause k ts bank f.0 side.leaf passed ps in
              subst P (sym s.0)
              (onto q side.leaf (let w = seen.parts.0 in omega arith) p.0
              (ap (λ f. leaf_from e f at (drop passed ts)) seen.tree
              ∙ (leaf_left e (form_tree bank q.0) (form_tree bank r.0) at (drop passed ts) l
              ∙ ap (λ j. leaf_from e (form_tree bank q.0) j (drop passed ts)) (sym s.1))))
          | inr l ↦
              let s = is.1 l in
              let P : FormAt → Type 0 = λ f. IsOnWay first clause k ts bank f.0 side.leaf passed ps in
              subst P (sym s.0)
              (onto r side.leaf (let w = seen.parts.1 in omega arith) p.1
              (ap (λ f. leaf_from e f at (drop passed ts)) seen.tree
              ∙ leaf_right e (form_tree bank q.0) (form_tree bank r.0) at side.leaf (drop passed ts) l s.1))
        ]

    -- ---- a premise, of which a bank that grew has the goal

    module _ (new : Nodes) (keeps : Extends bank new) (p : Needed) (next : FormAt) (more : List Needed) (e : more ≡ ps ++ p ∷ []) where
      past : HasForm new (needed_at p).0 → HasForm bank next.0 → has_heads true ClauseSide way.scope (form_tree bank next.0) ≡ true
          → leaf_from (env (take passed ts)) (form_tree bank form.0) at (drop passed ts)
          ≡ option_map (add_premise (needed_in new p)) (leaf_from (env (take passed ts)) (form_tree bank next.0) at (drop passed ts))
          → IsOnWay first clause k ts new next.0 at passed more
      past g h s l =
          let P : List Needed → Type 0 = AreNeeded new in
          let tree = form_tree-extends keeps next.0 h in
          let rest = leaf_from (env (take passed ts)) (form_tree bank next.0) at (drop passed ts) in
          record {
            keeps = Extends-trans way.keeps keeps;
            inside = HasForm-extends keeps next.0 h;
            scope = way.scope;
            puts = way.puts;
            heads = ap (has_heads true ClauseSide way.scope) tree ∙ s;
            within = way.within;
            needed = subst P (sym e) (All-push (λ (p : Needed). HasForm new (needed_at p).0) ps p (needed_extend keeps ps way.needed) g);
            same = way.same
                ∙ (ap (option_map (put_behind (map (needed_in bank) ps))) l
                ∙ (behind_one (map (needed_in bank) ps) (needed_in new p) rest
                ∙ (ap (λ qs. option_map (put_behind (qs ++ needed_in new p ∷ [])) rest) (sym (needed_same keeps ps way.needed))
                ∙ ((λ i. option_map (put_behind (sym (ap (map (needed_in new)) e ∙ map-append (needed_in new) ps (p ∷ [])) i))
                (leaf_from (env (take passed ts)) (sym tree i) at (drop passed ts)))))));
          }

    pub way_lolli : (new : Nodes) → Extends bank new → (g next image : FormAt) (more : List Needed) → IsFormView bank form.0 (LolliView g next)
        → ShowsForm new image.0 (close_form (env (take passed ts)) (form_tree bank g.0))
        → more ≡ ps ++ Bounded image ∷ [] → IsOnWay first clause k ts new next.0 at passed more
    way_lolli new keeps g next image more seen shows e =
        let i = way.inside in let y = seen.parts.1 in
        let p = and_parts (has_heads true GoalSide way.scope (form_tree bank g.0)) (has_heads true ClauseSide way.scope (form_tree bank next.0))
        (sym (ap (has_heads true ClauseSide way.scope) seen.tree) ∙ way.heads) in
        past new keeps (Bounded image) next more e shows.inside (omega arith) p.1
        (ap (λ f. leaf_from (env (take passed ts)) f at (drop passed ts)) seen.tree
        ∙ ap (λ f. option_map (add_premise (Needs f)) (leaf_from (env (take passed ts)) (form_tree bank next.0) at (drop passed ts))) (sym shows.tree))

    pub way_imp : (new : Nodes) → Extends bank new → (g next image : FormAt) (more : List Needed) → IsFormView bank form.0 (ImpView g next)
        → ShowsForm new image.0 (close_form (env (take passed ts)) (form_tree bank g.0))
        → more ≡ ps ++ Unbounded image ∷ [] → IsOnWay first clause k ts new next.0 at passed more
    way_imp new keeps g next image more seen shows e =
        let i = way.inside in let y = seen.parts.1 in
        let p = and_parts (has_heads true GoalSide way.scope (form_tree bank g.0)) (has_heads true ClauseSide way.scope (form_tree bank next.0))
        (sym (ap (has_heads true ClauseSide way.scope) seen.tree) ∙ way.heads) in
        past new keeps (Unbounded image) next more e shows.inside (omega arith) p.1
        (ap (λ f. leaf_from (env (take passed ts)) f at (drop passed ts)) seen.tree
        ∙ ap (λ f. option_map (add_premise (NeedsFree f)) (leaf_from (env (take passed ts)) (form_tree bank next.0) at (drop passed ts))) (sym shows.tree))

    -- heads alone have arguments in a goal with values
    goal_heads : (g : Form) → has_heads true GoalSide way.scope g ≡ true → form_applies_heads (close_form (env (take passed ts)) g) ≡ true
    goal_heads g h = heads_apply GoalSide [] (close_form (env (take passed ts)) g) (form_heads way.puts GoalSide g h)

    pub lolli_heads : (g next : FormAt) → IsFormView bank form.0 (LolliView g next)
        → form_applies_heads (close_form (env (take passed ts)) (form_tree bank g.0)) ≡ true
    lolli_heads g next seen =
        goal_heads (form_tree bank g.0) (and_parts (has_heads true GoalSide way.scope (form_tree bank g.0))
        (has_heads true ClauseSide way.scope (form_tree bank next.0))
        (sym (ap (has_heads true ClauseSide way.scope) seen.tree) ∙ way.heads)).0

    pub imp_heads : (g next : FormAt) → IsFormView bank form.0 (ImpView g next)
        → form_applies_heads (close_form (env (take passed ts)) (form_tree bank g.0)) ≡ true
    imp_heads g next seen =
        goal_heads (form_tree bank g.0) (and_parts (has_heads true GoalSide way.scope (form_tree bank g.0))
        (has_heads true ClauseSide way.scope (form_tree bank next.0))
        (sym (ap (has_heads true ClauseSide way.scope) seen.tree) ∙ way.heads)).0

    pub atom_heads : (a : At) → IsFormView bank form.0 (AtomView a) → applies_heads (close (env (take passed ts)) (term_tree bank a.0)) ≡ true
    atom_heads a seen =
        heads_apply ClauseSide [] (Atom (close (env (take passed ts)) (term_tree bank a.0)))
        (form_heads way.puts ClauseSide (Atom (term_tree bank a.0)) (sym (ap (has_heads true ClauseSide way.scope) seen.tree) ∙ way.heads))

    -- ---- a quantifier

    module _ (body : FormAt) (seen : IsFormView bank form.0 (ForallView body)) where
      pub way_forall : list_all is_closed ts ≡ true → passed < length ts → IsOnWay first clause k ts bank body.0 at (passed + 1) ps
      way_forall c l =
          let t = get_or ts passed (Var 0) in
          let more = env_more ts passed (Var 0) l in
          let closed = closed_at ts passed (Var 0) l c in
          let P : Env → Type 0 = λ e. Puts e (false ∷ way.scope) [] in
          let rest = drop (passed + 1) ts in
          let d : drop passed ts ≡ t ∷ rest = drop-cons ts passed (Var 0) l ∙ (λ i. t ∷ drop ((let e : suc passed ≡ passed + 1 = omega arith in e) i) ts) in
          record {
            keeps = way.keeps;
            inside = let i = way.inside in let x = seen.parts in omega arith;
            scope = false ∷ way.scope;
            puts = subst P (sym more) (puts_one t (env (take passed ts)) way.scope [] (closed_free 0 t closed) (closed_headed [] t closed) way.puts);
            heads = sym (ap (has_heads true ClauseSide way.scope) seen.tree) ∙ way.heads;
            within = omega arith;
            needed = way.needed;
            same = way.same
                ∙ ap (option_map (put_behind (map (needed_in bank) ps)))
                ((λ i. leaf_from (env (take passed ts)) (seen.tree i) at (d i)) ∙ ap (λ e. leaf_from e (form_tree bank body.0) at rest) (sym more));
          }

      pub way_short : passed ≡ length ts → leaf (form_tree first clause) k ts ≡ None
      way_short e =
          way.same ∙ ap (option_map (put_behind (map (needed_in bank) ps)))
          ((λ i. leaf_from (env (take passed ts)) (seen.tree i) at ((drop_all passed ts (let l : length ts ≤ passed = omega arith in l)) i))
          ∙ none_left (env (take passed ts)) (form_tree bank body.0))
        where
          none_left : (e : Env) (f : Form) → leaf_from e (Forall f) at [] ≡ None
          none_left e f = refl

    -- ---- the end

    nothing : (f : Form) → form_tree bank form.0 ≡ f → leaf_from (env (take passed ts)) f at (drop passed ts) ≡ None → leaf (form_tree first clause) k ts ≡ None
    nothing f e n = way.same ∙ ap (option_map (put_behind (map (needed_in bank) ps))) (ap (λ g. leaf_from (env (take passed ts)) g at (drop passed ts)) e ∙ n)

    pub way_other : (v : FormNode) → IsFormView bank form.0 v → ((a : At) → v ≡ AtomView a → ⊥) → ((f g : FormAt) → v ≡ WithView f g → ⊥)
        → ((f g : FormAt) → v ≡ LolliView f g → ⊥)
        → ((f g : FormAt) → v ≡ ImpView f g → ⊥) → ((f : FormAt) → v ≡ ForallView f → ⊥) → leaf (form_tree first clause) k ts ≡ None
    way_other v seen a w l i f = nothing (form_of bank v) seen.tree (leaf_no bank (env (take passed ts)) v at (drop passed ts) a w l i f)

    pub way_past_atom : (a : At) → IsFormView bank form.0 (AtomView a) → (at ≡ 0 → ⊥) → leaf (form_tree first clause) k ts ≡ None
    way_past_atom a seen n = nothing (Atom (term_tree bank a.0)) seen.tree (leaf_past_atom (env (take passed ts)) (term_tree bank a.0) at (drop passed ts) n)

    pub way_more_terms : (a : At) → IsFormView bank form.0 (AtomView a) → (passed ≡ length ts → ⊥) → leaf (form_tree first clause) k ts ≡ None
    way_more_terms a seen n =
        let w = way.within in
        let e = length-drop passed ts in
        let l : passed < length ts = elim (cases_lt passed (length ts)) [ inl l ↦ l | inr l ↦ absurd (n (omega arith)) ] in
        nothing (Atom (term_tree bank a.0)) seen.tree (leaf_more_terms (env (take passed ts)) (term_tree bank a.0) at (drop passed ts) (omega arith))

    pub way_end : (new : Nodes) → Extends bank new → (a : At) (o : Opened) → IsFormView bank form.0 (AtomView a) → at ≡ 0 → passed ≡ length ts
        → ShowsTerm new o.head.0 (close (env (take passed ts)) (term_tree bank a.0))
        → o.premises.items ≡ reverse ps → ShowsLeaf new (leaf (form_tree first clause) k ts) o
    way_end new keeps a o seen zero_at all shows e =
        let Q : List Needed → Type 0 = AreNeeded new in
        let d : drop passed ts ≡ [] = drop_all passed ts (let l : length ts ≤ passed = omega arith in l) in
        let end : leaf_from (env (take passed ts)) (form_tree bank form.0) at (drop passed ts)
        ≡ Some (record { premises = []; head = term_tree new o.head.0 }) =
        (λ i. leaf_from (env (take passed ts)) (seen.tree i) (zero_at i) (d i))
        ∙ ap (λ (t : Term). let l : Leaf = record { premises = []; head = t } in Some l) (sym shows.tree) in
        let goals : reverse (map (needed_in bank) ps) ≡ map (needed_in new) o.premises.items =
        ap reverse (sym (needed_same keeps ps way.needed)) ∙ sym (ap (map (needed_in new)) e ∙ map_reverse (needed_in new) ps) in
        record {
          is = way.same ∙ (ap (option_map (put_behind (map (needed_in bank) ps))) end
              ∙ ap (λ qs. let l : Leaf = record { premises = qs; head = term_tree new o.head.0 } in Some l) goals);
          head = shows.inside;
          premises = subst Q (sym e) (all_reversed (λ (p : Needed). HasForm new (needed_at p).0) ps (needed_extend keeps ps way.needed));
        }

-- the first values, in a bank that grew
pub values_passed : {first bank : Nodes} (keeps : Extends first bank) (vals : List At) (n : ℕ) → AllInTerms first vals → AllInTerms bank (take n vals)
values_passed {bank = bank} keeps vals n h = All-take (λ (a : At). HasTerm bank a.0) n vals (AllInTerms-extends keeps vals h)

-- a side lies below the whole
pub side_low : (count k n : ℕ) (q r : FormAt) (side : Side) → IsSide count q r k side → (q.0 < n) × (r.0 < n) → side.form.0 < n
side_low count k n q r side is l =
    let P : FormAt → Type 0 = λ f. f.0 < n in
    elim (cases_lt k count) [ inl a ↦ subst P (sym (is.0 a).0) l.0 | inr b ↦ subst P (sym (is.1 b).0) l.1 ]

-- the values are as many as their terms
pub passed_all : (bank : Nodes) (vals : List At) (n : ℕ) → n ≡ length vals → n ≡ length (term_trees bank vals)
passed_all bank vals n e = e ∙ sym (length-map vals (λ (a : At). term_tree bank a.0))

pub passed_not_all : (bank : Nodes) (vals : List At) (n : ℕ) → (n ≡ length vals → ⊥) → n ≡ length (term_trees bank vals) → ⊥
passed_not_all bank vals n h e = h (e ∙ length-map vals (λ (a : At). term_tree bank a.0))

pub all_taken : (vals : List At) (n : ℕ) → n ≡ length vals → take n vals ≡ vals
all_taken vals n e = take_all n vals (omega arith)

pub passed_taken : (bank : Nodes) (vals : List At) (n : ℕ) → n ≤ length (term_trees bank vals) → n ≡ length (take n vals)
passed_taken bank vals n h =
    let e = length-map vals (λ (a : At). term_tree bank a.0) in sym (length-take-le n vals (let l : n ≤ length vals = omega (arith, e) in l))

pub passed_less : (bank : Nodes) (vals : List At) (n : ℕ) → n ≤ length (term_trees bank vals) → (n ≡ length vals → ⊥) → n < length (term_trees bank vals)
passed_less bank vals n h k =
    let e = length-map vals (λ (a : At). term_tree bank a.0) in
    elim (cases_lt n (length (term_trees bank vals))) [ inl a ↦ a | inr b ↦ absurd (k (omega (arith, e))) ]

-- what closes over the first values stands for the quantifiers that were passed
pub env_passed : (first bank : Nodes) (keeps : Extends first bank) (vals : List At) (n : ℕ) → AllInTerms first vals
    → env_of bank (take n vals) ≡ env (take n (term_trees first vals))
env_passed first bank keeps vals n h = ap reverse (each vals n h)
  where
    each : (vs : List At) (n : ℕ) → AllInTerms first vs → map (λ (v : At). Some (term_tree bank v.0)) (take n vs)
        ≡ map (λ (t : Term). Some t) (take n (term_trees first vs))
    each [] zero h = refl
    each [] (suc n) h = refl
    each (v ∷ vs) zero h = refl
    each (v ∷ vs) (suc n) h =
        let t = term_tree-extends keeps v.0 (All-head (λ (a : At). HasTerm first a.0) v vs h) in
        let r = each vs n (All-tail (λ (a : At). HasTerm first a.0) v vs h) in
        λ i. Some (t i) ∷ r i
