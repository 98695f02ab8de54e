-- The way to a leaf, step by step.
use Rattle.std.proofs.Common.{◌≡◌, ℕ, zero, suc, ◌+◌, ◌-◌, ◌<◌, ◌≤◌, List, [], ◌∷◌, ◌++◌, length, map, All, refl, ap, sym, subst, ◌∙◌}
use Rattle.std.proofs.Common.{arith, Option, Some, true, false, append_assoc, get_or, inl, inr}
use Rattle.std.specs.Prelude.{if◌then◌else◌, slice_get, slice_index_or, option_map, ◌&&◌}
use Rattle.std.proofs.lemmas.Bool.{cases_lt, lt-ltb}
use Rattle.std.proofs.lemmas.List.{append-nil}
use Rattle.std.proofs.lemmas.List.Elements.{All-cons, All-push}
use Rattle.ll_list_laws.proofs.CallerLemmas.{length-map_suc as length-suc, slice_get-append_left as get_left, slice_get-append_right as get_right}
use Rattle.ll_list_laws.proofs.CallerLemmas.{slice_get-map_suc as get_suc, lt_false as not_below, and_true_right as and_right}
use Rattle.ll_bank.specs.declared.At.{At}
use Rattle.ll_bank.specs.declared.FormAt.{FormAt}
use Rattle.ll_bank.specs.declared.FormNode.{FormNode}
use Rattle.ll_bank.specs.declared.FormNode.TheVariants.{Top as TopView, One as OneView, Atom as AtomView, With as WithView, Tensor as TensorView}
use Rattle.ll_bank.specs.declared.FormNode.TheVariants.{Plus as PlusView, Bang as BangView, Lolli as LolliView, Imp as ImpView, Forall as ForallView}
use Rattle.ll_bank.specs.declared.FormNode.TheVariants.{Exists as ExistsView, Use as UseView, Is as IsView, Less as LessView, Most as MostView}
use Rattle.ll_bank.specs.declared.Head.TheVariants.{Name, Eigen, Bound}
use Rattle.ll_bank.specs.declared.environment.Environment.{Environment}
use Rattle.ll_bank.specs.Term.{Term, Var, Int, Con, Ap, Env, close, applies_heads, is_spine, head_of}
use Rattle.ll_bank.specs.Form.{Form, Atom, With, Bang, Lolli, Imp, Forall, close_form}
use Rattle.ll_bank.specs.Environments.{IsWithin, values_before, values_in}
use Rattle.ll_bank.specs.Nodes.{Nodes, HasTerm, HasForm, AllInTerms, Extends, term_tree, term_trees, form_tree, form_of}
use Rattle.ll_bank.proofs.CallerLemmas.{HasForm-extends, form_tree-extends, AllInTerms-extends, term_trees-extends, Extends-refl, Extends-trans}
use Rattle.ll_bank.proofs.CallerLemmas.{length-term_trees}
use Rattle.ll_bind.specs.Built.{begins_fixed}
use Rattle.ll_laws.specs.Leaf.{Leaf, Premise, Needs, NeedsFree, add_premise, premise_goal, ways, leaf, leaf_from}
use Rattle.ll_laws.specs.Attempt.{vars_from}
use Rattle.ll_laws.specs.Valid.{Allowed, ClauseSide, Scope, is_headed, may_head}
use Rattle.ll_laws.proofs.CallerLemmas.{Grows, Closes, FormFits, IsHead, fits_of_formula, formula_of_fits, fits-more, fits-close, length-vars}
use Rattle.ll_laws.proofs.CallerLemmas.{widens-refl, headed_applies}
use Rattle.ll_agenda.specs.declared.agenda.Top.{Top as AgendaTop}
use Rattle.ll_agenda.specs.Frames.{Frames, ShowsItems, items_at}
use Rattle.ll_freeze.specs.Reading.{goal_tree}
use Rattle.ll_freeze.specs.declared.machine.Item.{Item}
use Rattle.ll_freeze.specs.declared.machine.Item.TheVariants.{Goal}
use Rattle.ll_engine.specs.declared.open.Side.{Side as LeafSide}
use Rattle.ll_engine.specs.Opening.{IsClause, IsSide, AreGoalsOf, Opens}

-- the values of the first variables from one on, as an environment: the last made stands in front
abbrev pub env_vars : ℕ → ℕ → Env
env_vars before zero = []
env_vars before (suc n) = Some (Var (before + n)) ∷ env_vars before n

-- quantifiers whose bound places are no heads
abbrev pub scope_of : ℕ → Scope
scope_of zero = []
scope_of (suc n) = false ∷ scope_of n

-- What is left of a clause on the way to one of its leaves: a part of it with a leaf, under the quantifiers that were passed, whose
-- premises are those nearest the head. The others are on the agenda in front of the items that were there, and the variables made so far
-- are behind those that there were.
pub record IsOnWay (first : Nodes) (items : List Item) (before clause k : ℕ) (bank : Nodes) (now : Frames Item) (terms : List At) (form at : ℕ)
    (top : AgendaTop) : Type 0 where
  pub keeps : Extends first bank
  pub inside : HasForm first form
  pub count : ℕ
  pub may : Allowed
  pub fits : FormFits may ClauseSide (scope_of count) (form_tree first form)
  pub among : at < length (ways (form_tree first form))
  pub premises : List Premise
  pub goals : List (FormAt × Environment)
  pub shows : ShowsItems now top (map (λ g. Goal g.0 g.1) goals ++ items)
  pub goals_are : AreGoalsOf bank (before + count) goals premises
  pub terms_inside : AllInTerms bank terms
  pub variables : term_trees bank terms ≡ vars_from 0 (before + count)
  pub way : (n : ℕ) → slice_get (ways (form_tree first form)) at ≡ Some n → slice_get (ways (form_tree first clause)) k ≡ Some (count + n)
  pub leaf_is : (n : ℕ) (l : Leaf) → leaf_from (env_vars before count) (form_tree first form) at (vars_from (before + count) n) ≡ Some l
      → leaf (form_tree first clause) k (vars_from before (count + n)) ≡ Some (record { premises = l.premises ++ premises; head = l.head })

-- ---- the environment of the variables made on the way

closes_vars : (may : Allowed) (before n : ℕ) → before + n ≤ may.variables → Closes may (env_vars before n) (scope_of n) []
closes_vars may before zero h = tt
closes_vars may before (suc n) h = (lt-ltb (before + n) may.variables (omega arith), λ e. absurd (cc (e)), closes_vars may before n (omega arith))

abbrev with_vars : Allowed → ℕ → Allowed
with_vars may n = record { modules = may.modules; variables = may.variables + n; eigens = may.eigens; opens = may.opens }

grows_vars : (may : Allowed) (n : ℕ) → Grows may (with_vars may n)
grows_vars may n = record { modules = refl; variables = omega arith; eigens = omega arith; opens = λ h. h }

-- an atom that fits under the quantifiers begins with a sign that is no bound place
scope_opens_none : (n k : ℕ) → slice_index_or (scope_of n) k false ≡ false
scope_opens_none zero k = refl
scope_opens_none (suc n) zero = refl
scope_opens_none (suc n) (suc k) = scope_opens_none n k

pub begins_in : (count : ℕ) (t : Term) → IsHead (scope_of count) t → begins_fixed t ≡ true
begins_in count (Var x) h = absurd (cc (h.0))
begins_in count (Int z) h = absurd (cc (h.0))
begins_in count (Con (Name n)) h = refl
begins_in count (Con (Eigen n)) h = refl
begins_in count (Con (Bound k)) h = sym (scope_opens_none count k) ∙ h.1
begins_in count (Ap f a) h = begins_in count f h

-- nothing but its head has arguments, with the variables in place of its bound places
applies_in : (may : Allowed) (before count : ℕ) (t : Term) → FormFits may ClauseSide (scope_of count) (Atom t)
    → applies_heads (close (env_vars before count) t) ≡ true
applies_in may before count t h =
    let more = with_vars may (before + count) in let u = close (env_vars before count) t in
    let fits = fits-close more (env_vars before count) ClauseSide (scope_of count) [] (Atom t) (closes_vars more before count (omega arith))
    (fits-more may more ClauseSide (scope_of count) (scope_of count) (Atom t) (grows_vars may (before + count)) (widens-refl (scope_of count)) h)
    in
    headed_applies [] u (and_right (is_spine u && may_head [] (head_of u)) (is_headed [] u) (formula_of_fits more ClauseSide [] (Atom u) fits).heads)

-- ---- lists

length-both : (xs ys : List ℕ) → length (xs ++ ys) ≡ length xs + length ys
length-both [] ys = omega arith
length-both (x ∷ xs) ys = let e = length-both xs ys in omega arith

vars_push : (a n m : ℕ) → m ≡ suc n → vars_from a m ≡ vars_from a n ++ Var (a + n) ∷ []
vars_push a zero zero e = absurd (omega arith)
vars_push a zero (suc m) e = let z : m ≡ 0 = omega arith in let b : a ≡ a + 0 = omega arith in (λ i. Var a ∷ vars_from (suc a) (z i)) ∙ ap (λ c. Var c ∷ []) b
vars_push a (suc n) zero e = absurd (omega arith)
vars_push a (suc n) (suc m) e = ap (λ ts. Var a ∷ ts) (vars_push (suc a) n m (omega arith) ∙ ap (λ c. vars_from (suc a) n ++ Var c ∷ []) (omega arith))

trees_push : (nodes : Nodes) (ats : List At) (at : At) → term_trees nodes (ats ++ at ∷ []) ≡ term_trees nodes ats ++ term_tree nodes at.0 ∷ []
trees_push nodes [] at = refl
trees_push nodes (a ∷ ats) at = ap (λ ts. term_tree nodes a.0 ∷ ts) (trees_push nodes ats at)

trees_same : (old new : Nodes) (gs : List (FormAt × Environment)) → Extends old new → All (λ g. HasForm old g.0.0) gs
    → map (λ g. goal_tree new g.1 g.0) gs ≡ map (λ g. goal_tree old g.1 g.0) gs
trees_same old new [] e h = refl
trees_same old new (g ∷ gs) e h =
    let here = form_tree-extends e g.0.0 (h 0 g (omega arith)) in
    λ i. close_form (values_in g.1) (here i) ∷ trees_same old new gs e (λ k d l. h (suc k) d (omega arith)) i

within_more : (n m : ℕ) (gs : List (FormAt × Environment)) → n ≤ m → All (λ g. IsWithin n g.1) gs → All (λ g. IsWithin m g.1) gs
within_more n m gs le h = λ k d l. let w = h k d l in record { count = w.count; end = (let e = w.end in omega (arith, le, e)) }

-- the environment is that of the last variables
pub env_before : (before n : ℕ) → env_vars before n ≡ values_before (before + n) n
env_before before zero = refl
env_before before (suc n) =
    (λ i. Some (Var ((let e : before + n ≡ before + suc n - 1 = omega arith in e) i)) ∷ env_before before n i)
    ∙ ap (λ m. Some (Var (before + suc n - 1)) ∷ values_before m n) (let e : before + n ≡ before + suc n - 1 = omega arith in e)

-- ---- parts

-- a formula of no other sort has no leaf
pub no_ways : (bank : Nodes) (v : FormNode) → ((a : At) → v ≡ AtomView a → ⊥) → ((f g : FormAt) → v ≡ WithView f g → ⊥)
    → ((f g : FormAt) → v ≡ LolliView f g → ⊥) → ((f g : FormAt) → v ≡ ImpView f g → ⊥) → ((f : FormAt) → v ≡ ForallView f → ⊥)
    → ways (form_of bank v) ≡ []
no_ways bank TopView a w l i f = refl
no_ways bank OneView a w l i f = refl
no_ways bank (AtomView t) a w l i f = absurd (a t refl)
no_ways bank (WithView x y) a w l i f = absurd (w x y refl)
no_ways bank (TensorView x y) a w l i f = refl
no_ways bank (PlusView x y) a w l i f = refl
no_ways bank (BangView x) a w l i f = refl
no_ways bank (LolliView x y) a w l i f = absurd (l x y refl)
no_ways bank (ImpView x y) a w l i f = absurd (i x y refl)
no_ways bank (ForallView x) a w l i f = absurd (f x refl)
no_ways bank (ExistsView x) a w l i f = refl
no_ways bank (UseView m ts x) a w l i f = refl
no_ways bank (IsView x y) a w l i f = refl
no_ways bank (LessView x y) a w l i f = refl
no_ways bank (MostView x y) a w l i f = refl

-- each side of a `&` is less than the whole
pub side_smaller : (lefts : List ℕ) (form g h : FormAt) (k : ℕ) (side : LeafSide) → (g.0 < form.0) × (h.0 < form.0) → IsSide lefts g h k side
    → side.form.0 < form.0
side_smaller lefts form g h k side parts is = elim (cases_lt k (length lefts)) [
  | inl l ↦ subst (λ (f : FormAt). f.0 < form.0) (sym (is.0 l).0) parts.0
  | inr l ↦ subst (λ (f : FormAt). f.0 < form.0) (sym (is.1 l).0) parts.1
]

-- ---- the way

module _ (first : Nodes) (items : List Item) (before clause k : ℕ) where
  -- it begins with the whole clause
  pub way_start : (now : Frames Item) (terms : List At) (top : AgendaTop) → HasForm first clause → IsClause (form_tree first clause)
      → k < length (ways (form_tree first clause)) → ShowsItems now top items → AllInTerms first terms
      → term_trees first terms ≡ vars_from 0 before → IsOnWay first items before clause k first now terms clause k top
  way_start now terms top inside is among shows in_terms vars = record {
    keeps = Extends-refl first;
    inside = inside;
    count = 0;
    may = is.0;
    fits = fits_of_formula is.0 ClauseSide [] (form_tree first clause) is.1;
    among = among;
    premises = [];
    goals = [];
    shows = shows;
    goals_are = record { inside = λ i d l. absurd (omega arith); within = λ i d l. absurd (omega arith); trees = refl };
    terms_inside = in_terms;
    variables = vars ∙ ap (vars_from 0) (omega arith);
    way = λ n h. h ∙ ap (λ m. Some m) (omega arith);
    leaf_is = λ n l h.
        ap (λ m. leaf (form_tree first clause) k (vars_from before m)) (let e : 0 + n ≡ n = omega arith in e)
        ∙ (ap (λ b. leaf (form_tree first clause) k (vars_from b n)) (let e : before ≡ before + 0 = omega arith in e)
        ∙ (h ∙ ap (λ ps. let o : Option Leaf = Some (record { premises = ps; head = l.head }) in o) (sym (append-nil l.premises))));
  }

  module _ (bank : Nodes) (now : Frames Item) (terms : List At) (form : FormAt) (at : ℕ) (top : AgendaTop)
      (w : IsOnWay first items before clause k bank now terms form.0 at top) where
    -- a part of the clause shows in the bank what it showed at first
    pub same_part : (g : FormAt) → HasForm first g.0 → form_tree bank g.0 ≡ form_tree first g.0
    same_part g inside = form_tree-extends w.keeps g.0 inside

    pub part_inside : (g : FormAt) → g.0 < form.0 → HasForm first g.0
    part_inside g l = let i = w.inside in omega (arith, i, l)

    -- what is left, and each part of it, stands in the bank
    pub stands : HasForm bank form.0
    stands = HasForm-extends w.keeps form.0 w.inside

    pub part_stands : (g : FormAt) → g.0 < form.0 → HasForm bank g.0
    part_stands g l = HasForm-extends w.keeps g.0 (part_inside g l)

    -- it has a leaf
    pub way_none : (view : FormNode) → form_tree bank form.0 ≡ form_of bank view → ways (form_of bank view) ≡ [] → ⊥
    way_none view seen none =
        let l = subst (λ (f : Form). at < length (ways f)) (sym (same_part form w.inside) ∙ seen) w.among in
        let z = subst (λ (ws : List ℕ). at < length ws) none l in absurd (omega (arith, z))

    -- it goes along with the bank
    pub way_extends : (new : Nodes) → Extends bank new → IsOnWay first items before clause k new now terms form.0 at top
    way_extends new e =
        record {
          keeps = Extends-trans w.keeps e;
          inside = w.inside;
          count = w.count;
          may = w.may;
          fits = w.fits;
          among = w.among;
          premises = w.premises;
          goals = w.goals;
          shows = w.shows;
          goals_are = record {
            inside = λ i d l. HasForm-extends e (get_or w.goals i d).0.0 (w.goals_are.inside i d l);
            within = w.goals_are.within;
            trees =
                trees_same bank new w.goals e w.goals_are.inside ∙ w.goals_are.trees;
          };
          terms_inside = AllInTerms-extends e terms w.terms_inside;
          variables = term_trees-extends e terms w.terms_inside ∙ w.variables;
          way = w.way;
          leaf_is = w.leaf_is;
        }

    -- to the left side of a `&`
    pub way_left : (g h : FormAt) → form_tree bank form.0 ≡ With (form_tree bank g.0) (form_tree bank h.0) → (g.0 < form.0) × (h.0 < form.0)
        → at < length (ways (form_tree bank g.0))
        → IsOnWay first items before clause k bank now terms g.0 at top
    way_left g h seen parts many =
        let left = form_tree first g.0 in let right = form_tree first h.0 in
        let a = part_inside g parts.0 in let b = part_inside h parts.1 in
        let tree : form_tree first form.0 ≡ With left right = sym (same_part form w.inside) ∙ (seen ∙ (λ i. With (same_part g a i) (same_part h b i))) in
        let among : at < length (ways left) = subst (λ t. at < length (ways t)) (same_part g a) many in record {
          keeps = w.keeps;
          inside = a;
          count = w.count;
          may = w.may;
          fits = (subst (FormFits w.may ClauseSide (scope_of w.count)) tree w.fits).0;
          among = among;
          premises = w.premises;
          goals = w.goals;
          shows = w.shows;
          goals_are = w.goals_are;
          terms_inside = w.terms_inside;
          variables = w.variables;
          way = λ n q. w.way n (ap (λ t. slice_get (ways t) at) tree ∙ (get_left (ways left) (ways right) at among ∙ q));
          leaf_is = λ n l q. let ts = vars_from (before + w.count) n in let e = env_vars before w.count in
              w.leaf_is n l (ap (λ t. leaf_from e t at ts) tree
              ∙ (ap (λ b. if b then leaf_from e left at ts else leaf_from e right (at - length (ways left)) ts) (lt-ltb at (length (ways left)) among)
              ∙ q));
        }

    -- or to the right one
    pub way_right : (g h : FormAt) (at' : ℕ) → form_tree bank form.0 ≡ With (form_tree bank g.0) (form_tree bank h.0) → (g.0 < form.0) × (h.0 < form.0)
        → length (ways (form_tree bank g.0)) ≤ at
        → at' ≡ at - length (ways (form_tree bank g.0)) → IsOnWay first items before clause k bank now terms h.0 at' top
    way_right g h at' seen parts few is =
        let left = form_tree first g.0 in let right = form_tree first h.0 in
        let a = part_inside g parts.0 in let b = part_inside h parts.1 in
        let tree : form_tree first form.0 ≡ With left right = sym (same_part form w.inside) ∙ (seen ∙ (λ i. With (same_part g a i) (same_part h b i))) in
        let past : length (ways left) ≤ at = subst (λ t. length (ways t) ≤ at) (same_part g a) few in
        let e : at' ≡ at - length (ways left) = is ∙ ap (λ t. at - length (ways t)) (same_part g a) in record {
          keeps = w.keeps;
          inside = b;
          count = w.count;
          may = w.may;
          fits = (subst (FormFits w.may ClauseSide (scope_of w.count)) tree w.fits).1;
          among = (let a = subst (λ t. at < length (ways t)) tree w.among in let b = length-both (ways left) (ways right) in omega arith);
          premises = w.premises;
          goals = w.goals;
          shows = w.shows;
          goals_are = w.goals_are;
          terms_inside = w.terms_inside;
          variables = w.variables;
          way = λ n q. w.way n (ap (λ t. slice_get (ways t) at) tree ∙ (get_right (ways left) (ways right) at at' (omega arith) ∙ q));
          leaf_is = λ n l q. let ts = vars_from (before + w.count) n in let v = env_vars before w.count in
              w.leaf_is n l (ap (λ t. leaf_from v t at ts) tree
              ∙ (ap (λ b. if b then leaf_from v left at ts else leaf_from v right (at - length (ways left)) ts) (not_below at (length (ways left)) past)
              ∙ (ap (λ j. leaf_from v right j ts) (sym e) ∙ q)));
        }

    -- the environment of the variables made so far
    abbrev own : Environment
    own = record { end = before + w.count; count = w.count }

    count_terms : length terms ≡ before + w.count
    count_terms = sym (length-term_trees bank terms) ∙ (ap (λ (ts : List Term). length ts) w.variables ∙ length-vars 0 (before + w.count))

    -- past a premise, whose goal came in front of the agenda in a bank with more places
    way_past : (p : Premise) (b r : FormAt) (n : Environment) (more : Nodes) (new : Frames Item) (top' : AgendaTop) → Extends bank more
        → ways (form_tree first form.0) ≡ ways (form_tree first r.0)
        → ((ts : List Term) → leaf_from (env_vars before w.count) (form_tree first form.0) at ts
        ≡ option_map (add_premise p) (leaf_from (env_vars before w.count) (form_tree first r.0) at ts))
        → HasForm first r.0 → FormFits w.may ClauseSide (scope_of w.count) (form_tree first r.0) → HasForm more b.0 → IsWithin (before + w.count) n
        → goal_tree more n b ≡ premise_goal p
        → ShowsItems new top' (Goal b n ∷ items_at now top) → IsOnWay first items before clause k more new terms r.0 at top'
    unfolding way_extends
    way_past p b r n more new top' e same leaves inside fits goal_inside within goal shows =
        let v = way_extends more e in record {
          keeps = v.keeps;
          inside = inside;
          count = w.count;
          may = w.may;
          fits = fits;
          among = subst (λ (ws : List ℕ). at < length ws) same w.among;
          premises = p ∷ w.premises;
          goals = (b, n) ∷ w.goals;
          shows = record { inside = shows.inside; list = shows.list ∙ ap (λ is. Goal b n ∷ is) w.shows.list };
          goals_are = record {
            inside = All-cons (λ (g : FormAt × Environment). HasForm more g.0.0) (b, n) w.goals goal_inside v.goals_are.inside;
            within = All-cons (λ (g : FormAt × Environment). IsWithin (before + w.count) g.1) (b, n) w.goals within w.goals_are.within;
            trees =
                λ i. goal i ∷ v.goals_are.trees i;
          };
          terms_inside = v.terms_inside;
          variables = v.variables;
          way = λ n q. w.way n (ap (λ (ws : List ℕ). slice_get ws at) same ∙ q);
          leaf_is = λ n l q.
              w.leaf_is n (add_premise p l) (leaves (vars_from (before + w.count) n) ∙ ap (option_map (add_premise p)) q)
              ∙ ap (λ ps. let o : Option Leaf = Some (record { premises = ps; head = l.head }) in o) (append_assoc l.premises (p ∷ []) w.premises);
        }

    module _ (lent : List At) (from : ℕ) (n : Environment) (lent_is : lent ≡ terms) (from_is : from ≡ before) (end_is : n.end ≡ length lent)
        (count_is : n.count ≡ length lent - from) where
      -- it is what is made of the variables that are lent
      own_made : n ≡ own
      own_made =
          let a = ap (λ (ts : List At). length ts) lent_is in let c = count_terms in
          let end : n.end ≡ before + w.count = omega (arith, end_is, a, c) in
          let count : n.count ≡ w.count = omega (arith, count_is, from_is, a, c) in
          λ i. record { end = end i; count = count i }

      own_within : IsWithin (before + w.count) n
      own_within = subst (IsWithin (before + w.count)) (sym own_made) (record { count = omega arith; end = omega arith })

      -- under it bound places stand for the variables
      own_values : values_in n ≡ env_vars before w.count
      own_values = ap values_in own_made ∙ sym (env_before before w.count)

      module _ (g r : FormAt) (parts : (g.0 < form.0) × (r.0 < form.0)) where
        -- past a premise of either kind
        pub way_lolli : (new : Frames Item) (top' : AgendaTop) → form_tree bank form.0 ≡ Lolli (form_tree bank g.0) (form_tree bank r.0)
            → ShowsItems new top' (Goal g n ∷ items_at now top) → IsOnWay first items before clause k bank new terms r.0 at top'
        way_lolli new top' seen shows =
            let a = part_inside g parts.0 in let b = part_inside r parts.1 in let env = env_vars before w.count in
            let tree : form_tree first form.0 ≡ Lolli (form_tree first g.0) (form_tree first r.0) =
            sym (same_part form w.inside) ∙ (seen ∙ (λ i. Lolli (same_part g a i) (same_part r b i))) in
            way_past (Needs (close_form env (form_tree first g.0))) g r n bank new top' (Extends-refl bank) (ap ways tree)
            (λ ts. ap (λ t. leaf_from env t at ts) tree) b (subst (FormFits w.may ClauseSide (scope_of w.count)) tree w.fits).1
            (part_stands g parts.0) own_within (λ i. close_form (own_values i) (same_part g a i)) shows

        pub way_imp : (b : FormAt) (more : Nodes) (new : Frames Item) (top' : AgendaTop)
            → form_tree bank form.0 ≡ Imp (form_tree bank g.0) (form_tree bank r.0) → Extends bank more → HasForm more b.0
            → form_tree more b.0 ≡ Bang (form_tree bank g.0)
            → ShowsItems new top' (Goal b n ∷ items_at now top) → IsOnWay first items before clause k more new terms r.0 at top'
        way_imp b more new top' seen keeps inside free shows =
            let a = part_inside g parts.0 in let d = part_inside r parts.1 in let env = env_vars before w.count in
            let tree : form_tree first form.0 ≡ Imp (form_tree first g.0) (form_tree first r.0) =
            sym (same_part form w.inside) ∙ (seen ∙ (λ i. Imp (same_part g a i) (same_part r d i))) in
            way_past (NeedsFree (close_form env (form_tree first g.0))) b r n more new top' keeps (ap ways tree)
            (λ ts. ap (λ t. leaf_from env t at ts) tree) d (subst (FormFits w.may ClauseSide (scope_of w.count)) tree w.fits).1
            inside own_within (ap (close_form (values_in n)) free ∙ (λ i. Bang (close_form (own_values i) (same_part g a i)))) shows

      -- to the head, whose bound places stand for the variables
      pub way_end : (a : At) → form_tree bank form.0 ≡ Atom (term_tree bank a.0) → HasTerm bank a.0
          → Opens first items before clause k bank now terms a n top
      way_end a seen has =
          let t = term_tree bank a.0 in
          let tree : form_tree first form.0 ≡ Atom t = sym (same_part form w.inside) ∙ seen in
          let fits = subst (FormFits w.may ClauseSide (scope_of w.count)) tree w.fits in
          let last : at ≡ 0 = (let q = subst (λ t. at < length (ways t)) tree w.among in omega arith) in record {
            premises = w.premises;
            count = w.count;
            goals = w.goals;
            shows = w.shows;
            goals_are = w.goals_are;
            terms_inside = w.terms_inside;
            variables = w.variables;
            way = w.way 0 ((λ i. slice_get (ways (tree i)) (last i))) ∙ ap (λ m. Some m) (let e : w.count + 0 ≡ w.count = omega arith in e);
            own_is = own_made;
            inside = has;
            begins = begins_in w.count t fits.0;
            heads = ap (λ z. applies_heads (close z t)) own_values ∙ applies_in w.may before w.count t fits;
            leaf_is =
                ap (λ m. leaf (form_tree first clause) k (vars_from before m)) (let e : w.count ≡ w.count + 0 = omega arith in e)
                ∙ w.leaf_is 0 (record { premises = []; head = close (values_in n) t })
                ((λ i. leaf_from (env_vars before w.count) (tree i) (last i) [])
                ∙ (let some : Term → Option Leaf = λ u. Some (record { premises = []; head = u }) in
                ap (λ z. some (close z t)) (sym own_values)));
          }

    module _ (g r : FormAt) (parts : (g.0 < form.0) × (r.0 < form.0)) where
      -- to the side of a `&` on which the leaf is
      pub way_side : (side : LeafSide) → form_tree bank form.0 ≡ With (form_tree bank g.0) (form_tree bank r.0)
          → IsSide (ways (form_tree bank g.0)) g r at side → IsOnWay first items before clause k bank now terms side.form.0 side.leaf top
      way_side side seen is = elim (cases_lt at (length (ways (form_tree bank g.0)))) [
        | inl l ↦ let s = is.0 l in let q = way_left g r seen parts l in
            subst (λ (f : FormAt). IsOnWay first items before clause k bank now terms f.0 side.leaf top) (sym s.0)
            (subst (λ (j : ℕ). IsOnWay first items before clause k bank now terms g.0 j top) (sym s.1) q)
        | inr l ↦ let s = is.1 l in
            subst (λ (f : FormAt). IsOnWay first items before clause k bank now terms f.0 side.leaf top) (sym s.0)
            (way_right g r side.leaf seen parts l s.1)
      ]

    -- into a quantifier, with a new variable
    pub way_in : (body : FormAt) (v : At) (new : Nodes) (more : List At) → form_tree bank form.0 ≡ Forall (form_tree bank body.0) → body.0 < form.0
        → Extends bank new → HasTerm new v.0
        → term_tree new v.0 ≡ Var (length terms) → more ≡ terms ++ v ∷ [] → IsOnWay first items before clause k new now more body.0 at top
    unfolding way_extends
    way_in body v new more seen part e has var is_more =
        let a = part_inside body part in let inner = form_tree first body.0 in
        let tree : form_tree first form.0 ≡ Forall inner = sym (same_part form w.inside) ∙ (seen ∙ ap Forall (same_part body a)) in
        let x = before + w.count in let z = way_extends new e in
        let x_is = var ∙ ap Var count_terms in
        let open_ways : ways (form_tree first form.0) ≡ map (λ n. suc n) (ways inner) = ap ways tree in
        record {
          keeps = z.keeps;
          inside = a;
          count = suc w.count;
          may = w.may;
          fits = subst (FormFits w.may ClauseSide (scope_of w.count)) tree w.fits;
          among = (let a = subst (λ (ws : List ℕ). at < length ws) open_ways w.among in let b = length-suc (ways inner) in omega arith);
          premises = w.premises;
          goals = w.goals;
          shows = w.shows;
          goals_are = record {
            inside = z.goals_are.inside;
            within = within_more x (before + suc w.count) w.goals (omega arith) z.goals_are.within;
            trees = z.goals_are.trees;
          };
          terms_inside = subst (AllInTerms new) (sym is_more) (All-push (λ (a : At). a.0 < length new.terms) terms v z.terms_inside has);
          variables = ap (term_trees new) is_more ∙ (trees_push new terms v
              ∙ ((λ i. z.variables i ++ x_is i ∷ []) ∙ sym (vars_push 0 x (before + suc w.count) (omega arith)
              ∙ ap (λ c. vars_from 0 x ++ Var c ∷ []) (let e : 0 + x ≡ x = omega arith in e))));
          way = λ n q. w.way (suc n) (ap (λ (ws : List ℕ). slice_get ws at) open_ways ∙ get_suc (ways inner) at n q) ∙ ap (λ m. Some m) (omega arith);
          leaf_is = λ n l q.
              let next : before + suc w.count ≡ suc x = omega arith in
              ap (λ m. leaf (form_tree first clause) k (vars_from before m)) (let e : suc w.count + n ≡ w.count + suc n = omega arith in e)
              ∙ w.leaf_is (suc n) l
              (ap (λ t. leaf_from (env_vars before w.count) t at (Var x ∷ vars_from (suc x) n)) tree
              ∙ (ap (λ m. leaf_from (env_vars before (suc w.count)) inner at (vars_from m n)) (sym next) ∙ q));
        }
