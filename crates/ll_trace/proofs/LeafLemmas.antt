-- Counting the leaves of a clause, and the way to one of them.
use Rattle.std.proofs.Common.{◌≡◌, ℕ, zero, suc, ◌+◌, ◌-◌, ◌<◌, ◌≤◌, refl, ap, sym, subst, ◌∙◌, arith, Bool, true, false, List, [], ◌∷◌, ◌++◌, map, reverse}
use Rattle.std.proofs.Common.{length, All, append_assoc, length-append}
use Rattle.std.specs.Prelude.{if◌then◌else◌, nat_lt, Option, Some, None, IsSome, option_map, slice_index}
use Rattle.std.proofs.lemmas.Bool.{lt-ltb, ltb-true}
use Rattle.std.proofs.lemmas.List.{reverse-append, append-nil}
use Rattle.std.proofs.lemmas.List.Elements.{All-nil, All-append, All-pop, All-push}
use Rattle.std.proofs.lemmas.List.Sums.{sum_by-append}
use Rattle.ll_list_laws.proofs.CallerLemmas.{length-map_suc as length-suc, lt_false as not_below, slice_index-append as index_left}
use Rattle.ll_bank.specs.declared.At.{At}
use Rattle.ll_bank.specs.declared.FormAt.{FormAt}
use Rattle.ll_bank.specs.declared.FormNode.{FormNode}
use Rattle.ll_bank.specs.declared.FormNode.TheVariants.{Top as TopView, One as OneView, Atom as AtomView, With as WithView, Tensor as TensorView}
use Rattle.ll_bank.specs.declared.FormNode.TheVariants.{Plus as PlusView, Bang as BangView, Lolli as LolliView, Imp as ImpView, Forall as ForallView}
use Rattle.ll_bank.specs.declared.FormNode.TheVariants.{Exists as ExistsView, Use as UseView, Is as IsView, Less as LessView, Most as MostView}
use Rattle.ll_bank.specs.Term.{Term, Var}
use Rattle.ll_bank.specs.Form.{Form, Top, One, Atom, With, Tensor, Plus, Bang, Lolli, Imp, Forall, Exists, Use, Num}
use Rattle.ll_bank.specs.Nodes.{Nodes, HasForm, form_tree, form_of}
use Rattle.ll_laws.specs.declared.Part.{Part}
use Rattle.ll_laws.specs.Leaf.{Premise, Needs, NeedsFree, premise_goal, ways}
use Rattle.ll_laws.specs.Line.{part_line}
use Rattle.ll_laws.specs.ShownLines.{part_line as shown_part}
use Rattle.ll_laws.specs.Module.{ModuleTree}
use Rattle.ll_trace.specs.declared.leaf.Opened.{Opened}
use Rattle.ll_trace.specs.declared.walk.Goal.{Goal}
use Rattle.ll_trace.specs.Bare.{bare, and_premise, premises_at}
use Rattle.ll_trace.specs.Goals.{stacked, shown_goal, HasGoal}
use Rattle.ll_laws.proofs.CallerLemmas.{waiting_ways}
use Rattle.ll_trace.specs.Opening.{IsOnWay, Opens, way_size, waiting_size}
use Rattle.ll_trace.proofs.BareLemmas.{ways-bare}

-- ---- counting

pub ways-with : (q r : Form) → length (ways (With q r)) ≡ length (ways q) + length (ways r)
ways-with q r = length-append (ways q) (ways r)

-- what is counted, and what is still to be counted, when some clauses take the place of the one that was taken off
pub record IsCounted (forms : Nodes) (waiting : List FormAt) (n goal : ℕ) : Type 0 where
  pub inside : All (λ (f : FormAt). HasForm forms f.0) waiting
  pub so_far : n + waiting_ways forms waiting ≡ goal

pub count_step : (forms : Nodes) (old rest pushed new : List FormAt) (f : FormAt) (n goal : ℕ) → old ≡ rest ++ f ∷ [] → new ≡ rest ++ pushed
    → All (λ (g : FormAt). HasForm forms g.0) old
    → (HasForm forms f.0 → All (λ (g : FormAt). HasForm forms g.0) pushed) → length (ways (form_tree forms f.0)) ≡ waiting_ways forms pushed
    → n + waiting_ways forms old ≡ goal → IsCounted forms new n goal
count_step forms old rest pushed new f n goal o w all more same h =
    let P : FormAt → Type 0 = λ g. HasForm forms g.0 in
    let size : FormAt → ℕ = λ g. length (ways (form_tree forms g.0)) in
    let a = ap (waiting_ways forms) o ∙ sum_by-append size rest (f ∷ []) in
    let b = ap (waiting_ways forms) w ∙ sum_by-append size rest pushed in
    let split = All-pop P old rest (Some f) o all in
    record {
      inside = subst (All P) (sym w) (All-append P rest pushed split.0 (more split.1));
      so_far = omega (arith, a, b, same, h);
    }

-- less waits when some clauses, together smaller, take the place of the one that was taken off
pub size_step : (forms : Nodes) (old rest pushed new : List FormAt) (f : FormAt) → old ≡ rest ++ f ∷ [] → new ≡ rest ++ pushed
    → waiting_size forms pushed < way_size (form_tree forms f.0) → waiting_size forms new < waiting_size forms old
size_step forms old rest pushed new f o w less =
    let size : FormAt → ℕ = λ g. way_size (form_tree forms g.0) in
    let a = ap (waiting_size forms) o ∙ sum_by-append size rest (f ∷ []) in
    let b = ap (waiting_size forms) w ∙ sum_by-append size rest pushed in
    omega (arith, a, b, less)

some_size : (r : Form) → 0 < way_size r
some_size (Atom a) = omega arith
some_size (With q r) = omega arith
some_size (Lolli g r) = omega arith
some_size (Imp g r) = omega arith
some_size (Forall r) = omega arith
some_size Top = omega arith
some_size One = omega arith
some_size (Tensor q r) = omega arith
some_size (Plus q r) = omega arith
some_size (Bang r) = omega arith
some_size (Exists r) = omega arith
some_size (Use m ts r) = omega arith
some_size (Num r t u) = omega arith

-- and when nothing does
pub size_rest : (forms : Nodes) (old rest : List FormAt) (f : FormAt) → old ≡ rest ++ f ∷ [] → waiting_size forms rest < waiting_size forms old
size_rest forms old rest f o = size_step forms old rest [] rest f o (sym (append-nil rest)) (some_size (form_tree forms f.0))

-- ---- lists

index_right : (xs ys : List ℕ) (k : ℕ) → length xs ≤ k → slice_index (xs ++ ys) k ≡ slice_index ys (k - length xs)
index_right [] ys k h = ap (slice_index ys) (let e : k ≡ k - 0 = omega arith in e)
index_right (x ∷ xs) ys zero h = absurd (omega (arith, h))
index_right (x ∷ xs) ys (suc k) h = index_right xs ys k (omega (arith, h))
    ∙ ap (slice_index ys) (let e : k - length xs ≡ suc k - suc (length xs) = omega arith in e)

index_suc : (xs : List ℕ) (k : ℕ) → k < length xs → slice_index (map (λ n. suc n) xs) k ≡ suc (slice_index xs k)
index_suc [] k h = absurd (omega (arith, h))
index_suc (x ∷ xs) zero h = refl
index_suc (x ∷ xs) (suc k) h = index_suc xs k (omega (arith, h))

stacked-push : (forms : Nodes) (ms : List ModuleTree) (gs : List Goal) (g : Goal) (below : List Form)
    → stacked forms ms (gs ++ g ∷ []) below ≡ shown_goal forms ms g ∷ stacked forms ms gs below
stacked-push forms ms [] g below = refl
stacked-push forms ms (h ∷ gs) g below = stacked-push forms ms gs g (shown_goal forms ms h ∷ below)

-- ---- a clause with such a leaf

some_of_map : {A : Type 0} (f : A → A) (o : Option A) → IsSome (option_map f o) → IsSome o
some_of_map f None h = h
some_of_map f (Some x) h = refl

-- where there is a leaf, it is one of the ways
pub leaf_below : (r : Form) (k : ℕ) → IsSome (premises_at r k) → k < length (ways r)
leaf_below (Atom a) zero h = omega arith
leaf_below (Atom a) (suc k) h = absurd (cc (h))
leaf_below (With q r) k h = step (nat_lt k (length (ways q))) refl (λ i. leaf_below q k i) (λ i. leaf_below r (k - length (ways q)) i) h
  where
    step : (b : Bool) → nat_lt k (length (ways q)) ≡ b → (IsSome (premises_at q k) → k < length (ways q))
        → (IsSome (premises_at r (k - length (ways q))) → k - length (ways q) < length (ways r))
        → IsSome (if b then premises_at q k else premises_at r (k - length (ways q))) → k < length (ways q ++ ways r)
    step true e f g i = let n = length-append (ways q) (ways r) in let l = f i in omega (arith, n, l)
    step false e f g i = let n = length-append (ways q) (ways r) in let l = g i in omega (arith, n, l)
leaf_below (Lolli g r) k h = leaf_below r k (some_of_map (and_premise (Needs g)) (premises_at r k) h)
leaf_below (Imp g r) k h = leaf_below r k (some_of_map (and_premise (NeedsFree g)) (premises_at r k) h)
leaf_below (Forall r) k h = let l = leaf_below r k h in let n = length-suc (ways r) in omega (arith, l, n)
leaf_below Top k h = absurd (cc (h))
leaf_below One k h = absurd (cc (h))
leaf_below (Tensor q r) k h = absurd (cc (h))
leaf_below (Plus q r) k h = absurd (cc (h))
leaf_below (Bang r) k h = absurd (cc (h))
leaf_below (Exists r) k h = absurd (cc (h))
leaf_below (Use m ts r) k h = absurd (cc (h))
leaf_below (Num r t u) k h = absurd (cc (h))

at_zero : (k : ℕ) → IsSome (premises_at (Atom (Var 0)) k) → k ≡ 0
at_zero zero h = refl
at_zero (suc k) h = absurd (cc (h))

-- ---- the way

module _ (forms : Nodes) (clause k : ℕ) (old : List Goal) where
  pub way_start : HasForm forms clause → IsSome (premises_at (bare (form_tree forms clause)) k) → (parts : List Part) → parts ≡ []
      → IsOnWay forms clause k old clause k 0 old parts
  way_start inside among parts none = record {
    inside = inside;
    among = among;
    premises = [];
    are = λ ps h. h ∙ ap (λ qs. Some qs) (sym (append-nil ps));
    goals = [];
    pushed = sym (append-nil old);
    goals_are = record { inside = λ n. All-nil (HasGoal forms n); trees = λ ms below. refl };
    shown = ap (λ qs. map shown_part (reverse qs)) none;
    quantifiers = omega arith;
  }

  module _ (form at count : ℕ) (new : List Goal) (parts : List Part) (w : IsOnWay forms clause k old form at count new parts) where
    -- to the left side of a `&`
    pub way_left : (g h : FormAt) → form_tree forms form ≡ With (form_tree forms g.0) (form_tree forms h.0) → HasForm forms g.0
        → at < length (ways (form_tree forms g.0))
        → IsOnWay forms clause k old g.0 at count new parts
    way_left g h tree inside l =
        let left = bare (form_tree forms g.0) in
        let right = bare (form_tree forms h.0) in
        let less : nat_lt at (length (ways left)) ≡ true = lt-ltb at (length (ways left))
        (subst (λ (ws : List ℕ). at < length ws) (sym (ways-bare (form_tree forms g.0))) l) in
        let same : premises_at (bare (form_tree forms form)) at ≡ premises_at left at =
        ap (λ t. premises_at (bare t) at) tree ∙ ap (λ b. if b then premises_at left at else premises_at right (at - length (ways left))) less in
        record {
          inside = inside;
          among = subst (λ (o : Option (List Premise)). IsSome o) same w.among;
          premises = w.premises;
          are = λ ps e. w.are ps (same ∙ e);
          goals = w.goals;
          pushed = w.pushed;
          goals_are = w.goals_are;
          shown = w.shown;
          quantifiers =
              ap (λ n. n + count) (sym (ap (λ t. slice_index (ways (bare t)) at) tree
              ∙ index_left (ways left) (ways right) at (ltb-true at (length (ways left)) less))) ∙ w.quantifiers;
        }

    -- or to the right one
    pub way_right : (g h : FormAt) (at' : ℕ) → form_tree forms form ≡ With (form_tree forms g.0) (form_tree forms h.0) → HasForm forms h.0
        → length (ways (form_tree forms g.0)) ≤ at
        → at' ≡ at - length (ways (form_tree forms g.0)) → IsOnWay forms clause k old h.0 at' count new parts
    way_right g h at' tree inside past e =
        let left = bare (form_tree forms g.0) in
        let right = bare (form_tree forms h.0) in
        let lw : length (ways (form_tree forms g.0)) ≡ length (ways left) = ap (λ (ws : List ℕ). length ws) (sym (ways-bare (form_tree forms g.0))) in
        let p : length (ways left) ≤ at = omega (arith, lw, past) in
        let q : at - length (ways left) ≡ at' = omega (arith, lw, e) in
        let same : premises_at (bare (form_tree forms form)) at ≡ premises_at right at' =
        ap (λ t. premises_at (bare t) at) tree ∙ (ap (λ b. if b then premises_at left at else premises_at right (at - length (ways left)))
        (not_below at (length (ways left)) p) ∙ ap (premises_at right) q) in
        record {
          inside = inside;
          among = subst (λ (o : Option (List Premise)). IsSome o) same w.among;
          premises = w.premises;
          are = λ ps x. w.are ps (same ∙ x);
          goals = w.goals;
          pushed = w.pushed;
          goals_are = w.goals_are;
          shown = w.shown;
          quantifiers =
              ap (λ n. n + count) (sym (ap (λ t. slice_index (ways (bare t)) at) tree
              ∙ (index_right (ways left) (ways right) at p ∙ ap (slice_index (ways right)) q))) ∙ w.quantifiers;
        }

    -- past a premise
    pub way_past : (p : Premise) (g : Goal) (r : Form) (next : ℕ) (part : Part) (after : List Goal) (done : List Part) → bare (form_tree forms next) ≡ r
        → HasForm forms next
        → premises_at (bare (form_tree forms form)) at ≡ option_map (and_premise p) (premises_at r at) → ways (bare (form_tree forms form)) ≡ ways r
        → ((n : ℕ) → HasGoal forms n g) → ((ms : List ModuleTree) → shown_goal forms ms g ≡ premise_goal p) → shown_part part ≡ part_line p
        → after ≡ new ++ g ∷ [] → done ≡ parts ++ part ∷ []
        → IsOnWay forms clause k old next at count after done
    way_past p g r next part after done same inside prem wy has shows says pushed noted =
        let o : premises_at (bare (form_tree forms form)) at ≡ option_map (and_premise p) (premises_at (bare (form_tree forms next)) at) =
        prem ∙ ap (λ t. option_map (and_premise p) (premises_at t at)) (sym same) in
        record {
          inside = inside;
          among = some_of_map (and_premise p) (premises_at (bare (form_tree forms next)) at) (subst (λ (x : Option (List Premise)). IsSome x) o w.among);
          premises = p ∷ w.premises;
          are = λ ps e. w.are (ps ++ p ∷ []) (o ∙ ap (option_map (and_premise p)) e) ∙ ap (λ qs. Some qs) (append_assoc ps (p ∷ []) w.premises);
          goals = w.goals ++ g ∷ [];
          pushed = pushed ∙ (ap (λ gs. gs ++ g ∷ []) w.pushed ∙ append_assoc old w.goals (g ∷ []));
          goals_are = record {
            inside = λ n. All-push (HasGoal forms n) w.goals g (w.goals_are.inside n) (has n);
            trees = λ ms below. stacked-push forms ms w.goals g below ∙ (λ i. shows ms i ∷ w.goals_are.trees ms below i);
          };
          shown = ap (λ qs. map shown_part (reverse qs)) noted ∙ (ap (map shown_part) (reverse-append parts (part ∷ [])) ∙ (λ i. says i ∷ w.shown i));
          quantifiers = ap (λ ws. slice_index ws at + count) (ap (λ t. ways t) same ∙ sym wy) ∙ w.quantifiers;
        }

    -- into a quantifier
    pub way_in : (next n : ℕ) → form_tree forms form ≡ Forall (form_tree forms next) → HasForm forms next → n ≡ count + 1
        → IsOnWay forms clause k old next at n new parts
    way_in next n tree inside more =
        let body = bare (form_tree forms next) in
        let same : premises_at (bare (form_tree forms form)) at ≡ premises_at body at = ap (λ t. premises_at (bare t) at) tree in
        let among : IsSome (premises_at body at) = subst (λ (o : Option (List Premise)). IsSome o) same w.among in
        let s = ap (λ t. slice_index (ways (bare t)) at) tree ∙ index_suc (ways body) at (leaf_below body at among) in
        record {
          inside = inside;
          among = among;
          premises = w.premises;
          are = λ ps e. w.are ps (same ∙ e);
          goals = w.goals;
          pushed = w.pushed;
          goals_are = w.goals_are;
          shown = w.shown;
          quantifiers = let q = w.quantifiers in omega (arith, s, q, more);
        }

    -- at the head
    pub way_end : (a : Term) (opened : Opened) → form_tree forms form ≡ Atom a → opened.quantifiers ≡ count → opened.parts.items ≡ reverse parts
        → Opens forms clause k old new opened
    way_end a opened tree q r =
        let zeroth = at_zero at (subst (λ (t : Form). IsSome (premises_at (bare t) at)) tree w.among) in
        record {
          premises = w.premises;
          are = w.are [] (ap (λ t. premises_at (bare t) at) tree ∙ ap (premises_at (Atom (Var 0))) zeroth);
          goals = w.goals;
          pushed = w.pushed;
          goals_are = w.goals_are;
          parts = ap (map shown_part) r ∙ w.shown;
          quantifiers =
              q ∙ ((let s = ap (λ t. slice_index (ways (bare t)) at) tree ∙ ap (slice_index (0 ∷ [])) zeroth in
              let z : count ≡ slice_index (ways (bare (form_tree forms form))) at + count = omega (arith, s) in z) ∙ w.quantifiers);
        }
