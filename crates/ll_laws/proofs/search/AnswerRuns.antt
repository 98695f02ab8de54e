-- Each answer of a search is a run in which the terms are chosen that the answer gives.
use Rattle.std.proofs.Common.{◌≡◌, ◌<◌, ◌⊎◌, inl, inr, ℕ, zero, suc, refl, ap, sym, subst, ◌∙◌, Bool, true, false, List, [], ◌∷◌, ◌++◌, map, nat_eq, length}
use Rattle.std.proofs.Common.{replicate, arith, append_assoc}
use Rattle.std.specs.Prelude.{◌||◌, not, if◌then◌else◌, Option, Some, None, option_map, option_and_then, slice_get, slice_index, flat_map, Contains}
use Rattle.std.specs.List.{list_any}
use Rattle.std.proofs.lemmas.Bool.{eqb-true, eq-eqb}
use Rattle.std.proofs.lemmas.List.{append-nil}
use Rattle.std.proofs.Math.Bool.{or-true}
use Rattle.std.proofs.lemmas.List.Concat.{flat_map-cons}
use Rattle.ll_list_laws.proofs.CallerLemmas.{and_true_left as and_left, and_true_right as and_right}
use Rattle.ll_bank.specs.Term.{Term, Var, sub, eigens_below}
use Rattle.ll_bank.specs.Form.{Form, sub_form}
use Rattle.ll_laws.specs.declared.Candidate.{Candidate}
use Rattle.ll_laws.specs.declared.Step.{Step}
use Rattle.ll_laws.specs.declared.Event.TheVariants.{Answer}
use Rattle.ll_laws.specs.Answered.{Answered}
use Rattle.ll_laws.specs.Leaf.{Leaf, leaf, ways}
use Rattle.ll_laws.specs.Module.{Setting}
use Rattle.ll_laws.specs.Settle.{Entry, Item, Goal, Front, has_live}
use Rattle.ll_laws.specs.State.{State, settle, front_of, with_front, sub_item, sub_entry}
use Rattle.ll_laws.specs.Attempt.{entry_tries, leaf_tries, fits_head, leaf_head, take_entry, take_way, take_leaf, with_leaf, instantiated, entry_at, is_open}
use Rattle.ll_laws.specs.Attempt.{vars_from}
use Rattle.ll_laws.specs.Search.{answer_of}
use Rattle.ll_laws.specs.Unify.{Solved, mgu}
use Rattle.ll_laws.specs.Consistent.{labels_differ}
use Rattle.ll_laws.specs.Run.{Trace, trace_end, trace_step}
use Rattle.ll_laws.specs.Dealt.{settled_line, front_line, after_line, replay}
use Rattle.ll_laws.proofs.unification.SubLaws.{subs_id, IsClosing}
use Rattle.ll_laws.proofs.derivations.Leftovers.{same_trace}
use Rattle.ll_laws.proofs.completeness.Grounding.{grounded, settle_grounded}
use Rattle.ll_laws.proofs.search.Projected.{step_of, goes_steps, goes_line, Projects}

-- ---- elements of lists

abbrev pub Among : {A : Type 0} → A → List A → Type 0
Among x [] = ⊥
Among x (y ∷ ys) = (y ≡ x) ⊎ Among x ys

pub among : {A : Type 0} (xs : List A) (x : A) → Contains xs x → Among x xs
among [] x (k, l, e) = absurd (omega (arith, l))
among (y ∷ ys) x (zero, l, e) = inl e
among (y ∷ ys) x (suc k, l, e) = inr (among ys x (k, omega (arith, l), e))

pub among_either : {A : Type 0} (x : A) (xs ys : List A) → Among x (xs ++ ys) → Among x xs ⊎ Among x ys
among_either x [] ys h = inr h
among_either x (z ∷ xs) ys (inl e) = inl (inl e)
among_either x (z ∷ xs) ys (inr h) = step (among_either x xs ys h)
  where
    step : Among x xs ⊎ Among x ys → Among x (z ∷ xs) ⊎ Among x ys
    step (inl a) = inl (inr a)
    step (inr b) = inr b

-- where an element of a `flat_map` comes from
pub record From {A B : Type 0} (f : A → List B) (xs : List A) (y : B) : Type 0 where
  pub x : A
  pub among : Among x xs
  pub gives : Among y (f x)

pub from : {A B : Type 0} (f : A → List B) (xs : List A) (y : B) → Among y (flat_map f xs) → From f xs y
from f [] y h = absurd h
from f (x ∷ xs) y h = step (among_either y (f x) (flat_map f xs) (subst (Among y) (flat_map-cons f x xs) h)) (from f xs y)
  where
    step : Among y (f x) ⊎ Among y (flat_map f xs) → (Among y (flat_map f xs) → From f xs y) → From f (x ∷ xs) y
    step (inl a) go = record { x = x; among = inl refl; gives = a }
    step (inr b) go = let r = go b in record { x = r.x; among = inr r.among; gives = r.gives }

-- ---- what an answer makes of a state

-- closed terms for the state's variables, that fit their levels, with which the branch to the answer is a run
pub record Comes (beside : Setting) (s : State) (a : Answered) : Type 0 where
  pub values : ℕ → Term
  pub closing : IsClosing values
  pub below : (x : ℕ) → x < length s.levels → eigens_below (slice_index s.levels x) (values x) ≡ true
  pub later : List Term
  pub terms : a.terms ≡ map (sub values) s.terms ++ later
  pub more : List Step
  pub steps : a.steps ≡ s.steps ++ more
  pub run : Trace beside (replay beside a.terms more (grounded values s)) (grounded values s)
  pub count : length (replay beside a.terms more (grounded values s)) ≡ length more

-- ---- settling

replay_settled : (beside : Setting) (all : List Term) (cs : List Step) (s t : State) → settle s ≡ settle t → replay beside all cs s ≡ replay beside all cs t
replay_settled beside all [] s t h = refl
replay_settled beside all (c ∷ cs) s t h = ap (λ o. after_line (settled_line beside all o c) (replay beside all cs)) h

front_comes : (beside : Setting) (s : State) (x : Front Form Form) (a : Answered) → settle s ≡ Some (with_front s x)
    → settle (with_front s x) ≡ Some (with_front s x) → Comes beside (with_front s x) a
    → Comes beside s a
front_comes beside s x a h k c =
    let e : settle (grounded c.values (with_front s x)) ≡ settle (grounded c.values s) =
    settle_grounded c.values (with_front s x) (with_front s x) k ∙ sym (settle_grounded c.values s (with_front s x) h) in
    let r = replay_settled beside a.terms c.more (grounded c.values (with_front s x)) (grounded c.values s) e in
    record {
      values = c.values;
      closing = c.closing;
      below = c.below;
      later = c.later;
      terms = c.terms;
      more = c.more;
      steps = c.steps;
      run = subst (λ ns. Trace beside ns (grounded c.values s)) r (same_trace beside _ (grounded c.values (with_front s x)) (grounded c.values s) e c.run);
      count = ap length (sym r) ∙ c.count;
    }

pub settled_comes : (beside : Setting) (s t : State) (a : Answered) → settle s ≡ Some t → settle t ≡ Some t → Comes beside t a → Comes beside s a
unfolding settle
settled_comes beside s t a h k c = step _ refl h
  where
    step : (o : Option (Front Form Form)) → settle s ≡ front_of s o → front_of s o ≡ Some t → Comes beside s a
    step None q h = cc
    step (Some x) q h =
        let e : t ≡ with_front s x = cc in
        front_comes beside s x a q (subst (λ z. settle z ≡ Some z) e k) (subst (λ z. Comes beside z a) e c)

-- ---- an answer

pub live_grounded : (f : ℕ → Term) (es : List (Entry Form)) → has_live (map (sub_entry f) es) ≡ has_live es
live_grounded f [] = refl
live_grounded f (e ∷ es) = ap (λ b. e.live || b) (live_grounded f es)

pub answer_comes : (beside : Setting) (t : State) (a : Answered) → settle t ≡ Some t → t.agenda ≡ [] → Among (Answer a) (answer_of t) → Comes beside t a
answer_comes beside t a k e h = step (not (has_live t.context) || t.flag) refl h
  where
    step : (b : Bool) → not (has_live t.context) || t.flag ≡ b → Among (Answer a) (if b then Answer (record { terms = t.terms; steps = t.steps }) ∷ [] else [])
        → Comes beside t a
    step false q h = absurd h
    step true q (inr h) = absurd h
    step true q (inl w) =
        let i : record { terms = t.terms; steps = t.steps } ≡ a = cc in
        record {
          values = Var;
          closing = λ x. refl;
          below = λ x l. refl;
          later = [];
          terms = ap (λ z. z.terms) (sym i) ∙ (sym (subs_id t.terms) ∙ sym (append-nil (map (sub Var) t.terms)));
          more = [];
          steps = ap (λ z. z.steps) (sym i) ∙ sym (append-nil t.steps);
          run = trace_end (grounded Var t) (settle_grounded Var t t k) (ap (map (sub_item Var)) e)
              (ap (λ b. not b || t.flag) (live_grounded Var t.context) ∙ q);
          count = refl;
        }

-- ---- an inference

pub step_comes : (beside : Setting) (t u : State) (a : Answered) (g : Form) (rest : List (Item Form)) (f : ℕ → Term) → settle t ≡ Some t
    → t.agenda ≡ Goal g ∷ rest → (c : Comes beside u a)
    → Projects beside a.terms f t rest g (grounded c.values u) → IsClosing f
    → ((x : ℕ) → x < length t.levels → eigens_below (slice_index t.levels x) (f x) ≡ true)
    → (later : List Term) → a.terms ≡ map (sub f) t.terms ++ later → Comes beside t a
step_comes beside t u a g rest f k e c p cl below later terms =
    let gt = grounded f t in
    let s : settle gt ≡ Some gt = settle_grounded f t t k in
    let fr : gt.agenda ≡ Goal (sub_form f g) ∷ map (sub_item f) rest = ap (map (sub_item f)) e in
    let ln = goes_line p.goes a.terms p.chosen in
    let rp : replay beside a.terms (step_of p.node ∷ c.more) gt ≡ p.node ∷ replay beside a.terms c.more (grounded c.values u) =
    ap (λ o. after_line (settled_line beside a.terms o (step_of p.node)) (replay beside a.terms c.more)) s
    ∙ (ap (λ ag. after_line (front_line beside a.terms gt ag (step_of p.node)) (replay beside a.terms c.more)) fr
    ∙ ap (λ l. after_line l (replay beside a.terms c.more)) ln) in
    let st : u.steps ≡ t.steps ++ step_of p.node ∷ [] = goes_steps p.goes in
    record {
      values = f;
      closing = cl;
      below = below;
      later = later;
      terms = terms;
      more = step_of p.node ∷ c.more;
      steps = c.steps ∙ (ap (λ z. z ++ c.more) st ∙ append_assoc t.steps (step_of p.node ∷ []) c.more);
      run = subst (λ ns. Trace beside ns gt) (sym rp) (trace_step gt (grounded c.values u) (sub_form f g) (map (sub_item f) rest) s fr p.goes c.run);
      count = ap length rp ∙ ap (λ n. suc n) c.count;
    }

-- ---- an atom: the candidate is one of an open entry

leaf_label : (a : Term) (e : Entry Form) (k : ℕ) (ns : List ℕ) (c : Candidate) → Among c (leaf_tries a e k ns) → c.label ≡ e.label
leaf_label a e k [] c h = absurd h
leaf_label a e k (n ∷ ns) c h = step (fits_head a (leaf_head e.clause k n)) (leaf_label a e (suc k) ns c) h
  where
    step : (b : Bool) → (Among c (leaf_tries a e (suc k) ns) → c.label ≡ e.label)
        → Among c (if b then record { label = e.label; leaf = k } ∷ leaf_tries a e (suc k) ns else leaf_tries a e (suc k) ns) → c.label ≡ e.label
    step true go (inl q) = ap (λ z. z.label) (sym q)
    step true go (inr h) = go h
    step false go h = go h

pub record OpenEntry (a : Term) (e : Entry Form) (c : Candidate) : Type 0 where
  pub opened : is_open e ≡ true
  pub label : c.label ≡ e.label

pub open_entry : (a : Term) (e : Entry Form) (c : Candidate) → Among c (entry_tries a e) → OpenEntry a e c
open_entry a e c h = step (is_open e) refl h
  where
    step : (b : Bool) → is_open e ≡ b → Among c (if b then leaf_tries a e 0 (ways e.clause) else []) → OpenEntry a e c
    step true q h = record { opened = q; label = leaf_label a e 0 (ways e.clause) c h }
    step false q h = absurd h

-- with distinct labels, an entry is found by its label
pub found_entry : (es : List (Entry Form)) (e : Entry Form) → labels_differ es ≡ true → Among e es → entry_at es e.label ≡ Some e
found_entry [] e d h = absurd h
found_entry (x ∷ es) e d (inl q) = rw (eq-eqb x.label e.label (ap (λ z. z.label) q)) (ap Some q)
found_entry (x ∷ es) e d (inr h) = step (nat_eq x.label e.label) refl (found_entry es e (and_right _ _ d) h)
  where
    has : (ys : List (Entry Form)) → Among e ys → (n : ℕ) → n ≡ e.label → list_any (λ y. nat_eq n y.label) ys ≡ true
    has [] h n q = absurd h
    has (y ∷ ys) (inl w) n q = ap (λ b. b || list_any (λ y. nat_eq n y.label) ys) (eq-eqb n y.label (q ∙ ap (λ z. z.label) (sym w)))
    has (y ∷ ys) (inr w) n q = ap (λ b. nat_eq n y.label || b) (has ys w n q) ∙ or-true (nat_eq n y.label)

    step : (b : Bool) → nat_eq x.label e.label ≡ b → entry_at es e.label ≡ Some e → (if b then Some x else entry_at es e.label) ≡ Some e
    step true q g =
        let w : not (list_any (λ y. nat_eq x.label y.label) es) ≡ true = and_left _ _ d in
        let v = has es h x.label (eqb-true x.label e.label q) in absurd (off (list_any (λ y. nat_eq x.label y.label) es) w v)
      where
        off : (b : Bool) → not b ≡ true → b ≡ true → ⊥
        off true p q = cc
        off false p q = cc
    step false q g = g

-- a leaf that was taken: from an entry, with so many new variables, and what unification found
pub record Taken (s : State) (a : Term) (rest : List (Item Form)) (c : Candidate) (u : State) : Type 0 where
  pub entry : Entry Form
  pub count : ℕ
  pub leaf_of : Leaf
  pub solved : Solved
  pub finds : entry_at s.context c.label ≡ Some entry
  pub way : slice_get (ways entry.clause) c.leaf ≡ Some count
  pub leaves : leaf entry.clause c.leaf (vars_from (length s.levels) count) ≡ Some leaf_of
  pub solves : mgu (a ∷ []) (leaf_of.head ∷ []) (s.levels ++ replicate count s.eigens) ≡ Some solved
  pub is : instantiated (with_leaf s rest c.label c.leaf count leaf_of) solved ≡ u

pub taken_from : (s : State) (a : Term) (rest : List (Item Form)) (c : Candidate) (u : State)
    → option_and_then (take_entry s a rest c.label c.leaf) (entry_at s.context c.label) ≡ Some u → Taken s a rest c u
taken_from s a rest c u h = at_entry (entry_at s.context c.label) refl h
  where
    at_mgu : (e : Entry Form) (n : ℕ) (l : Leaf) → entry_at s.context c.label ≡ Some e → slice_get (ways e.clause) c.leaf ≡ Some n
        → leaf e.clause c.leaf (vars_from (length s.levels) n) ≡ Some l
        → (o : Option Solved) → mgu (a ∷ []) (l.head ∷ []) (s.levels ++ replicate n s.eigens) ≡ o
        → option_map (instantiated (with_leaf s rest c.label c.leaf n l)) o ≡ Some u → Taken s a rest c u
    at_mgu e n l p q r None w h = cc
    at_mgu e n l p q r (Some v) w h = record { entry = e; count = n; leaf_of = l; solved = v; finds = p; way = q; leaves = r; solves = w; is = cc }

    at_leaf : (e : Entry Form) (n : ℕ) → entry_at s.context c.label ≡ Some e → slice_get (ways e.clause) c.leaf ≡ Some n
        → (o : Option Leaf) → leaf e.clause c.leaf (vars_from (length s.levels) n) ≡ o → option_and_then (take_leaf s a rest c.label c.leaf n) o ≡ Some u
        → Taken s a rest c u
    at_leaf e n p q None r h = cc
    at_leaf e n p q (Some l) r h = at_mgu e n l p q r (mgu (a ∷ []) (l.head ∷ []) (s.levels ++ replicate n s.eigens)) refl h

    at_way : (e : Entry Form) → entry_at s.context c.label ≡ Some e → (o : Option ℕ) → slice_get (ways e.clause) c.leaf ≡ o
        → option_and_then (take_way s a rest c.label c.leaf e) o ≡ Some u → Taken s a rest c u
    at_way e p None q h = cc
    at_way e p (Some n) q h = at_leaf e n p q (leaf e.clause c.leaf (vars_from (length s.levels) n)) refl h

    at_entry : (o : Option (Entry Form)) → entry_at s.context c.label ≡ o → option_and_then (take_entry s a rest c.label c.leaf) o ≡ Some u → Taken s a rest c u
    at_entry None p h = cc
    at_entry (Some e) p h = at_way e p (slice_get (ways e.clause) c.leaf) refl h
