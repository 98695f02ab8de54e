-- Each answer of the search of a valid problem is shown by its derivation.
use Rattle.std.proofs.Common.{◌≡◌, ◌≤◌, ◌<◌, ◌⊎◌, inl, inr, ℕ, zero, suc, refl, ap, sym, subst, ◌∙◌, Bool, true, List, [], ◌∷◌, ◌++◌, map, length, replicate}
use Rattle.std.proofs.Common.{take, drop, arith, append_assoc, length-append, ℤ}
use Rattle.std.specs.Prelude.{◌&&◌, nat_lt, Option, Some, None, slice_get, slice_index, flat_map, option_map}
use Rattle.std.proofs.lemmas.Bool.{lt-ltb, cases_lt}
use Rattle.std.proofs.lemmas.List.{map-append, length-map}
use Rattle.std.proofs.Math.Seq.{drop-append_seam, take-append_seam, get_or-append_seam}
use Rattle.ll_list_laws.proofs.CallerLemmas.{and_true_left as and_left, map_same, map_map, slice_index-append as old_level}
use Rattle.ll_bank.specs.Term.{Term, Var, sub, is_closed, eigens_below, Int}
use Rattle.ll_bank.specs.Form.{Form, Top, One, Atom, With, Tensor, Plus, Bang, Lolli, Imp, Forall, Exists, Use, sub_form, instantiate, Num, Is, Less, Most}
use Rattle.ll_laws.specs.declared.Candidate.{Candidate}
use Rattle.ll_laws.specs.declared.Event.TheVariants.{Answer, Reached}
use Rattle.ll_laws.specs.declared.Step.TheVariants.{Plain}
use Rattle.ll_laws.specs.Answered.{Answered}
use Rattle.ll_laws.specs.Leaf.{Leaf, leaf, ways}
use Rattle.ll_laws.specs.Module.{Setting}
use Rattle.ll_laws.specs.Settle.{Entry, Item, Goal}
use Rattle.ll_laws.specs.State.{State, settle, sub_item}
use Rattle.ll_laws.specs.Search.{events, events_settled, events_of}
use Rattle.ll_laws.specs.Attempt.{attempt, attempt_goal, attempt_agenda, successors, option_to_states, tries, agenda_tries, goal_tries, entry_tries, with_leaf}
use Rattle.ll_laws.specs.Attempt.{instantiated, vars_from, stepped, is_open, entry_at, take_value}
use Rattle.ll_laws.specs.Unify.{Solved, mgu, vars_below, IsUnifier}
use Rattle.ll_laws.specs.Valid.{AreModules, GoalSide, ClauseSide}
use Rattle.ll_laws.specs.Consistent.{IsConsistent, AreGoals, allowed_in}
use Rattle.ll_laws.specs.Dealt.{value, values}
use Rattle.ll_laws.specs.Line.{ExistsLine}
use Rattle.ll_laws.specs.Run.{goes_exists, MayChoose}
use Rattle.ll_laws.specs.Run as Run
use Rattle.ll_laws.proofs.unification.SubLaws.{sub_comp, sub_instantiate, IsClosing}
use Rattle.ll_laws.proofs.search.SettleLaws.{settle_twice}
use Rattle.ll_laws.proofs.unification.UnifyBest.{found-unifier}
use Rattle.ll_laws.proofs.consistency.ConsistentTerms.{Fit, fit-more, fit-vars, fit-made, GoesToFitting as GoesTo}
use Rattle.ll_laws.proofs.consistency.ConsistentForms.{fits-more, fits_of_formula}
use Rattle.ll_laws.proofs.consistency.ConsistentLeaves.{LeafFits, leaf-fits}
use Rattle.ll_laws.proofs.consistency.ConsistentUnifier.{mgu-goes}
use Rattle.ll_laws.proofs.consistency.ConsistentStates.{length-vars, settles_consistent}
use Rattle.ll_laws.proofs.consistency.ConsistentSteps.{steps_consistent, entry-formula, levels_with, allowed_with, grows_with, vars_with, count_with}
use Rattle.ll_laws.proofs.consistency.ConsistentSteps.{all_fit_of_made}
use Rattle.ll_laws.proofs.completeness.Grounding.{grounded, closed_sub}
use Rattle.ll_laws.proofs.search.Projected.{IsPlain, Projects, project, project_atom, project_value}
use Rattle.ll_laws.proofs.search.AnswerRuns.{Among, from, Comes, settled_comes, answer_comes, step_comes, open_entry, found_entry, taken_from}
use Rattle.ll_laws.proofs.search.AnswerSteps.{new_level, sub_below, ready, same_variables, may_choose}
use Rattle.ll_laws.specs.Number.{value_of}

-- ---- inferences that make no variable

plain_comes : (names : ℕ) (beside : Setting) (t u : State) (a : Answered) (g : Form) (rest : List (Item Form)) (c : Candidate)
    → AreModules names beside.modules beside.modules → IsConsistent beside t
    → settle t ≡ Some t → t.agenda ≡ Goal g ∷ rest → attempt_goal beside t g rest c ≡ Some u → IsPlain g → Comes beside u a → Comes beside t a
plain_comes names beside t u a g rest c v i k e h p w =
    let q = same_variables beside t u g rest c h p in
    let below : (x : ℕ) → x < length t.levels → eigens_below (slice_index t.levels x) (w.values x) ≡ true =
    subst (λ ls. (x : ℕ) → x < length ls → eigens_below (slice_index ls x) (w.values x) ≡ true) q.levels w.below in
    let r = ready names beside t w.values g rest v i w.closing below e in
    step_comes beside t u a g rest w.values k e w (project beside a.terms w.values w.closing t g r rest c u h p) w.closing below w.later
    (w.terms ∙ ap (λ ts. map (sub w.values) ts ++ w.later) q.terms)

-- ---- `exists`

exists_comes : (beside : Setting) (t : State) (a : Answered) (f : Form) (rest : List (Item Form)) → IsConsistent beside t → settle t ≡ Some t
    → t.agenda ≡ Goal (Exists f) ∷ rest
    → Comes beside (record (stepped t (Goal (instantiate f (Var (length t.levels))) ∷ rest) Plain) {
      levels = t.levels ++ t.eigens ∷ [];
      terms =
          t.terms ++ Var (length t.levels) ∷ [];
    }) a → Comes beside t a
exists_comes beside t a f rest i k e w =
    let n = length t.levels in
    let g = w.values in
    let count : length (t.levels ++ t.eigens ∷ []) ≡ suc n = length-append t.levels (t.eigens ∷ []) ∙ (omega arith) in
    let fits : eigens_below t.eigens (g n) ≡ true = subst (λ l. eigens_below l (g n) ≡ true) (new_level t.levels 1 t.eigens n (omega arith) (omega arith))
    (w.below n (omega (arith, count))) in
    let below : (x : ℕ) → x < n → eigens_below (slice_index t.levels x) (g x) ≡ true =
    λ x l. subst (λ z. eigens_below z (g x) ≡ true) (old_level t.levels (t.eigens ∷ []) x l) (w.below x (omega (arith, count, l))) in
    let terms : a.terms ≡ map (sub g) t.terms ++ (g n ∷ w.later) =
    w.terms ∙ (ap (λ ts. ts ++ w.later) (map-append (sub g) t.terms (Var n ∷ [])) ∙ append_assoc (map (sub g) t.terms) (g n ∷ []) w.later) in
    let chosen : value a.terms (length (map (sub g) t.terms)) ≡ g n =
    ap (λ ts. value ts (length (map (sub g) t.terms))) terms
    ∙ get_or-append_seam (map (sub g) t.terms) (g n) w.later (Var (length (map (sub g) t.terms))) in
    let to : Form → List Term → State = λ h ts. record (stepped (grounded g t) (Goal h ∷ map (sub_item g) rest) Plain) { terms = ts } in
    let p : Projects beside a.terms g t rest (Exists f) (to (sub_form g (instantiate f (Var n))) (map (sub g) (t.terms ++ Var n ∷ []))) = record {
      node = ExistsLine (g n);
      goes =
          subst (λ ts. Run.Goes beside (grounded g t) (map (sub_item g) rest) (Exists (sub_form g f)) (ExistsLine (g n))
          (to (sub_form g (instantiate f (Var n))) ts)) (sym (map-append (sub g) t.terms (Var n ∷ [])))
          (subst (λ h. Run.Goes beside (grounded g t) (map (sub_item g) rest) (Exists (sub_form g f)) (ExistsLine (g n))
          (to h (map (sub g) t.terms ++ g n ∷ []))) (sym (sub_instantiate g w.closing f (Var n)))
          (goes_exists (g n) (w.closing n, fits, tt)));
      chosen = chosen;
    } in
    step_comes beside t _ a (Exists f) rest g k e w p w.closing below (g n ∷ w.later) terms

-- ---- an atom

below_or_not : (x n : ℕ) → (nat_lt x n ≡ true) ⊎ (n ≤ x)
below_or_not x n = elim (cases_lt x n) [ inl l ↦ inl (lt-ltb x n l) | inr l ↦ inr (omega arith) ]

same_heads : (f : ℕ → Term) (s t : Term) → map (sub f) (s ∷ []) ≡ map (sub f) (t ∷ []) → sub f s ≡ sub f t
same_heads f s t h = cc

module _ (beside : Setting) (t : State) (at : Term) (rest : List (Item Form)) (label k n : ℕ) (e : Entry Form) (l : Leaf) (v : Solved)
    (i : IsConsistent beside t)
    (fa : Fit (allowed_in beside t) [] at) (fl : LeafFits (allowed_with beside t n) l) (h : mgu (at ∷ []) (l.head ∷ []) (levels_with t n) ≡ Some v) where
  goes : GoesTo (allowed_with beside t n) v.subst
  goes = mgu-goes (allowed_with beside t n) (at ∷ []) (l.head ∷ []) (levels_with t n) v
      (fit-more (allowed_in beside t) (allowed_with beside t n) [] [] at (grows_with beside t n) tt fa, tt) (fl.head.1, tt) h

  unifier : IsUnifier (at ∷ []) (l.head ∷ []) (levels_with t n) v.subst v.levels
  unifier =
      found-unifier (at ∷ []) (l.head ∷ []) (levels_with t n) v
      (one (fit-vars (allowed_with beside t n) [] at (fit-more (allowed_in beside t) (allowed_with beside t n) [] [] at (grows_with beside t n) tt fa)))
      (one (fit-vars (allowed_with beside t n) [] l.head fl.head.1)) h
    where
      one : {b : Bool} → b ≡ true → b && true ≡ true
      one q = ap (λ z. z && true) q

  module _ (a : Answered) (w : Comes beside (instantiated (with_leaf t rest label k n l) v) a) where
    back_closing : IsClosing (λ x. sub w.values (v.subst x))
    back_closing x = elim (below_or_not x (length (levels_with t n))) [
      | inl q ↦ closed_sub w.values w.closing (v.subst x) (and_left _ _ (and_left _ _ (fit-made (allowed_with beside t n) (v.subst x) (goes x q))))
      | inr q ↦ subst (λ z. is_closed (sub w.values z) ≡ true) (sym (unifier.over x q)) (w.closing x)
    ]

    back_below : (x : ℕ) → x < length (levels_with t n) → eigens_below (slice_index (levels_with t n) x) (sub w.values (v.subst x)) ≡ true
    back_below x q =
        sub_below (slice_index (levels_with t n) x) v.levels w.values w.below (v.subst x)
        (subst (λ m. vars_below m (v.subst x) ≡ true) (sym unifier.count)
        (fit-vars (allowed_with beside t n) [] (v.subst x) (goes x (lt-ltb x (length (levels_with t n)) q))))
        (unifier.respects x q)

    old_below : (x : ℕ) → x < length t.levels → eigens_below (slice_index t.levels x) (sub w.values (v.subst x)) ≡ true
    old_below x q = subst (λ z. eigens_below z (sub w.values (v.subst x)) ≡ true) (old_level t.levels (replicate n t.eigens) x q)
        (back_below x (let c = count_with t n in omega (arith, q, c)))

    chosen : MayChoose t.eigens (map (sub (λ x. sub w.values (v.subst x))) (vars_from (length t.levels) n))
    chosen =
        may_choose t.eigens (λ x. sub w.values (v.subst x)) (length t.levels) n
        (λ x q r. (
          back_closing x,
          subst (λ z. eigens_below z (sub w.values (v.subst x)) ≡ true) (new_level t.levels n t.eigens x q r)
              (back_below x (let c = count_with t n in omega (arith, r, c))),
        ))

    all_terms : a.terms ≡ map (sub (λ x. sub w.values (v.subst x))) t.terms
        ++ (map (sub (λ x. sub w.values (v.subst x))) (vars_from (length t.levels) n) ++ w.later)
    all_terms =
        w.terms
        ∙ (ap (λ ts. ts ++ w.later) (map_map (sub w.values) (sub v.subst) (t.terms ++ vars_from (length t.levels) n)
        ∙ (map_same _ _ (sub_comp w.values v.subst) (t.terms ++ vars_from (length t.levels) n)
        ∙ map-append (sub (λ x. sub w.values (v.subst x))) t.terms (vars_from (length t.levels) n)))
        ∙ append_assoc (map (sub (λ x. sub w.values (v.subst x))) t.terms) (map (sub (λ x. sub w.values (v.subst x))) (vars_from (length t.levels) n)) w.later)

    next_values : values a.terms (length t.terms) n ≡ map (sub (λ x. sub w.values (v.subst x))) (vars_from (length t.levels) n)
    next_values =
        let f : ℕ → Term = λ x. sub w.values (v.subst x) in
        let old : List Term = map (sub f) t.terms in let new : List Term = map (sub f) (vars_from (length t.levels) n) in
        ap (λ ts. take n (drop (length t.terms) ts)) all_terms
        ∙ (ap (λ m. take n (drop m (old ++ (new ++ w.later)))) (sym (length-map t.terms (sub f)))
        ∙ (ap (take n) (drop-append_seam old (new ++ w.later))
        ∙ (ap (λ m. take m (new ++ w.later)) (sym (length-map (vars_from (length t.levels) n) (sub f) ∙ length-vars (length t.levels) n))
        ∙ take-append_seam new w.later)))

    leaf_comes : settle t ≡ Some t → t.agenda ≡ Goal (Atom at) ∷ rest → entry_at t.context label ≡ Some e → is_open e ≡ true
        → slice_get (ways e.clause) k ≡ Some n
        → leaf e.clause k (vars_from (length t.levels) n) ≡ Some l → Comes beside t a
    leaf_comes s ag he ho hw hl =
        step_comes beside t (instantiated (with_leaf t rest label k n l) v) a (Atom at) rest (λ x. sub w.values (v.subst x)) s ag w
        (project_atom w.values v beside a.terms back_closing t rest at label k n e l he ho hw next_values chosen hl
        (same_heads v.subst at l.head unifier.unifies))
        back_closing old_below (map (sub (λ x. sub w.values (v.subst x))) (vars_from (length t.levels) n) ++ w.later) all_terms

atom_comes : (beside : Setting) (t u : State) (a : Answered) (at : Term) (rest : List (Item Form)) (c : Candidate) → IsConsistent beside t → settle t ≡ Some t
    → t.agenda ≡ Goal (Atom at) ∷ rest
    → Among c (flat_map (entry_tries at) t.context) → attempt_goal beside t (Atom at) rest c ≡ Some u → Comes beside u a → Comes beside t a
atom_comes beside t u a at rest c i s ag m h w =
    let k = taken_from t at rest c u h in
    let o = from (entry_tries at) t.context c m in
    let q = open_entry at o.x c o.gives in
    let fe : entry_at t.context c.label ≡ Some o.x = ap (entry_at t.context) q.label ∙ found_entry t.context o.x i.labels_differ o.among in
    let same : o.x ≡ k.entry = let z : Some o.x ≡ Some k.entry = sym fe ∙ k.finds in cc in
    let may = allowed_in beside t in
    let goals : AreGoals may (Goal (Atom at) ∷ rest) = subst (AreGoals may) ag i.goals in
    let fa = (fits_of_formula may GoalSide [] (Atom at) goals.0).1 in
    let fr = fits-more may (allowed_with beside t k.count) ClauseSide [] [] k.entry.clause (grows_with beside t k.count) tt
    (fits_of_formula may ClauseSide [] k.entry.clause (entry-formula may t.context c.label k.entry i.resources k.finds)) in
    let fl = leaf-fits (allowed_with beside t k.count) k.entry.clause c.leaf (vars_from (length t.levels) k.count) k.leaf_of fr
    (all_fit_of_made (allowed_with beside t k.count) (vars_from (length t.levels) k.count) (vars_with beside t k.count)) k.leaves in
    leaf_comes beside t at rest c.label c.leaf k.count k.entry k.leaf_of k.solved i fa fl k.solves a (subst (λ z. Comes beside z a) (sym k.is) w) s ag k.finds
    (subst (λ z. is_open z ≡ true) same q.opened) k.way k.leaves

-- ---- `is`

module _ (beside : Setting) (t : State) (left right : Term) (z : ℤ) (rest : List (Item Form)) (v : Solved) (i : IsConsistent beside t)
    (fl : Fit (allowed_in beside t) [] left)
    (h : mgu (left ∷ []) (Int z ∷ []) t.levels ≡ Some v) where
  value_goes : GoesTo (allowed_in beside t) v.subst
  value_goes = mgu-goes (allowed_in beside t) (left ∷ []) (Int z ∷ []) t.levels v (fl, tt) (tt, tt) h

  value_unifier : IsUnifier (left ∷ []) (Int z ∷ []) t.levels v.subst v.levels
  value_unifier = found-unifier (left ∷ []) (Int z ∷ []) t.levels v (ap (λ b. b && true) (fit-vars (allowed_in beside t) [] left fl)) refl h

  module _ (a : Answered) (w : Comes beside (instantiated (stepped t rest Plain) v) a) where
    value_closing : IsClosing (λ x. sub w.values (v.subst x))
    value_closing x = elim (below_or_not x (length t.levels)) [
      | inl q ↦ closed_sub w.values w.closing (v.subst x) (and_left _ _ (and_left _ _ (fit-made (allowed_in beside t) (v.subst x) (value_goes x q))))
      | inr q ↦ subst (λ y. is_closed (sub w.values y) ≡ true) (sym (value_unifier.over x q)) (w.closing x)
    ]

    value_below : (x : ℕ) → x < length t.levels → eigens_below (slice_index t.levels x) (sub w.values (v.subst x)) ≡ true
    value_below x q =
        sub_below (slice_index t.levels x) v.levels w.values w.below (v.subst x)
        (subst (λ m. vars_below m (v.subst x) ≡ true) (sym value_unifier.count)
        (fit-vars (allowed_in beside t) [] (v.subst x) (value_goes x (lt-ltb x (length t.levels) q))))
        (value_unifier.respects x q)

    value_terms : a.terms ≡ map (sub (λ x. sub w.values (v.subst x))) t.terms ++ w.later
    value_terms = w.terms ∙ ap (λ ts. ts ++ w.later) (map_map (sub w.values) (sub v.subst) t.terms ∙ map_same _ _ (sub_comp w.values v.subst) t.terms)

    value_comes : settle t ≡ Some t → t.agenda ≡ Goal (Num Is left right) ∷ rest → value_of beside.operators right ≡ Some z → Comes beside t a
    value_comes s ag e =
        step_comes beside t (instantiated (stepped t rest Plain) v) a (Num Is left right) rest (λ x. sub w.values (v.subst x)) s ag w
        (project_value w.values v beside a.terms t rest left right z e (same_heads v.subst left (Int z) value_unifier.unifies)) value_closing value_below
        w.later value_terms

is_comes : (beside : Setting) (t u : State) (a : Answered) (left right : Term) (rest : List (Item Form)) → IsConsistent beside t → settle t ≡ Some t
    → t.agenda ≡ Goal (Num Is left right) ∷ rest
    → take_value t left rest (value_of beside.operators right) ≡ Some u → Comes beside u a → Comes beside t a
is_comes beside t u a left right rest i s ag h w = at_value (value_of beside.operators right) refl h
  where
    goals : AreGoals (allowed_in beside t) (Goal (Num Is left right) ∷ rest)
    goals = subst (AreGoals (allowed_in beside t)) ag i.goals

    at_mgu : (z : ℤ) → value_of beside.operators right ≡ Some z → (o : Option Solved) → mgu (left ∷ []) (Int z ∷ []) t.levels ≡ o
        → option_map (instantiated (stepped t rest Plain)) o ≡ Some u → Comes beside t a
    at_mgu z e None q h = cc
    at_mgu z e (Some v) q h =
        let x : instantiated (stepped t rest Plain) v ≡ u = cc in
        value_comes beside t left right z rest v i (fits_of_formula (allowed_in beside t) GoalSide [] (Num Is left right) goals.0).1 q a
        (subst (λ y. Comes beside y a) (sym x) w) s ag e

    at_value : (o : Option ℤ) → value_of beside.operators right ≡ o → take_value t left rest o ≡ Some u → Comes beside t a
    at_value None e h = cc
    at_value (Some z) e h = at_mgu z e (mgu (left ∷ []) (Int z ∷ []) t.levels) refl h

-- ---- any inference

goal_comes : (names : ℕ) (beside : Setting) (t u : State) (a : Answered) (g : Form) (rest : List (Item Form)) (c : Candidate)
    → AreModules names beside.modules beside.modules → IsConsistent beside t
    → settle t ≡ Some t → t.agenda ≡ Goal g ∷ rest → Among c (goal_tries t.context g) → attempt_goal beside t g rest c ≡ Some u → Comes beside u a
    → Comes beside t a
goal_comes names beside t u a One rest c v i s e m h w = plain_comes names beside t u a One rest c v i s e h tt w
goal_comes names beside t u a Top rest c v i s e m h w = plain_comes names beside t u a Top rest c v i s e h tt w
goal_comes names beside t u a (Atom x) rest c v i s e m h w = atom_comes beside t u a x rest c i s e m h w
goal_comes names beside t u a (With f g) rest c v i s e m h w = plain_comes names beside t u a (With f g) rest c v i s e h tt w
goal_comes names beside t u a (Tensor f g) rest c v i s e m h w = plain_comes names beside t u a (Tensor f g) rest c v i s e h tt w
goal_comes names beside t u a (Plus f g) rest c v i s e m h w = plain_comes names beside t u a (Plus f g) rest c v i s e h tt w
goal_comes names beside t u a (Bang f) rest c v i s e m h w = plain_comes names beside t u a (Bang f) rest c v i s e h tt w
goal_comes names beside t u a (Lolli f g) rest c v i s e m h w = plain_comes names beside t u a (Lolli f g) rest c v i s e h tt w
goal_comes names beside t u a (Imp f g) rest c v i s e m h w = plain_comes names beside t u a (Imp f g) rest c v i s e h tt w
goal_comes names beside t u a (Forall f) rest c v i s e m h w = plain_comes names beside t u a (Forall f) rest c v i s e h tt w
goal_comes names beside t u a (Exists f) rest c v i s e m h w = let q : _ ≡ u = cc in
    exists_comes beside t a f rest i s e (subst (λ z. Comes beside z a) (sym q) w)
goal_comes names beside t u a (Use k ts g) rest c v i s e m h w = plain_comes names beside t u a (Use k ts g) rest c v i s e h tt w
goal_comes names beside t u a (Num Is l r) rest c v i s e m h w = is_comes beside t u a l r rest i s e h w
goal_comes names beside t u a (Num Less l r) rest c v i s e m h w = plain_comes names beside t u a (Num Less l r) rest c v i s e h tt w
goal_comes names beside t u a (Num Most l r) rest c v i s e m h w = plain_comes names beside t u a (Num Most l r) rest c v i s e h tt w

successor_is : (o : Option State) (u : State) → Among u (option_to_states o) → o ≡ Some u
successor_is None u h = absurd h
successor_is (Some t) u (inl q) = ap Some q
successor_is (Some t) u (inr h) = absurd h

-- where the events of a settled state with a goal in front come from
agenda_comes : (names : ℕ) (beside : Setting) (t u : State) (a : Answered) (c : Candidate) → AreModules names beside.modules beside.modules
    → IsConsistent beside t → settle t ≡ Some t
    → (g : List (Item Form)) → t.agenda ≡ g → Among c (agenda_tries g t.context) → attempt_agenda beside t g c ≡ Some u → Comes beside u a → Comes beside t a
agenda_comes names beside t u a c v i s (Goal g ∷ rest) e m h w = goal_comes names beside t u a g rest c v i s e m h w
agenda_comes names beside t u a c v i s _ e m h w = absurd m

attempt_comes : (names : ℕ) (beside : Setting) (t u : State) (a : Answered) (c : Candidate) → AreModules names beside.modules beside.modules
    → IsConsistent beside t → settle t ≡ Some t
    → Among c (tries t) → attempt beside t c ≡ Some u → Comes beside u a → Comes beside t a
unfolding tries attempt
attempt_comes names beside t u a c v i s m h w = agenda_comes names beside t u a c v i s t.agenda refl m h w

-- where a successor comes from
record Succeeds (beside : Setting) (t u : State) : Type 0 where
  by : Candidate
  tried : Among by (tries t)
  gives : attempt beside t by ≡ Some u

succeeds : (beside : Setting) (t u : State) → Among u (successors beside t) → Succeeds beside t u
unfolding successors
succeeds beside t u h =
    let o = from (λ c. option_to_states (attempt beside t c)) (tries t) u h in
    record { by = o.x; tried = o.among; gives = successor_is (attempt beside t o.x) u o.gives }

-- an answer of the search of a consistent state
pub state_comes : (names : ℕ) (beside : Setting) → AreModules names beside.modules beside.modules → (n : ℕ) (s : State) (a : Answered) → IsConsistent beside s
    → Among (Answer a) (events beside n s) → Comes beside s a
unfolding events
state_comes names beside v zero s a i h = step (settle s) refl h
  where
    step : (o : Option State) → settle s ≡ o → Among (Answer a) (events_settled (λ t. Reached ∷ []) o) → Comes beside s a
    step None q h = absurd h
    step (Some t) q h = settled_comes beside s t a q (settle_twice s t q) (front t.agenda refl h)
      where
        front : (g : List (Item Form)) → t.agenda ≡ g → Among (Answer a) (events_of (λ t. Reached ∷ []) t g) → Comes beside t a
        front [] e h = answer_comes beside t a (settle_twice s t q) e h
        front (x ∷ g) e (inl w) = cc
        front (x ∷ g) e (inr w) = absurd w
state_comes names beside v (suc n) s a i h = step (state_comes names beside v n) (settle s) refl h
  where
    step : ((u : State) (a : Answered) → IsConsistent beside u → Among (Answer a) (events beside n u) → Comes beside u a)
        → (o : Option State) → settle s ≡ o → Among (Answer a) (events_settled (λ t. flat_map (events beside n) (successors beside t)) o) → Comes beside s a
    step go None q h = absurd h
    step go (Some t) q h = settled_comes beside s t a q (settle_twice s t q) (front t.agenda refl h)
      where
        front : (g : List (Item Form)) → t.agenda ≡ g → Among (Answer a) (events_of (λ t. flat_map (events beside n) (successors beside t)) t g)
            → Comes beside t a
        front [] e h = answer_comes beside t a (settle_twice s t q) e h
        front (x ∷ g) e h =
            let o = from (events beside n) (successors beside t) (Answer a) h in
            let w = succeeds beside t o.x o.among in
            let it = settles_consistent beside s t i q in
            attempt_comes names beside t o.x a w.by v it (settle_twice s t q) w.tried w.gives
            (go o.x a (steps_consistent names beside t o.x w.by v it w.gives) o.gives)
