-- A machine whose bank grows, and whose goal in front may be closed: it shows the same state.
use Rattle.std.proofs.Common.{◌≡◌, ℕ, Bool, true, false, List, [], ◌∷◌, length, All, refl, ap, sym, subst, ◌∙◌}
use Rattle.std.proofs.lemmas.List.Elements.{All-cons, All-head, All-tail, All-weaker}
use Rattle.ll_bank.specs.declared.At.{At}
use Rattle.ll_bank.specs.declared.FormAt.{FormAt}
use Rattle.ll_bank.specs.declared.environment.Environment.{Environment}
use Rattle.ll_bank.specs.Form.{form_applies_heads, sub_form}
use Rattle.ll_bank.specs.declared.FormNode.{FormNode}
use Rattle.ll_bank.specs.declared.FormNode.TheVariants.{Top as TopView, One as OneView, Atom as AtomView, With as WithView, Tensor as TensorView}
use Rattle.ll_bank.specs.declared.FormNode.TheVariants.{Plus as PlusView, Bang as BangView, Lolli as LolliView, Imp as ImpView, Forall as ForallView}
use Rattle.ll_bank.specs.declared.FormNode.TheVariants.{Exists as ExistsView, Use as UseView, Is as IsView, Less as LessView, Most as MostView}
use Rattle.ll_bank.specs.Nodes.{Nodes, HasForm, ShowsForm, Extends, form_of}
use Rattle.ll_bank.proofs.CallerLemmas.{HasForm-extends, AllInTerms-extends, term_trees-extends}
use Rattle.ll_laws.specs.Problem.{ProblemTree, setting_of}
use Rattle.ll_laws.specs.Settle.{Entry, Item as ItemOf}
use Rattle.ll_laws.specs.State.{State}
use Rattle.ll_laws.specs.declared.Candidate.{Candidate}
use Rattle.ll_laws.specs.Attempt.{attempt}
use Rattle.ll_laws.specs.Valid.{GoalSide, IsFormula}
use Rattle.ll_laws.specs.Consistent.{IsConsistent}
use Rattle.ll_laws.proofs.CallerLemmas.{grows-refl}
use Rattle.ll_agenda.specs.Frames.{HasTop}
use Rattle.ll_freeze.specs.Parts.{Parts}
use Rattle.ll_freeze.specs.declared.machine.Item.{Item}
use Rattle.ll_freeze.specs.declared.machine.Item.TheVariants.{Goal}
use Rattle.ll_freeze.specs.Reading.{reading, goal_tree}
use Rattle.ll_freeze.specs.Resting.{RestsOn}
use Rattle.ll_freeze.specs.Shown.{shown_item, items_of, state_of, closed_goal}
use Rattle.ll_freeze.specs.Fits.{Fits, HasItem, IsGoalIn, allowed}
use Rattle.ll_freeze.proofs.CallerLemmas.{keyed-later, state_by, state_is, modules_later, modules_has, form_same}
use Rattle.ll_engine.specs.Attempts.{Attempts}
use Rattle.ll_engine.specs.Front.{IsSameSearch, hands_on}
use Rattle.ll_engine.proofs.machine.ReadLemmas.{reading_same, values_extend, ordered_extends}
use Rattle.ll_engine.proofs.inferences.Connecting.{goal_closed, closed_sorted, goal_fits}
use Rattle.ll_engine.proofs.inferences.Quantifying.{items_stay, entries_stay, terms_stay, clauses_stay, goals_stay, item_has, fits_apply}

-- the later parts are the earlier ones in a bank with more places; the agenda is apart
pub record IsGrown (old new : Parts) : Type 0 where
  pub problem : new.problem ≡ old.problem
  pub modules : new.modules ≡ old.modules
  pub bank : Extends old.bank new.bank
  pub bound : new.bound ≡ old.bound
  pub levels : new.levels ≡ old.levels
  pub resources : new.resources ≡ old.resources
  pub left : new.left ≡ old.left
  pub eigens : new.eigens ≡ old.eigens
  pub terms : new.terms ≡ old.terms
  pub steps : new.steps ≡ old.steps
  pub top : HasTop new.agenda new.top

module _ (old new : Parts) (i j : Item) (rest : List Item) (f : Fits old) (e1 : items_of old ≡ i ∷ rest) (w : IsGrown old new)
    (e2 : items_of new ≡ j ∷ rest) (same : shown_item new.bank old.bound old.resources.kept j ≡ shown_item old.bank old.bound old.resources.kept i)
    (has : HasItem new.bank (length old.resources.kept) j) (sorted : IsGoalIn (allowed old) new.bank j) where
  reads : (x : ℕ) → reading new.bank old.bound x ≡ reading old.bank old.bound x
  reads x = reading_same old.bank new.bank w.bank old.bound f.bound x

  behind : All (HasItem old.bank (length old.resources.kept)) rest
  behind = All-tail (HasItem old.bank (length old.resources.kept)) i rest (subst (All (HasItem old.bank (length old.resources.kept))) e1 f.items)

  behind_sorted : All (IsGoalIn (allowed old) old.bank) rest
  behind_sorted = All-tail (IsGoalIn (allowed old) old.bank) i rest (subst (All (IsGoalIn (allowed old) old.bank)) e1 f.sorted_goals)

  may : allowed new ≡ allowed old
  may = λ k. record { modules = (setting_of (w.problem k)).modules; variables = length (w.levels k); eigens = w.eigens k; opens = true }

  state_same : state_of new ≡ state_of old
  state_same =
      let r = old.resources in
      let make : List (ItemOf _) → List (Entry _) → List _ → State = λ xs es ts. record {
        agenda = xs;
        context = es;
        flag = r.flag;
        levels = old.levels;
        eigens = old.eigens;
        terms = ts;
        label = r.next;
        steps = old.steps;
      } in
      state_is new
      ∙ ((λ k. state_by new.bank (w.bound k) (w.resources k) (e2 k) (w.levels k) (w.eigens k) (w.terms k) (w.steps k))
      ∙ ((λ k. make (same k ∷ items_stay old.bank new.bank old.bound old.bound w.bank reads r.kept (length r.kept) rest behind k)
      (entries_stay old.bank new.bank old.bound old.bound w.bank reads r.entries f.clauses k)
      (terms_stay old.bank new.bank old.bound old.bound w.bank reads old.terms f.terms k))
      ∙ ((λ k. state_by old.bank old.bound r (sym e1 k) old.levels old.eigens old.terms old.steps) ∙ sym (state_is old))))

  pub grown : IsSameSearch old new
  grown =
      let r = old.resources in let n = length r.kept in let grows = grows-refl (allowed old) in
      record {
        problem = w.problem;
        state = state_same;
        left = w.left;
        fits = record {
          valid = rw w.problem f.valid;
          consistent = subst (λ (p : ProblemTree). IsConsistent (setting_of p) (state_of new)) (sym w.problem) (rw state_same f.consistent);
          rests = subst (λ (p : ProblemTree). RestsOn p.clauses (state_of new)) (sym w.problem) (rw state_same f.rests);
          count = rw (w.bound, w.levels) f.count;
          bound = rw w.bound (values_extend old.bank new.bank w.bank old.bound f.bound);
          ordered = rw (w.bound, w.levels) (ordered_extends old new.bank f w.bank);
          terms = rw w.terms (AllInTerms-extends w.bank old.terms f.terms);
          variables = rw (w.terms, w.levels) (term_trees-extends w.bank old.terms f.terms ∙ f.variables);
          clauses =
              rw w.resources
              (All-weaker (λ (e : Entry FormAt). HasForm old.bank e.clause.0) (λ (e : Entry FormAt). HasForm new.bank e.clause.0)
              (λ e h. HasForm-extends w.bank e.clause.0 h) r.entries f.clauses);
          sorted_clauses = rw (w.resources, may) (clauses_stay old.bank new.bank (allowed old) (allowed old) w.bank grows r.entries f.clauses f.sorted_clauses);
          sorted_goals =
              rw (e2, may)
              (All-cons (IsGoalIn (allowed old) new.bank) j rest sorted
              (goals_stay old.bank new.bank (allowed old) (allowed old) w.bank grows n rest behind behind_sorted));
          has_modules = rw w.modules (modules_has old.bank new.bank old.modules w.bank f.has_modules);
          modules = rw (w.problem, w.modules) (modules_later old.bank new.bank old.modules w.bank f.has_modules ∙ f.modules);
          top = w.top;
          items =
              rw (w.resources, e2)
              (All-cons (HasItem new.bank n) j rest has
              (All-weaker (HasItem old.bank n) (HasItem new.bank n) (λ x h. item_has old.bank new.bank (allowed old) (allowed old) w.bank grows n x h) rest
              behind));
          labels = rw (w.resources, w.left) f.labels;
          eigens = rw (w.eigens, w.left) f.eigens;
          keyed = rw (w.resources, w.problem) (keyed-later old.bank new.bank (length old.problem.clauses) r w.bank f.clauses f.keyed);
        };
      }

-- the goal in front, closed
pub closed : (old new : Parts) (g at : FormAt) (env : Environment) (rest : List Item) → Fits old → items_of old ≡ Goal g env ∷ rest → IsGrown old new
    → items_of new ≡ closed_goal at ∷ rest → ShowsForm new.bank at.0 (goal_tree old.bank env g) → IsSameSearch old new
closed old new g at env rest f e1 w e2 s =
    let shown : goal_tree new.bank (record { end = 0; count = 0 }) at ≡ goal_tree old.bank env g = goal_closed new.bank at ∙ s.tree in
    let sorted = (All-head (IsGoalIn (allowed old) old.bank) (Goal g env) rest (subst (All (IsGoalIn (allowed old) old.bank)) e1 f.sorted_goals)).1 in
    grown old new (Goal g env) (closed_goal at) rest f e1 w e2
    (ap (λ h. Rattle.ll_laws.specs.Settle.Goal h) (ap (sub_form (reading new.bank old.bound)) shown
    ∙ form_same (reading new.bank old.bound) (reading old.bank old.bound) (reading_same old.bank new.bank w.bank old.bound f.bound) (goal_tree old.bank env g)))
    s.inside (closed_sorted (allowed old) new.bank at (subst (IsFormula (allowed old) GoalSide []) (sym s.tree) sorted))

-- nothing but a head has arguments in it
pub closes_heads : (m : Parts) (g : FormAt) (env : Environment) (rest : List Item) → Fits m → items_of m ≡ Goal g env ∷ rest
    → form_applies_heads (goal_tree m.bank env g) ≡ true
closes_heads m g env rest f e = fits_apply (allowed m) GoalSide [] (goal_tree m.bank env g) (goal_fits m g env rest (goal_tree m.bank env g) f e refl)

-- an inference of a machine that shows the same state is one of this machine
pub attempts_same : (old mid new : Parts) (c : Candidate) (b : Bool) → IsSameSearch old mid → Attempts mid c new b → Attempts old c new b
attempts_same old mid new c true w h = record {
  gives = (λ i. attempt (setting_of (sym w.problem i)) (sym w.state i) c) ∙ h.gives;
  problem = h.problem ∙ w.problem;
  left = h.left ∙ w.left;
  fits = h.fits;
}
attempts_same old mid new c false w h = (λ i. attempt (setting_of (sym w.problem i)) (sym w.state i) c) ∙ h

-- the goals that hand an environment on
pub hands_not : (bank : Nodes) (v : FormNode) → (v ≡ TopView → ⊥) → (v ≡ OneView → ⊥) → ((a : At) → v ≡ AtomView a → ⊥)
    → ((f g : FormAt) → v ≡ WithView f g → ⊥) → ((f g : FormAt) → v ≡ TensorView f g → ⊥) → ((f g : FormAt) → v ≡ PlusView f g → ⊥)
    → ((f : FormAt) → v ≡ BangView f → ⊥) → hands_on (form_of bank v) ≡ false
hands_not bank TopView t o a w x p b = absurd (t refl)
hands_not bank OneView t o a w x p b = absurd (o refl)
hands_not bank (AtomView k) t o a w x p b = absurd (a k refl)
hands_not bank (WithView f g) t o a w x p b = absurd (w f g refl)
hands_not bank (TensorView f g) t o a w x p b = absurd (x f g refl)
hands_not bank (PlusView f g) t o a w x p b = absurd (p f g refl)
hands_not bank (BangView f) t o a w x p b = absurd (b f refl)
hands_not bank (LolliView f g) t o a w x p b = refl
hands_not bank (ImpView f g) t o a w x p b = refl
hands_not bank (ForallView f) t o a w x p b = refl
hands_not bank (ExistsView f) t o a w x p b = refl
hands_not bank (UseView m ts f) t o a w x p b = refl
hands_not bank (IsView l r) t o a w x p b = refl
hands_not bank (LessView l r) t o a w x p b = refl
hands_not bank (MostView l r) t o a w x p b = refl
