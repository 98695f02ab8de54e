-- An inference that takes no leaf: what it makes of a machine.
use Rattle.std.proofs.Common.{◌≡◌, ℕ, zero, suc, ◌≤◌, ◌<◌, refl, ap, sym, ◌∙◌, subst, List, [], ◌∷◌, ◌++◌, map, length, arith, All, false}
use Rattle.std.proofs.lemmas.List.Elements.{All-cons, All-head, All-tail, All-map, All-weaker}
use Rattle.std.specs.Prelude.{Option, Some}
use Rattle.ll_bank.specs.declared.At.{At}
use Rattle.ll_bank.specs.declared.FormAt.{FormAt}
use Rattle.ll_bank.specs.declared.environment.Environment.{Environment}
use Rattle.ll_bank.specs.Environments.{IsWithin}
use Rattle.ll_bank.proofs.CallerLemmas.{form_empty}
use Rattle.ll_bank.specs.Nodes.{Nodes, HasForm, form_tree}
use Rattle.ll_bank.specs.Form.{Form, sub_form, Top, One, Tensor, Plus, With, Bang, Lolli, Imp}
use Rattle.ll_laws.specs.declared.Candidate.{Candidate}
use Rattle.ll_laws.specs.declared.Step.{Step}
use Rattle.ll_laws.specs.declared.Kind.TheVariants.{Linear, Unbounded}
use Rattle.ll_laws.specs.declared.Step.TheVariants.{Plain, Left, Right}
use Rattle.ll_laws.specs.Settle.{
  Saved,
  Entry,
  marks,
  unlive,
  WithMiddle,
  WithEnd as EndOfWith,
  BangEnd as EndOfBang,
  Goal as GoalOf,
  LolliEnd as
      EndOfLolli,
  ImpEnd as EndOfImp,
}
use Rattle.ll_laws.specs.Settle.{Item as ItemOf}
use Rattle.ll_laws.specs.State.{State}
use Rattle.ll_laws.specs.Attempt.{attempt, attempt_agenda, attempt_goal, take_side, stepped, saved_of}
use Rattle.ll_laws.specs.Valid.{Allowed, IsFormula, GoalSide, ClauseSide}
use Rattle.ll_laws.proofs.CallerLemmas.{FormFits, fits_of_formula, formula_of_fits, steps_consistent}
use Rattle.ll_freeze.specs.Keyed.{AreKeyed, clause_key}
use Rattle.ll_engine.proofs.inferences.AtomLemmas.{splits}
use Rattle.ll_freeze.proofs.CallerLemmas.{keyed-alike, keyed-loaded, clauses-unlive}
use Rattle.ll_freeze.proofs.CallerLemmas.{step_rests, state_by, state_is, fits_kept, more_kept, one_more}
use Rattle.ll_resources.specs.Resources.{Resources, saved_at, saved_now, saved_as, KeepsSaved, after_load_keyed, after_erase, after_save, after_bang}
use Rattle.ll_resources.specs.declared.context.Saved.{Saved as Handle}
use Rattle.ll_freeze.specs.Parts.{Parts}
use Rattle.ll_freeze.specs.declared.machine.Item.{Item}
use Rattle.ll_freeze.specs.declared.machine.Item.TheVariants.{Goal, LolliEnd, ImpEnd, Mid, WithEnd, BangEnd}
use Rattle.ll_freeze.specs.Reading.{reading, goal_tree}
use Rattle.ll_freeze.specs.Shown.{shown_item, shown_entry, items_of, state_of, closed_goal, no_variables}
use Rattle.ll_freeze.specs.Fits.{Fits, HasItem, IsGoalIn, allowed, setting}
use Rattle.ll_engine.specs.Attempts.{Infers}
use Rattle.ll_engine.specs.Rows.{GoesOn}
use Rattle.ll_freeze.specs.Calls.{SameTerms}
use Rattle.ll_engine.proofs.machine.MachineLemmas.{goal_inside, goal_sorted}

-- a machine with this goal in front
abbrev pub at_goal : Parts → FormAt → Environment → List Item → State
at_goal m g env rest = state_by m.bank m.bound m.resources (Goal g env ∷ rest) m.levels m.eigens m.terms m.steps

pub attempt_by : (old : Parts) (g : FormAt) (env : Environment) (rest : List Item) (c : Candidate) (f : Form) → items_of old ≡ Goal g env ∷ rest
    → goal_tree old.bank env g ≡ f
    → attempt (setting old) (state_of old) c
    ≡ attempt_goal (setting old) (at_goal old g env rest) (sub_form (reading old.bank old.bound) f)
    (map (shown_item old.bank old.bound old.resources.kept) rest) c
unfolding attempt
attempt_by old g env rest c f e1 e2 =
    let s : state_of old ≡ at_goal old g env rest =
    state_is old ∙ ap (λ xs. state_by old.bank old.bound old.resources xs old.levels old.eigens old.terms old.steps) e1 in
    ap (λ (s : State). attempt_agenda (setting old) s s.agenda c) s
    ∙ ap (λ (f : Form). attempt_goal (setting old) (at_goal old g env rest) (sub_form (reading old.bank old.bound) f)
    (map (shown_item old.bank old.bound old.resources.kept) rest) c) e2

-- an inference that leaves the terms as they are
pub row : (old new : Parts) (h : Resources FormAt) (k : Resources FormAt) (g : FormAt) (env : Environment) (rest front : List Item) (step : Step)
    (c : Candidate) (f : Form)
    → Fits old → items_of old ≡ Goal g env ∷ rest
    → goal_tree old.bank env g ≡ f → GoesOn (record old { resources = h }) front rest step new → h ≡ k
    → attempt_goal (setting old) (at_goal old g env rest) (sub_form (reading old.bank old.bound) f)
    (map (shown_item old.bank old.bound old.resources.kept) rest) c
    ≡ Some (state_by old.bank old.bound k (front ++ rest) old.levels old.eigens old.terms (old.steps ++ step ∷ []))
    → All (λ e. HasForm old.bank e.clause.0) k.entries → All (HasItem old.bank (length k.kept)) (front ++ rest)
    → All (λ e. IsFormula (allowed old) ClauseSide [] (form_tree old.bank e.clause.0)) k.entries → All (IsGoalIn (allowed old) old.bank) (front ++ rest)
    → k.next ≤ suc old.resources.next → AreKeyed old.bank (length old.problem.clauses) k → Infers old c new
row old new h k g env rest front step c f fits e1 e2 go e4 e3 clauses items sorted goals next keyed =
    let s : SameTerms old new =
    record {
      problem = ap (λ (m : Parts). m.problem) go.same;
      modules = ap (λ (m : Parts). m.modules) go.same;
      bank = ap (λ (m : Parts). m.bank) go.same;
      bound = ap (λ (m : Parts). m.bound) go.same;
      levels = ap (λ (m : Parts). m.levels) go.same;
      terms = ap (λ (m : Parts). m.terms) go.same;
    } in
    let r : new.resources ≡ k = ap (λ (m : Parts). m.resources) go.same ∙ e4 in
    let x : new.eigens ≡ old.eigens = ap (λ (m : Parts). m.eigens) go.same in
    let t : state_of new ≡ state_by old.bank old.bound k (front ++ rest) old.levels old.eigens old.terms (old.steps ++ step ∷ []) =
    state_is new ∙ rw (s.bank, s.bound, r, go.items, s.levels, x, s.terms, go.steps) refl in
    let a : attempt (setting old) (state_of old) c ≡ Some (state_of new) = attempt_by old g env rest c f e1 e2 ∙ (e3 ∙ ap (λ (s : State). Some s) (sym t)) in
    let l = go.left in let n : new.resources.next ≡ k.next = ap (λ r. r.next) r in
    record {
      gives = a;
      problem = s.problem;
      left = l;
      fits = fits_kept old new s fits
          (steps_consistent (length old.problem.names) (setting old) (state_of old) (state_of new) c fits.valid.modules fits.consistent a)
          (step_rests (length old.problem.names) old.problem.modules old.problem.clauses fits.valid.clauses (setting old) (state_of old) (state_of new) c a
          fits.rests)
          x (rw r clauses) (rw r sorted) go.top (rw (r, go.items) items) (rw go.items goals) (let b = fits.labels in
          omega (arith, b, l, n, next)) (let b = fits.eigens in omega (arith, b, l, x)) (rw r keyed);
    }

-- items behind a goal are items of the machine
pub rest_items : (m : Parts) (g : FormAt) (env : Environment) (rest : List Item) → Fits m → items_of m ≡ Goal g env ∷ rest
    → All (HasItem m.bank (length m.resources.kept)) rest
rest_items m g env rest f e =
    let a : All (HasItem m.bank (length m.resources.kept)) (Goal g env ∷ rest) =
    subst (λ (xs : List Item). All (HasItem m.bank (length m.resources.kept)) xs) e f.items in
    All-tail (HasItem m.bank (length m.resources.kept)) (Goal g env) rest a

pub rest_goals : (m : Parts) (g : FormAt) (env : Environment) (rest : List Item) → Fits m → items_of m ≡ Goal g env ∷ rest
    → All (IsGoalIn (allowed m) m.bank) rest
rest_goals m g env rest f e =
    All-tail (IsGoalIn (allowed m) m.bank) (Goal g env) rest (subst (λ (xs : List Item). All (IsGoalIn (allowed m) m.bank) xs) e f.sorted_goals)

-- the goal in front as it stands
pub goal_fits : (m : Parts) (g : FormAt) (env : Environment) (rest : List Item) (h : Form) → Fits m → items_of m ≡ Goal g env ∷ rest
    → goal_tree m.bank env g ≡ h
    → FormFits (allowed m) GoalSide [] h
goal_fits m g env rest h f e1 e2 =
    let a : All (IsGoalIn (allowed m) m.bank) (Goal g env ∷ rest) = subst (λ (xs : List Item). All (IsGoalIn (allowed m) m.bank) xs) e1 f.sorted_goals in
    fits_of_formula (allowed m) GoalSide [] h (subst (λ (x : Form). IsFormula (allowed m) GoalSide [] x) e2
    (All-head (IsGoalIn (allowed m) m.bank) (Goal g env) rest a).1)

-- and its environment is one of the machine's variables
pub goal_within : (m : Parts) (g : FormAt) (env : Environment) (rest : List Item) → Fits m → items_of m ≡ Goal g env ∷ rest → IsWithin (length m.levels) env
goal_within m g env rest f e = (goal_sorted m g env rest f e).0

-- a goal with no free bound place stands as it is
pub goal_closed : (bank : Nodes) (g : FormAt) → goal_tree bank no_variables g ≡ form_tree bank g.0
goal_closed bank g = form_empty [] (form_tree bank g.0) refl

pub closed_sorted : (may : Allowed) (bank : Nodes) (g : FormAt) → IsFormula may GoalSide [] (form_tree bank g.0) → IsGoalIn may bank (closed_goal g)
closed_sorted may bank g h = (record { count = omega arith; end = omega arith }, subst (IsFormula may GoalSide []) (sym (goal_closed bank g)) h)

-- parts of the goal in front are places of the bank
part : (m : Parts) (g : FormAt) (env : Environment) (f : FormAt) (rest : List Item) → Fits m → items_of m ≡ Goal g env ∷ rest → f.0 < g.0 → HasForm m.bank f.0
part m g env f rest h e l = let a = goal_inside m g env rest h e in omega (arith, a, l)

pub one : (old new : Parts) (g : FormAt) (env : Environment) (rest : List Item) (c : Candidate) → Fits old → items_of old ≡ Goal g env ∷ rest
    → goal_tree old.bank env g ≡ One
    → GoesOn old [] rest Plain new → Infers old c new
one old new g env rest c f e1 e2 go = row old new old.resources old.resources g env rest [] Plain c One f e1 e2 go refl refl f.clauses
    (rest_items old g env rest f e1)
    f.sorted_clauses (rest_goals old g env rest f e1) (omega arith) f.keyed

pub top : (old new : Parts) (h : Resources FormAt) (g : FormAt) (env : Environment) (rest : List Item) (c : Candidate) → Fits old
    → items_of old ≡ Goal g env ∷ rest
    → goal_tree old.bank env g ≡ Top
    → h ≡ after_erase old.resources → GoesOn (record old { resources = h }) [] rest Plain new → Infers old c new
top old new h g env rest c f e1 e2 e go = row old new h (after_erase old.resources) g env rest [] Plain c Top f e1 e2 go e refl f.clauses
    (rest_items old g env rest f e1)
    f.sorted_clauses (rest_goals old g env rest f e1) (omega arith) (keyed-alike old.bank (length old.problem.clauses) old.resources _ refl refl f.keyed)

pub tensor : (old new : Parts) (g : FormAt) (env : Environment) (a b : FormAt) (rest : List Item) (c : Candidate) → Fits old → items_of old ≡ Goal g env ∷ rest
    → goal_tree old.bank env g ≡ Tensor (goal_tree old.bank env a) (goal_tree old.bank env b) → (a.0 < g.0) × (b.0 < g.0)
    → GoesOn old (Goal a env ∷ Goal b env ∷ []) rest Plain new → Infers old c new
tensor old new g env a b rest c f e1 e2 l go =
    let P : Item → Type 0 = HasItem old.bank (length old.resources.kept) in let may = allowed old in let R : Item → Type 0 = IsGoalIn may old.bank in
    let s = goal_fits old g env rest _ f e1 e2 in
    row old new old.resources old.resources g env rest (Goal a env ∷ Goal b env ∷ []) Plain c _ f e1 e2 go refl refl f.clauses
    (All-cons P (Goal a env) (Goal b env ∷ rest) (part old g env a rest f e1 l.0)
    (All-cons P (Goal b env) rest (part old g env b rest f e1 l.1) (rest_items old g env rest f e1)))
    f.sorted_clauses
    (All-cons R (Goal a env) (Goal b env ∷ rest) (goal_within old g env rest f e1, formula_of_fits may GoalSide [] _ s.1)
    (All-cons R (Goal b env) rest (goal_within old g env rest f e1, formula_of_fits may GoalSide [] _ s.2) (rest_goals old g env rest f e1))) (omega arith)
    f.keyed

pub left : (old new : Parts) (g : FormAt) (env : Environment) (a b : FormAt) (rest : List Item) (c : Candidate) → Fits old → items_of old ≡ Goal g env ∷ rest
    → goal_tree old.bank env g ≡ Plus (goal_tree old.bank env a) (goal_tree old.bank env b) → (a.0 < g.0) × (b.0 < g.0) → c.leaf ≡ 0
    → GoesOn old (Goal a env ∷ []) rest Left new → Infers old c new
left old new g env a b rest c f e1 e2 l z go =
    let s = reading old.bank old.bound in let p = goal_fits old g env rest _ f e1 e2 in
    row old new old.resources old.resources g env rest (Goal a env ∷ []) Left c _ f e1 e2 go refl
    (ap (λ k. Some (take_side k (at_goal old g env rest) (sub_form s (goal_tree old.bank env a)) (sub_form s (goal_tree old.bank env b))
    (map (shown_item old.bank old.bound old.resources.kept) rest))) z)
    f.clauses (All-cons (HasItem old.bank (length old.resources.kept)) (Goal a env) rest (part old g env a rest f e1 l.0) (rest_items old g env rest f e1))
    f.sorted_clauses (All-cons (IsGoalIn (allowed old) old.bank) (Goal a env) rest
    (goal_within old g env rest f e1, formula_of_fits (allowed old) GoalSide [] _ p.1) (rest_goals old g env rest f e1))
    (omega arith) f.keyed

right_side : (k : ℕ) (s : State) (f g : Form) (rest : List (ItemOf Form)) → (k ≡ 0 → ⊥) → take_side k s f g rest ≡ stepped s (GoalOf g ∷ rest) Right
right_side zero s f g rest n = absurd (n refl)
right_side (suc k) s f g rest n = refl

pub right : (old new : Parts) (g : FormAt) (env : Environment) (a b : FormAt) (rest : List Item) (c : Candidate) → Fits old → items_of old ≡ Goal g env ∷ rest
    → goal_tree old.bank env g ≡ Plus (goal_tree old.bank env a) (goal_tree old.bank env b) → (a.0 < g.0) × (b.0 < g.0) → (c.leaf ≡ 0 → ⊥)
    → GoesOn old (Goal b env ∷ []) rest Right new → Infers old c new
right old new g env a b rest c f e1 e2 l z go =
    let p = goal_fits old g env rest _ f e1 e2 in
    row old new old.resources old.resources g env rest (Goal b env ∷ []) Right c _ f e1 e2 go refl
    (ap (λ (s : State). Some s) (right_side c.leaf (at_goal old g env rest) _ _ _ z))
    f.clauses (All-cons (HasItem old.bank (length old.resources.kept)) (Goal b env) rest (part old g env b rest f e1 l.1) (rest_items old g env rest f e1))
    f.sorted_clauses (All-cons (IsGoalIn (allowed old) old.bank) (Goal b env) rest
    (goal_within old g env rest f e1, formula_of_fits (allowed old) GoalSide [] _ p.2) (rest_goals old g env rest f e1))
    (omega arith) f.keyed

pub implies : (old new : Parts) (h : Resources FormAt) (g : FormAt) (env : Environment) (r b : FormAt) (rest : List Item) (c : Candidate) → Fits old
    → items_of old ≡ Goal g env ∷ rest
    → goal_tree old.bank env g ≡ Imp (form_tree old.bank r.0) (form_tree old.bank b.0) → (r.0 < g.0) × (b.0 < g.0)
    → h ≡ after_load_keyed Unbounded r (clause_key (form_tree old.bank r.0)) old.resources → GoesOn (record old { resources = h })
    (closed_goal b ∷ ImpEnd ∷ []) rest Plain new → Infers old c new
implies old new h g env r b rest c f e1 e2 l e go =
    let P : Item → Type 0 = HasItem old.bank (length old.resources.kept) in let may = allowed old in let R : Item → Type 0 = IsGoalIn may old.bank in
    let s = goal_fits old g env rest _ f e1 e2 in
    row old new h (after_load_keyed Unbounded r (clause_key (form_tree old.bank r.0)) old.resources) g env rest (closed_goal b ∷ ImpEnd ∷ []) Plain c _ f e1
    e2 go e
    (ap (λ x. Some (record (state_by old.bank old.bound (after_load_keyed Unbounded r (clause_key (form_tree old.bank r.0)) old.resources) rest
    old.levels old.eigens old.terms (old.steps ++ Plain ∷ [])) {
      agenda = GoalOf (sub_form (reading old.bank old.bound) x) ∷ EndOfImp
          ∷ map (shown_item old.bank old.bound old.resources.kept) rest;
    })) (sym (goal_closed old.bank b)))
    (All-cons (λ (e : Entry FormAt). HasForm old.bank e.clause.0) _ old.resources.entries (part old g env r rest f e1 l.0) f.clauses)
    (All-cons P (closed_goal b) (ImpEnd ∷ rest) (part old g env b rest f e1 l.1) (All-cons P ImpEnd rest tt (rest_items old g env rest f e1)))
    (All-cons (λ (e : Entry FormAt). IsFormula may ClauseSide [] (form_tree old.bank e.clause.0)) _ old.resources.entries
    (formula_of_fits may ClauseSide [] _ s.0) f.sorted_clauses)
    (All-cons R (closed_goal b) (ImpEnd ∷ rest) (closed_sorted may old.bank b (formula_of_fits may GoalSide [] _ s.1))
    (All-cons R ImpEnd rest tt (rest_goals old g env rest f e1))) (omega arith)
    (keyed-loaded old.bank (length old.problem.clauses) Unbounded r old.resources (splits old _ f refl).enough f.keyed)

pub linear : (old new : Parts) (h : Resources FormAt) (g : FormAt) (env : Environment) (r b : FormAt) (flag : _) (rest : List Item) (c : Candidate)
    → Fits old → items_of old ≡ Goal g env ∷ rest
    → goal_tree old.bank env g ≡ Lolli (form_tree old.bank r.0) (form_tree old.bank b.0) → (r.0 < g.0) × (b.0 < g.0) → flag ≡ old.resources.flag
    → h ≡ after_load_keyed Linear r (clause_key (form_tree old.bank r.0)) old.resources → GoesOn (record old { resources = h })
    (closed_goal b ∷ LolliEnd flag ∷ []) rest Plain new → Infers old c new
linear old new h g env r b flag rest c f e1 e2 l w e go =
    let P : Item → Type 0 = HasItem old.bank (length old.resources.kept) in let may = allowed old in let R : Item → Type 0 = IsGoalIn may old.bank in
    let s = goal_fits old g env rest _ f e1 e2 in
    row old new h (after_load_keyed Linear r (clause_key (form_tree old.bank r.0)) old.resources) g env rest (closed_goal b ∷ LolliEnd flag ∷ []) Plain c _
    f e1 e2 go e
    (ap (λ x. Some (record (state_by old.bank old.bound (after_load_keyed Linear r (clause_key (form_tree old.bank r.0)) old.resources) rest
    old.levels old.eigens old.terms (old.steps ++ Plain ∷ [])) {
      agenda = GoalOf (sub_form (reading old.bank old.bound) x)
          ∷ EndOfLolli old.resources.flag ∷ map (shown_item old.bank old.bound old.resources.kept) rest;
    })) (sym (goal_closed old.bank b))
    ∙ ap (λ v. Some (state_by old.bank old.bound (after_load_keyed Linear r (clause_key (form_tree old.bank r.0)) old.resources)
    (closed_goal b ∷ LolliEnd v ∷ rest) old.levels old.eigens old.terms (old.steps ++ Plain ∷ []))) (sym w))
    (All-cons (λ (e : Entry FormAt). HasForm old.bank e.clause.0) _ old.resources.entries (part old g env r rest f e1 l.0) f.clauses)
    (All-cons P (closed_goal b) (LolliEnd flag ∷ rest) (part old g env b rest f e1 l.1) (All-cons P (LolliEnd flag) rest tt (rest_items old g env rest f e1)))
    (All-cons (λ (e : Entry FormAt). IsFormula may ClauseSide [] (form_tree old.bank e.clause.0)) _ old.resources.entries
    (formula_of_fits may ClauseSide [] _ s.0) f.sorted_clauses)
    (All-cons R (closed_goal b) (LolliEnd flag ∷ rest) (closed_sorted may old.bank b (formula_of_fits may GoalSide [] _ s.1))
    (All-cons R (LolliEnd flag) rest tt (rest_goals old g env rest f e1)))
    (omega arith)
    (keyed-loaded old.bank (length old.problem.clauses) Linear r old.resources (splits old _ f refl).enough f.keyed)

-- what was kept stays, so items behind a goal show what they showed

shown_same : (bank : Nodes) (bound : List (Option At)) (n : ℕ) (r s : Resources FormAt) (i : Item) → KeepsSaved n r s → HasItem bank n i
    → shown_item bank bound s.kept i ≡ shown_item bank bound r.kept i
shown_same bank bound n r s (Goal g env) k h = refl
shown_same bank bound n r s (LolliEnd b) k h = refl
shown_same bank bound n r s ImpEnd k h = refl
shown_same bank bound n r s (Mid a) k h = ap (λ x. WithMiddle x) (k a h)
shown_same bank bound n r s (WithEnd a b) k h = ap (λ x. EndOfWith x (saved_at s.kept b)) (k a h.0) ∙ ap (λ x. EndOfWith (saved_at r.kept a) x) (k b h.1)
shown_same bank bound n r s (BangEnd a) k h = ap (λ x. EndOfBang x) (k a h)

all_shown : (bank : Nodes) (bound : List (Option At)) (n : ℕ) (r s : Resources FormAt) (xs : List Item) → KeepsSaved n r s → All (HasItem bank n) xs
    → map (shown_item bank bound s.kept) xs ≡ map (shown_item bank bound r.kept) xs
all_shown bank bound n r s [] k h = refl
all_shown bank bound n r s (x ∷ xs) k h =
    let a = shown_same bank bound n r s x k (All-head (HasItem bank n) x xs h) in
    let b = all_shown bank bound n r s xs k (All-tail (HasItem bank n) x xs h) in
    ap (λ y. y ∷ map (shown_item bank bound s.kept) xs) a ∙ ap (λ ys. shown_item bank bound r.kept x ∷ ys) b

marks_shown : (bank : Nodes) (bound : List (Option At)) (es : List (Entry FormAt)) → marks (map (shown_entry bank bound) es) ≡ marks es
marks_shown bank bound [] = refl
marks_shown bank bound (e ∷ es) = ap (λ bs. e.live ∷ bs) (marks_shown bank bound es)

unlive_shown : (bank : Nodes) (bound : List (Option At)) (es : List (Entry FormAt))
    → map unlive (map (shown_entry bank bound) es) ≡ map (shown_entry bank bound) (map unlive es)
unlive_shown bank bound [] = refl
unlive_shown bank bound (e ∷ es) = ap (λ xs. unlive (shown_entry bank bound e) ∷ xs) (unlive_shown bank bound es)

saved_shown : (old : Parts) (g : FormAt) (env : Environment) (rest : List Item) (saved : Handle) (r : Resources FormAt)
    → saved_at r.kept saved ≡ saved_now old.resources
    → saved_of (at_goal old g env rest) ≡ saved_at r.kept saved
saved_shown old g env rest saved r e =
    ap (λ bs. record { live = bs; flag = old.resources.flag }) (marks_shown old.bank old.bound old.resources.entries) ∙ sym e

pub both : (old new : Parts) (h : Resources FormAt) (g : FormAt) (env : Environment) (a b : FormAt) (saved : Handle) (rest : List Item) (c : Candidate)
    → Fits old
    → items_of old ≡ Goal g env ∷ rest
    → goal_tree old.bank env g ≡ With (goal_tree old.bank env a) (goal_tree old.bank env b) → (a.0 < g.0) × (b.0 < g.0)
    → saved ≡ saved_as (length old.resources.kept) → saved_at h.kept saved ≡ saved_now old.resources
    → KeepsSaved (length old.resources.kept) old.resources h → h ≡ after_save old.resources
    → GoesOn (record old { resources = h }) (Goal a env ∷ Mid saved ∷ Goal b env ∷ WithEnd saved saved ∷ []) rest Plain new → Infers old c new
both old new h g env a b saved rest c f e1 e2 l n s k e go =
    let may = allowed old in let R : Item → Type 0 = IsGoalIn may old.bank in let w = goal_fits old g env rest _ f e1 e2 in
    let bank = old.bank in let bound = old.bound in let q = after_save old.resources in let t = reading bank bound in
    let s2 : saved_at q.kept saved ≡ saved_now old.resources = subst (λ (r : Resources FormAt). saved_at r.kept saved ≡ saved_now old.resources) e s in
    let k2 : KeepsSaved (length old.resources.kept) old.resources q =
    subst (λ (r : Resources FormAt). KeepsSaved (length old.resources.kept) old.resources r) e k in
    let m = one_more old.resources.kept (saved_now old.resources) in
    let P : Item → Type 0 = HasItem bank (length q.kept) in
    let d = rest_items old g env rest f e1 in
    let i : saved.number < length q.kept = let x = ap (λ (h : Handle). h.number) n in omega (arith, x, m) in
    let make : Saved → List (ItemOf Form) → Option State =
    λ v xs. Some (record {
      agenda = GoalOf (sub_form t (goal_tree bank env a)) ∷ WithMiddle v ∷ GoalOf (sub_form t (goal_tree bank env b)) ∷ EndOfWith v v ∷ xs;
      context = map (shown_entry bank bound) q.entries;
      flag = false;
      levels = old.levels;
      eigens = old.eigens;
      terms = (at_goal old g env rest).terms;
      label = q.next;
      steps = old.steps ++ Plain ∷ [];
    }) in
    row old new h q g env rest (Goal a env ∷ Mid saved ∷ Goal b env ∷ WithEnd saved saved ∷ []) Plain c _ f e1 e2 go e
    (ap (λ v. make v (map (shown_item bank bound old.resources.kept) rest)) (saved_shown old g env rest saved q s2)
    ∙ ap (λ xs. make (saved_at q.kept saved) xs) (sym (all_shown bank bound (length old.resources.kept) old.resources q rest k2 d)))
    f.clauses
    (All-cons P (Goal a env) (Mid saved ∷ Goal b env ∷ WithEnd saved saved ∷ rest) (part old g env a rest f e1 l.0)
    (All-cons P (Mid saved) (Goal b env ∷ WithEnd saved saved ∷ rest) i
    (All-cons P (Goal b env) (WithEnd saved saved ∷ rest) (part old g env b rest f e1 l.1)
    (All-cons P (WithEnd saved saved) rest (i, i)
    (All-weaker (HasItem bank (length old.resources.kept)) P (λ x y. more_kept bank (length old.resources.kept) (length q.kept) x (omega (arith, m)) y) rest
    d)))))
    f.sorted_clauses
    (All-cons R (Goal a env) (Mid saved ∷ Goal b env ∷ WithEnd saved saved ∷ rest) (goal_within old g env rest f e1, formula_of_fits may GoalSide [] _ w.0)
    (All-cons R (Mid saved) (Goal b env ∷ WithEnd saved saved ∷ rest) tt
    (All-cons R (Goal b env) (WithEnd saved saved ∷ rest) (goal_within old g env rest f e1, formula_of_fits may GoalSide [] _ w.1)
    (All-cons R (WithEnd saved saved) rest tt (rest_goals old g env rest f e1)))))
    (omega arith) (keyed-alike old.bank (length old.problem.clauses) old.resources _ refl refl f.keyed)

pub bang : (old new : Parts) (h1 h : Resources FormAt) (g : FormAt) (env : Environment) (a : FormAt) (saved : Handle) (rest : List Item) (c : Candidate)
    → Fits old
    → items_of old ≡ Goal g env ∷ rest
    → goal_tree old.bank env g ≡ Bang (goal_tree old.bank env a) → a.0 < g.0
    → saved ≡ saved_as (length old.resources.kept) → saved_at h1.kept saved ≡ saved_now old.resources
    → KeepsSaved (length old.resources.kept) old.resources h1 → h1 ≡ after_save old.resources
    → h ≡ after_bang h1
    → GoesOn (record old { resources = h }) (Goal a env ∷ BangEnd saved ∷ []) rest Plain new → Infers old c new
bang old new h1 h g env a saved rest c f e1 e2 l n s k e0 e go =
    let may = allowed old in let R : Item → Type 0 = IsGoalIn may old.bank in let w = goal_fits old g env rest _ f e1 e2 in
    let bank = old.bank in let bound = old.bound in let q = after_save old.resources in let t = reading bank bound in
    let s2 : saved_at q.kept saved ≡ saved_now old.resources = subst (λ (r : Resources FormAt). saved_at r.kept saved ≡ saved_now old.resources) e0 s in
    let k2 : KeepsSaved (length old.resources.kept) old.resources q =
    subst (λ (r : Resources FormAt). KeepsSaved (length old.resources.kept) old.resources r) e0 k in
    let m = one_more old.resources.kept (saved_now old.resources) in
    let P : Item → Type 0 = HasItem bank (length q.kept) in
    let d = rest_items old g env rest f e1 in
    let i : saved.number < length q.kept = let x = ap (λ (h : Handle). h.number) n in omega (arith, x, m) in
    let make : Saved → List (Entry Form) → List (ItemOf Form) → Option State =
    λ v es xs. Some (record {
      agenda = GoalOf (sub_form t (goal_tree bank env a)) ∷ EndOfBang v ∷ xs;
      context = es;
      flag = false;
      levels = old.levels;
      eigens = old.eigens;
      terms = (at_goal old g env rest).terms;
      label = q.next;
      steps = old.steps ++ Plain ∷ [];
    }) in
    row old new h (after_bang q) g env rest (Goal a env ∷ BangEnd saved ∷ []) Plain c _ f e1 e2 go (e ∙ ap (λ (r : Resources FormAt). after_bang r) e0)
    (ap (λ v. make v (map unlive (map (shown_entry bank bound) old.resources.entries)) (map (shown_item bank bound old.resources.kept) rest))
    (saved_shown old g env rest saved q s2)
    ∙ (ap (λ es. make (saved_at q.kept saved) es (map (shown_item bank bound old.resources.kept) rest)) (unlive_shown bank bound old.resources.entries)
    ∙ ap (λ xs. make (saved_at q.kept saved) (map (shown_entry bank bound) (map unlive old.resources.entries)) xs)
    (sym (all_shown bank bound (length old.resources.kept) old.resources q rest k2 d))))
    (All-map (λ (e : Entry FormAt). HasForm bank e.clause.0) unlive old.resources.entries f.clauses)
    (All-cons P (Goal a env) (BangEnd saved ∷ rest) (part old g env a rest f e1 l)
    (All-cons P (BangEnd saved) rest i
    (All-weaker (HasItem bank (length old.resources.kept)) P (λ x y. more_kept bank (length old.resources.kept) (length q.kept) x (omega (arith, m)) y) rest
    d)))
    (All-map (λ (e : Entry FormAt). IsFormula may ClauseSide [] (form_tree bank e.clause.0)) unlive old.resources.entries f.sorted_clauses)
    (All-cons R (Goal a env) (BangEnd saved ∷ rest) (goal_within old g env rest f e1, formula_of_fits may GoalSide [] _ w.1)
    (All-cons R (BangEnd saved) rest tt (rest_goals old g env rest f e1)))
    (omega arith) (keyed-alike old.bank (length old.problem.clauses) old.resources _ (clauses-unlive old.resources.entries) refl f.keyed)
