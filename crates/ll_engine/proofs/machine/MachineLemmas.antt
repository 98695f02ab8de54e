-- What a machine shows, by the item in front of its agenda.
use Rattle.std.proofs.Common.{◌≡◌, ℕ, List, [], ◌∷◌, map, length, refl, ap, subst, ◌∙◌, All}
use Rattle.std.proofs.lemmas.List.Elements.{All-head}
use Rattle.ll_bank.specs.declared.FormAt.{FormAt}
use Rattle.ll_bank.specs.declared.FormNode.{FormNode}
use Rattle.ll_bank.specs.declared.environment.Environment.{Environment}
use Rattle.ll_bank.specs.Environments.{IsWithin, values_in}
use Rattle.ll_bank.specs.Form.{Form, close_form}
use Rattle.ll_bank.proofs.CallerLemmas.{form_empty}
use Rattle.ll_bank.specs.Nodes.{Nodes, HasForm, IsFormView, form_of, form_tree}
use Rattle.ll_laws.specs.Attempt.{tries, agenda_tries}
use Rattle.ll_laws.specs.Valid.{IsFormula, GoalSide}
use Rattle.ll_laws.specs.Consistent.{AreGoals, allowed_in}
use Rattle.ll_agenda.specs.declared.agenda.Top.{Top}
use Rattle.ll_agenda.specs.Frames.{HasTop, items_at}
use Rattle.ll_freeze.specs.Parts.{Parts}
use Rattle.ll_freeze.specs.declared.machine.Item.{Item as KeptItem}
use Rattle.ll_freeze.specs.declared.machine.Item.TheVariants.{Goal as KeptGoal, LolliEnd as KeptLolliEnd, ImpEnd as KeptImpEnd, Mid as KeptMiddle}
use Rattle.ll_freeze.specs.declared.machine.Item.TheVariants.{WithEnd as KeptWithEnd, BangEnd as KeptBangEnd}
use Rattle.ll_freeze.specs.Reading.{goal_tree, read_goal}
use Rattle.ll_freeze.specs.Shown.{shown_item, shown_entry, items_of, state_of}
use Rattle.ll_freeze.specs.Fits.{Fits, setting, HasItem, IsGoalIn, allowed}
use Rattle.ll_engine.specs.declared.attempt.Position.{Position}
use Rattle.ll_engine.specs.Front.{IsFront, IsClosedGoal, IsClosedFront}

-- the agenda of the state
pub agenda_shown : (m : Parts) (items : List KeptItem) → items_of m ≡ items → (state_of m).agenda ≡ map (shown_item m.bank m.bound m.resources.kept) items
unfolding state_of
agenda_shown m items e = ap (map (shown_item m.bank m.bound m.resources.kept)) e

-- the candidates of a machine whose agenda has these items
tries_shown : (m : Parts) (items : List KeptItem) → items_of m ≡ items
    → tries (state_of m) ≡ agenda_tries (map (shown_item m.bank m.bound m.resources.kept) items) (map (shown_entry m.bank m.bound) m.resources.entries)
unfolding tries state_of
tries_shown m items e = ap (λ is. agenda_tries (map (shown_item m.bank m.bound m.resources.kept) is) (map (shown_entry m.bank m.bound) m.resources.entries)) e

-- an end in front has no candidate
pub tries_end : (m : Parts) (i : KeptItem) (rest : List KeptItem) → items_of m ≡ i ∷ rest → ((g : FormAt) (n : Environment) → i ≡ KeptGoal g n → ⊥)
    → tries (state_of m) ≡ []
tries_end m i rest e not = tries_shown m (i ∷ rest) e ∙ go i not
  where
    go : (j : KeptItem) → ((g : FormAt) (n : Environment) → j ≡ KeptGoal g n → ⊥)
        → agenda_tries (map (shown_item m.bank m.bound m.resources.kept) (j ∷ rest)) (map (shown_entry m.bank m.bound) m.resources.entries) ≡ []
    go (KeptGoal g e) n = absurd (n g e refl)
    go (KeptLolliEnd b) n = refl
    go KeptImpEnd n = refl
    go (KeptMiddle s) n = refl
    go (KeptWithEnd s h) n = refl
    go (KeptBangEnd s) n = refl

-- the goal in front is one, and closed
pub goal_in_front : (m : Parts) (g : FormAt) (n : Environment) (rest : List KeptItem) → Fits m → items_of m ≡ KeptGoal g n ∷ rest
    → IsFormula (allowed_in (setting m) (state_of m)) GoalSide [] (read_goal m.bank m.bound n g)
goal_in_front m g n rest f e = (subst (AreGoals (allowed_in (setting m) (state_of m))) (agenda_shown m (KeptGoal g n ∷ rest) e) f.consistent.goals).0

-- and a place of the bank
pub goal_inside : (m : Parts) (g : FormAt) (n : Environment) (rest : List KeptItem) → Fits m → items_of m ≡ KeptGoal g n ∷ rest → HasForm m.bank g.0
goal_inside m g n rest f e = All-head (HasItem m.bank _) (KeptGoal g n) rest (subst (All (HasItem m.bank _)) e f.items)

-- what is seen of it
pub in_front : (m : Parts) (g : FormAt) (n : Environment) (item : KeptItem) (view : FormNode) (rest : Top) → items_of m ≡ item ∷ items_at m.agenda rest
    → item ≡ KeptGoal g n → HasTop m.agenda rest → IsFormView m.bank g.0 view → IsFront m view (record { environment = n; rest = rest })
in_front m g n item view rest list is inside seen =
    record { goal = g; list = list ∙ ap (λ i. i ∷ items_at m.agenda rest) is; behind = inside; seen = seen }

-- the goal in front as it stands in the bank, under its environment, which is one of the machine's variables
pub goal_sorted : (m : Parts) (g : FormAt) (n : Environment) (rest : List KeptItem) → Fits m → items_of m ≡ KeptGoal g n ∷ rest
    → IsWithin (length m.levels) n × IsFormula (allowed m) GoalSide [] (goal_tree m.bank n g)
goal_sorted m g n rest f e = All-head (IsGoalIn (allowed m) m.bank) (KeptGoal g n) rest (subst (All (IsGoalIn (allowed m) m.bank)) e f.sorted_goals)

-- the goal that is seen in front, under its environment
pub front_tree : (m : Parts) (view : FormNode) (p : Position) (h : IsFront m view p)
    → goal_tree m.bank p.environment h.goal ≡ close_form (values_in p.environment) (form_of m.bank view)
front_tree m view p h = ap (close_form (values_in p.environment)) h.seen.tree

-- a goal with no free bound place stands as it is
pub as_it_is : (bank : Nodes) (end : ℕ) (g : FormAt) {f : Form} → form_tree bank g.0 ≡ f → goal_tree bank (record { end = end; count = 0 }) g ≡ f
as_it_is bank end g e = form_empty [] (form_tree bank g.0) refl ∙ e

pub closed_tree : (m : Parts) (view : FormNode) (rest : Top) (h : IsClosedFront m view rest)
    → goal_tree m.bank (record { end = h.0; count = 0 }) h.1.goal ≡ form_of m.bank view
closed_tree m view rest h = as_it_is m.bank h.0 h.1.goal h.1.seen.tree

pub closed_front : (m : Parts) (goal : FormAt) (view : FormNode) (rest : Top) → IsClosedGoal m goal rest → IsFormView m.bank goal.0 view
    → IsClosedFront m view rest
closed_front m goal view rest h seen = (h.0, record { goal = goal; list = h.1.list; behind = h.1.behind; seen = seen })
