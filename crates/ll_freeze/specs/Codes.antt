-- Codes of states and of what contracts see of frozen choice points, by which proofs tell their values apart.
use Rattle.std.specs.Prelude.{◌≡◌, ◌⊎◌, ℕ, List, Option, Bool, refl}
use Rattle.std.specs.Coded.{Coded, code_by, coded×, coded⊎, coded_list, coded_option, coded_ℕ, coded_bool}
use mathlib.Core.Logic.{inl, inr}
use base.Stored.{coded_unit}
use Rattle.ll_bank.specs.Term.{Term}
use Rattle.ll_bank.specs.Form.{Form}
use Rattle.ll_bank.specs.declared.At.{At}
use Rattle.ll_bank.specs.Nodes.{Nodes}
use Rattle.ll_bank.specs.contracts.At as at
use Rattle.ll_bank.specs.contracts.bank.Bank as bank
use Rattle.ll_bank.specs.Codes.{coded_term, coded_form}
use Rattle.ll_laws.specs.declared.Step.{Step}
use Rattle.ll_laws.specs.declared.Kind.{Kind}
use Rattle.ll_laws.specs.declared.Candidate.{Candidate}
use Rattle.ll_laws.specs.contracts.Step as step
use Rattle.ll_laws.specs.contracts.Kind as kind
use Rattle.ll_laws.specs.contracts.Candidate as candidate
use Rattle.ll_laws.specs.Settle.{Entry, Saved, Item, Goal, LolliEnd, ImpEnd, WithMiddle, WithEnd, BangEnd}
use Rattle.ll_laws.specs.State.{State}
use Rattle.ll_laws.specs.Problem.{ProblemTree}
use Rattle.ll_laws.specs.Shown.{problem_code}
use Rattle.ll_freeze.specs.Parts.{Base}
use Rattle.ll_freeze.specs.Frozen.{FrozenSight}

abbrev pub saved_code : Coded Saved
saved_code = code_by (List Bool × Bool) (coded× (coded_list coded_bool) coded_bool) (λ s. (s.live, s.flag)) (λ p. record { live = p.0; flag = p.1 }) (λ _. refl)

abbrev pub entry_code : Coded (Entry Form)
entry_code =
    code_by (ℕ × (Kind × (Bool × Form))) (coded× coded_ℕ (coded× kind.the_row.coded (coded× coded_bool coded_form)))
    (λ e. (e.label, (e.kind, (e.live, e.clause)))) (λ p. record { label = p.0; kind = p.1.0; live = p.1.1.0; clause = p.1.1.1 }) (λ _. refl)

-- an item by its kind
abbrev Parts : Type 0
Parts = Form ⊎ (Bool ⊎ (Unit {0} ⊎ (Saved ⊎ ((Saved × Saved) ⊎ Saved))))

abbrev item_into : Item Form → Parts
item_into (Goal g) = inl g
item_into (LolliEnd b) = inr (inl b)
item_into ImpEnd = inr (inr (inl tt))
item_into (WithMiddle s) = inr (inr (inr (inl s)))
item_into (WithEnd s h) = inr (inr (inr (inr (inl (s, h)))))
item_into (BangEnd s) = inr (inr (inr (inr (inr s))))

abbrev item_back : Parts → Item Form
item_back (inl g) = Goal g
item_back (inr (inl b)) = LolliEnd b
item_back (inr (inr (inl _))) = ImpEnd
item_back (inr (inr (inr (inl s)))) = WithMiddle s
item_back (inr (inr (inr (inr (inl p))))) = WithEnd p.0 p.1
item_back (inr (inr (inr (inr (inr s))))) = BangEnd s

abbrev item_same : (i : Item Form) → item_back (item_into i) ≡ i
item_same (Goal g) = refl
item_same (LolliEnd b) = refl
item_same ImpEnd = refl
item_same (WithMiddle s) = refl
item_same (WithEnd s h) = refl
item_same (BangEnd s) = refl

abbrev pub item_code : Coded (Item Form)
item_code =
    code_by Parts (coded⊎ coded_form (coded⊎ coded_bool (coded⊎ coded_unit (coded⊎ saved_code (coded⊎ (coded× saved_code saved_code) saved_code)))))
    item_into item_back item_same

abbrev pub state_code : Coded State
state_code =
    code_by (List (Item Form) × (List (Entry Form) × (Bool × (List ℕ × (ℕ × (List Term × (ℕ × List Step)))))))
    (coded× (coded_list item_code) (coded× (coded_list entry_code)
    (coded× coded_bool (coded× (coded_list coded_ℕ) (coded× coded_ℕ (coded× (coded_list coded_term) (coded× coded_ℕ (coded_list step.the_row.coded))))))))
    (λ s. (s.agenda, (s.context, (s.flag, (s.levels, (s.eigens, (s.terms, (s.label, s.steps))))))))
    (λ p. record {
      agenda = p.0;
      context = p.1.0;
      flag = p.1.1.0;
      levels = p.1.1.1.0;
      eigens = p.1.1.1.1.0;
      terms = p.1.1.1.1.1.0;
      label = p.1.1.1.1.1.1.0;
      steps = p.1.1.1.1.1.1.1;
    })
    (λ _. refl)

abbrev pub base_code : Coded Base
base_code =
    code_by (Nodes × (List (Option At) × List ℕ)) (coded× bank.the_row.coded (coded× (coded_list (coded_option at.the_row.coded)) (coded_list coded_ℕ)))
    (λ b. (b.bank, (b.bound, b.levels))) (λ p. record { bank = p.0; bound = p.1.0; levels = p.1.1 }) (λ _. refl)

abbrev pub frozen_code : Coded FrozenSight
frozen_code =
    code_by (ProblemTree × (State × (ℕ × (List Candidate × (Bool × (Base × ℕ))))))
    (coded× problem_code (coded× state_code (coded× coded_ℕ (coded× (coded_list candidate.the_row.coded) (coded× coded_bool (coded× base_code coded_ℕ))))))
    (λ f. (f.problem, (f.state, (f.left, (f.untried, (f.starts, (f.base, f.depth)))))))
    (λ p. record { problem = p.0; state = p.1.0; left = p.1.1.0; untried = p.1.1.1.0; starts = p.1.1.1.1.0; base = p.1.1.1.1.1.0; depth = p.1.1.1.1.1.1 })
    (λ _. refl)
