-- Whole-number goals.
use Rattle.std.proofs.Common.{◌≡◌, Bool, refl, ap, sym, ◌∙◌, List, [], ◌∷◌, take, Option, ℤ, false}
use Rattle.std.specs.Prelude.{if◌then◌else◌}
use Rattle.ll_bank.specs.declared.FormNode.{FormNode}
use Rattle.ll_bank.specs.declared.Head.{Head}
use Rattle.ll_bank.specs.Term.{Term, Con, Ap, apply, app}
use Rattle.ll_bank.specs.Form.{Relation, Num}
use Rattle.ll_bank.specs.Nodes.{Nodes, form_of, IsFormView}
use Rattle.ll_laws.specs.Line.{NumLine}
use Rattle.ll_laws.specs.Number.{Operators, holds, is_number}
use Rattle.ll_laws.specs.Fault.{is_empty}
use Rattle.ll_sequent.specs.declared.sequents.Sequent.{Sequent}
use Rattle.ll_sequent.specs.declared.sequents.Step.{Step}
use Rattle.ll_sequent.specs.Sequents.{free_in, bounded_in}
use Rattle.ll_sequent.specs.Steps.{Refuses, provided, made}
use Rattle.ll_sequent.specs.Named.{MakesBy}
use Rattle.ll_sequent.specs.Numbered.{IsTested}

pub tested_makes : (ops : Operators) (bank : Nodes) (s : Sequent) (view : FormNode) (r : Relation) (t u : Term) (test : Bool) (step : Step)
    → IsFormView bank s.goal.0 view
    → form_of bank view ≡ Num r t u → test ≡ holds ops r t u → IsTested s test step → MakesBy ops bank NumLine s step
tested_makes ops bank s view r t u test step seen shape e h = record {
  is = λ modules free.
      h.is bank free
      ∙ (ap (λ b. if is_empty (bounded_in bank s.bounded.items) then provided b 12 [] else Refuses 2) e
      ∙ sym (ap (made (record { modules = modules; operators = ops }) NumLine (free_in bank (take s.free free)) (bounded_in bank s.bounded.items))
      (seen.tree ∙ shape)));
  left = λ modules q. h.left modules bank s.free;
}

-- a head with arguments is no whole number
applied_no_number : (f a : Term) (ts : List Term) (v : Option ℤ) → is_number (apply (Ap f a) ts) v ≡ false
applied_no_number f a [] v = refl
applied_no_number f a (t ∷ ts) v = applied_no_number (Ap f a) t ts v

pub app_no_number : (h : Head) (ts : List Term) (v : Option ℤ) → is_number (app h ts) v ≡ false
app_no_number h [] v = refl
app_no_number h (t ∷ ts) v = applied_no_number (Con h) t ts v
