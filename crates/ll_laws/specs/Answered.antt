-- What contracts see of an answer's branch.
use Rattle.std.specs.Prelude.{List, refl}
use Rattle.std.specs.Coded.{Coded, code_by, coded×, coded_list}
use Rattle.ll_bank.specs.Term.{Term}
use Rattle.ll_bank.specs.Codes.{coded_term}
use Rattle.ll_laws.specs.declared.Step.{Step}
use Rattle.ll_laws.specs.contracts.Step as step

-- the terms of a branch's variables, those asked for first, and its steps
pub record Answered : Type 0 where
  pub terms : List Term
  pub steps : List Step

-- by which a proof tells two of them apart
abbrev pub answered_code : Coded Answered
answered_code =
    code_by (List Term × List Step) (coded× (coded_list coded_term) (coded_list step.the_row.coded)) (λ a. (a.terms, a.steps))
    (λ p. record { terms = p.0; steps = p.1 }) (λ _. refl)
