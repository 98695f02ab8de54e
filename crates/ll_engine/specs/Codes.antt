-- Codes of what contracts see of engines, by which proofs tell their values apart.
use Rattle.std.specs.Prelude.{ℕ, List, Bool, Option, refl}
use Rattle.std.specs.Coded.{Coded, code_by, coded×, coded_list, coded_ℕ, coded_bool, coded_option}
use Rattle.ll_laws.specs.declared.Event.{Event}
use Rattle.ll_laws.specs.contracts.Event as event
use Rattle.ll_laws.specs.State.{State}
use Rattle.ll_laws.specs.Problem.{ProblemTree}
use Rattle.ll_laws.specs.Shown.{problem_code}
use Rattle.ll_freeze.specs.Codes.{state_code}
use Rattle.ll_engine.specs.Seen.{Owing}

abbrev pub owing_code : Coded Owing
owing_code =
    code_by (ProblemTree × (List Event × (ℕ × (ℕ × (Option State × (ℕ × (ℕ × (ℕ × Bool))))))))
    (coded× problem_code (coded× (coded_list event.the_row.coded)
    (coded× coded_ℕ (coded× coded_ℕ (coded× (coded_option state_code) (coded× coded_ℕ (coded× coded_ℕ (coded× coded_ℕ coded_bool))))))))
    (λ e. (e.problem, (e.events, (e.cost, (e.points, (e.first, (e.splits, (e.work, (e.made, e.spent)))))))))
    (λ p. record {
      problem = p.0;
      events = p.1.0;
      cost = p.1.1.0;
      points = p.1.1.1.0;
      first = p.1.1.1.1.0;
      splits = p.1.1.1.1.1.0;
      work = p.1.1.1.1.1.1.0;
      made = p.1.1.1.1.1.1.1.0;
      spent = p.1.1.1.1.1.1.1.1;
    })
    (λ _. refl)
