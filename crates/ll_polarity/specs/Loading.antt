-- The part of a problem that a program fixes, as it is kept.
use Rattle.std.specs.Prelude.{ℕ, ◌<◌, ◌≤◌, List, length, All, refl}
use Rattle.std.specs.Coded.{Coded, code_by, coded×, coded_list, coded_ℕ}
use Rattle.ll_laws.specs.declared.Module.{Module}
use Rattle.ll_laws.specs.Module.{ClauseTree, ModuleTree}
use Rattle.ll_laws.specs.Shown.{clause_code, module_code}
use Rattle.ll_polarity.specs.Asks.{ProgramPart}

-- The modules have names among these texts, and there are no more of either than a whole text has tokens.
pub record IsNumbered (texts : List (List ℕ)) (rows : List Module) : Type 0 where
  pub named : All (λ m. m.name < length texts) rows
  pub few_texts : length texts ≤ 16777216
  pub few_modules : length rows ≤ 16777216

-- by which a proof tells parts apart
abbrev pub part_code : Coded ProgramPart
part_code =
    code_by (List (List ℕ) × (List ModuleTree × List ClauseTree))
    (coded× (coded_list (coded_list coded_ℕ)) (coded× (coded_list module_code) (coded_list clause_code)))
    (λ p. (p.names, (p.modules, p.clauses))) (λ q. record { names = q.0; modules = q.1.0; clauses = q.1.1 }) (λ _. refl)
