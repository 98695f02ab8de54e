-- What contracts see of clauses, modules and problems: trees in place of places in their bank.
use Rattle.std.specs.Prelude.{ℕ, List, map, All, Option, refl}
use Rattle.std.specs.Coded.{Coded, code_by, coded×, coded_list, coded_ℕ, coded_option}
use Rattle.ll_bank.specs.Form.{Form}
use Rattle.ll_bank.specs.Codes.{coded_form}
use Rattle.ll_bank.specs.Nodes.{Nodes, form_tree, HasForm}
use Rattle.ll_laws.specs.contracts.Kind as kind
use Rattle.ll_laws.specs.declared.Kind.{Kind}
use Rattle.ll_laws.specs.declared.Clause.{Clause}
use Rattle.ll_laws.specs.declared.Module.{Module}
use Rattle.ll_laws.specs.Module.{ClauseTree, ModuleTree}
use Rattle.ll_laws.specs.Problem.{ProblemTree}

-- a clause as it is shown in a bank
abbrev pub clause_tree : Nodes → Clause → ClauseTree
clause_tree bank c = record { kind = c.kind; form = form_tree bank c.form.0 }

-- a module as it is shown in a bank
abbrev pub module_tree : Nodes → Module → ModuleTree
module_tree bank m = record { name = m.name; params = m.params; locals = m.locals; clauses = map (clause_tree bank) m.clauses.items }

-- the formulas of clauses are places of the bank
abbrev pub HasClauses : Nodes → List Clause → Type 0
HasClauses bank cs = All (λ c. HasForm bank c.form.0) cs

-- the formulas of modules are places of the bank
abbrev pub HasModules : Nodes → List Module → Type 0
HasModules bank ms = All (λ m. HasClauses bank m.clauses.items) ms

-- by which a proof tells clauses apart
abbrev pub clause_code : Coded ClauseTree
clause_code = code_by (Kind × Form) (coded× kind.the_row.coded coded_form) (λ c. (c.kind, c.form)) (λ p. record { kind = p.0; form = p.1 }) (λ _. refl)

-- by which a proof tells modules apart
abbrev pub module_code : Coded ModuleTree
module_code =
    code_by (ℕ × (ℕ × (ℕ × List ClauseTree))) (coded× coded_ℕ (coded× coded_ℕ (coded× coded_ℕ (coded_list clause_code))))
    (λ m. (m.name, (m.params, (m.locals, m.clauses))))
    (λ p. record { name = p.0; params = p.1.0; locals = p.1.1.0; clauses = p.1.1.1 }) (λ _. refl)

-- by which a proof tells problems apart
abbrev pub problem_code : Coded ProblemTree
problem_code =
    code_by (List (List ℕ) × (List ModuleTree × (List ClauseTree × (Form × (List (Option ℕ) × ℕ)))))
    (coded× (coded_list (coded_list coded_ℕ)) (coded× (coded_list module_code)
    (coded× (coded_list clause_code) (coded× coded_form (coded× (coded_list (coded_option coded_ℕ)) coded_ℕ)))))
    (λ p. (p.names, (p.modules, (p.clauses, (p.goal, (p.asked, p.bound))))))
    (λ q. record { names = q.0; modules = q.1.0; clauses = q.1.1.0; goal = q.1.1.1.0; asked = q.1.1.1.1.0; bound = q.1.1.1.1.1 }) (λ _. refl)
