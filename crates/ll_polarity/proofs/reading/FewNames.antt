-- A whole program and a whole query have few names and variables: no more than tokens.
use Rattle.std.proofs.Common.{ℕ, suc, ◌+◌, ◌≤◌, Bool, true, false, List, [], ◌∷◌, ◌++◌, length, Option, Some, None, if◌then◌else◌, arith, length-append}
use Rattle.std.specs.List.{list_any}
use Rattle.ll_bank.specs.Names.{with_name}
use Rattle.ll_bank.specs.Form.{Relation, Is, Less, Most}
use Rattle.ll_bank.proofs.CallerLemmas.{length-with_name}
use Rattle.ll_parser.specs.Raw.{Raw, truth, erasure, braces, universal, existential, load, binary, is_goal, less_goal, most_goal, head, anything, int, RawList}
use Rattle.ll_parser.specs.Raw.{none, more, ProgramTree}
use Rattle.ll_parser.specs.Raw as raw
use Rattle.ll_parser.specs.Text.{programs}
use Rattle.ll_parser.specs.Reads.{IsWhole}
use Rattle.ll_parser.specs.Weights.{weight, weights, clauses_weight, modules_weight}
use Rattle.ll_parser.proofs.CallerLemmas.{few_nodes}
use Rattle.ll_polarity.specs.Scope.{Scope, binds, Meaning, Bound, Local, Free, Constant, meaning, module_scope}
use Rattle.ll_polarity.specs.Reading.{Met, has_text, read_name, read_term, read_terms, read_number, read_form}
use Rattle.ll_polarity.specs.Asks.{module_names, read_clause, read_clauses, read_module, read_modules, part_of, read_asked}

-- how many names and variables were met
abbrev pub met_count : Met → ℕ
met_count met = length met.names + length met.variables

one_longer : {X : Type 0} (b : Bool) (xs : List X) (x : X) → length (if b then xs else xs ++ x ∷ []) ≤ length xs + 1
one_longer true xs x = omega arith
one_longer false xs x = omega (arith, length-append xs (x ∷ []))

few_name : (m : Meaning) (met : Met) (w : List ℕ) → met_count (read_name m met w).met ≤ met_count met + 1
few_name (Bound k) met w = omega arith
few_name (Local k) met w = omega arith
few_name Free met w = omega (arith, one_longer (list_any (has_text w) met.variables) met.variables (Some w))
few_name Constant met w = omega (arith, length-with_name met.names w)

mutual
  few_term : (scope : Scope) (met : Met) (r : Raw) → met_count (read_term scope met r).met ≤ met_count met + weight r
  few_term scope met (head n args) =
      let i = few_name (meaning scope n.text) met n.text in let j = few_terms scope (read_name (meaning scope n.text) met n.text).met args in omega arith
  few_term scope met (anything at) = omega (arith, length-append met.variables (None ∷ []))
  few_term scope met _ = omega arith

  few_terms : (scope : Scope) (met : Met) (rs : RawList) → met_count (read_terms scope met rs).met ≤ met_count met + weights rs
  few_terms scope met none = omega arith
  few_terms scope met (more r rs) = let i = few_term scope met r in let j = few_terms scope (read_term scope met r).met rs in omega arith

few_number : (q : Relation) (scope : Scope) (met : Met) (l r : Raw) → met_count (read_number q scope met l r).met ≤ met_count met + (weight l + weight r)
few_number q scope met l r = let i = few_term scope met l in let j = few_term scope (read_term scope met l).met r in omega arith

-- a formula adds no more names and variables than its raw tree has nodes
pub few_form : (ms : List (List ℕ)) (scope : Scope) (met : Met) (r : Raw) → met_count (read_form ms scope met r).met ≤ met_count met + weight r
few_form ms scope met (truth at) = omega arith
few_form ms scope met (erasure at) = omega arith
few_form ms scope met (braces at r) = let i = few_form ms scope met r in omega arith
few_form ms scope met (universal at n r) = let i = few_form ms (binds n.text ∷ scope) met r in omega arith
few_form ms scope met (existential at n r) = let i = few_form ms (binds n.text ∷ scope) met r in omega arith
few_form ms scope met (load at m args r) = let i = few_terms scope met args in let j = few_form ms scope (read_terms scope met args).met r in omega arith
few_form ms scope met (binary o at l r) = let i = few_form ms scope met l in let j = few_form ms scope (read_form ms scope met l).met r in omega arith
few_form ms scope met (is_goal at l r) = let i = few_number Is scope met l r in omega arith
few_form ms scope met (less_goal at l r) = let i = few_number Less scope met l r in omega arith
few_form ms scope met (most_goal at l r) = let i = few_number Most scope met l r in omega arith
few_form ms scope met (head n args) = few_term scope met (head n args)
few_form ms scope met (anything at) = few_term scope met (anything at)
few_form ms scope met (int at z) = few_term scope met (int at z)

module _ (ms : List (List ℕ)) where
  pub few_clause : (scope : Scope) (names : List (List ℕ)) (c : raw.ClauseTree) → length (read_clause ms scope names c).names ≤ length names + weight c.form
  few_clause scope names c = let i = few_form ms scope (record { names = names; variables = [] }) c.form in omega arith

  pub few_clauses : (scope : Scope) (names : List (List ℕ)) (cs : List raw.ClauseTree)
      → length (read_clauses ms scope names cs).names ≤ length names + clauses_weight cs
  few_clauses scope names [] = omega arith
  few_clauses scope names (c ∷ cs) = let i = few_clause scope names c in let j = few_clauses scope (read_clause ms scope names c).names cs in omega arith

  pub few_module : (names : List (List ℕ)) (m : raw.ModuleTree) → length (read_module ms names m).names ≤ length names + suc (clauses_weight m.clauses)
  few_module names m = let i = length-with_name names m.name.text in let j = few_clauses (module_scope m) (with_name names m.name.text) m.clauses in omega arith

  pub few_modules : (names : List (List ℕ)) (rest : List raw.ModuleTree) → length (read_modules ms names rest).names ≤ length names + modules_weight rest
  few_modules names [] = omega arith
  few_modules names (m ∷ rest) = let i = few_module names m in let j = few_modules (read_module ms names m).names rest in omega arith

-- the names of a whole program's part
pub few_names_of_part : (p : ProgramTree) → IsWhole programs p → length (part_of p).names ≤ 16777216
few_names_of_part p whole =
    let before = (read_clauses (module_names p) [] [] p.clauses).names in
    let i = few_clauses (module_names p) [] [] p.clauses in let j = few_modules (module_names p) before p.modules in omega (arith, few_nodes p whole)

pub few_asked : (names : List (List ℕ)) (vs : List (Option (List ℕ))) → length (read_asked names vs).names ≤ length names + length vs
few_asked names [] = omega arith
few_asked names (None ∷ vs) = let i = few_asked names vs in omega arith
few_asked names (Some w ∷ vs) = let i = few_asked (with_name names w) vs in let j = length-with_name names w in omega arith
