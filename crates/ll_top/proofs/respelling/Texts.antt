-- Whole programs and queries are made of formulas whose names stand where they may.
use Rattle.std.proofs.Common.{List, [], ◌∷◌, ◌++◌, map, sym, subst}
use Rattle.std.proofs.lemmas.List.Elements.{recursion_from_All}
use Rattle.ll_parser.specs.Tokens.{dot, IsSpelled}
use Rattle.ll_parser.specs.Raw.{Raw, ProgramTree}
use Rattle.ll_parser.specs.Raw as raw
use Rattle.ll_parser.specs.Grammar.{formula_tokens}
use Rattle.ll_parser.specs.Text.{Clause, plain, linear, Module, Query, bare, dotted, clause_tokens, clauses_tokens, heading_tokens, locals_tokens}
use Rattle.ll_parser.specs.Text.{module_tokens}
use Rattle.ll_parser.specs.Text.{modules_tokens, program_tokens, query_tokens, clause_tree, module_tree, query_tree, programs, queries}
use Rattle.ll_parser.specs.Reads.{IsWhole}
use Rattle.ll_parser.proofs.CallerLemmas.{Spelled, spelled-split}
use Rattle.ll_top.specs.spelled.Spoken.{IsSpoken}
use Rattle.ll_top.proofs.respelling.Grammar.{formula-spoken}

-- the formula of each clause is one of the grammar
abbrev pub AreSpoken : List raw.ClauseTree → Type 0
AreSpoken [] = Unit {0}
AreSpoken (c ∷ cs) = IsSpoken c.form × AreSpoken cs

-- and of each clause of each module
abbrev pub HaveSpoken : List raw.ModuleTree → Type 0
HaveSpoken [] = Unit {0}
HaveSpoken (m ∷ ms) = AreSpoken m.clauses × HaveSpoken ms

clause-spoken : (c : Clause) → Spelled (clause_tokens c) → IsSpoken (clause_tree c).form
clause-spoken (plain f end) h = formula-spoken f (spelled-split (formula_tokens f) (dot end ∷ []) h).0
clause-spoken (linear at f end) h = formula-spoken f (spelled-split (formula_tokens f) (dot end ∷ []) h.1).0

clauses-spoken : (cs : List Clause) → Spelled (clauses_tokens cs) → AreSpoken (map clause_tree cs)
clauses-spoken [] h = tt
clauses-spoken (c ∷ cs) h =
    let s = spelled-split (clause_tokens c) (clauses_tokens cs) h in (clause-spoken c s.0, clauses-spoken cs s.1)

modules-spoken : (ms : List Module) → Spelled (modules_tokens ms) → HaveSpoken (map module_tree ms)
modules-spoken [] h = tt
modules-spoken (m ∷ ms) h =
    let s = spelled-split (module_tokens m) (modules_tokens ms) h in
    let a = spelled-split (heading_tokens m.heading) (locals_tokens m.locals ++ clauses_tokens m.clauses) s.0 in
    let b = spelled-split (locals_tokens m.locals) (clauses_tokens m.clauses) a.1 in
    (clauses-spoken m.clauses b.1, modules-spoken ms s.1)

-- of all clauses of a program
pub record IsSpokenProgram (p : ProgramTree) : Type 0 where
  pub clauses : AreSpoken p.clauses
  pub modules : HaveSpoken p.modules

pub program-spoken : (tree : ProgramTree) → IsWhole programs tree → IsSpokenProgram tree
program-spoken tree (ts, few, spelled, ((p, e, f), within)) =
    let h : Spelled (program_tokens p) = subst Spelled (sym e) (recursion_from_All IsSpelled ts spelled) in
    let s = spelled-split (clauses_tokens p.clauses) (modules_tokens p.modules) h in
    subst IsSpokenProgram f (record { clauses = clauses-spoken p.clauses s.0; modules = modules-spoken p.modules s.1 })

pub query-spoken : (tree : Raw) → IsWhole queries tree → IsSpoken tree
query-spoken tree (ts, few, spelled, ((q, e, f), within)) =
    subst IsSpoken f (by q (subst Spelled (sym e) (recursion_from_All IsSpelled ts spelled)))
  where
    by : (q : Query) → Spelled (query_tokens q) → IsSpoken (query_tree q)
    by (bare g) h = formula-spoken g h
    by (dotted g end) h = formula-spoken g (spelled-split (formula_tokens g) (dot end ∷ []) h).0
