-- A whole program has no more clauses than tokens.
use Rattle.std.proofs.Common.{◌≡◌, ◌≤◌, List, [], ◌∷◌, length, sym, ◌∙◌, ap, arith, length-append}
use Rattle.std.proofs.lemmas.List.{length-map}
use Rattle.ll_parser.specs.Tokens.{dot}
use Rattle.ll_parser.specs.Raw.{ProgramTree}
use Rattle.ll_parser.specs.Grammar.{formula_tokens}
use Rattle.ll_parser.specs.Text.{Clause, plain, linear, clause_tokens, clauses_tokens, modules_tokens, Program, program_tokens, clause_tree, programs}
use Rattle.ll_parser.specs.Reads.{IsWhole}

clause-long : (c : Clause) → 1 ≤ length (clause_tokens c)
clause-long (plain f end) = let e = length-append (formula_tokens f) (dot end ∷ []) in omega arith
clause-long (linear at f end) = let e = length-append (formula_tokens f) (dot end ∷ []) in omega arith

clauses-long : (cs : List Clause) → length cs ≤ length (clauses_tokens cs)
clauses-long [] = omega arith
clauses-long (c ∷ cs) = let a = clause-long c in let b = clauses-long cs in let e = length-append (clause_tokens c) (clauses_tokens cs) in omega arith

program-long : (p : Program) → length p.clauses ≤ length (program_tokens p)
program-long p = let a = clauses-long p.clauses in let e = length-append (clauses_tokens p.clauses) (modules_tokens p.modules) in omega arith

pub few-clauses : (tree : ProgramTree) → IsWhole programs tree → length tree.clauses ≤ 16777216
few-clauses tree (ts, few, spelled, ((p, e, f), within)) =
    let a = program-long p in
    let b : length (program_tokens p) ≡ length ts = ap length e in
    let c : length p.clauses ≡ length tree.clauses = sym (length-map p.clauses clause_tree) ∙ ap (λ z. length z.clauses) f in
    omega arith
