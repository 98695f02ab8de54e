-- A text that is printed of a program without modules and without a fault is a program without a fault.
use Rattle.std.proofs.Common.{◌≡◌, ◌≤◌, ◌++◌, ℕ, List, [], length, map, refl, ap, ◌∙◌}
use Rattle.std.specs.List.{AllByRecursion}
use Rattle.std.proofs.lemmas.List.Elements.{All-from_recursion}
use Rattle.ll_lexer.specs.Reading.{LexedText, IsLexed}
use Rattle.ll_parser.specs.Tokens.{IsSpelled, toks_of}
use Rattle.ll_parser.specs.Raw.{ProgramTree}
use Rattle.ll_parser.specs.Text.{Clause, Program, programs, program_tokens, program_tree, clause_tree}
use Rattle.ll_parser.specs.Reads.{Reads, IsWhole}
use Rattle.ll_parser.specs.Printed.{program_text}
use Rattle.ll_parser.specs.Bare.{bare_program}
use Rattle.ll_polarity.specs.Faults.{clauses_faults}
use Rattle.ll_top.specs.Faultless.{IsFaultlessProgram}
use Rattle.ll_top.proofs.made.Opened.{opened, few-within}
use Rattle.ll_top.proofs.made.Aside.{faultless-aside}

-- these clauses alone are printed as this text, can stand in one, and have no fault
pub record AreClausesOf (clauses : List Clause) (text : List ℕ) : Type 0 where
  pub printed : program_text (program_tree (record { clauses = clauses; modules = [] })) ≡ text
  pub spelled : AllByRecursion IsSpelled (program_tokens (record { clauses = clauses; modules = [] }))
  pub few : length (program_tokens (record { clauses = clauses; modules = [] })) ≤ 16777216
  pub brackets : opened (program_tokens (record { clauses = clauses; modules = [] })) ≤ 1000
  pub faultless : clauses_faults [] [] (map clause_tree clauses) ≡ []

whole : (p : Program) → AllByRecursion IsSpelled (program_tokens p) → length (program_tokens p) ≤ 16777216 → opened (program_tokens p) ≤ 1000
    → IsWhole programs (program_tree p)
whole p s f b = (program_tokens p, f, All-from_recursion IsSpelled (program_tokens p) s, ((p, refl, refl), few-within 1000 (program_tokens p) b))

-- what is printed is read
abbrev pub ReadsPrinted : Type 0
ReadsPrinted = (p : ProgramTree) → IsWhole programs p → (lexed : LexedText) × (lexed.text ≡ program_text p) × IsLexed lexed × (q : ProgramTree)
    × Reads programs 1000 (toks_of lexed) q × (bare_program q ≡ bare_program p)

pub clauses-read : ReadsPrinted → (clauses : List Clause) (text : List ℕ) → AreClausesOf clauses text → IsFaultlessProgram text
clauses-read law clauses text h =
    let p : Program = record { clauses = clauses; modules = [] } in
    let r = law (program_tree p) (whole p h.spelled h.few h.brackets) in
    record {
      lexed = r.0;
      of_text = r.1 ∙ h.printed;
      is_lexed = r.2;
      tree = r.3;
      reads = r.4;
      faultless = faultless-aside (program_tree p) r.3 r.5 (ap (λ fs. fs ++ []) h.faultless);
    }
