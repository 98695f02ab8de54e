-- What a query asks of a part, and of the program that fixes the part.
use Rattle.std.proofs.Common.{◌≡◌, ℕ, [], map, sym, subst, ap, ◌∙◌}
use Rattle.ll_lexer.specs.declared.Fault.{Fault}
use Rattle.ll_lexer.specs.declared.TextFault.{TextFault}
use Rattle.ll_lexer.specs.declared.TextFault.TheVariants as cause
use Rattle.ll_laws.specs.Problem.{ProblemTree}
use Rattle.ll_parser.specs.Raw.{Raw, ProgramTree}
use Rattle.ll_polarity.specs.Faults.{heading, program_faults, query_faults}
use Rattle.ll_polarity.specs.Asks.{ProgramPart, part_of, headings_of, problem_with, IsFirst, Asks, HasQueryFault}
use Rattle.ll_polarity.specs.Causes.{IsCauseOf}
use Rattle.ll_polarity.proofs.problems.Problems.{headings_of_part}

headings_are : (part : ProgramPart) (p : ProgramTree) → part ≡ part_of p → headings_of part ≡ map heading p.modules
headings_are part p e = ap headings_of e ∙ headings_of_part p

pub asks_problem : (part : ProgramPart) (query : Raw) (bound : ℕ) (problem : ProblemTree) → problem ≡ problem_with part query bound
    → query_faults (headings_of part) query ≡ []
    → (p : ProgramTree) → program_faults p ≡ [] → part ≡ part_of p → Asks p query bound problem
asks_problem part query bound problem is none p faultless e = record {
  program_faultless = faultless;
  query_faultless = ap (λ hs. query_faults hs query) (sym (headings_are part p e)) ∙ none;
  is = is ∙ ap (λ x. problem_with x query bound) e;
}

pub fault_of_part : (part : ProgramPart) (query : Raw) (f : Fault) → IsFirst f (query_faults (headings_of part) query) → (p : ProgramTree) → part ≡ part_of p
    → HasQueryFault p query f
fault_of_part part query f first p e = subst (λ hs. IsFirst f (query_faults hs query)) (headings_are part p e) first

pub cause_of_part : (part : ProgramPart) (query : Raw) (e : TextFault) → IsCauseOf (λ fault. IsFirst fault (query_faults (headings_of part) query)) e
    → IsCauseOf (λ fault. (program : ProgramTree) → part ≡ part_of program → HasQueryFault program query fault) e
cause_of_part part query (cause.Text f) first = fault_of_part part query f first
cause_of_part part query cause.OutOfMemory first = first
