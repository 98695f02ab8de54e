use Rattle.std.proofs.Common.{◌≡◌, ℕ, List, [], ◌∷◌, map, ◌⊎◌, inl, inr, refl}
use Rattle.ll_lexer.specs.declared.Fault.{Fault}
use Rattle.ll_laws.specs.Problem.{ProblemTree}
use Rattle.ll_parser.specs.Raw.{Raw, ProgramTree}
use Rattle.ll_polarity.specs.Faults.{heading, program_faults, query_faults}
use Rattle.ll_polarity.specs.Asks.{part_of, problem_with, Asks, HasProgramFault, HasQueryFault}
use Rattle.ll_polarity.proofs.laws.one_problem.Goals as goal

pub returns-clause-either : goal.returns-clause-either
returns-clause-either c = λ program query bound. by program query bound (program_faults program) refl (query_faults (map heading program.modules) query) refl
  where
    by : (program : ProgramTree) (query : Raw) (bound : ℕ) (fs : List Fault) → program_faults program ≡ fs → (gs : List Fault)
        → query_faults (map heading program.modules) query ≡ gs
        → ((p : ProblemTree) × Asks program query bound p) ⊎ ((f : Fault) × (HasProgramFault program f ⊎ HasQueryFault program query f))
    by program query bound (f ∷ fs) e gs d = inr (f, inl (fs, e))
    by program query bound [] e (g ∷ gs) d = inr (g, inr (gs, d))
    by program query bound [] e [] d = inl (problem_with (part_of program) query bound, record { program_faultless = e; query_faultless = d; is = refl })
