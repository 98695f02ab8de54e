-- A problem that texts ask starts in a state whose names have as many arguments as they may, with light clauses and few variables.
use Rattle.std.proofs.Common.{◌≡◌, ◌≤◌, ◌<◌, ℕ, suc, refl, ap, sym, subst, List, [], ◌∷◌, ◌++◌, map, length, arith}
use Rattle.std.proofs.lemmas.List.{length-replicate}
use Rattle.std.specs.Prelude.{Option, Some, None, if◌then◌else◌}
use Rattle.std.specs.List.{list_any}
use Rattle.std.specs.Str.{bytes_eq}
use Rattle.ll_bank.specs.Names.{with_name}
use Rattle.ll_lexer.specs.declared.Fault.{Fault}
use Rattle.ll_laws.specs.Module.{ClauseTree}
use Rattle.ll_laws.specs.Problem.{ProblemTree, start_of}
use Rattle.ll_laws.specs.Search.{program_entries}
use Rattle.ll_laws.specs.Valid.{GoalSide, ClauseSide}
use Rattle.ll_parser.specs.Raw.{Raw, ProgramTree}
use Rattle.ll_parser.specs.Raw as raw
use Rattle.ll_parser.specs.Text.{programs, queries}
use Rattle.ll_parser.specs.Reads.{IsWhole}
use Rattle.ll_parser.proofs.CallerLemmas.{AreSmall, HaveSmall, small_program, small_query}
use Rattle.ll_polarity.specs.Scope.{Scope, module_scope}
use Rattle.ll_polarity.specs.Reading.{Met, read_form}
use Rattle.ll_polarity.specs.Faults.{Heading, heading, form_faults, repeated, clauses_faults, modules_faults, program_faults, query_faults}
use Rattle.ll_polarity.specs.Asks.{Asks, module_names, read_clause, read_clauses, read_module, read_modules, part_of, read_asked, modules_of, problem_with}
use Rattle.ll_polarity.proofs.CallerLemmas.{More, more_trans, more_asked, length_asked, longer_form, none_left, none_right, few_form, places, more_clauses}
use Rattle.ll_polarity.proofs.CallerLemmas.{more_modules, places_module}
use Rattle.ll_top.specs.spelled.Taking.{TakesAt}
use Rattle.ll_top.specs.spelled.Laws.{name_takes}
use Rattle.ll_top.proofs.respelling.Forms.{ClausesTake}
use Rattle.ll_top.proofs.respelling.States.{EntriesTake, ModulesTake, StateTakes, vars-take}
use Rattle.ll_top.proofs.respelling.Lightness.{light-read}
use Rattle.ll_top.proofs.respelling.Formulas.{form-takes}
use Rattle.ll_top.proofs.respelling.Binding.{quantified-takes, quantified-light}
use Rattle.ll_top.proofs.respelling.Texts.{AreSpoken, HaveSpoken, program-spoken, query-spoken}

-- no clause of texts has more leaves, nor more quantifiers on the way to one
abbrev pub most : ℕ
most = 33554432

pub enough : 0 < most
enough = omega arith

-- what texts ask: names with as many arguments as they may have, light clauses, and few variables
pub record ProblemTakes (p : ProblemTree) : Type 0 where
  pub start : StateTakes (name_takes p.names) most (length p.clauses) (length p.asked) enough (start_of p)
  pub modules : ModulesTake (name_takes p.names) most (length p.clauses) (length p.asked) enough p.modules
  pub asked : length p.asked ≤ 16777216

-- ---- clauses and modules, over names that have those of their end

module _ (names : List (List ℕ)) (ms : List (List ℕ)) (heads : List Heading) where
  clauses-take : (scope : Scope) (before : List (List ℕ)) (cs : List raw.ClauseTree) → AreSpoken cs → AreSmall 16777216 cs → clauses_faults heads scope cs ≡ []
      → More (read_clauses ms scope before cs).names names → ClausesTake (name_takes names) most (places scope) (read_clauses ms scope before cs).it
  clauses-take scope before [] s l h g = tt
  clauses-take scope before (c ∷ cs) s l h g =
      let met : Met = record { names = before; variables = [] } in
      let r = read_form ms scope met c.form in
      let f = form_faults heads ClauseSide scope c.form in
      let n = length r.met.variables in
      let after = (read_clause ms scope before c).names in
      let few = few_form ms scope met c.form in
      let longer = (longer_form ms scope met c.form).names.longer in
      let takes = form-takes names most ms heads ClauseSide scope met c.form s.0 (none_left f (clauses_faults heads scope cs) h)
      (more_trans (more_clauses ms scope after cs) g) (omega (arith, l.0.light)) in (
        (
          quantified-light 16777216 most n r.it (omega (arith, few, longer, l.0.light)) (light-read 16777216 ms scope met c.form l.0.light),
          quantified-takes (name_takes names) most n (places scope) r.it takes,
        ),
        clauses-take scope after cs s.1 l.1 (none_right f (clauses_faults heads scope cs) h) g,
      )

  module _ (base asked : ℕ) where
    modules-take : (before earlier : List (List ℕ)) (rest : List raw.ModuleTree) → HaveSpoken rest → HaveSmall 16777216 rest
        → modules_faults heads earlier rest ≡ []
        → More (read_modules ms before rest).names names → ModulesTake (name_takes names) most base asked enough (read_modules ms before rest).it
    modules-take before earlier [] s l h g = tt
    modules-take before earlier (m ∷ rest) s l h g =
        let a : List Fault = if list_any (bytes_eq m.name.text) earlier then record { at = m.name.at; kind = 12 } ∷ [] else [] in
        let b = repeated [] (m.params ++ m.locals) in let c = clauses_faults heads (module_scope m) m.clauses in
        let d = modules_faults heads (m.name.text ∷ earlier) rest in
        let named = with_name before m.name.text in let after = (read_module ms before m).names in (
          subst (λ sc. ClausesTake (name_takes names) most sc (read_module ms before m).it.clauses) (places_module m)
              (clauses-take (module_scope m) named m.clauses s.0 l.0 (none_right (a ++ b) c (none_left (a ++ b ++ c) d h))
              (more_trans (more_modules ms after rest) g)),
          modules-take after (m.name.text ∷ earlier) rest s.1 l.1 (none_right (a ++ b ++ c) d h) g,
        )

-- ---- the start

entries-take : (takes : TakesAt) (base asked n : ℕ) (cs : List ClauseTree) → ClausesTake takes most [] cs
    → EntriesTake takes most base asked enough (program_entries n cs)
entries-take takes base asked n [] h = tt
entries-take takes base asked n (c ∷ cs) h = (h.0, entries-take takes base asked (suc n) cs h.1)

asked-take : (program : ProgramTree) (query : Raw) (bound : ℕ) → IsWhole programs program → IsWhole queries query → program_faults program ≡ []
    → query_faults (map heading program.modules) query ≡ [] → ProblemTakes (problem_with (part_of program) query bound)
asked-take program query bound wp wq hp hq =
    let part = part_of program in let heads = map heading program.modules in let ms = module_names program in
    let met : Met = record { names = part.names; variables = [] } in
    let r = read_form (modules_of part) [] met query in
    let p = problem_with part query bound in
    let before = (read_clauses ms [] [] program.clauses).names in
    let spoken = program-spoken program wp in let small = small_program program wp in let light = (small_query query wq).light in
    let a = clauses_faults heads [] program.clauses in let b = modules_faults heads [] program.modules in
    let more = more_asked r.met.names r.met.variables in
    let longer = (longer_form (modules_of part) [] met query).names in
    let all = more_trans longer more in
    let cs = clauses-take p.names ms heads [] [] program.clauses spoken.clauses small.clauses (none_left a b hp)
    (more_trans (more_modules ms before program.modules) all) in
    let few = few_form (modules_of part) [] met query in
    let count = length_asked r.met.names r.met.variables in
    record {
      start = record {
        goals = (form-takes p.names most (modules_of part) heads GoalSide [] met query (query-spoken query wq) hq more (omega (arith, light)), tt);
        entries = entries-take (name_takes p.names) (length p.clauses) (length p.asked) 0 p.clauses cs;
        terms = vars-take (name_takes p.names) most (length p.clauses) (length p.asked) enough 0 (length p.asked);
        label = omega arith;
        eigens = omega arith;
        levels = omega (arith, length-replicate {A = ℕ} (length p.asked) 0);
        steps = tt;
      };
      modules =
          modules-take p.names ms heads (length p.clauses) (length p.asked) before [] program.modules spoken.modules small.modules (none_right a b hp) all;
      asked = omega (arith, few, longer.longer, light, count);
    }

pub problem-takes : (program : ProgramTree) (query : Raw) (bound : ℕ) (p : ProblemTree) → IsWhole programs program → IsWhole queries query
    → Asks program query bound p → ProblemTakes p
problem-takes program query bound p wp wq asks =
    subst ProblemTakes (sym asks.is) (asked-take program query bound wp wq asks.program_faultless asks.query_faultless)
