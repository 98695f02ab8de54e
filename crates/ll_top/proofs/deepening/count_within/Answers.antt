use Rattle.std.specs.Arc.{arc_value}
use Rattle.std.proofs.Common.{sym, subst}
use Rattle.ll_index.specs.Index.{HasIndex}
use Rattle.ll_laws.specs.Valid.{IsValid}
use Rattle.ll_laws.specs.Problem.{ProblemTree}
use Rattle.ll_top.specs.DeepenEnds.{with_bound}
use Rattle.ll_top.proofs.calls.DeepenLemmas.{valid-within}
use Rattle.ll_top.proofs.deepening.count_within.Goals as goal

pub count_events-requires : goal.count_events-requires
count_events-requires g c = (
  c.type_bounds.sync-R,
  (
    c.type_bounds.sync-G,
    (
      subst (λ p. IsValid (with_bound p c.args.bound)) (sym c.problem.view_is) (valid-within c.args.problem.now c.args.bound c.requires.valid c.requires.bound),
      subst (λ (p : ProblemTree). HasIndex p.clauses (arc_value c.args.index.now)) (sym c.problem.view_is) c.requires.index,
    ),
  ),
)
