use Rattle.std.proofs.lemmas.Result.{IfOk-from_err}
use Rattle.std.proofs.Common.{ap, length}
use Rattle.std.specs.Arc.{arc_value}
use Rattle.std.proofs.lemmas.Result.{IfOk-weaker}
use Rattle.ll_freeze.specs.Frozen.{FrozenSight, alternatives_in}
use Rattle.ll_crew.proofs.Gathering.{crew_works}
use Rattle.ll_crew.proofs.pool.crew_of.Goals as goal

pub crew_from-requires-clause-one : goal.crew_from-requires-clause-one
crew_from-requires-clause-one g c κs within = ap (λ (root : FrozenSight). length (alternatives_in root)) c.in_ok-root.ensures.1

pub returns-clause-first : goal.returns-clause-first
returns-clause-first g c =
    let root = c.in_ok-root.ensures in
    IfOk-weaker c.crew_from.result _ _
    (λ made crew. let works = crew_works c.args.problem.now root.0 (arc_value c.in_ok-root.root) c.args.workers made.0 made.1 made.2.items root.1 crew in
    (works.0, crew.worker, crew.numbers)) c.crew_from.ensures

pub returns-clause-others : goal.returns-clause-others
returns-clause-others g c =
    let root = c.in_ok-root.ensures in
    IfOk-weaker c.crew_from.result _ _
    (λ made crew. let works = crew_works c.args.problem.now root.0 (arc_value c.in_ok-root.root) c.args.workers made.0 made.1 made.2.items root.1 crew in
    works.1) c.crew_from.ensures

pub returns-clause-seen : goal.returns-clause-seen
returns-clause-seen g c =
    let root = c.in_ok-root.ensures in
    IfOk-weaker c.crew_from.result _ _
    (λ made crew. let works = crew_works c.args.problem.now root.0 (arc_value c.in_ok-root.root) c.args.workers made.0 made.1 made.2.items root.1 crew in
    (root.0, works.2)) c.crew_from.ensures

pub returns-in_err-root-clause-first : goal.returns-in_err-root-clause-first
returns-in_err-root-clause-first g c = IfOk-from_err c.from_residual.result _ c.from_residual.ensures.0

pub returns-in_err-root-clause-others : goal.returns-in_err-root-clause-others
returns-in_err-root-clause-others g c = IfOk-from_err c.from_residual.result _ c.from_residual.ensures.0

pub returns-in_err-root-clause-seen : goal.returns-in_err-root-clause-seen
returns-in_err-root-clause-seen g c = IfOk-from_err c.from_residual.result _ c.from_residual.ensures.0

pub returns-clause-each : goal.returns-clause-each
returns-clause-each g c = IfOk-weaker c.crew_from.result _ _ (λ made crew. crew.each) c.crew_from.ensures

pub returns-in_err-root-clause-each : goal.returns-in_err-root-clause-each
returns-in_err-root-clause-each g c = IfOk-from_err c.from_residual.result _ c.from_residual.ensures.0
