use Rattle.std.proofs.Common.{sym, subst, refl}
use Rattle.ll_freeze.specs.Frozen.{opening}
use Rattle.ll_freeze.specs.Indexed.{IsIndexOf}
use Rattle.ll_crew.specs.Leading.{Leads}
use Rattle.ll_crew.proofs.Endings.{leads_first}
use Rattle.ll_crew.proofs.whole.crew_with.Goals as goal

pub search-requires-clause-leads : goal.search-requires-clause-leads
search-requires-clause-leads g c κs within =
    let s = c.in-Ok-crew_of.ensures.seen in
    subst (λ p. Leads g.O.Outlet c.args.out.now c.args.problem.now p c.args.out.now
    (record { answers = 0; reached = 0; inferences = 0 })) (sym s.1)
    (leads_first g.O.Outlet c.args.out.now c.args.problem.now
    (opening c.args.problem.now s.0) c.args.team.now.workers
    (record { answers = 0; reached = 0; inferences = 0 }) refl refl refl refl refl c.requires.welcome)

pub returns-in-Err-clause-given : goal.returns-in-Err-clause-given
returns-in-Err-clause-given g c = _

pub returns-in-Err-clause-counts : goal.returns-in-Err-clause-counts
returns-in-Err-clause-counts g c = _

pub search_alone-requires-clause-valid : goal.search_alone-requires-clause-valid
search_alone-requires-clause-valid g c κs within = c.requires.valid

pub search_alone-requires-clause-suits : goal.search_alone-requires-clause-suits
search_alone-requires-clause-suits g c κs within = c.requires.suits

pub search_alone-requires-clause-index : goal.search_alone-requires-clause-index
search_alone-requires-clause-index g c κs within = subst (IsIndexOf c.args.problem.now) (sym c.in-Ok.ensures) c.requires.index

pub search_alone-requires-clause-welcome : goal.search_alone-requires-clause-welcome
search_alone-requires-clause-welcome g c κs within = c.requires.welcome

pub crew_of-requires-clause-workers : goal.crew_of-requires-clause-workers
crew_of-requires-clause-workers g c κs within = c.args.team.now.few

pub crew_of-requires-clause-valid : goal.crew_of-requires-clause-valid
crew_of-requires-clause-valid g c κs within = c.requires.valid

pub crew_of-requires-clause-index : goal.crew_of-requires-clause-index
crew_of-requires-clause-index g c κs within = subst (IsIndexOf c.args.problem.now) (sym c.in-Ok.ensures) c.requires.index

pub search-requires-clause-suits : goal.search-requires-clause-suits
search-requires-clause-suits g c κs within = c.requires.suits

pub returns-in_default-clause-given : goal.returns-in_default-clause-given
returns-in_default-clause-given g c = _

pub returns-in_default-clause-counts : goal.returns-in_default-clause-counts
returns-in_default-clause-counts g c = _
