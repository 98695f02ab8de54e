use Rattle.ll_crew.proofs.Endings.{welcome_left, given_whole, refused_whole, counts_whole}
use Rattle.ll_crew.proofs.giving.give_rest.Goals as goal

pub drain-requires-clause-welcome : goal.drain-requires-clause-welcome
drain-requires-clause-welcome g c κs within =
    welcome_left g.O.Outlet c.args.start.now.out.now.value c.args.start.now.problem.now c.args.out.now c.args.counts
    c.args.pool c.requires.done.0 c.requires.done.1 c.requires.leads

pub returns-in-Ok-clause-given : goal.returns-in-Ok-clause-given
returns-in-Ok-clause-given g c =
    given_whole g.O.Outlet c.args.start.now.out.now.value c.args.start.now.problem.now c.args.out.now c.args.counts
    c.args.pool c.requires.done.0 c.requires.done.1 c.requires.leads c.drain.new.out c.in-Ok.ensures.given

pub returns-in-Ok-clause-counts : goal.returns-in-Ok-clause-counts
returns-in-Ok-clause-counts g c =
    let s = c.sum_of.ensures in
    counts_whole g.O.Outlet c.args.start.now.out.now.value c.args.start.now.problem.now c.args.out.now c.args.counts
    c.args.pool c.requires.done.0 c.requires.done.1 c.requires.leads c.in-Ok.rest c.sum_of.result c.in-Ok.ensures.counts s.answers s.reached s.inferences

pub returns-clause-refused : goal.returns-clause-refused
returns-clause-refused g c =
    refused_whole g.O.Outlet c.args.start.now.out.now.value c.args.start.now.problem.now c.args.out.now c.args.counts
    c.args.pool c.requires.done.0 c.requires.done.1 c.requires.leads c.drain.new.out c.in-Err.ensures.refused

pub returns-in-Ok-clause-refused : goal.returns-in-Ok-clause-refused
returns-in-Ok-clause-refused g c = _

pub returns-clause-given : goal.returns-clause-given
returns-clause-given g c = _

pub returns-clause-counts : goal.returns-clause-counts
returns-clause-counts g c = _

pub returns-in-Ok-clause-write : goal.returns-in-Ok-clause-write
returns-in-Ok-clause-write g c = λ e. absurd (cc)
