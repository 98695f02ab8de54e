use Rattle.std.proofs.Common.{◌≡◌, true, Ok, rules}
use Rattle.ll_crew.specs.Leading.{StoppedOf}
use Rattle.ll_crew.specs.declared.fault.CrewFault.TheVariants.{Write}
use Rattle.ll_crew.proofs.Endings.{stopped_kept, stopped_prefix, stopped_write, left_or_failed}
use Rattle.ll_crew.proofs.giving.finish.Goals as goal

pub returns-in-Some-clause-refused : goal.returns-in-Some-clause-refused
returns-in-Some-clause-refused g c =
    let not : c.args.lead.now.done ≡ Ok true → ⊥ = search rules in
    let s = left_or_failed c.args.lead.now.done
    (StoppedOf g.O.Outlet c.args.start.now.out.now.value c.args.start.now.problem.now c.args.out.now c.args.lead.now.told)
    not c.requires.left c.requires.failed in
    stopped_prefix g.O.Outlet c.args.start.now.out.now.value
    c.args.start.now.problem.now c.args.out.now c.args.lead.now.told c.requires.leads s

pub returns-in-Some-clause-write : goal.returns-in-Some-clause-write
returns-in-Some-clause-write g c = λ e.
    let not : c.args.lead.now.done ≡ Ok true → ⊥ = search rules in
    let s = left_or_failed c.args.lead.now.done
    (StoppedOf g.O.Outlet c.args.start.now.out.now.value c.args.start.now.problem.now c.args.out.now c.args.lead.now.told)
    not c.requires.left c.requires.failed in
    let is : c.fault_of.result ≡ Write = cc in
    stopped_write g.O.Outlet c.args.start.now.out.now.value
    c.args.start.now.problem.now c.args.out.now c.args.lead.now.told c.in-Some.fault c.requires.leads c.in-Some.is s (c.fault_of.ensures.0 is)

pub returns-in-Some-clause-kept : goal.returns-in-Some-clause-kept
returns-in-Some-clause-kept g c =
    let not : c.args.lead.now.done ≡ Ok true → ⊥ = search rules in
    let s = left_or_failed c.args.lead.now.done
    (StoppedOf g.O.Outlet c.args.start.now.out.now.value c.args.start.now.problem.now c.args.out.now c.args.lead.now.told)
    not c.requires.left c.requires.failed in
    stopped_kept g.O.Outlet c.args.start.now.out.now.value
    c.args.start.now.problem.now c.args.out.now c.args.lead.now.told c.requires.leads s

pub returns-in-None-clause-refused : goal.returns-in-None-clause-refused
returns-in-None-clause-refused g c =
    let not : c.args.lead.now.done ≡ Ok true → ⊥ = search rules in
    let s = left_or_failed c.args.lead.now.done
    (StoppedOf g.O.Outlet c.args.start.now.out.now.value c.args.start.now.problem.now c.args.out.now c.args.lead.now.told)
    not c.requires.left c.requires.failed in
    stopped_prefix g.O.Outlet c.args.start.now.out.now.value
    c.args.start.now.problem.now c.args.out.now c.args.lead.now.told c.requires.leads s

pub returns-in-None-clause-write : goal.returns-in-None-clause-write
returns-in-None-clause-write g c = λ e. absurd (cc)

pub returns-in-None-clause-kept : goal.returns-in-None-clause-kept
returns-in-None-clause-kept g c =
    let not : c.args.lead.now.done ≡ Ok true → ⊥ = search rules in
    let s = left_or_failed c.args.lead.now.done
    (StoppedOf g.O.Outlet c.args.start.now.out.now.value c.args.start.now.problem.now c.args.out.now c.args.lead.now.told)
    not c.requires.left c.requires.failed in
    stopped_kept g.O.Outlet c.args.start.now.out.now.value
    c.args.start.now.problem.now c.args.out.now c.args.lead.now.told c.requires.leads s

pub returns-in-Some-clause-given : goal.returns-in-Some-clause-given
returns-in-Some-clause-given g c = _

pub returns-in-Some-clause-counts : goal.returns-in-Some-clause-counts
returns-in-Some-clause-counts g c = _

pub returns-in-None-clause-given : goal.returns-in-None-clause-given
returns-in-None-clause-given g c = _

pub returns-in-None-clause-counts : goal.returns-in-None-clause-counts
returns-in-None-clause-counts g c = _

pub returns-in-Ok-true-clause-given : goal.returns-in-Ok-true-clause-given
returns-in-Ok-true-clause-given g c = c.give_rest.ensures.given

pub returns-in-Ok-true-clause-counts : goal.returns-in-Ok-true-clause-counts
returns-in-Ok-true-clause-counts g c = c.give_rest.ensures.counts

pub returns-in-Ok-true-clause-write : goal.returns-in-Ok-true-clause-write
returns-in-Ok-true-clause-write g c = c.give_rest.ensures.write

pub returns-in-Ok-true-clause-kept : goal.returns-in-Ok-true-clause-kept
returns-in-Ok-true-clause-kept g c = c.give_rest.ensures.kept
