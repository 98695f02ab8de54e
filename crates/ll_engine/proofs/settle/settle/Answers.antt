use Rattle.std.proofs.lemmas.Result.{IfOk-from_err}
use Rattle.std.proofs.Common.{rules, subst}
use Rattle.ll_freeze.specs.Parts.{parts_of}
use Rattle.ll_engine.specs.Going.{Works}
use Rattle.ll_freeze.proofs.CallerLemmas.{later_same, later_then}
use Rattle.ll_engine.proofs.inferences.Settling.{further, begins, here, settled_done, settled_fails, failed_same, settled_empty}
use Rattle.ll_engine.proofs.settle.settle.Goals as goal

pub loop-item-init : goal.loop-item-init
loop-item-init c = record { going = begins (parts_of c.args.machine.now) c.requires.fits; later = later_same c.args.machine.now }

pub work_off-requires-clause-going : goal.work_off-requires-clause-going
work_off-requires-clause-going c = here (parts_of c.args.machine.now) (parts_of c.loop-item.machine) c.loop-item.invariant.going

pub returns-in-Settled-clause-settles : goal.returns-in-Settled-clause-settles
returns-in-Settled-clause-settles c =
    settled_done (parts_of c.args.machine.now) (parts_of c.loop-item.machine) (parts_of c.work_off.new.machine) c.in_ok-work_off.field-0 c.requires.fits
    c.loop-item.invariant.going c.in-Settled.is c.in_ok-work_off.ensures.works

pub returns-in-Failed-clause-settles : goal.returns-in-Failed-clause-settles
returns-in-Failed-clause-settles c =
    settled_fails (parts_of c.args.machine.now) (parts_of c.loop-item.machine) (parts_of c.work_off.new.machine) c.in_ok-work_off.field-0
    c.loop-item.invariant.going c.in-Failed.is c.in_ok-work_off.ensures.works

pub returns-in-Failed-clause-same : goal.returns-in-Failed-clause-same
returns-in-Failed-clause-same c =
    failed_same (parts_of c.args.machine.now) (parts_of c.loop-item.machine) (parts_of c.work_off.new.machine) c.in_ok-work_off.field-0
    c.loop-item.invariant.going c.in-Failed.is c.in_ok-work_off.ensures.works

pub returns-clause-settles : goal.returns-clause-settles
returns-clause-settles c = settled_empty (parts_of c.args.machine.now) (parts_of c.loop-item.machine) c.requires.fits c.loop-item.invariant.going (search rules)

pub returns-in-Settled-clause-later : goal.returns-in-Settled-clause-later
returns-in-Settled-clause-later c = later_then c.args.machine.now c.loop-item.machine c.work_off.new.machine c.loop-item.invariant.later
    c.in_ok-work_off.ensures.later

pub returns-in-Failed-clause-later : goal.returns-in-Failed-clause-later
returns-in-Failed-clause-later c = later_then c.args.machine.now c.loop-item.machine c.work_off.new.machine c.loop-item.invariant.later
    c.in_ok-work_off.ensures.later

pub loop-item-preserved : goal.loop-item-preserved
loop-item-preserved c =
    let w = subst (λ w. Works (parts_of c.loop-item.machine) w (parts_of c.work_off.new.machine)) c.in-Off.is c.in_ok-work_off.ensures.works in
    record {
      going = further (parts_of c.args.machine.now) (parts_of c.loop-item.machine) (parts_of c.work_off.new.machine) c.loop-item.invariant.going w.0;
      later = later_then c.args.machine.now c.loop-item.machine c.work_off.new.machine c.loop-item.invariant.later c.in_ok-work_off.ensures.later;
    }

pub returns-in_err-work_off-clause-settles : goal.returns-in_err-work_off-clause-settles
returns-in_err-work_off-clause-settles c = IfOk-from_err c.from_residual.result _ c.from_residual.ensures.0

pub returns-in_err-work_off-clause-same : goal.returns-in_err-work_off-clause-same
returns-in_err-work_off-clause-same c = IfOk-from_err c.from_residual.result _ c.from_residual.ensures.0

pub returns-in_err-work_off-clause-later : goal.returns-in_err-work_off-clause-later
returns-in_err-work_off-clause-later c = IfOk-from_err c.from_residual.result _ c.from_residual.ensures.0

pub item-requires : goal.item-requires
item-requires c = search rules

pub returns-in-Settled-clause-same : goal.returns-in-Settled-clause-same
returns-in-Settled-clause-same c = search rules

pub returns-clause-same : goal.returns-clause-same
returns-clause-same c = search rules

pub returns-clause-later : goal.returns-clause-later
returns-clause-later c = search rules
