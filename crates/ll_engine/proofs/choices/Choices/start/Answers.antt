use Rattle.std.proofs.lemmas.Result.{IfOk-from_err}
use Rattle.std.proofs.Common.{true, Some, ap, ◌∙◌}
use Rattle.ll_engine.specs.Pointed.{helds, points_of}
use Rattle.ll_freeze.specs.Shown.{state_of}
use Rattle.ll_freeze.specs.Parts.{parts_of}
use Rattle.ll_engine.proofs.machine.Basing.{begun_alone}
use Rattle.ll_engine.proofs.choices.Choices.start.Goals as goal

pub returns-clause-sound : goal.returns-clause-sound
returns-clause-sound c =
    let e = c.in_ok-machine.ensures in
    let b = begun_alone c.args.problem.now c.in_ok-machine.machine c.new-points.result.items true c.new-points.ensures.items (e.fits, e.problem) in
    record { index = c.requires.index; sound = b.0; marks = b.1; based = tt }

pub returns-in_err-machine-clause-sound : goal.returns-in_err-machine-clause-sound
returns-in_err-machine-clause-sound c = IfOk-from_err c.from_residual.result _ c.from_residual.ensures.0

pub returns-in_err-machine-clause-start : goal.returns-in_err-machine-clause-start
returns-in_err-machine-clause-start c = IfOk-from_err c.from_residual.result _ c.from_residual.ensures.0

pub start-requires : goal.start-requires
start-requires c = record { valid = c.requires.valid }

pub returns-clause-start : goal.returns-clause-start
returns-clause-start c =
    let e = c.in_ok-machine.ensures in
    λ j. record {
      problem = c.args.problem.now;
      first = Some ((ap (λ m. state_of (parts_of m)) c.of-origin.ensures ∙ e.state) j);
      now = e.state j;
      left = e.left j;
      points = points_of (helds c.in_ok-machine.machine (c.new-points.ensures.items j));
    }
