use Rattle.std.proofs.lemmas.Result.{IfOk-from_err}
use Rattle.std.proofs.Common.{subst}
use Rattle.ll_laws.specs.Problem.{ProblemTree}
use Rattle.ll_freeze.specs.Parts.{parts_of}
use Rattle.ll_engine.specs.Pointed.{IsRunning}
use Rattle.ll_engine.proofs.machine.Basing.{begun_alone}
use Rattle.ll_engine.proofs.resume.begin_alone.Goals as goal

pub returns-clause-sound : goal.returns-clause-sound
returns-clause-sound c =
    let m = c.begin.new.machine in let began = c.in_ok-began.began in
    let b = begun_alone c.args.problem.now m c.new-points.result.items began c.new-points.ensures.items
    (subst (λ (p : ProblemTree). IsRunning began p (parts_of m)) c.requires.of c.in_ok-began.ensures.begins.runs) in
    record { index = c.requires.index; sound = b.0; marks = b.1; based = tt }

pub returns-in_err-began-clause-sound : goal.returns-in_err-began-clause-sound
returns-in_err-began-clause-sound c = IfOk-from_err c.from_residual.result _ c.from_residual.ensures.0

pub returns-in_err-began-clause-begins : goal.returns-in_err-began-clause-begins
returns-in_err-began-clause-begins c = IfOk-from_err c.from_residual.result _ c.from_residual.ensures.0
