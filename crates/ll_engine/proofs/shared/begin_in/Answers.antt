use Rattle.std.proofs.lemmas.Result.{IfOk-from_err}
use Rattle.std.proofs.Common.{ap, subst, ◌∙◌, rules}
use Rattle.ll_laws.specs.Problem.{ProblemTree}
use Rattle.ll_freeze.specs.Parts.{parts_of, base_of}
use Rattle.ll_freeze.proofs.CallerLemmas.{keeps}
use Rattle.ll_engine.specs.Pointed.{IsRunning}
use Rattle.ll_engine.proofs.machine.Basing.{begun_sound}
use Rattle.ll_engine.proofs.shared.begin_in.Goals as goal

pub returns-clause-sound : goal.returns-clause-sound
returns-clause-sound c =
    let m = c.begin.new.machine in let began = c.in_ok-began.began in
    let s = keeps c.args.machine m c.in_ok-began.ensures.later c.mark-base.result c.mark-base.ensures.good in
    let b = begun_sound c.args.problem.now m c.new-points.result.items began (record { batch = c.args.frozen; base = c.mark-base.result })
    c.new-points.ensures.items
    (subst (λ (p : ProblemTree). IsRunning began p (parts_of m)) (ap (λ f. f.problem) c.deref.ensures ∙ c.requires.of) c.in_ok-began.ensures.begins.runs)
    s.good (ap base_of (s.parts ∙ c.mark-base.ensures.parts) ∙ c.requires.thaws.base) in
    record { index = c.requires.index; sound = b.0; marks = b.1.0; based = b.1.1 }

pub returns-in_err-began-clause-sound : goal.returns-in_err-began-clause-sound
returns-in_err-began-clause-sound c = IfOk-from_err c.from_residual.result _ c.from_residual.ensures.0

pub returns-in_err-began-clause-begins : goal.returns-in_err-began-clause-begins
returns-in_err-began-clause-begins c = IfOk-from_err c.from_residual.result _ c.from_residual.ensures.0

pub returns-clause-begins : goal.returns-clause-begins
returns-clause-begins c = search rules

pub begin-requires-clause-inside : goal.begin-requires-clause-inside
begin-requires-clause-inside c = rw c.deref.ensures c.requires.inside

pub begin-requires-clause-thaws : goal.begin-requires-clause-thaws
begin-requires-clause-thaws c = rw c.deref.ensures c.requires.thaws
