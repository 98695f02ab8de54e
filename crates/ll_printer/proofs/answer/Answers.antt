use Rattle.std.proofs.Common.{◌++◌, refl, codes, decimal}
use Rattle.std.proofs.lemmas.Result.{IfOk-from_err}
use Rattle.ll_laws.specs.Output.{line, bindings_text}
use Rattle.ll_printer.proofs.AnswerLines.{begins_after, begins_before}
use Rattle.ll_printer.proofs.answer.Goals as goal

pub returns-in_err-title-clause-begun : goal.returns-in_err-title-clause-begun
returns-in_err-title-clause-begun c =
    begins_before (line (codes "answer " ++ decimal c.args.number)) (bindings_text c.args.problem.now c.args.branch.now)
    ((line (codes "answer " ++ decimal c.args.number)) ++ bindings_text c.args.problem.now c.args.branch.now) c.args.out.now.items
    c.title.new.out.items refl c.title.ensures.begun

pub returns-clause-begun : goal.returns-clause-begun
returns-clause-begun c =
    begins_after (line (codes "answer " ++ decimal c.args.number)) (bindings_text c.args.problem.now c.args.branch.now)
    ((line (codes "answer " ++ decimal c.args.number)) ++ bindings_text c.args.problem.now c.args.branch.now) c.args.out.now.items
    c.title.new.out.items c.bindings.new.out.items c.in_ok-title.ensures.text refl c.bindings.ensures.begun

pub returns-in_err-title-clause-text : goal.returns-in_err-title-clause-text
returns-in_err-title-clause-text c = IfOk-from_err c.from_residual.result _ c.from_residual.ensures.0
