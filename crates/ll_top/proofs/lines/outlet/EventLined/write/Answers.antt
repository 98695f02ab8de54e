use Rattle.std.proofs.lemmas.Result.{IfOk-from_err}
use Rattle.ll_top.proofs.lines.outlet.EventLined.write.Goals as goal

pub returns-in_err-answer-clause-answers : goal.returns-in_err-answer-clause-answers
returns-in_err-answer-clause-answers c = IfOk-from_err c.from_residual.result _ c.from_residual.ensures.0

pub returns-in_err-answer-clause-lines : goal.returns-in_err-answer-clause-lines
returns-in_err-answer-clause-lines c = IfOk-from_err c.from_residual.result _ c.from_residual.ensures.0

pub returns-in_err-write_proof-clause-answers : goal.returns-in_err-write_proof-clause-answers
returns-in_err-write_proof-clause-answers c = IfOk-from_err c.from_residual-in_err-write_proof.result _ c.from_residual-in_err-write_proof.ensures.0

pub returns-in_err-write_proof-clause-lines : goal.returns-in_err-write_proof-clause-lines
returns-in_err-write_proof-clause-lines c = IfOk-from_err c.from_residual-in_err-write_proof.result _ c.from_residual-in_err-write_proof.ensures.0

pub write_proof-requires-clause-valid : goal.write_proof-requires-clause-valid
write_proof-requires-clause-valid c = c.requires.valid
