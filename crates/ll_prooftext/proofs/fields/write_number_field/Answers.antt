use Rattle.std.proofs.lemmas.Result.{IfOk-from_err}
use Rattle.std.proofs.Common.{decimal}
use Rattle.ll_laws.specs.ProofText.{field}
use Rattle.ll_printer.proofs.CallerLemmas.{begins_same}
use Rattle.ll_prooftext.proofs.fields.write_number_field.Goals as goal

pub returns-in_err-push-clause-text : goal.returns-in_err-push-clause-text
returns-in_err-push-clause-text c = IfOk-from_err c.from_residual.result _ c.from_residual.ensures.0

pub returns-in_err-push-clause-begun : goal.returns-in_err-push-clause-begun
returns-in_err-push-clause-begun c = begins_same (field (decimal c.args.number)) c.args.out.now.items c.push.new.self.items c.in_err-push.ensures.items
