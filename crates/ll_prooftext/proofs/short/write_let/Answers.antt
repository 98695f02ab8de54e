use Rattle.std.proofs.lemmas.Result.{IfOk-from_err}
use Rattle.ll_prooftext.proofs.short.write_let.Goals as goal

pub returns-in_err-extend_from_slice : goal.returns-in_err-extend_from_slice
returns-in_err-extend_from_slice c = IfOk-from_err c.from_residual.result _ c.from_residual.ensures.0

pub returns-in_err-write_field : goal.returns-in_err-write_field
returns-in_err-write_field c = IfOk-from_err c.from_residual-in_err-write_field.result _ c.from_residual-in_err-write_field.ensures.0

pub returns-in_err-push : goal.returns-in_err-push
returns-in_err-push c = IfOk-from_err c.from_residual-in_err-push.result _ c.from_residual-in_err-push.ensures.0

pub write_field-requires : goal.write_field-requires
write_field-requires c = record { inside = c.requires.inside; rows = c.requires.rows; numbered = c.requires.numbered }
