use Rattle.std.proofs.lemmas.Result.{IfOk-from_err}
use Rattle.std.proofs.Common.{List, ◌++◌, ap, sym, ◌∙◌}
use Rattle.std.proofs.lemmas.List.{append-nil}
use Rattle.ll_bank.specs.declared.At.{At}
use Rattle.ll_prooftext.proofs.writing.Signs.{placeless}
use Rattle.ll_prooftext.proofs.short.push_places.Goals as goal

pub returns-in_err-push-in-Exists : goal.returns-in_err-push-in-Exists
returns-in_err-push-in-Exists c = IfOk-from_err c.from_residual.result _ c.from_residual.ensures.0

pub returns-in_default : goal.returns-in_default
returns-in_default c =
    sym (ap (λ (ps : List At). c.args.places.now.items ++ ps) (placeless c.args.node.now c.in_default.not-Exists c.in_default.not-Clause)
    ∙ append-nil c.args.places.now.items)
