use Rattle.std.proofs.Common.{map, ap, ◌∙◌}
use Rattle.std.proofs.lemmas.Result.{IfOk-from_err}
use Rattle.std.proofs.lemmas.List.{take_all}
use Rattle.ll_polarity.specs.Copied.{module_row}
use Rattle.ll_polarity.proofs.copying.copied_modules.Goals as goal

pub loop-module-init : goal.loop-module-init
loop-module-init c = ap (map module_row) c.new-copy.ensures.items

pub returns : goal.returns
returns c = c.loop-module.invariant ∙ ap (map module_row) (take_all c.loop-module.module-index c.args.modules.now c.loop-module-test.false)

pub returns-in_err-clauses : goal.returns-in_err-clauses
returns-in_err-clauses c = IfOk-from_err c.from_residual.result _ c.from_residual.ensures.0

pub returns-in_err-push : goal.returns-in_err-push
returns-in_err-push c = IfOk-from_err c.from_residual-in_err-push.result _ c.from_residual-in_err-push.ensures.0
