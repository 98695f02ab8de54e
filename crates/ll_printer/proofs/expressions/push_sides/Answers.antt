use Rattle.std.proofs.lemmas.Result.{IfOk-from_err}
use Rattle.ll_parser.specs.Nodes.{raw_at, identifier}
use Rattle.ll_printer.proofs.Parts.{sides-pushed, left-encloses-is, right-encloses-is}
use Rattle.ll_printer.proofs.expressions.push_sides.Goals as goal
use Rattle.ll_list_laws.proofs.CallerLemmas.{OnOk-weaker as on_ok}

pub returns : goal.returns
returns c =
    let names = c.args.source.now.names.now in let nodes = c.args.source.now.forms.now in
    let w = (identifier names c.args.name).text in let s = c.name_of-sign.result.now in
    on_ok c.push_operand-2.result
    (sides-pushed names nodes c.args.name c.args.left c.args.right c.encloses_left.result c.encloses_right.result c.args.parts.now.items
    c.push_operand.new.parts.items c.push_all.new.parts.items
    c.push_operand-2.new.parts.items
    (left-encloses-is w s c.operator_of-2.result.now (raw_at names nodes c.args.left.0) c.encloses_left.result c.name_of-sign.ensures c.operator_of-2.ensures
    c.encloses_left.ensures)
    (right-encloses-is w s c.operator_of.result.now (raw_at names nodes c.args.right.0) c.encloses_right.result c.name_of-sign.ensures c.operator_of.ensures
    c.encloses_right.ensures)
    c.in_ok-push_operand.ensures c.in_ok-push_all.ensures)
    c.push_operand-2.ensures

pub returns-in_err-push_operand : goal.returns-in_err-push_operand
returns-in_err-push_operand c = IfOk-from_err c.from_residual.result _ c.from_residual.ensures.0

pub returns-in_err-push_all : goal.returns-in_err-push_all
returns-in_err-push_all c = IfOk-from_err c.from_residual-in_err-push_all.result _ c.from_residual-in_err-push_all.ensures.0
