use Rattle.std.proofs.Common.{ap, sym, ◌∙◌}
use Rattle.ll_parser.specs.Nodes.{identifier}
use Rattle.ll_printer.specs.Parts.{operator_text}
use Rattle.ll_printer.proofs.Parts.{operator-two, operator-none}
use Rattle.ll_printer.proofs.Signs.{headless}
use Rattle.ll_printer.proofs.expressions.operator_of.Goals as goal

pub returns-then-args-eq2 : goal.returns-then-args-eq2
returns-then-args-eq2 c =
    let names = c.args.source.now.names.now in let nodes = c.args.source.now.forms.now in
    c.name_of.ensures ∙ (sym (operator-two names nodes (identifier names c.in-Head.name) c.in-Head.args.now c.if-args-eq2.true)
    ∙ ap operator_text (sym (c.in-Head.ensures.tree names)))

pub returns-else-args-eq2 : goal.returns-else-args-eq2
returns-else-args-eq2 c =
    let names = c.args.source.now.names.now in let nodes = c.args.source.now.forms.now in
    sym (operator-none names nodes (identifier names c.in-Head.name) c.in-Head.args.now c.if-args-eq2.false)
    ∙ ap operator_text (sym (c.in-Head.ensures.tree names))

pub returns-in_default : goal.returns-in_default
returns-in_default c =
    sym (headless c.args.source.now.names.now c.args.source.now.forms.now c.args.at.0 c.node.result c.node.ensures c.in_default.not-Head).2
