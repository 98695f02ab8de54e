use Rattle.std.proofs.Common.{ap, sym, ◌∙◌}
use Rattle.ll_parser.specs.Nodes.{identifier}
use Rattle.ll_parser.specs.Printed.{has_arguments}
use Rattle.ll_printer.proofs.Parts.{arguments-are}
use Rattle.ll_printer.proofs.Signs.{headless}
use Rattle.ll_printer.proofs.formulas.has_any_arguments.Goals as goal

pub returns-in-Head : goal.returns-in-Head
returns-in-Head c =
    arguments-are c.args.source.now.names.now c.args.source.now.forms.now (identifier c.args.source.now.names.now c.in-Head.field-0) c.in-Head.args.now
    c.is_empty.result c.is_empty.ensures
    ∙ ap has_arguments (sym (c.in-Head.ensures.tree c.args.source.now.names.now))

pub returns-in_default : goal.returns-in_default
returns-in_default c =
    sym (headless c.args.source.now.names.now c.args.source.now.forms.now c.args.at.0 c.node.result c.node.ensures c.in_default.not-Head).0
