use Rattle.std.proofs.Common.{ap, sym, ◌∙◌}
use Rattle.ll_parser.specs.Nodes.{identifier}
use Rattle.ll_parser.specs.Printed.{is_pair}
use Rattle.ll_printer.proofs.Parts.{pair-is}
use Rattle.ll_printer.proofs.Signs.{headless}
use Rattle.ll_printer.proofs.formulas.is_pair_at.Goals as goal

pub returns-in-Head : goal.returns-in-Head
returns-in-Head c =
    c.is_pair_of.ensures
    ∙ (sym (pair-is c.args.source.now.names.now c.args.source.now.forms.now (identifier c.args.source.now.names.now c.in-Head.name) c.in-Head.args.now)
    ∙ ap is_pair (sym (c.in-Head.ensures.tree c.args.source.now.names.now)))

pub returns-in_default : goal.returns-in_default
returns-in_default c =
    sym (headless c.args.source.now.names.now c.args.source.now.forms.now c.args.at.0 c.node.result c.node.ensures c.in_default.not-Head).1
