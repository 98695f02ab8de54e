use Rattle.std.proofs.Common.{sym}
use Rattle.ll_printer.specs.Parts.{rank_of}
use Rattle.ll_printer.proofs.Signs.{unbracketed}
use Rattle.ll_printer.proofs.formulas.has_brackets.Goals as goal

pub returns-in_default : goal.returns-in_default
returns-in_default c =
    sym (unbracketed c.args.source.now.names.now c.args.source.now.forms.now c.args.at.0 (rank_of c.args.level) c.args.followed c.node.result
    c.node.ensures c.in_default.not-Forall c.in_default.not-Exists c.in_default.not-Load c.in_default.not-Binary)
