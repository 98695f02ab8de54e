use Rattle.std.proofs.Common.{[], false}
use Rattle.ll_parser.specs.Nodes.{raw_at}
use Rattle.ll_parser.specs.Printed.{clauses, formula_text}
use Rattle.ll_printer.specs.Parts.{parts_text, parts_weight, AreParts, IsWriting}
use Rattle.ll_printer.proofs.formulas.write_formula.Given as goal

abbrev pub invariant-loop-part : goal.invariant-loop-part
invariant-loop-part l = IsWriting (formula_text clauses false
    (raw_at l.source.names.now l.source.forms.now l.fn.at.0)) l.initial.out.items l.out.items
    (parts_text l.source.names.now l.source.forms.now l.parts.items []) × AreParts l.source.forms.now l.parts.items

abbrev pub decreases-loop-part : goal.decreases-loop-part
decreases-loop-part l = parts_weight l.source.names.now l.source.forms.now l.parts.items
