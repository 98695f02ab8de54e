use Rattle.std.proofs.Common.{[], false}
use Rattle.std.proofs.lemmas.Result.{IfOk-from_err}
use Rattle.ll_list_laws.proofs.CallerLemmas.{OnErr-always as on_err}
use Rattle.ll_parser.specs.Nodes.{raw_at}
use Rattle.ll_parser.specs.Printed.{clauses, formula_text}
use Rattle.ll_printer.specs.Parts.{parts_text}
use Rattle.ll_printer.proofs.Parts.{printing-on, printing-part, printing-lighter, writing-stops}
use Rattle.ll_printer.proofs.formulas.write_formula.Goals as goal

pub loop-part-smaller : goal.loop-part-smaller
loop-part-smaller c =
    printing-lighter c.args.source.now.names.now c.args.source.now.forms.now c.loop-part.out.items c.print_part.new.out.items c.loop-part.parts.items
    c.pop.new.self.items c.print_part.new.parts.items c.in-Some.part c.in-Some.ensures.items c.in_ok-print_part.ensures.moves

pub loop-part-preserved : goal.loop-part-preserved
loop-part-preserved c =
    printing-on c.args.source.now.names.now c.args.source.now.forms.now
    (formula_text clauses false (raw_at c.args.source.now.names.now c.args.source.now.forms.now c.args.at.0)) c.args.out.now.items c.loop-part.out.items
    c.print_part.new.out.items c.loop-part.parts.items c.pop.new.self.items c.print_part.new.parts.items c.in-Some.part
    c.loop-part.invariant.0 c.loop-part.invariant.1 c.in-Some.ensures.items c.in_ok-print_part.ensures.moves

pub returns-in_err-print_part-clause-begun : goal.returns-in_err-print_part-clause-begun
returns-in_err-print_part-clause-begun c =
    on_err _ (writing-stops (formula_text clauses false (raw_at c.args.source.now.names.now c.args.source.now.forms.now c.args.at.0)) c.args.out.now.items
    c.loop-part.out.items c.print_part.new.out.items (parts_text c.args.source.now.names.now c.args.source.now.forms.now c.loop-part.parts.items [])
    c.loop-part.invariant.0 c.in_err-print_part.ensures.refused)

pub print_part-requires : goal.print_part-requires
print_part-requires c =
    printing-part c.args.source.now.names.now c.args.source.now.forms.now c.loop-part.parts.items c.pop.new.self.items c.in-Some.part c.loop-part.invariant.1
    c.in-Some.ensures.items

pub returns-in_err-print_part-clause-text : goal.returns-in_err-print_part-clause-text
returns-in_err-print_part-clause-text c = IfOk-from_err c.from_residual-in_err-print_part.result _ c.from_residual-in_err-print_part.ensures.0

pub returns-in_err-push-clause-text : goal.returns-in_err-push-clause-text
returns-in_err-push-clause-text c = IfOk-from_err c.from_residual.result _ c.from_residual.ensures.0

pub returns-clause-begun : goal.returns-clause-begun
returns-clause-begun c = _
