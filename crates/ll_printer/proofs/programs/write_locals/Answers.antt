use Rattle.ll_printer.proofs.Lines.{locals-none, locals-end, locals-cut}
use Rattle.ll_list_laws.proofs.CallerLemmas.{OnErr-always as on_err, OnOk-weaker as on_ok, OnErr-weaker as on_refused}
use Rattle.ll_printer.proofs.Printing.{begins_same}
use Rattle.ll_parser.specs.Printed.{locals_text}
use Rattle.ll_parser.specs.Nodes.{identifier}
use Rattle.std.proofs.Common.{map}
use Rattle.std.proofs.lemmas.Result.{IfOk-from_err}
use Rattle.ll_printer.proofs.programs.write_locals.Goals as goal

pub returns-in_err-extend_from_slice-clause-text : goal.returns-in_err-extend_from_slice-clause-text
returns-in_err-extend_from_slice-clause-text c = IfOk-from_err c.from_residual.result _ c.from_residual.ensures.0

pub returns-then-is_empty-clause-begun : goal.returns-then-is_empty-clause-begun
returns-then-is_empty-clause-begun c = _

pub returns-then-is_empty-clause-text : goal.returns-then-is_empty-clause-text
returns-then-is_empty-clause-text c = locals-none c.args.names.now c.args.locals.now c.is_empty.ensures c.if-is_empty.true c.args.out.now.items

pub returns-in_err-extend_from_slice-clause-begun : goal.returns-in_err-extend_from_slice-clause-begun
returns-in_err-extend_from_slice-clause-begun c =
    on_err _ (begins_same (locals_text (map (identifier c.args.names.now) c.args.locals.now)) c.args.out.now.items c.extend_from_slice.new.self.items
    c.in_err-extend_from_slice.ensures.items)

pub returns-clause-text : goal.returns-clause-text
returns-clause-text c =
    on_ok c.write_names.result (locals-end c.args.names.now c.args.locals.now c.is_empty.ensures c.if-is_empty.false c.args.out.now.items
    c.extend_from_slice.new.self.items
    c.in_ok-extend_from_slice.ensures.items c.write_names.new.out.items) c.write_names.ensures.text

pub returns-clause-begun : goal.returns-clause-begun
returns-clause-begun c =
    on_refused c.write_names.result (locals-cut c.args.names.now c.args.locals.now c.is_empty.ensures c.if-is_empty.false c.args.out.now.items
    c.extend_from_slice.new.self.items
    c.in_ok-extend_from_slice.ensures.items c.write_names.new.out.items) c.write_names.ensures.begun
