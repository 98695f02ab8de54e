use Rattle.std.proofs.Common.{arith, map}
use Rattle.std.proofs.lemmas.Result.{IfOk-from_err}
use Rattle.ll_list_laws.proofs.CallerLemmas.{OnErr-always as on_err}
use Rattle.ll_parser.specs.Nodes.{identifier}
use Rattle.ll_parser.specs.Printed.{names_text}
use Rattle.ll_printer.proofs.Parts.{writing-begins}
use Rattle.ll_printer.proofs.Lines.{names-on, names-refused, names-end, end-refused}
use Rattle.ll_printer.proofs.programs.write_names.Goals as goal

pub returns-in_err-write_name-clause-begun : goal.returns-in_err-write_name-clause-begun
returns-in_err-write_name-clause-begun c =
    on_err _ (names-refused c.args.names.now c.args.list.now c.loop-i.i _ c.args.out.now.items c.loop-i.out.items c.write_name.new.out.items
    (omega (arith, c.loop-i-test.true)) c.loop-i.invariant c.in_err-write_name.ensures.begun)

pub loop-i-preserved : goal.loop-i-preserved
loop-i-preserved c =
    names-on c.args.names.now c.args.list.now c.loop-i.i _ c.args.out.now.items c.loop-i.out.items c.write_name.new.out.items
    (omega (arith, c.loop-i-test.true)) c.loop-i.invariant c.in_ok-write_name.ensures.text

pub returns-in_err-write_name-clause-text : goal.returns-in_err-write_name-clause-text
returns-in_err-write_name-clause-text c = IfOk-from_err c.from_residual.result _ c.from_residual.ensures.0

pub loop-i-init : goal.loop-i-init
loop-i-init c = writing-begins (names_text (map (identifier c.args.names.now) c.args.list.now)) c.args.out.now.items

pub returns-clause-text : goal.returns-clause-text
returns-clause-text c =
    names-end c.args.names.now c.args.list.now c.loop-i.i c.args.out.now.items c.loop-i.out.items c.extend_from_slice.new.self.items
    (omega (arith, c.loop-i-test.false)) c.loop-i.invariant c.extend_from_slice.result c.extend_from_slice.ensures.items

pub returns-clause-begun : goal.returns-clause-begun
returns-clause-begun c =
    end-refused c.args.names.now c.args.list.now c.loop-i.i c.args.out.now.items c.loop-i.out.items c.extend_from_slice.new.self.items
    (omega (arith, c.loop-i-test.false)) c.loop-i.invariant c.extend_from_slice.result c.extend_from_slice.ensures.items
