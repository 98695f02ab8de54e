use Rattle.std.proofs.Common.{◌≡◌, ◌++◌, arith, subst}
use Rattle.std.proofs.lemmas.Result.{IfOk-from_err}
use Rattle.ll_list_laws.proofs.CallerLemmas.{OnErr-always as on_err}
use Rattle.ll_parser.specs.Nodes.{shown_program}
use Rattle.ll_parser.specs.Printed.{program_text}
use Rattle.ll_printer.specs.Pieces.{BeginsText}
use Rattle.ll_printer.proofs.Lines.{program-clauses, modules-on, modules-refused, modules-end}
use Rattle.ll_printer.proofs.programs.write_program.Goals as goal

pub loop-i-init : goal.loop-i-init
loop-i-init c =
    let p = c.program.inside in
    program-clauses p.names p.forms p.clauses.items c.as_slice.result.now p.modules.items c.args.out.now.items c.write_clauses.new.out.items
    c.as_slice.ensures.value c.in_ok-write_clauses.ensures.text

pub loop-i-preserved : goal.loop-i-preserved
loop-i-preserved c =
    let p = c.program.inside in
    modules-on p.names p.forms (program_text (shown_program p.names p.forms p.clauses.items p.modules.items)) p.modules.items c.loop-i.i c.index.result.now
    c.args.out.now.items c.loop-i.out.items c.write_module.new.out.items
    (omega (arith, c.loop-i-test.true, c.len-i-end.ensures)) c.index.ensures c.loop-i.invariant c.in_ok-write_module.ensures.text

pub returns-in_err-write_module-clause-begun : goal.returns-in_err-write_module-clause-begun
returns-in_err-write_module-clause-begun c =
    let p = c.program.inside in
    let begun =
    modules-refused p.names p.forms (program_text (shown_program p.names p.forms p.clauses.items p.modules.items)) p.modules.items c.loop-i.i c.index.result.now
    c.args.out.now.items c.loop-i.out.items c.write_module.new.out.items
    (omega (arith, c.loop-i-test.true, c.len-i-end.ensures)) c.index.ensures c.loop-i.invariant c.in_err-write_module.ensures.begun in
    on_err _ (subst (λ tree. BeginsText (program_text tree) c.args.out.now.items c.write_module.new.out.items) c.program.view_is begun)

pub returns-clause-text : goal.returns-clause-text
returns-clause-text c =
    let p = c.program.inside in
    subst (λ tree. c.loop-i.out.items ≡ c.args.out.now.items ++ program_text tree) c.program.view_is
    (modules-end p.names p.forms (program_text (shown_program p.names p.forms p.clauses.items p.modules.items)) p.modules.items c.loop-i.i c.args.out.now.items
    c.loop-i.out.items (omega (arith, c.loop-i-test.false, c.len-i-end.ensures)) c.loop-i.invariant)

pub returns-in_err-write_clauses-clause-text : goal.returns-in_err-write_clauses-clause-text
returns-in_err-write_clauses-clause-text c = IfOk-from_err c.from_residual.result _ c.from_residual.ensures.0

pub returns-in_err-write_module-clause-text : goal.returns-in_err-write_module-clause-text
returns-in_err-write_module-clause-text c = IfOk-from_err c.from_residual-in_err-write_module.result _ c.from_residual-in_err-write_module.ensures.0

pub returns-clause-begun : goal.returns-clause-begun
returns-clause-begun c = _
