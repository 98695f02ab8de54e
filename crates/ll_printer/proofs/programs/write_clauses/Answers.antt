use Rattle.std.proofs.Common.{arith}
use Rattle.std.proofs.lemmas.Result.{IfOk-from_err}
use Rattle.ll_list_laws.proofs.CallerLemmas.{OnErr-always as on_err}
use Rattle.ll_printer.proofs.Lines.{clauses-on, clauses-refused}
use Rattle.ll_printer.proofs.programs.write_clauses.Goals as goal

pub returns-in_err-write_clause-clause-begun : goal.returns-in_err-write_clause-clause-begun
returns-in_err-write_clause-clause-begun c =
    on_err _ (clauses-refused c.args.source.now.names.now c.args.source.now.forms.now c.args.list.now c.loop-i.i _ c.args.out.now.items c.loop-i.out.items
    c.write_clause.new.out.items (omega (arith, c.loop-i-test.true)) c.loop-i.invariant c.in_err-write_clause.ensures.begun)

pub loop-i-preserved : goal.loop-i-preserved
loop-i-preserved c =
    clauses-on c.args.source.now.names.now c.args.source.now.forms.now c.args.list.now c.loop-i.i _ c.args.out.now.items c.loop-i.out.items
    c.write_clause.new.out.items (omega (arith, c.loop-i-test.true)) c.loop-i.invariant c.in_ok-write_clause.ensures.text

pub returns-in_err-write_clause-clause-text : goal.returns-in_err-write_clause-clause-text
returns-in_err-write_clause-clause-text c = IfOk-from_err c.from_residual.result _ c.from_residual.ensures.0

pub returns-clause-begun : goal.returns-clause-begun
returns-clause-begun c = _
