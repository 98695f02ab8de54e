use Rattle.std.proofs.Common.{◌++◌, ap, sym, ◌∙◌}
use Rattle.std.proofs.lemmas.Result.{IfOk-from_err}
use Rattle.ll_printer.proofs.programs.program.Goals as goal

pub returns-clause-again : goal.returns-clause-again
returns-clause-again c = λ whole.
    let read = c.printed_is_read.ensures c.args.program.now whole in
    record {
      lexed = read.0;
      appended = c.in_ok-write_program.ensures.text ∙ ap (λ u. c.args.out.now.items ++ u) (sym read.1);
      tokens = read.2;
      tree = read.3;
      reads = read.4;
      same = read.5;
    }

pub returns-in_err-write_program-clause-text : goal.returns-in_err-write_program-clause-text
returns-in_err-write_program-clause-text c = IfOk-from_err c.from_residual.result _ c.from_residual.ensures.0

pub returns-in_err-write_program-clause-again : goal.returns-in_err-write_program-clause-again
returns-in_err-write_program-clause-again c = IfOk-from_err c.from_residual.result _ c.from_residual.ensures.0

pub returns-clause-begun : goal.returns-clause-begun
returns-clause-begun c = _
