use Rattle.std.proofs.lemmas.Result.{IfOk-from_err}
use Rattle.std.proofs.Common.{◌-◌, arith}
use Rattle.ll_bank.proofs.closes.Stacks.{args_more}
use Rattle.ll_bank.proofs.closing.stack.push_arguments.Goals as goal

pub loop-left-preserved : goal.loop-left-preserved
loop-left-preserved c = record {
  among = omega arith;
  pushed = args_more c.args.level c.loop-left.left (c.loop-left.left - 1) c.args.args.now (record { 0 = 0 }) c.args.tasks.now.items c.loop-left.tasks.items
      c.push_part.new.tasks.items (omega arith) (omega arith) c.loop-left.invariant.pushed c.in_ok-push_part.ensures;
}

pub returns-in_err-push_part : goal.returns-in_err-push_part
returns-in_err-push_part c = IfOk-from_err c.from_residual.result _ c.from_residual.ensures.0
