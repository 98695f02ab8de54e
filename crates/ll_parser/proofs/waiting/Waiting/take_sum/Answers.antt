use Rattle.ll_parser.specs.Flat.{take_sum}
use Rattle.ll_parser.specs.Grammar.{add_sign}
use Rattle.ll_parser.proofs.machines.NumberFrames.{sign-taken}
use Rattle.ll_parser.proofs.waiting.Waiting.take_sum.Goals as goal

pub returns-in_ok-sum-in-Some-clause-gives : goal.returns-in_ok-sum-in-Some-clause-gives
returns-in_ok-sum-in-Some-clause-gives c =
    sign-taken take_sum c.args.self.now c.pop_sum.new.self c.pair.new.self (add_sign c.in-Some.op) c.in-Some.left c.args.product c.in_ok-sum-in-Some.sum
    (record { name = c.sum_name-name.result; at = c.in-Some.at }) c.in-Some.ensures.some c.in_ok-sum-in-Some.ensures.gives c.sum_name-name.ensures
