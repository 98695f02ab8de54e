use Rattle.std.proofs.Common.{length}
use Rattle.ll_parser.proofs.machines.Newest.{Gathering}
use Rattle.ll_parser.proofs.waiting.Waiting.gather.Given as goal

abbrev pub invariant-loop-sign : goal.invariant-loop-sign
invariant-loop-sign l = Gathering l.initial.self l.self l.initial.at l.at

abbrev pub decreases-loop-sign : goal.decreases-loop-sign
decreases-loop-sign l = length l.self.frames.items
