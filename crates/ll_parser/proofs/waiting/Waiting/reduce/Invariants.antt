use Rattle.std.proofs.Common.{length}
use Rattle.ll_parser.proofs.machines.Newest.{Reducing}
use Rattle.ll_parser.proofs.waiting.Waiting.reduce.Given as goal

abbrev pub invariant-loop-front : goal.invariant-loop-front
invariant-loop-front l = Reducing l.level l.initial.self l.self l.initial.at l.at

abbrev pub decreases-loop-front : goal.decreases-loop-front
decreases-loop-front l = length l.self.frames.items
