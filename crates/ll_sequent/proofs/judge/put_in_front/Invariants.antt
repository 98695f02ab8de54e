use Rattle.std.proofs.Common.{◌≡◌, ◌++◌, reverse, vec_len}
use Rattle.ll_sequent.proofs.judge.put_in_front.Given as goal

abbrev pub invariant-loop-sequent : goal.invariant-loop-sequent
invariant-loop-sequent l = l.waiting.items ++ reverse l.sequents.items ≡ l.fn.waiting.items ++ reverse l.fn.sequents.items

abbrev pub decreases-loop-sequent : goal.decreases-loop-sequent
decreases-loop-sequent l = vec_len l.sequents
