use Rattle.std.proofs.Common.{◌≡◌, drop}
use Rattle.ll_laws.specs.Attempt.{entry_at}
use Rattle.ll_engine.proofs.take.place_with.Given as goal

abbrev pub invariant-loop-from_front : goal.invariant-loop-from_front
invariant-loop-from_front l = entry_at (drop l.from_front l.context.present.entries) l.label ≡ entry_at l.context.present.entries l.label
