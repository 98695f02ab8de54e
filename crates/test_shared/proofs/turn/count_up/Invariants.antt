use Rattle.std.proofs.Common.{◌≡◌, None}
use Rattle.test_shared.proofs.turn.count_up.Given as goal

abbrev pub invariant-loop : goal.invariant-loop
invariant-loop g l = (l.pass.table ≡ l.initial.pass.table) × (l.pass.before ≡ None) × (l.pass.given ≡ l.initial.pass.given) × (l.pass.mine.own
    ≡ l.initial.pass.mine.own)
