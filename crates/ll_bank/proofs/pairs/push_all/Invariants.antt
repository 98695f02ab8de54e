use Rattle.std.proofs.Common.{◌≡◌, ◌++◌, take, reverse}
use Rattle.ll_bank.specs.Pairs.{lefts, rights}
use Rattle.ll_bank.proofs.pairs.push_all.Given as goal

abbrev pub invariant-loop-done : goal.invariant-loop-done
invariant-loop-done l = record {
  left : lefts l.pairs.items ≡ lefts l.initial.pairs.items ++ take l.done (reverse l.args);
  right : rights l.pairs.items ≡ rights l.initial.pairs.items ++ take l.done (reverse l.others);
}
