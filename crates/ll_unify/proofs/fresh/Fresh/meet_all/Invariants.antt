use Rattle.std.proofs.Common.{◌≡◌, ℕ, false, take}
use Rattle.ll_unify.specs.Scanned.{is_among}
use Rattle.ll_unify.specs.Fresh.{IsFresh}
use Rattle.ll_unify.proofs.fresh.Fresh.meet_all.Given as goal

abbrev pub invariant-loop-var : goal.invariant-loop-var
invariant-loop-var l = record {
  was : (x : ℕ) → IsFresh l.self x → IsFresh l.fn.self x;
  other : (x : ℕ) → IsFresh l.self x → is_among (take l.var-index l.vars) x ≡ false;
}
