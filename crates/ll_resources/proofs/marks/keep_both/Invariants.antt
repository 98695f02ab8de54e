use Rattle.std.proofs.Common.{◌≡◌, ℕ, ◌-◌, ◌<◌, ◌≤◌, false, ◌&&◌, get_or, length}
use Rattle.std.specs.Prelude.{reverse}
use Rattle.std.specs.Vec.{vec_capacity}
use Rattle.ll_resources.proofs.marks.keep_both.Given as goal

-- the oldest marks are done
abbrev pub invariant-loop-i : goal.invariant-loop-i
invariant-loop-i l = record {
  len : length l.second.items ≡ length l.initial.second.items;
  room : vec_capacity l.second ≡ vec_capacity l.initial.second;
  done : (k : ℕ) → k < l.i
      → get_or l.second.items k false ≡ (get_or l.initial.second.items k false && get_or (reverse l.first) (length l.initial.second.items - 1 - k) false);
  left : (k : ℕ) → l.i ≤ k → get_or l.second.items k false ≡ get_or l.initial.second.items k false;
}
