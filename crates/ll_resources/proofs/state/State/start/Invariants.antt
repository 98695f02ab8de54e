use Rattle.std.proofs.Common.{◌≡◌, ◌-◌, drop, length}
use Rattle.std.specs.Prelude.{reverse, map, None}
use Rattle.ll_resources.specs.Resources.{entries_from}
use Rattle.ll_resources.specs.Seen.{seen_all}
use Rattle.ll_resources.proofs.state.State.start.Given as goal

-- the last clauses are entries
abbrev pub invariant-loop-i : goal.invariant-loop-i
invariant-loop-i g l = record {
  entries : seen_all (reverse l.entries.items) (reverse l.live.items) ≡ entries_from (length l.clauses - l.i) (drop (length l.clauses - l.i) l.clauses);
  keys : map (λ s. s.key) (reverse l.entries.items) ≡ map (λ _. None) (drop (length l.clauses - l.i) l.clauses);
}
