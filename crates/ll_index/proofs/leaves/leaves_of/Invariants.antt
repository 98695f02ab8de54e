use Rattle.std.proofs.Common.{◌≡◌, [], map, take, All}
use Rattle.ll_laws.specs.Shown.{clause_tree}
use Rattle.ll_index.specs.Listed.{listed, program_leaves, IsStored}
use Rattle.ll_index.proofs.leaves.leaves_of.Given as goal

abbrev pub invariant-loop-place : goal.invariant-loop-place
invariant-loop-place l = record {
  idle : l.walk.waiting.items ≡ [];
  stored : All (IsStored l.bank l.walk.premises) l.walk.leaves.items;
  leaves : map (listed l.bank l.walk.premises) l.walk.leaves.items ≡ program_leaves 0 (map (clause_tree l.bank) (take l.place l.clauses));
}
