use Rattle.std.proofs.Common.{◌≡◌, length, drop}
use Rattle.std.specs.Prelude.{unwrap_or}
use Rattle.indexmap.specs.IndexMap.{get}
use Rattle.ll_index.specs.declared.key.Key.{Key}
use Rattle.ll_index.specs.Chained.{first_from, links_from}
use Rattle.ll_index.specs.Keys.{key_eq}
use Rattle.ll_index.proofs.chains.Chains.build.Given as goal

abbrev pub invariant-loop-at : goal.invariant-loop-at
invariant-loop-at l = record {
  size : length l.next.items ≡ length l.keys;
  links : drop l.at l.next.items ≡ links_from key_eq l.at (drop l.at l.keys);
  first : (key : Key) → unwrap_or (get key_eq l.first key) (length l.keys) ≡ first_from key_eq l.at (drop l.at l.keys) key;
}
