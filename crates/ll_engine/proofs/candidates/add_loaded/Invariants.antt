use Rattle.std.proofs.Common.{◌≡◌, [], ◌++◌, map, flat_map, length}
use Rattle.ll_resources.specs.Keys.{found_by, to_come}
use Rattle.ll_freeze.specs.Keyed.{head_key}
use Rattle.ll_engine.specs.Leaves.{open_tries, standing_entry}
use Rattle.ll_engine.specs.Matches.{head_fits, all_found}
use Rattle.ll_engine.proofs.candidates.add_loaded.Given as goal

abbrev pub invariant-loop-entry : goal.invariant-loop-entry
invariant-loop-entry l = record {
  none : l.waiting.items ≡ [];
  so_far : all_found l.found ++ flat_map (open_tries (head_fits l.store l.asked)) (map (standing_entry l.store.bank) (to_come l.keyed l.context.present))
      ≡ all_found l.initial.found ++ flat_map (open_tries (head_fits l.store l.asked))
      (map (standing_entry l.store.bank) (found_by (head_key l.asked.predicate.head) l.context.present));
}

abbrev pub decreases-loop-entry : goal.decreases-loop-entry
decreases-loop-entry l = length (to_come l.keyed l.context.present)
