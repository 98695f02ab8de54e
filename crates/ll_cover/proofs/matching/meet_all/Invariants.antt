use Rattle.std.proofs.Common.{◌≡◌, ℕ, map, take}
use Rattle.std.specs.Ordering.{nat_cmp}
use Rattle.std.specs.BTreeMap.{get}
use Rattle.ll_bank.specs.Nodes.{term_trees}
use Rattle.ll_cover.specs.Matching.{HasPlaces, AreBelow, AllBelow, Adds}
use Rattle.ll_cover.proofs.matching.meet_all.Given as goal

abbrev pub invariant-loop-i : goal.invariant-loop-i
invariant-loop-i l =
    record {
      adds : Adds l.bank (λ want. map (λ a. want a.0) (take l.i l.places) ≡ term_trees l.bank (take l.i l.others)) (get nat_cmp l.initial.images)
          (get nat_cmp l.images);
      images : HasPlaces l.bank (get nat_cmp l.images);
      below : (limit : ℕ) → AllBelow limit l.places → AreBelow limit (get nat_cmp l.initial.images) → AreBelow limit (get nat_cmp l.images);
    }
