use Rattle.std.proofs.Common.{◌≡◌, [], map}
use Rattle.ll_laws.specs.Sound.{Every}
use Rattle.ll_crew.specs.Crews.{number_of, without_all, MayJoin}
use Rattle.ll_crew.proofs.pool.join_all.Given as goal

abbrev pub invariant-loop-other : goal.invariant-loop-other
invariant-loop-other g l =
    (goal.iterator-loop-other g).can_next l.other-iterator × (goal.iterator-loop-other g).is_finite l.other-iterator
    × (l.first ≡ record l.initial.first { given = l.first.given })
    × Every (MayJoin l.pool) l.other-iterator.rest.items × (without_all (map number_of l.other-iterator.rest.items) l.first.given ≡ [])
