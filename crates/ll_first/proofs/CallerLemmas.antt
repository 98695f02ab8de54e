-- What the crates above may cite of the shortest prefix with so many answers, and of outlets that stop behind it, beside the public contracts.

-- where events have so many answers, there is such a prefix
pub use Rattle.ll_first.proofs.Uptos.{upto_some}
-- where events have fewer answers, there is none
pub use Rattle.ll_first.proofs.Uptos.{upto_none}
-- where there is one, the events have at least as many answers
pub use Rattle.ll_first.proofs.Uptos.{upto_enough}
-- it is a prefix of the events, and has just so many answers
pub use Rattle.ll_first.proofs.Uptos.{upto_front}
-- where a prefix begins with an event, the rest of it is a prefix of what follows
pub use Rattle.ll_first.proofs.Uptos.{in_front}
-- it ends with the event that makes the answers as many
pub use Rattle.ll_first.proofs.Uptos.{upto_here}
-- events with fewer answers stand in front of its end
pub use Rattle.ll_first.proofs.Uptos.{upto_past}
-- so does the event right behind events with fewer answers
pub use Rattle.ll_first.proofs.Uptos.{upto_next}
-- an outlet that took all events has counted all their answers, and has its limit as before
pub use Rattle.ll_first.proofs.Enoughs.{given_counts}
-- an outlet that was given events holds the same reference
pub use Rattle.ll_first.proofs.FirstLemmas.{same_lent}
-- and so it does where it was given a prefix
pub use Rattle.ll_first.proofs.FirstLemmas.{same_lent_prefix}
-- the faults of the outlet within have not fallen where events were given
pub use Rattle.ll_first.proofs.FirstLemmas.{faults_on}
-- nor where a prefix was
pub use Rattle.ll_first.proofs.FirstLemmas.{faults_prefix}
-- where all events were given, they have fewer answers than are wanted
pub use Rattle.ll_first.proofs.FirstLemmas.{all_given}
-- where it has had enough, the events with so many answers were given
pub use Rattle.ll_first.proofs.FirstLemmas.{enough_given}
-- where it has not, a prefix of these was, and the outlet within may have refused the next one
pub use Rattle.ll_first.proofs.FirstLemmas.{prefix_within}
-- and it has taken fewer answers than are wanted
pub use Rattle.ll_first.proofs.FirstLemmas.{fewer_within}
-- a number that is less is not enough
pub use Rattle.ll_first.proofs.FirstLemmas.{not_enough}
