-- What the crates above may cite of the outside, beside the public contracts.

-- a count that rose at the end of several calls rose in all of them
pub use Rattle.ll_edge.proofs.Counting.{Rose-later}
-- to append nothing leaves all as it was
pub use Rattle.ll_edge.proofs.Writing.{append_known-nil}
-- to append two pieces, one after the other, is to append both
pub use Rattle.ll_edge.proofs.Writing.{append_known-append}
-- first bytes of a piece are, behind what comes before it in a text, first bytes of the text
pub use Rattle.ll_edge.proofs.Fronts.{front_in}
-- nothing of a piece was appended where all is as it was
pub use Rattle.ll_edge.proofs.Fronts.{no_front}
-- two pieces, one behind the other, were appended
pub use Rattle.ll_edge.proofs.Fronts.{both-written}
-- first bytes of the first piece are first bytes of both
pub use Rattle.ll_edge.proofs.Fronts.{first-cut}
-- and so are all of it and first bytes of the second
pub use Rattle.ll_edge.proofs.Fronts.{second-cut}
-- what calls took of a piece was appended to what they had taken
pub use Rattle.ll_edge.proofs.Fronts.{taken_front}
-- a log grows by no call
pub use Rattle.ll_edge.proofs.Logs.{grew_none}
-- a log that grew twice grew
pub use Rattle.ll_edge.proofs.Logs.{grew_trans}
-- a log grows while a text is read, however that ends
pub use Rattle.ll_edge.proofs.Logs.{grew_reading}
-- what a shelf tells fits its log
pub use Rattle.ll_edge.proofs.Logs.{fits_told}
-- texts that fit two parts of a log fit the first
pub use Rattle.ll_edge.proofs.Logs.{fits_first}
-- and the second
pub use Rattle.ll_edge.proofs.Logs.{fits_second}
-- a reading that ended with no bytes read the whole text
pub use Rattle.ll_edge.proofs.Logs.{told_whole}
-- one that ended with the answer that there is no text found none
pub use Rattle.ll_edge.proofs.Logs.{told_absent}
-- one that was handed more than the limit read a text that is longer
pub use Rattle.ll_edge.proofs.Logs.{told_longer}
-- no call keeps all
pub use Rattle.ll_edge.proofs.Kept.{kept_none}
-- nor does one call more lose anything
pub use Rattle.ll_edge.proofs.Kept.{kept_call}
-- calls and then more calls keep what each part keeps
pub use Rattle.ll_edge.proofs.Kept.{kept_trans}
-- a reading ended with its last answer
pub use Rattle.ll_edge.proofs.Kept.{ended_reads}
-- and so it did after more calls before it
pub use Rattle.ll_edge.proofs.Kept.{ended_later}
-- a count that rose with such an end rose so after more calls before it
pub use Rattle.ll_edge.proofs.Kept.{met_later}
