-- What the crates above may cite of events that are given to an outlet, beside the public contracts.

-- events that are given, and then more of them, are given one list after the other
pub use Rattle.ll_order.proofs.Givings.{gives_more}
-- what was given before a refusal stands in front of it, and what would have come stands behind
pub use Rattle.ll_order.proofs.Givings.{refuses_more}
-- a count that fits is not cut
pub use Rattle.ll_order.proofs.Givings.{no_count}
-- counts of two lists of events, one after the other, are the count of both
pub use Rattle.ll_order.proofs.Givings.{counts_more}
