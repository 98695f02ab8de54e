-- What the crates above may cite of replies, beside the public contracts.

-- before the first line nothing was replied
pub use Rattle.ll_session.proofs.Replying.{none-answered}
-- a line that is no query is passed over
pub use Rattle.ll_session.proofs.Replying.{line-passed}
-- a line that is a query is replied to
pub use Rattle.ll_session.proofs.Replying.{line-answered}
-- a reply that was refused ends the session
pub use Rattle.ll_session.proofs.Replying.{line-refused}
-- when no line is left, all is replied to
pub use Rattle.ll_session.proofs.Replying.{all-answered}
-- of faults one is the first
pub use Rattle.ll_session.proofs.Questions.{one-first}
-- where there are no faults none is the first
pub use Rattle.ll_session.proofs.Questions.{none-first}
-- where texts have one list of tokens, and tokens one tree, the text of a query is one query's
pub use Rattle.ll_session.proofs.Questions.{query-once}
