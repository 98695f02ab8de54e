-- What the crates above may cite of the context, beside the public contracts.

-- an end is worked off alike whatever the goals behind it are
pub use Rattle.ll_resources.proofs.EndLemmas.{ends_settle}
-- the middle of `&` is worked off alike whatever the goals behind it are
pub use Rattle.ll_resources.proofs.EndLemmas.{middles_settle}
-- other live marks leave the number of entries
pub use Rattle.ll_resources.proofs.EntryLemmas.{length-remark}
