-- What the crates above may cite of covers, beside the public contracts.

-- one answer of a search is the first that covers a derivation
pub use Rattle.ll_cover.proofs.Covers.{first_once}
-- the answers of events one after another
pub use Rattle.ll_cover.proofs.Covers.{answers-append}
