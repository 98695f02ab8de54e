-- What the crates above may cite of series of bounds, beside the public contracts.

-- a series has one deciding bound
pub use Rattle.ll_deepen.proofs.Bounds.{one_bound}
-- before the first bound nothing is decided
pub use Rattle.ll_deepen.proofs.Bounds.{first_bound}
-- a bound that does not decide leaves the series undecided up to the next bound
pub use Rattle.ll_deepen.proofs.Bounds.{next_bound}
