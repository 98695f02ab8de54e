-- What the crates above may cite of closing one place after another, beside the public contracts.

-- with nothing in place of its places a formula stays
pub use Rattle.ll_modules.proofs.Closing.{closes_nothing}
