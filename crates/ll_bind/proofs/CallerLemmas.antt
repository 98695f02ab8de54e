-- What the crates above may cite of unification on a store: they know it by its public contracts and by the laws named here.

-- ---- a term that begins with a sign that is no bound place

-- it is the sign at its arguments
pub use Rattle.ll_bind.proofs.Shapes.{begins-app}
-- a head with arguments that begins so is no bound place
pub use Rattle.ll_bind.proofs.Shapes.{begins-sign}
-- ---- places that stand for the arguments of a term

-- each is a place of a term whose variables have cells
pub use Rattle.ll_bind.proofs.Shapes.{built-places}
-- a sign at the places is the same as it is at the arguments, closed
pub use Rattle.ll_bind.proofs.Shapes.{built-app}
-- a sign at places of terms whose variables have cells is such a term
pub use Rattle.ll_bind.proofs.Heads.{cells_given}
