-- What the crates above may cite of lists that share their rests, beside the public contracts.

-- an agenda extends itself
pub use Rattle.ll_agenda.proofs.Lists.{Extends-refl}
-- what extends an extension extends the first agenda
pub use Rattle.ll_agenda.proofs.Lists.{Extends-trans}
-- an agenda extends what is left of it
pub use Rattle.ll_agenda.proofs.Lists.{Extends-cut}
-- a top stays one as an agenda grows
pub use Rattle.ll_agenda.proofs.Lists.{HasTop-extends}
-- a top keeps its list as an agenda grows
pub use Rattle.ll_agenda.proofs.Lists.{items_at-extends}
