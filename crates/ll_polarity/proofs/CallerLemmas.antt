-- What the crates above may cite of what texts ask, beside the public contracts.

-- each of the names keeps its number
pub use Rattle.ll_polarity.proofs.reading.Grows.{More}
-- what keeps numbers twice keeps them
pub use Rattle.ll_polarity.proofs.reading.Grows.{more_trans}
-- what was met before a term is still met behind it
pub use Rattle.ll_polarity.proofs.reading.Grows.{longer_term}
-- and behind a formula
pub use Rattle.ll_polarity.proofs.reading.Grows.{longer_form}
-- where there is no fault in two parts there is none in the first
pub use Rattle.ll_polarity.proofs.reading.Terms.{none_left}
-- nor in the second
pub use Rattle.ll_polarity.proofs.reading.Terms.{none_right}
-- a test without a fault holds
pub use Rattle.ll_polarity.proofs.reading.Terms.{none_unless}
-- terms are as many as their raw trees
pub use Rattle.ll_polarity.proofs.reading.Weight.{length-read_terms}
-- the scope as it is seen where problems are valid: which places are those of local constants
pub use Rattle.ll_polarity.proofs.naming.Meanings.{places}
-- a place that a name means is one of the scope, and that of a local constant may be a predicate
pub use Rattle.ll_polarity.proofs.naming.Meanings.{Means}
-- so it is with each name
pub use Rattle.ll_polarity.proofs.naming.Meanings.{means}
-- a formula has no more leaves than its raw tree has nodes
pub use Rattle.ll_polarity.proofs.reading.Forms.{few_ways}
-- an added name has its number
pub use Rattle.ll_polarity.proofs.reading.Grows.{numbered}
-- and behind terms
pub use Rattle.ll_polarity.proofs.reading.Grows.{longer_terms}
-- the problem that a whole program and a whole query without a fault ask is valid
pub use Rattle.ll_polarity.proofs.problems.Problems.{asked_problem_valid}
-- names keep their own numbers
pub use Rattle.ll_polarity.proofs.reading.Grows.{more_refl}
-- a name that is added keeps the numbers of the others
pub use Rattle.ll_polarity.proofs.reading.Grows.{more_named}
-- a formula adds no more names and variables than its raw tree has nodes
pub use Rattle.ll_polarity.proofs.reading.FewNames.{few_form}
-- clauses keep the numbers of the names before them
pub use Rattle.ll_polarity.proofs.problems.Parts.{more_clauses}
-- and so do modules
pub use Rattle.ll_polarity.proofs.problems.Parts.{more_modules}
-- the scope of a module's clauses as it is seen where problems are valid
pub use Rattle.ll_polarity.proofs.problems.Parts.{places_module}
-- the variables of a query keep the numbers of the names before them
pub use Rattle.ll_polarity.proofs.problems.Problems.{more_asked}
-- there are as many as were asked for
pub use Rattle.ll_polarity.proofs.problems.Problems.{length_asked}
-- a place inside the quantifiers that are gone through stays where it is
pub use Rattle.ll_polarity.proofs.putting.Quantified.{moved_near}
-- one outside of them moves past the new ones
pub use Rattle.ll_polarity.proofs.putting.Quantified.{moved_far}
-- under one quantifier more, each place moves as the one before it did
pub use Rattle.ll_polarity.proofs.putting.Quantified.{moved_next}
-- to bind variables changes no way to a leaf
pub use Rattle.ll_polarity.proofs.putting.Quantified.{bound_ways}
