-- A pool of shared alternatives as plain data (after the public part of a choice point in Muse, Ali and Karlsson 1990). `N` is the
-- type of the batches, `E` that of the events.
use Rattle.std.specs.Prelude.{ℕ, List, Bool}

-- what an alternative owes, what a piece owes, or what a report tells
pub record Owed (E : Type 0) : Type 0 where
  pub events : List E
  pub cost : ℕ

-- how far a piece is
pub data Status (E : Type 0) : Type 0 where
  Open : Status E
  Closed : Owed E → Status E
  Taken : Status E

-- a claimed alternative, number k of its batch: who claimed it, and the numbers of the batches that it published, in this order
pub record Piece (E : Type 0) : Type 0 where
  pub batch : ℕ
  pub k : ℕ
  pub worker : ℕ
  pub published : List ℕ
  pub status : Status E

-- Batches stand in the order in which they were published, pieces in the order in which they were claimed. `busy` pieces are open,
-- the batches have `total` alternatives, and `untried` of these are not claimed.
pub record PoolData (N E : Type 0) : Type 0 where
  pub batches : List N
  pub pieces : List (Piece E)
  pub workers : ℕ
  pub busy : ℕ
  pub total : ℕ
  pub untried : ℕ
  pub starved : Bool
  pub stopped : Bool

-- alternative k of a batch
pub record Alternative : Type 0 where
  pub batch : ℕ
  pub k : ℕ

-- the alternative that a piece is
abbrev pub place : {E : Type 0} → Piece E → Alternative
place x = record { batch = x.batch; k = x.k }
