-- What each event asks of a pool, as one record.
use Rattle.std.specs.Prelude.{◌≡◌, ℕ, ◌+◌, ◌<◌, ◌≤◌, List, Some, length, slice_get}
use Rattle.ll_laws.specs.Pool.{Owed, Open, Piece, PoolData}
use Rattle.ll_laws.specs.Spread.{share, owes_of}
use Rattle.ll_laws.specs.Sound.{report_of}
use Rattle.ll_laws.specs.CoreEvents.{NoOpen, Untried, Splits}

module _ {N E : Type 0} (alternatives : N → List (Owed E)) where
  pub record MayClaim (p : PoolData N E) (w b k : ℕ) : Type 0 where
    pub untried : Untried alternatives p b k
    pub worker : w < p.workers
    pub none_open : NoOpen p w

  -- piece i, which is x, is open, and there is room for the batch
  pub record MayGrow (p : PoolData N E) (i : ℕ) (x : Piece E) (n : N) : Type 0 where
    pub piece : slice_get p.pieces i ≡ Some x
    pub open_still : x.status ≡ Open
    pub some : 0 < length (alternatives n)
    pub room : p.total + length (alternatives n) ≤ 4294967295

  -- and its share ends with what the batch owes
  pub record MayPublish {Of : Type 0} (of : N → Of) (p : PoolData N E) (i : ℕ) (x : Piece E) (n : N) : Type 0 where
    pub grow : MayGrow p i x n
    pub splits : Splits of alternatives p x n

  pub record MayReport (p : PoolData N E) (i : ℕ) (x : Piece E) (report : Owed E) : Type 0 where
    pub piece : slice_get p.pieces i ≡ Some x
    pub open_still : x.status ≡ Open
    pub whole : report ≡ report_of (share (owes_of alternatives p) x)
