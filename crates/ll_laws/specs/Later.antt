-- A pool that is further on than another.
use Rattle.std.specs.Prelude.{◌≡◌, ◌⊎◌, ℕ, List, [], ◌++◌, true, false, Some, slice_get}
use Rattle.ll_laws.specs.Pool.{Status, Open, Closed, Taken, Piece, PoolData}
use Rattle.ll_laws.specs.Sound.{is_open}

module _ {E : Type 0} where
  -- what is closed stays so or goes on to taken, and what is taken stays so
  abbrev pub NotBack : Status E → Status E → Type 0
  NotBack Open after = Unit {0}
  NotBack (Closed report) after = (after ≡ Closed report) ⊎ (after ≡ Taken)
  NotBack Taken after = after ≡ Taken

  -- the piece y is the piece x, or x further on: it may have published more, but only if x was open
  pub record Further (x y : Piece E) : Type 0 where
    pub batch : y.batch ≡ x.batch
    pub k : y.k ≡ x.k
    pub worker : y.worker ≡ x.worker
    pub more : List ℕ
    pub published : y.published ≡ x.published ++ more
    pub no_more : is_open x.status ≡ false → more ≡ []
    pub status : NotBack x.status y.status

-- q has the batches and pieces of p in front of its own, each piece further on, and is starved and stopped where p is
pub record Later {N E : Type 0} (p q : PoolData N E) : Type 0 where
  pub more : List N
  pub batches : q.batches ≡ p.batches ++ more
  pub pieces : (i : ℕ) (x : Piece E) → slice_get p.pieces i ≡ Some x → (y : Piece E) × (slice_get q.pieces i ≡ Some y) × Further x y
  pub starved : p.starved ≡ true → q.starved ≡ true
  pub stopped : p.stopped ≡ true → q.stopped ≡ true
