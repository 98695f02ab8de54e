-- Room that a change leaves.
use Rattle.std.proofs.Common.{◌≡◌, ℕ, ◌+◌, ◌^◌, ◌<◌, ◌≤◌, List, [], ◌∷◌, ◌++◌, length, Fits, w32, w64, arith, length-append}

-- the same room is no less
pub le-same : {a b : ℕ} → b ≡ a → a ≤ b
le-same e = omega arith

-- room for as many, and no less of it later
pub le-along : {a b c d : ℕ} → b ≡ a → b ≤ c → c ≤ d → a ≤ d
le-along e h k = omega arith

-- room for one more
pub lt-one_more : {a b : ℕ} → a + 1 ≤ b → a < b
lt-one_more h = omega arith

-- with one more there is room, so there is room for one more
pub lt-longer : {X : Type 0} {n m : ℕ} (xs : List X) (x : X) → n ≡ length xs → length (xs ++ x ∷ []) ≤ m → n < m
lt-longer xs x e h = omega (arith, length-append xs (x ∷ []))

-- a label is a number of 32 bits, and the next one of 64
pub fits-32 : {n : ℕ} → n < 2 ^ 32 → Fits w32 n
fits-32 h = omega arith

pub fits-more : {n : ℕ} → n < 2 ^ 32 → Fits w64 (n + 1)
fits-more h = omega arith

-- what was reserved is enough
pub le-reserved : {a b s k l : ℕ} (n : ℕ) → a ≡ b → b ≤ s → n + s ≤ k → k ≤ l → a ≤ l
le-reserved n e h r m = omega arith
