-- The first place of a list through which no member of a language begins.
use Rattle.std.specs.Prelude.{◌≡◌, ℕ, ◌+◌, ◌<◌, ◌≤◌, List, ◌++◌, length, take, drop}

-- some member of the language begins with this list
abbrev pub Begins : {A : Type 0} → (List A → Type 0) → List A → Type 0
Begins {A} Is xs = (more : List A) × Is (xs ++ more)

-- place n is the first one through which no member of the language begins, or it is the list's end, and more is needed there
pub record IsFirstBad {A : Type 0} (Is : List A → Type 0) (xs : List A) (n : ℕ) : Type 0 where
  pub within : n ≤ length xs
  pub before : Begins Is (take n xs)
  pub here : n < length xs → Begins Is (take (n + 1) xs) → ⊥
  pub at_end : n ≡ length xs → Is xs → ⊥

-- the first n elements of a list lead from one language to another: what is to follow them in the one is a member of the other
pub record Leads {A : Type 0} (From To : List A → Type 0) (xs : List A) (n : ℕ) : Type 0 where
  pub within : n ≤ length xs
  pub good : To (drop n xs) → From xs
  pub bad : (k : ℕ) → IsFirstBad To (drop n xs) k → IsFirstBad From xs (n + k)
