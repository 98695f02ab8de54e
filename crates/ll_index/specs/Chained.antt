-- Places of a list of keys, each with the next place of the same key.
use Rattle.std.specs.Prelude.{ℕ, suc, Bool, ◌||◌, List, [], ◌∷◌, nat_eq, if◌then◌else◌}

-- the first place of a key, or the end, where the list begins at place i
abbrev pub first_from : {K : Type 0} → (K → K → Bool) → ℕ → List K → K → ℕ
first_from eq i [] key = i
first_from eq i (k ∷ ks) key = if eq k key then i else first_from eq (suc i) ks key

-- for each place the next one of the same key, or the end
abbrev pub links_from : {K : Type 0} → (K → K → Bool) → ℕ → List K → List ℕ
links_from eq i [] = []
links_from eq i (k ∷ ks) = first_from eq (suc i) ks k ∷ links_from eq (suc i) ks

-- a place, or the one behind it where it is i
abbrev pub behind : ℕ → ℕ → ℕ → ℕ
behind i next p = if nat_eq p i then next else p

-- the items at two places and at those that are linked behind them, in order, where the list begins at place i
abbrev pub linked_from : {A : Type 0} → ℕ → List A → List ℕ → ℕ → ℕ → List A
linked_from i (x ∷ xs) (n ∷ ns) p q = if nat_eq p i || nat_eq q i then x ∷ linked_from (suc i) xs ns (behind i n p) (behind i n q) else
    linked_from (suc i) xs ns p q
linked_from i _ _ p q = []
