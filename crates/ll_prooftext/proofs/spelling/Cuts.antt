-- Bytes cut at the first one that fails a test.
use Rattle.std.proofs.Common.{◌≡◌, ℕ, suc, ◌+◌, Bool, true, false, cond, List, [], ◌∷◌, ◌++◌, drop, refl, arith}
use Rattle.std.specs.List.{list_all, prefix_len}
use Rattle.ll_list_laws.proofs.CallerLemmas.{and_true_left as and_left, and_true_right as and_right}
use Rattle.ll_prooftext.specs.Words.{Stops, ended, at_byte}

-- what is behind it
pub run_stops : (p : ℕ → Bool) (bs : List ℕ) → Stops p (drop (prefix_len p bs) bs)
run_stops p [] = ended refl
run_stops p (b ∷ bs) = by_test (p b) refl (run_stops p bs)
  where
    by_test : (v : Bool) → p b ≡ v → Stops p (drop (prefix_len p bs) bs) → Stops p (drop (cond v (1 + prefix_len p bs) 0) (b ∷ bs))
    by_test true e ih = let s : 1 + prefix_len p bs ≡ suc (prefix_len p bs) = omega arith in rw s ih
    by_test false e ih = at_byte b bs refl e

pub tail : (p : ℕ → Bool) (c : ℕ) (w : List ℕ) → list_all p (c ∷ w) ≡ true → list_all p w ≡ true
tail p c w h = and_right (p c) (list_all p w) h

pub first : (p : ℕ → Bool) (c : ℕ) (w : List ℕ) → list_all p (c ∷ w) ≡ true → p c ≡ true
first p c w h = and_left (p c) (list_all p w) h

clash : (p : ℕ → Bool) (c d : ℕ) (w : List ℕ) → list_all p (c ∷ w) ≡ true → p d ≡ false → c ≡ d → ⊥
clash p c d w a f q =
    let t : p c ≡ true = first p c w a in
    let u : p c ≡ false = rw q f in
    let x : ⊥ = cc in x

-- there is one such cut
pub one_cut : (p : ℕ → Bool) (w v r s : List ℕ) → list_all p w ≡ true → list_all p v ≡ true → Stops p r → Stops p s → w ++ r ≡ v ++ s → (w ≡ v) × (r ≡ s)
one_cut p [] [] r s a b x y e = (refl, e)
one_cut p [] (c ∷ v) r s a b (ended z) y e = absurd cc
one_cut p [] (c ∷ v) r s a b (at_byte d ds z f) y e = absurd (clash p c d v b f (let q : c ≡ d = cc in q))
one_cut p (c ∷ w) [] r s a b x (ended z) e = absurd cc
one_cut p (c ∷ w) [] r s a b x (at_byte d ds z f) e = absurd (clash p c d w a f (let q : c ≡ d = cc in q))
one_cut p (c ∷ w) (d ∷ v) r s a b x y e =
    let t : w ++ r ≡ v ++ s = cc in
    let q : c ≡ d = cc in
    let ih = one_cut p w v r s (tail p c w a) (tail p d v b) x y t in
    (let h : w ≡ v = ih.0 in cc, ih.1)
