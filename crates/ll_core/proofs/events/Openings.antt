-- A new pool is sound.
use Rattle.std.proofs.Common.{◌≡◌, ℕ, zero, suc, List, [], ◌∷◌, true, not, length, refl, sym, ap, arith, Some}
use Rattle.std.specs.Prelude.{slice_get}
use Rattle.std.specs.List.{list_all}
use Rattle.ll_list_laws.proofs.CallerLemmas.{none_not_some, some_is}
use Rattle.ll_laws.specs.Pool.{Owed, Alternative}
use Rattle.ll_laws.specs.Spread.{walk}
use Rattle.ll_laws.specs.Sound.{Shaped, Sound, is_taken}
use Rattle.ll_laws.specs.CoreEvents.{opening}
use Rattle.ll_core.proofs.runs.AllClaimed.{sum_total}

pub all_untaken : (E : Type 0) (walk : List Alternative) → list_all (λ a. not (is_taken {E = E} [] a)) walk ≡ true
all_untaken E [] = refl
all_untaken E (a ∷ walk) = all_untaken E walk

module _ {N E : Type 0} (alternatives : N → List (Owed E)) where
  pub opening_shape : (root : N) (workers : ℕ) → length (alternatives root) ≡ 1 → Shaped alternatives (opening root workers)
  opening_shape root workers one = record {
    named = λ i x e. absurd (none_not_some x e);
    apart = λ i j x y e g b k. absurd (none_not_some x e);
    first = λ i x e. absurd (none_not_some x e);
    once = λ b low high. absurd (omega arith);
    only = λ i x e. absurd (none_not_some x e);
    busy = refl;
    total = let h = sum_total length (alternatives root ∷ []) in omega arith;
    small = omega arith;
    untried = refl;
    taken = ([], walk alternatives (opening root workers), refl, refl, all_untaken E (walk alternatives (opening root workers)));
    workers = λ i x e. absurd (none_not_some x e);
    one_open = λ i j x y e g o q w. absurd (none_not_some x e);
  }

  pub opening_sound : {Of : Type 0} (of : N → Of) (root : N) (workers : ℕ) (pair : Owed E) → alternatives root ≡ pair ∷ []
      → Sound of alternatives (opening root workers) (of root) pair
  opening_sound of root workers pair e = record {
    shape = opening_shape root workers (ap length e);
    root = ap Some e;
    events = λ i x g. absurd (none_not_some x g);
    costs = λ i x g. absurd (none_not_some x g);
    reports = λ i x g. absurd (none_not_some x g);
    alike = λ i n g. root_alike i n g;
  }
    where
      root_alike : (i : ℕ) (n : N) → slice_get (root ∷ []) i ≡ Some n → of n ≡ of root
      root_alike zero n g = ap of (sym (some_is root n g))
      root_alike (suc i) n g = absurd (none_not_some n g)
