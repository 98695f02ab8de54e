-- The clauses of a row that pass a test, one after the other.
use Rattle.std.proofs.Common.{◌≡◌, ℕ, ◌<◌, ◌+◌, Bool, true, false, List, [], ◌∷◌, ◌++◌, length, get_or, take, ap, sym, ◌∙◌}
use Rattle.std.specs.Prelude.{filter, cond}
use Rattle.std.proofs.lemmas.List.{take_more, append-nil}
use Rattle.std.proofs.lemmas.List.Elements.{filter-append}
use Rattle.ll_sequent.specs.declared.sequents.Resource.{Resource}

-- one more in a row: it is kept, or not
pub kept : (p : Resource → Bool) (xs : List Resource) (i : ℕ) (d : Resource) (old new : List Resource) (b : Bool) → i < length xs → p (get_or xs i d) ≡ b
    → old ≡ filter p (take i xs) → new ≡ cond b (old ++ get_or xs i d ∷ []) old → new ≡ filter p (take (i + 1) xs)
kept p xs i d old new b l e h m =
    m ∙ (one b e ∙ (ap (λ ys. ys ++ filter p (get_or xs i d ∷ [])) h
    ∙ (sym (filter-append p (take i xs) (get_or xs i d ∷ [])) ∙ ap (filter p) (sym (take_more xs i d l)))))
  where
    one : (b : Bool) → p (get_or xs i d) ≡ b → cond b (old ++ get_or xs i d ∷ []) old ≡ old ++ filter p (get_or xs i d ∷ [])
    one true e = ap (λ c. old ++ cond c (get_or xs i d ∷ []) []) (sym e)
    one false e = sym (append-nil old) ∙ ap (λ c. old ++ cond c (get_or xs i d ∷ []) []) (sym e)
