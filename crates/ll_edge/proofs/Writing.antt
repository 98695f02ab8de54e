-- What a sink holds while a piece is written to it.
use Rattle.std.proofs.Common.{◌≡◌, ℕ, ◌+◌, ◌<◌, ◌≤◌, List, [], ◌++◌, Option, Some, None, length, take, drop, refl, ap, sym, ◌∙◌, arith, append_assoc}
use Rattle.std.proofs.Common.{length-drop}
use Rattle.std.proofs.Math.Seq.{take-add}
use Rattle.std.proofs.lemmas.List.{append-nil}
use Rattle.std.specs.Io.KnownBytes.{append_known}
use Rattle.ll_edge.specs.Pieces.{TakesFront}

-- to append nothing leaves all as it was
pub append_known-nil : (known : Option (List ℕ)) → append_known known [] ≡ known
append_known-nil None = refl
append_known-nil (Some bytes) = ap Some (append-nil bytes)

-- two pieces, one after the other
pub append_known-append : (known : Option (List ℕ)) (first second : List ℕ)
    → append_known (append_known known first) second ≡ append_known known (first ++ second)
append_known-append None first second = refl
append_known-append (Some bytes) first second = ap Some (append_assoc bytes first second)

-- so many bytes of a piece were taken
pub record IsTakenUpTo (before after piece : List ℕ) (done : ℕ) : Type 0 where
  pub within : done ≤ length piece
  pub takes : after ≡ before ++ take done piece

-- some more, from the rest of the piece
pub taken_more : {before after piece : List ℕ} {done : ℕ} → IsTakenUpTo before after piece done
    → (later rest : List ℕ) (n : ℕ) → rest ≡ drop done piece → n ≤ length rest → later ≡ after ++ take n rest
    → IsTakenUpTo before later piece (done + n)
taken_more {before} {after} {piece} {done} w later rest n is_rest fits e =
    record {
      within = omega (arith, w.within, length-drop done piece, ap length is_rest);
      takes = e ∙ ap (λ bytes. bytes ++ take n rest) w.takes ∙ append_assoc before (take done piece) (take n rest)
          ∙ ap (λ xs. before ++ (take done piece ++ take n xs)) is_rest ∙ ap (λ xs. before ++ xs) (sym (take-add done n piece));
    }

-- a front of it, where the last call took nothing
pub taken_front : {before after piece : List ℕ} {done : ℕ} → IsTakenUpTo before after piece done → done < length piece → (later nothing : List ℕ)
    → nothing ≡ [] → later ≡ after ++ nothing → TakesFront before piece later
taken_front {before} {after} {piece} {done} w short later nothing none e =
    record { count = done; short = short; takes = e ∙ ap (λ xs. after ++ xs) none ∙ append-nil after ∙ w.takes }
