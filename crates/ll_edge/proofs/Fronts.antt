-- First bytes of a text, by those of its pieces.
use Rattle.std.proofs.Common.{◌≡◌, ◌≤◌, ℕ, zero, suc, ◌+◌, refl, ap, sym, ◌∙◌, List, [], ◌∷◌, ◌++◌, length, take, arith, length-append}
use Rattle.std.specs.Prelude.{Option, Some}
use Rattle.std.specs.Io.KnownBytes.{append_known}
use Rattle.std.proofs.lemmas.List.{append-nil, take-append-le}
use Rattle.ll_edge.specs.Pieces.{AppendsFront, TakesFront}
use Rattle.ll_edge.proofs.Writing.{append_known-nil, append_known-append}

-- the first elements of a list, past some that stand in front
take-append_front : (done piece rest : List ℕ) (n k : ℕ) → k ≡ length done + n → n ≤ length piece → take k (done ++ (piece ++ rest)) ≡ done ++ take n piece
take-append_front [] piece rest n k e h = let q : k ≡ n = omega arith in ap (λ i. take i (piece ++ rest)) q ∙ take-append-le n piece rest h
take-append_front (b ∷ done) piece rest n zero e h = absurd (omega arith)
take-append_front (b ∷ done) piece rest n (suc k) e h = ap (λ xs. b ∷ xs) (take-append_front done piece rest n k (omega arith) h)

-- some first bytes of a piece, after what comes before it in a text
pub front_in : (before mid after : Option (List ℕ)) (done piece rest text : List ℕ) → mid ≡ append_known before done → done ++ (piece ++ rest) ≡ text
    → AppendsFront mid piece after → AppendsFront before text after
front_in before mid after done piece rest text w e f = record {
  taken = length done + f.taken;
  within = let l = ap length e in let h = f.within in omega (arith, length-append done (piece ++ rest), length-append piece rest);
  appended =
      f.appended
      ∙ (ap (λ o. append_known o (take f.taken piece)) w
      ∙ (append_known-append before done (take f.taken piece)
      ∙ ap (append_known before) (sym (take-append_front done piece rest f.taken (length done + f.taken) refl f.within)
      ∙ ap (take (length done + f.taken)) e)));
}

-- nothing of a piece, where all is as it was
pub no_front : (w : Option (List ℕ)) (piece : List ℕ) → AppendsFront w piece w
no_front w piece = record { taken = 0; within = omega arith; appended = sym (append_known-nil w) }

-- ---- two pieces, one behind the other

-- both were written
pub both-written : (before mid after : Option (List ℕ)) (a b : List ℕ) → mid ≡ append_known before a → after ≡ append_known mid b
    → after ≡ append_known before (a ++ b)
both-written before mid after a b e f = f ∙ (ap (λ o. append_known o b) e ∙ append_known-append before a b)

-- only first bytes of the first were
pub first-cut : (before after : Option (List ℕ)) (a b : List ℕ) → AppendsFront before a after → AppendsFront before (a ++ b) after
first-cut before after a b f = front_in before before after [] a b (a ++ b) (sym (append_known-nil before)) refl f

-- all of the first, and first bytes of the second
pub second-cut : (before mid after : Option (List ℕ)) (a b : List ℕ) → mid ≡ append_known before a → AppendsFront mid b after
    → AppendsFront before (a ++ b) after
second-cut before mid after a b e f = front_in before mid after a b [] (a ++ b) e (ap (λ x. a ++ x) (append-nil b)) f

-- calls that took first bytes of a piece appended them to what they had taken
pub taken_front : {before piece after : List ℕ} → TakesFront before piece after → AppendsFront (Some before) piece (Some after)
taken_front front = record { taken = front.count; within = omega (arith, front.short); appended = ap Some front.takes }
