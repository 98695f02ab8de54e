-- Texts that are written one behind the other.
use Rattle.std.proofs.Common.{◌≡◌, ℕ, ◌+◌, ◌<◌, List, [], ◌∷◌, ◌++◌, length, take, drop, get_or, Option, zero, suc, refl, ap, sym, ◌∙◌, arith}
use Rattle.std.proofs.Common.{append_assoc}
use Rattle.std.specs.Borrow.{Bor}
use Rattle.std.specs.List.{concat}
use Rattle.std.specs.Io.KnownBytes.{append_known}
use Rattle.std.proofs.lemmas.List.{take_more, take-append-drop, append-nil, length-map}
use Rattle.std.proofs.lemmas.List.Folds.{concat-append}
use Rattle.ll_edge.specs.Pieces.{AppendsFront}
use Rattle.ll_top.specs.forms.Words.{word_texts as parts_of}
use Rattle.ll_edge.proofs.CallerLemmas.{append_known-append, front_in}

-- the first n texts were written
pub record AreWritten (before now : Option (List ℕ)) (parts : List (Bor (List ℕ))) (n : ℕ) : Type 0 where
  pub written : now ≡ append_known before (concat (take n (parts_of parts)))

get-part : (parts : List (Bor (List ℕ))) (n : ℕ) (d : Bor (List ℕ)) → n < length parts → get_or (parts_of parts) n [] ≡ (get_or parts n d).now
get-part [] n d h = absurd (omega arith)
get-part (p ∷ ps) zero d h = refl
get-part (p ∷ ps) (suc n) d h = get-part ps n d (omega arith)

-- the texts up to text n, and what follows
module _ (parts : List (Bor (List ℕ))) (n : ℕ) (d : Bor (List ℕ)) (h : n < length parts) where
  part-more : take (n + 1) (parts_of parts) ≡ take n (parts_of parts) ++ (get_or parts n d).now ∷ []
  part-more = let l = length-map parts (λ (p : Bor (List ℕ)). p.now) in
      take_more (parts_of parts) n [] (omega arith) ∙ ap (λ p. take n (parts_of parts) ++ p ∷ []) (get-part parts n d h)

  concat-more : concat (take (n + 1) (parts_of parts)) ≡ concat (take n (parts_of parts)) ++ (get_or parts n d).now
  concat-more = ap concat part-more ∙ (concat-append (take n (parts_of parts)) ((get_or parts n d).now ∷ [])
      ∙ ap (λ p. concat (take n (parts_of parts)) ++ p) (append-nil (get_or parts n d).now))

  concat-whole : concat (take n (parts_of parts)) ++ ((get_or parts n d).now ++ concat (drop (n + 1) (parts_of parts))) ≡ concat (parts_of parts)
  concat-whole =
      sym (append_assoc (concat (take n (parts_of parts))) (get_or parts n d).now (concat (drop (n + 1) (parts_of parts))))
      ∙ (ap (λ x. x ++ concat (drop (n + 1) (parts_of parts))) (sym concat-more)
      ∙ (sym (concat-append (take (n + 1) (parts_of parts)) (drop (n + 1) (parts_of parts))) ∙ ap concat (take-append-drop (n + 1) (parts_of parts))))

  pub one-written : (before now after : Option (List ℕ)) → AreWritten before now parts n → after ≡ append_known now (get_or parts n d).now
      → AreWritten before after parts (n + 1)
  one-written before now after w e = record {
    written = e ∙ (ap (λ o. append_known o (get_or parts n d).now) w.written
        ∙ (append_known-append before (concat (take n (parts_of parts))) (get_or parts n d).now ∙ ap (append_known before) (sym concat-more)));
  }

  pub part-cut : (before now after : Option (List ℕ)) → AreWritten before now parts n → AppendsFront now (get_or parts n d).now after
      → AppendsFront before (concat (parts_of parts)) after
  part-cut before now after w f =
      front_in before now after (concat (take n (parts_of parts))) (get_or parts n d).now (concat (drop (n + 1) (parts_of parts))) (concat (parts_of parts))
      w.written concat-whole f
