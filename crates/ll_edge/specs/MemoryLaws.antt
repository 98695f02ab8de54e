-- What a shelf and a sink in memory tell agrees with what calls were answered and took.
use Rattle.std.specs.Prelude.{◌≡◌, ℕ, ◌+◌, ◌++◌, List, [], ◌∷◌, Some, map, if◌then◌else◌, take, drop, length, Bool, true, false, Option, None}
use Rattle.std.proofs.Common.{ap, refl, sym, ◌∙◌, arith, length-take, length-drop}
use Rattle.std.proofs.lemmas.List.{take_min}
use Rattle.std.specs.Io.KnownBytes.{append_known}
use Rattle.ll_edge.specs.Log.{Unreadable, IsGiven, IsFrom, Agrees}
use Rattle.ll_edge.specs.Memory.{ShelfState, SinkState, entry_of, log_of, handed_of}
use Rattle.ll_edge.specs.Texts.{text_of}

pub written_grows : (before after : SinkState) (more : List ℕ) → after.written ≡ before.written ++ more
    → Some after.written ≡ append_known (Some before.written) more
written_grows before after more e = ap Some e

-- an element of the image of a list is the image of one
image_of : {A B : Type 0} (f : A → B) (xs : List A) (between : List B) (entry : B) (rest : List B) → map f xs ≡ between ++ entry ∷ rest
    → (x : A) × (entry ≡ f x)
image_of f [] [] entry rest e = absurd (let l = ap length e in omega arith)
image_of f [] (b ∷ between) entry rest e = absurd (let l = ap length e in omega arith)
image_of f (x ∷ xs) [] entry rest e = (x, cc)
image_of f (x ∷ xs) (b ∷ between) entry rest e = image_of f xs between entry rest cc

take_own : (n : ℕ) (xs : List ℕ) → take n xs ≡ take (length (take n xs)) xs
take_own n xs = sym (ap (λ k. take k xs) (length-take n xs) ∙ take_min n xs)

-- the bytes that are handed out are those of the text
part_from : (text : List ℕ) (from beyond : ℕ) → IsFrom text from (take (beyond + 1) (drop from text))
part_from text from beyond = record {
  is = take_own (beyond + 1) (drop from text);
  at_end = (
    λ e. omega (arith, length-take (beyond + 1) (drop from text), length-drop from text),
    λ h. omega (arith, length-take (beyond + 1) (drop from text), length-drop from text),
  );
}

handed_from : (found : Option (List ℕ)) (from beyond : ℕ) → IsGiven found from (handed_of found from beyond)
handed_from None from beyond = refl
handed_from (Some text) from beyond = part_from text from beyond

given_if : (found : Option (List ℕ)) (from beyond : ℕ) (fails : Bool)
    → IsGiven found from (if fails then Unreadable else handed_of found from beyond)
given_if found from beyond true = tt
given_if found from beyond false = handed_from found from beyond

pub log_agrees : (shelf : ShelfState) → Agrees shelf.texts [] (log_of shelf)
log_agrees shelf between entry rest e =
    let found = image_of (entry_of shelf.texts) shelf.asked between entry rest e in
    rw found.1 (given_if (text_of shelf.texts found.0.name) found.0.from found.0.beyond found.0.fails)
