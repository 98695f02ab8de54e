-- Names and terms that were added, and what stays the same then.
use Rattle.std.proofs.Common.{◌≡◌, ℕ, ◌<◌, ◌≤◌, arith, List, [], ◌∷◌, ◌++◌, All, refl, ap, sym, ◌∙◌, append_assoc, append-nil}
use Rattle.std.specs.List.{flat_map}
use Rattle.std.proofs.lemmas.List.Elements.{All-head, All-tail}
use Rattle.ll_bank.specs.declared.At.{At}
use Rattle.ll_bank.specs.Nodes.{Nodes, term_trees, Extends}
use Rattle.ll_laws.specs.ProofText.{field, term_field}
use Rattle.ll_prooftext.specs.Terms.{Grows, IsSpelledAt, argument_at}
use Rattle.ll_prooftext.specs.Brackets.{args_text}
use Rattle.ll_prooftext.proofs.spelling.Extended.{at_kept}

-- ---- names

pub grows_none : (names : List (List ℕ)) → Grows names names
grows_none names = record { more = []; is = sym (append-nil names) }

pub grows_on : (a b c : List (List ℕ)) → Grows a b → Grows b c → Grows a c
grows_on a b c g h = record { more = g.more ++ h.more; is = h.is ∙ (ap (λ z. z ++ h.more) g.is ∙ append_assoc a g.more h.more) }

-- fewer than there is room for, with no more behind a step than before it
pub below : (a b n : ℕ) → a ≤ b → b < n → a < n
below a b n h k = omega arith

-- ---- terms

pub flat_same : {X : Type 0} (P : X → Type 0) (f g : X → List ℕ) → ((x : X) → P x → f x ≡ g x) → (xs : List X) → All P xs → flat_map f xs ≡ flat_map g xs
flat_same P f g h [] a = refl
flat_same P f g h (x ∷ xs) a =
    let u : f x ≡ g x = h x (All-head P x xs a) in
    let v : flat_map f xs ≡ flat_map g xs = flat_same P f g h xs (All-tail P x xs a) in
    ap (λ z. z ++ flat_map f xs) u ∙ ap (λ z. g x ++ z) v

module _ (names : List (List ℕ)) (bank : Nodes) (new : List (List ℕ)) (over : Nodes) (g : Grows names new) (e : Extends bank over) where
  pub arg_good : (a : At) → IsSpelledAt names bank a.0 → IsSpelledAt new over a.0
  arg_good a h = (at_kept names bank new over a.0 g e h).good

  pub arg_same : (a : At) → IsSpelledAt names bank a.0 → field (argument_at new over a.0) ≡ field (argument_at names bank a.0)
  arg_same a h = ap field (at_kept names bank new over a.0 g e h).argument

pub args_fields : (names : List (List ℕ)) (bank : Nodes) (ts : List At) → args_text names bank ts ≡ flat_map (term_field names) (term_trees bank ts)
args_fields names bank [] = refl
args_fields names bank (t ∷ ts) = ap (λ z. field (argument_at names bank t.0) ++ z) (args_fields names bank ts)
