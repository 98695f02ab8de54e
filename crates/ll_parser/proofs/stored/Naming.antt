-- The text of a word, whatever texts are added later.
use Rattle.std.proofs.Common.{◌≡◌, ℕ, List, [], ◌++◌, Some, slice_get, refl, ◌∙◌, ap, subst}
use Rattle.std.specs.Prelude.{Result, Ok, Err, MatchResult}
use Rattle.std.specs.Result.{IsOk}
use Rattle.std.proofs.Math.ListN.{get_or-append}
use Rattle.std.proofs.lemmas.Option.{slice_get_within, get_or_from_slice_get}
use Rattle.ll_lexer.specs.declared.Place.{Place}
use Rattle.ll_parser.specs.Tokens.{Identifier}
use Rattle.ll_parser.specs.Nodes.{identifier}

pub is-ok : {T E : Type 0} (r : Result T E) (P : T → Type 0) (Q : E → Type 0) (B : Type 0) → MatchResult r P (λ e. (B → ⊥) × Q e) → B → IsOk r
is-ok (Ok x) P Q B h b = refl
is-ok (Err e) P Q B h b = absurd (h.0 b)

pub ok-value : {T E : Type 0} (r : Result T E) (P : T → Type 0) (Q : E → Type 0) (x : T) → r ≡ Ok x → MatchResult r P Q → P x
ok-value r P Q x e h = subst (λ z. MatchResult z P Q) e h

pub named-text : (texts : List (List ℕ)) (n : ℕ) (at : Place) (text bytes : List ℕ) → slice_get texts n ≡ Some text → text ≡ bytes → (more : List (List ℕ))
    → identifier (texts ++ more) (record { name = n; at = at }) ≡ record { text = bytes; at = at }
named-text texts n at text bytes e same more =
    ap (λ (t : List ℕ). let i : Identifier = record { text = t; at = at } in
    i) (get_or-append texts more [] n (slice_get_within texts n text e) ∙ get_or_from_slice_get texts n text [] e ∙ same)
