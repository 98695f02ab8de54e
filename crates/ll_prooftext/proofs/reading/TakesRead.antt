-- A line that is taken, and what it adds to a derivation on its way.
use Rattle.std.proofs.Common.{◌≡◌, ℕ, ◌+◌, ◌-◌, Bool, List, [], ◌∷◌, ◌++◌, length, ap, sym, subst, ◌∙◌, inl, inr}
use Rattle.std.specs.Prelude.{◌==◌}
use Rattle.std.proofs.Math.Dec.{eqb-suc-zero}
use Rattle.ll_bank.specs.declared.At.{At}
use Rattle.ll_bank.specs.Nodes.{Nodes}
use Rattle.ll_laws.specs.ShownLines.{line_of}
use Rattle.ll_laws.specs.declared.Rule.{Rule}
use Rattle.ll_lexer.specs.declared.Place.{Place}
use Rattle.ll_prooftext.specs.declared.reader.Reading.{Reading}
use Rattle.ll_prooftext.specs.Reading.{is_none, children, want}
use Rattle.ll_prooftext.specs.RowWords.{IsNodeRow, IsLetRow, IsRefused}
use Rattle.ll_prooftext.specs.declared.rows.Refusal.{Refusal}
use Rattle.ll_prooftext.specs.Reader.{IsNext, AddsLine, variable, node}

pub none_is : {X : Type 0} {b : Bool} (xs : List X) → b ≡ (length xs == 0) → is_none xs ≡ b
none_is [] t = sym t
none_is (x ∷ xs) t = sym (t ∙ eqb-suc-zero (length xs))

-- the next line begins at the place where the text goes on
pub next_begins : (n : ℕ) (rest : List ℕ) (at : Place) → IsNext n rest at → IsNext at.line rest at
next_begins n rest at (inl e) = inl e
next_begins n rest at (inr e) = inr (e ∙ sym (ap (λ (z : Place). record { line = z.line; column = 1 }) e))

-- ---- what a line adds

pub takes_let : (names : List (List ℕ)) (o : Reading) (line : List ℕ) (new : List (List ℕ)) (p : Reading) (at : At) (k : ℕ) {b : Bool}
    → k ≡ length o.nodes.items → b ≡ (k == 0) → IsLetRow names o.bank line b new p.bank at.0 → p.asked.items ≡ o.asked.items ++ at ∷ []
    → p.nodes.items ≡ o.nodes.items → p.lacking ≡ o.lacking → AddsLine names o line new p
takes_let names o line new p at k e t w a n l = variable at (subst (λ z. IsLetRow names o.bank line z new p.bank at.0)
    (sym (none_is o.nodes.items (t ∙ ap (λ j. j == 0) e))) w) a n l

pub takes_node : (names : List (List ℕ)) (o : Reading) (line : List ℕ) (new : List (List ℕ)) (p : Reading) (r : Rule) (n : ℕ)
    → IsNodeRow names o.bank line new p.bank r → p.nodes.items ≡ o.nodes.items ++ r ∷ [] → p.asked.items ≡ o.asked.items
    → ((bank : Nodes) → n ≡ children (line_of bank r)) → p.lacking ≡ o.lacking - 1 + n → AddsLine names o line new p
takes_node names o line new p r n w m a c l = node r w m a (l ∙ ap (λ z. o.lacking - 1 + z) (c p.bank))

-- a line that was refused
pub takes_refused : (nodes : List Rule) (line : List ℕ) (k : ℕ) {b : Bool} (x : Refusal) → k ≡ length nodes → b ≡ (k == 0) → IsRefused (want b) line x
    → IsRefused (want (is_none nodes)) line x
takes_refused nodes line k x e t h = subst (λ z. IsRefused (want z) line x) (sym (none_is nodes (t ∙ ap (λ j. j == 0) e))) h
