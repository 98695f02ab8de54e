-- A derivation is told by its text.
use Rattle.std.proofs.Common.{◌≡◌, ℕ, List, [], ◌∷◌, ◌++◌, map, All, ap, sym, ◌∙◌, refl, codes, append-nil}
use Rattle.std.specs.List.{IsDistinct}
use Rattle.std.specs.Str.{bytes_eq}
use Rattle.std.proofs.lemmas.List.{append_cancel_left}
use Rattle.std.proofs.lemmas.List.Elements.{All-head, All-tail}
use Rattle.ll_bank.specs.Term.{Term}
use Rattle.ll_laws.specs.Line.{Line, DerivationLines}
use Rattle.ll_laws.specs.ProofText.{term_field, node_text}
use Rattle.ll_prooftext.specs.Admitted.{IsSpelledTerm, IsSpelledLine, IsSpelled}
use Rattle.ll_prooftext.specs.Reading.{IsTextOf, text_lines}
use Rattle.ll_prooftext.proofs.unambiguous.OneLine.{no_let, last_term, one_line}
use Rattle.ll_prooftext.proofs.writing.WholeText.{its_lines}

abbrev let_text : List (List ℕ) → Term → List ℕ
let_text names t = codes "let" ++ term_field names t

-- the lines of a derivation behind the first one
abbrev lines_behind : List (List ℕ) → DerivationLines → List (List ℕ)
lines_behind names d = map (let_text names) d.asked ++ map (node_text names) d.nodes

lines_is : (names : List (List ℕ)) (text : List ℕ) (d : DerivationLines) → IsTextOf names text d → text_lines text ≡ codes "proof 1" ∷ lines_behind names d
lines_is names text d t = its_lines names text d t ∙ ap (λ z. codes "proof 1" ∷ (map (let_text names) d.asked ++ z))
    (append-nil (map (node_text names) d.nodes))

module _ (names : List (List ℕ)) (distinct : IsDistinct bytes_eq names) where
  same_nodes : (ns ms : List Line) → All (IsSpelledLine names) ns → All (IsSpelledLine names) ms → map (node_text names) ns ≡ map (node_text names) ms → ns ≡ ms
  same_nodes [] [] p q e = refl
  same_nodes [] (m ∷ ms) p q e = absurd cc
  same_nodes (n ∷ ns) [] p q e = absurd cc
  same_nodes (n ∷ ns) (m ∷ ms) p q e =
      let f : node_text names n ≡ node_text names m = cc in
      let g : map (node_text names) ns ≡ map (node_text names) ms = cc in
      let a = one_line names distinct n m (All-head (IsSpelledLine names) n ns p) (All-head (IsSpelledLine names) m ms q) f in
      let b = same_nodes ns ms (All-tail (IsSpelledLine names) n ns p) (All-tail (IsSpelledLine names) m ms q) g in
      cc

  apart : (ns : List Line) (u : Term) (rest : List (List ℕ)) → map (node_text names) ns ≡ let_text names u ∷ rest → ⊥
  apart [] u rest e = cc
  apart (n ∷ ns) u rest e = no_let names n u (let f : node_text names n ≡ let_text names u = cc in f)

  same_body : (ts us : List Term) (ns ms : List Line) → All (IsSpelledTerm names) ts → All (IsSpelledTerm names) us → All (IsSpelledLine names) ns
      → All (IsSpelledLine names) ms
      → map (let_text names) ts ++ map (node_text names) ns ≡ map (let_text names) us ++ map (node_text names) ms → (ts ≡ us) × (ns ≡ ms)
  same_body [] [] ns ms p q r s e = (refl, same_nodes ns ms r s e)
  same_body [] (u ∷ us) ns ms p q r s e = absurd (apart ns u (map (let_text names) us ++ map (node_text names) ms) e)
  same_body (t ∷ ts) [] ns ms p q r s e = absurd (apart ms t (map (let_text names) ts ++ map (node_text names) ns) (sym e))
  same_body (t ∷ ts) (u ∷ us) ns ms p q r s e =
      let f : let_text names t ≡ let_text names u = cc in
      let g : map (let_text names) ts ++ map (node_text names) ns ≡ map (let_text names) us ++ map (node_text names) ms = cc in
      let a = last_term names distinct t u (All-head (IsSpelledTerm names) t ts p) (All-head (IsSpelledTerm names) u us q)
      (append_cancel_left (codes "let") (term_field names t) (term_field names u) f) in
      let i = same_body ts us ns ms (All-tail (IsSpelledTerm names) t ts p) (All-tail (IsSpelledTerm names) u us q) r s g in
      (let b : ts ≡ us = i.0 in cc, i.1)

  same_derivation : (d e : DerivationLines) → IsSpelled names d → IsSpelled names e → lines_behind names d ≡ lines_behind names e → d ≡ e
  same_derivation d e p q h =
      let k = same_body d.asked e.asked d.nodes e.nodes p.asked q.asked p.nodes q.nodes h in
      λ i. record { asked = k.0 i; nodes = k.1 i }

  -- a text is that of one derivation
  pub one_text : (text : List ℕ) (d e : DerivationLines) → IsTextOf names text d → IsTextOf names text e → d ≡ e
  one_text text d e x y =
      let h : codes "proof 1" ∷ lines_behind names d ≡ codes "proof 1" ∷ lines_behind names e = sym (lines_is names text d x) ∙ lines_is names text e y in
      same_derivation d e x.spelled y.spelled (behind (codes "proof 1") (lines_behind names d) (lines_behind names e) h)
    where
      behind : (w : List ℕ) (us vs : List (List ℕ)) → w ∷ us ≡ w ∷ vs → us ≡ vs
      behind w us vs e = cc
