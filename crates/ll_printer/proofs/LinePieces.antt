-- Lines of an output, piece by piece.
use Rattle.std.proofs.Common.{◌≡◌, ℕ, List, [], ◌∷◌, ◌++◌, ◌∙◌, sym, ap, subst, Bool, true, false, if◌then◌else◌, append_assoc, codes, decimal, is_ok}
use Rattle.std.specs.Prelude.{Result, Ok, Err, OnOk, OnErr}
use Rattle.ll_laws.specs.Output.{line, counts_text}
use Rattle.ll_parser.specs.Raw.{ClauseTree}
use Rattle.ll_parser.specs.Printed.{clauses, formula_text, line_end, clause_text}
use Rattle.ll_printer.specs.Pieces.{BeginsText}
use Rattle.ll_printer.specs.Parts.{IsWriting}
use Rattle.ll_printer.proofs.Parts.{writing-begins, writing-on, writing-stops, writing-last}

-- the first line of an answer
module _ (number : ℕ) (start p : List ℕ) (e : p ≡ start ++ codes "answer ") where
  pub title-1 : IsWriting (line (codes "answer " ++ decimal number)) start p (decimal number ++ 10 ∷ [])
  title-1 =
      writing-on (line (codes "answer " ++ decimal number)) start start p (decimal number ++ 10 ∷ []) (codes "answer ")
      (writing-begins (line (codes "answer " ++ decimal number)) start) e

  module _ (q : List ℕ) (f : q ≡ p ++ decimal number) where
    pub title-2 : IsWriting (line (codes "answer " ++ decimal number)) start q (10 ∷ [])
    title-2 = writing-on (line (codes "answer " ++ decimal number)) start p q (10 ∷ []) (decimal number) title-1 f

    pub title-end : (r : List ℕ) → r ≡ q ++ 10 ∷ [] → r ≡ start ++ line (codes "answer " ++ decimal number)
    title-end r g = writing-last (line (codes "answer " ++ decimal number)) start q r (10 ∷ []) title-2 g

-- the line of a variable with a name
module _ (name term start : List ℕ) where
  abbrev binding : List ℕ
  binding = line (name ++ codes " = " ++ term)

  abbrev behind_name : List ℕ
  behind_name = codes " = " ++ (term ++ 10 ∷ [])

  module _ (p : List ℕ) (e : p ≡ start ++ name) where
    pub binding-1 : IsWriting binding start p behind_name
    binding-1 =
        writing-on binding start start p behind_name name
        (subst (IsWriting binding start start)
        (append_assoc (name ++ codes " = ") term (10 ∷ []) ∙ append_assoc name (codes " = ") (term ++ 10 ∷ []))
        (writing-begins binding start)) e

    module _ (q : List ℕ) (f : q ≡ p ++ codes " = ") where
      pub binding-2 : IsWriting binding start q (term ++ 10 ∷ [])
      binding-2 = writing-on binding start p q (term ++ 10 ∷ []) (codes " = ") binding-1 f

      module _ (r : List ℕ) (g : r ≡ q ++ term) where
        pub binding-3 : IsWriting binding start r (10 ∷ [])
        binding-3 = writing-on binding start q r (10 ∷ []) term binding-2 g

        pub binding-end : (s : List ℕ) → s ≡ r ++ 10 ∷ [] → s ≡ start ++ binding
        binding-end s h = writing-last binding start r s (10 ∷ []) binding-3 h

-- seven texts, one after the other
seven-is : (a b c d e f g : List ℕ) → a ++ b ++ c ++ d ++ e ++ f ++ g ≡ a ++ (b ++ (c ++ (d ++ (e ++ (f ++ g)))))
seven-is a b c d e f g =
    append_assoc (a ++ b ++ c ++ d ++ e) f g
    ∙ (append_assoc (a ++ b ++ c ++ d) e (f ++ g)
    ∙ (append_assoc (a ++ b ++ c) d (e ++ (f ++ g)) ∙ (append_assoc (a ++ b) c (d ++ (e ++ (f ++ g))) ∙ append_assoc a b (c ++ (d ++ (e ++ (f ++ g)))))))

-- the last line of a run
module _ (answers reached inferences : ℕ) (start : List ℕ) where
  abbrev text : List ℕ
  text = counts_text answers reached inferences

  abbrev after_6 : List ℕ
  after_6 = 10 ∷ []

  abbrev after_5 : List ℕ
  after_5 = decimal inferences ++ after_6

  abbrev after_4 : List ℕ
  after_4 = codes ", inferences " ++ after_5

  abbrev after_3 : List ℕ
  after_3 = decimal reached ++ after_4

  abbrev after_2 : List ℕ
  after_2 = codes ", bound reached " ++ after_3

  abbrev after_1 : List ℕ
  after_1 = decimal answers ++ after_2

  -- what is written behind each piece
  module _ (p : List ℕ) (e : p ≡ start ++ codes "answers ") where
    pub counts-1 : IsWriting text start p after_1
    counts-1 =
        writing-on text start start p after_1 (codes "answers ")
        (subst (IsWriting text start start)
        (seven-is (codes "answers ") (decimal answers) (codes ", bound reached ") (decimal reached) (codes ", inferences ") (decimal inferences) after_6)
        (writing-begins text start)) e

    module _ (q : List ℕ) (f : q ≡ p ++ decimal answers) where
      pub counts-2 : IsWriting text start q after_2
      counts-2 = writing-on text start p q after_2 (decimal answers) counts-1 f

      module _ (r : List ℕ) (g : r ≡ q ++ codes ", bound reached ") where
        pub counts-3 : IsWriting text start r after_3
        counts-3 = writing-on text start q r after_3 (codes ", bound reached ") counts-2 g

        module _ (s : List ℕ) (h : s ≡ r ++ decimal reached) where
          pub counts-4 : IsWriting text start s after_4
          counts-4 = writing-on text start r s after_4 (decimal reached) counts-3 h

          module _ (t : List ℕ) (i : t ≡ s ++ codes ", inferences ") where
            pub counts-5 : IsWriting text start t after_5
            counts-5 = writing-on text start s t after_5 (codes ", inferences ") counts-4 i

            module _ (u : List ℕ) (j : u ≡ t ++ decimal inferences) where
              pub counts-6 : IsWriting text start u after_6
              counts-6 = writing-on text start t u after_6 (decimal inferences) counts-5 j

              pub counts-end : (v : List ℕ) → v ≡ u ++ 10 ∷ [] → v ≡ start ++ text
              counts-end v k = writing-last text start u v after_6 counts-6 k

-- the line of a clause, behind its mark if it has one
module _ (clause : ClauseTree) (start now : List ℕ) where
  abbrev form : List ℕ
  form = formula_text clauses false clause.form ++ line_end

  abbrev with_mark : Bool → List ℕ
  with_mark b = if b then codes "LINEAR" ++ (codes " " ++ form) else form

  pub clause-marked : clause.linear ≡ true → now ≡ start ++ codes "LINEAR " → IsWriting (clause_text clause) start now form
  clause-marked h e =
      writing-on (clause_text clause) start start now form (codes "LINEAR ")
      (subst (IsWriting (clause_text clause) start start) (ap with_mark h) (writing-begins (clause_text clause) start)) e

  pub clause-plain : clause.linear ≡ false → now ≡ start → IsWriting (clause_text clause) start now form
  clause-plain h e =
      subst (λ xs. IsWriting (clause_text clause) start xs form) (sym e)
      (subst (IsWriting (clause_text clause) start start) (ap with_mark h) (writing-begins (clause_text clause) start))

  -- what the line's end leaves
  module _ (next last : List ℕ) (w : IsWriting (clause_text clause) start now form) (e : next ≡ now ++ formula_text clauses false clause.form) where
    clause-formed : IsWriting (clause_text clause) start next line_end
    clause-formed = writing-on (clause_text clause) start now next line_end (formula_text clauses false clause.form) w e

    pub clause-ends : {A E : Type 0} (r : Result A E) → last ≡ (if is_ok r then next ++ line_end else next) → OnOk r (last ≡ start ++ clause_text clause)
    clause-ends (Ok x) f = writing-last (clause_text clause) start next last line_end clause-formed f
    clause-ends (Err x) f = tt

    pub clause-refused : {A E : Type 0} (r : Result A E) → last ≡ (if is_ok r then next ++ line_end else next)
        → OnErr r (BeginsText (clause_text clause) start last)
    clause-refused (Ok x) f = tt
    clause-refused (Err x) f = writing-stops (clause_text clause) start next last line_end clause-formed f
