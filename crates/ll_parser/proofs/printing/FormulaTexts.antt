-- The text by levels is the text of the parse tree that is printed: formulas.
use Rattle.std.proofs.Common.{◌≡◌, ℕ, true, false, List, ◌++◌, codes, refl, ◌∙◌, ap}
use Rattle.ll_parser.specs.declared.Op.TheVariants as op
use Rattle.ll_parser.specs.Tokens.{Identifier}
use Rattle.ll_parser.specs.Raw.{Raw, truth, erasure, braces, universal, existential, load, binary, head, anything, int, RawList, is_goal, less_goal, most_goal}
use Rattle.ll_parser.specs.Grammar.{word_identifier}
use Rattle.ll_parser.proofs.printing.PrintedTree.{word_of, arguments_of, to_formula, to_arrow, to_sum, to_with, to_tensor, to_primary, last_formula}
use Rattle.ll_parser.proofs.printing.PrintedTree.{last_arrow, last_sum, last_with, last_tensor, followed, ending}
use Rattle.ll_parser.specs.Printed.{between, clauses, arrows, sums, withs, tensors, primaries, bracketed, arguments_text, bound_text, formula_text}
use Rattle.ll_parser.proofs.printing.Written.{simples_bytes, formula_bytes, arrow_bytes, sum_bytes, with_bytes, tensor_bytes, primary_bytes}
use Rattle.ll_parser.proofs.printing.Printable.{AreTerms, IsFormula}
use Rattle.ll_parser.proofs.printing.PrintedTerms.{word-kept}
use Rattle.ll_parser.proofs.printing.TermTexts.{arguments-shown, sides, is-shown, test-shown}

bound-same : (n : Identifier) {a b : List ℕ} → a ≡ b → bound_text (word_identifier (word_of n)) a ≡ bound_text n b
bound-same n {a = a} h = ap (λ z. bound_text z a) (word-kept n) ∙ ap (bound_text n) h

load-same : (n : Identifier) (rs : RawList) {a b : List ℕ} → AreTerms rs → a ≡ b
    → n.text ++ (simples_bytes (arguments_of rs) ++ between (codes "-->") a) ≡ n.text ++ (arguments_text rs ++ between (codes "-->") b)
load-same n rs h k = ap (λ z. n.text ++ z) (sides (codes "-->") (arguments-shown rs h) k)

head-same : (n : Identifier) (rs : RawList) → AreTerms rs → (word_identifier (word_of n)).text ++ simples_bytes (arguments_of rs) ≡ n.text ++ arguments_text rs
head-same n rs h = ap (λ z. z.text ++ simples_bytes (arguments_of rs)) (word-kept n) ∙ ap (λ z. n.text ++ z) (arguments-shown rs h)

mutual
  formula-followed-shown : (x : Raw) → IsFormula x → formula_bytes (to_formula (followed x)) ≡ formula_text clauses true x
  formula-followed-shown (truth at) h = refl
  formula-followed-shown (erasure at) h = refl
  formula-followed-shown (braces at g) h = ap (λ z. codes "{" ++ (z ++ codes "}")) (formula-ending-shown g h)
  formula-followed-shown (universal at n g) h = ap (λ z. bracketed true (codes "forall" ++ z)) (bound-same n (formula-ending-shown g h.1))
  formula-followed-shown (existential at n g) h = ap (λ z. bracketed true (codes "exists" ++ z)) (bound-same n (formula-ending-shown g h.1))
  formula-followed-shown (load at n rs g) h = load-same n rs h.1 (arrow-followed-shown g h.2)
  formula-followed-shown (binary op.ColonDash at l r) h = sides (codes ":-") (formula-followed-shown l h.0) (arrow-followed-shown r h.1)
  formula-followed-shown (binary op.LeftArrow at l r) h = sides (codes "<=") (formula-followed-shown l h.0) (arrow-followed-shown r h.1)
  formula-followed-shown (binary op.Lolli at l r) h = sides (codes "-o") (sum-followed-shown l h.0) (arrow-followed-shown r h.1)
  formula-followed-shown (binary op.RightArrow at l r) h = sides (codes "=>") (sum-followed-shown l h.0) (arrow-followed-shown r h.1)
  formula-followed-shown (binary op.Plus at l r) h = sides (codes ";") (with-followed-shown l h.0) (sum-followed-shown r h.1)
  formula-followed-shown (binary op.With at l r) h = sides (codes "&") (tensor-followed-shown l h.0) (with-followed-shown r h.1)
  formula-followed-shown (binary op.Tensor at l r) h = sides (codes ",") (primary-followed-shown l h.0) (tensor-followed-shown r h.1)
  formula-followed-shown (head n rs) h = head-same n rs h.1
  formula-followed-shown (anything at) h = absurd h
  formula-followed-shown (int at z) h = absurd h
  formula-followed-shown (is_goal at l r) h = is-shown l r h.0 h.1
  formula-followed-shown (less_goal at l r) h = test-shown (codes "<") l r h.0 h.1
  formula-followed-shown (most_goal at l r) h = test-shown (codes "=<") l r h.0 h.1

  arrow-followed-shown : (x : Raw) → IsFormula x → arrow_bytes (to_arrow (followed x) (ending x)) ≡ formula_text arrows true x
  arrow-followed-shown (truth at) h = refl
  arrow-followed-shown (erasure at) h = refl
  arrow-followed-shown (braces at g) h = ap (λ z. codes "{" ++ (z ++ codes "}")) (formula-ending-shown g h)
  arrow-followed-shown (universal at n g) h = ap (λ z. bracketed true (codes "forall" ++ z)) (bound-same n (formula-ending-shown g h.1))
  arrow-followed-shown (existential at n g) h = ap (λ z. bracketed true (codes "exists" ++ z)) (bound-same n (formula-ending-shown g h.1))
  arrow-followed-shown (load at n rs g) h = load-same n rs h.1 (arrow-followed-shown g h.2)
  arrow-followed-shown (binary op.ColonDash at l r) h = ap (bracketed true) (sides (codes ":-") (formula-followed-shown l h.0) (arrow-ending-shown r h.1))
  arrow-followed-shown (binary op.LeftArrow at l r) h = ap (bracketed true) (sides (codes "<=") (formula-followed-shown l h.0) (arrow-ending-shown r h.1))
  arrow-followed-shown (binary op.Lolli at l r) h = sides (codes "-o") (sum-followed-shown l h.0) (arrow-followed-shown r h.1)
  arrow-followed-shown (binary op.RightArrow at l r) h = sides (codes "=>") (sum-followed-shown l h.0) (arrow-followed-shown r h.1)
  arrow-followed-shown (binary op.Plus at l r) h = sides (codes ";") (with-followed-shown l h.0) (sum-followed-shown r h.1)
  arrow-followed-shown (binary op.With at l r) h = sides (codes "&") (tensor-followed-shown l h.0) (with-followed-shown r h.1)
  arrow-followed-shown (binary op.Tensor at l r) h = sides (codes ",") (primary-followed-shown l h.0) (tensor-followed-shown r h.1)
  arrow-followed-shown (head n rs) h = head-same n rs h.1
  arrow-followed-shown (anything at) h = absurd h
  arrow-followed-shown (int at z) h = absurd h
  arrow-followed-shown (is_goal at l r) h = is-shown l r h.0 h.1
  arrow-followed-shown (less_goal at l r) h = test-shown (codes "<") l r h.0 h.1
  arrow-followed-shown (most_goal at l r) h = test-shown (codes "=<") l r h.0 h.1

  sum-followed-shown : (x : Raw) → IsFormula x → sum_bytes (to_sum (followed x) (ending x)) ≡ formula_text sums true x
  sum-followed-shown (truth at) h = refl
  sum-followed-shown (erasure at) h = refl
  sum-followed-shown (braces at g) h = ap (λ z. codes "{" ++ (z ++ codes "}")) (formula-ending-shown g h)
  sum-followed-shown (universal at n g) h = ap (λ z. bracketed true (codes "forall" ++ z)) (bound-same n (formula-ending-shown g h.1))
  sum-followed-shown (existential at n g) h = ap (λ z. bracketed true (codes "exists" ++ z)) (bound-same n (formula-ending-shown g h.1))
  sum-followed-shown (load at n rs g) h = ap (bracketed true) (load-same n rs h.1 (arrow-ending-shown g h.2))
  sum-followed-shown (binary op.ColonDash at l r) h = ap (bracketed true) (sides (codes ":-") (formula-followed-shown l h.0) (arrow-ending-shown r h.1))
  sum-followed-shown (binary op.LeftArrow at l r) h = ap (bracketed true) (sides (codes "<=") (formula-followed-shown l h.0) (arrow-ending-shown r h.1))
  sum-followed-shown (binary op.Lolli at l r) h = ap (bracketed true) (sides (codes "-o") (sum-followed-shown l h.0) (arrow-ending-shown r h.1))
  sum-followed-shown (binary op.RightArrow at l r) h = ap (bracketed true) (sides (codes "=>") (sum-followed-shown l h.0) (arrow-ending-shown r h.1))
  sum-followed-shown (binary op.Plus at l r) h = sides (codes ";") (with-followed-shown l h.0) (sum-followed-shown r h.1)
  sum-followed-shown (binary op.With at l r) h = sides (codes "&") (tensor-followed-shown l h.0) (with-followed-shown r h.1)
  sum-followed-shown (binary op.Tensor at l r) h = sides (codes ",") (primary-followed-shown l h.0) (tensor-followed-shown r h.1)
  sum-followed-shown (head n rs) h = head-same n rs h.1
  sum-followed-shown (anything at) h = absurd h
  sum-followed-shown (int at z) h = absurd h
  sum-followed-shown (is_goal at l r) h = is-shown l r h.0 h.1
  sum-followed-shown (less_goal at l r) h = test-shown (codes "<") l r h.0 h.1
  sum-followed-shown (most_goal at l r) h = test-shown (codes "=<") l r h.0 h.1

  with-followed-shown : (x : Raw) → IsFormula x → with_bytes (to_with (followed x) (ending x)) ≡ formula_text withs true x
  with-followed-shown (truth at) h = refl
  with-followed-shown (erasure at) h = refl
  with-followed-shown (braces at g) h = ap (λ z. codes "{" ++ (z ++ codes "}")) (formula-ending-shown g h)
  with-followed-shown (universal at n g) h = ap (λ z. bracketed true (codes "forall" ++ z)) (bound-same n (formula-ending-shown g h.1))
  with-followed-shown (existential at n g) h = ap (λ z. bracketed true (codes "exists" ++ z)) (bound-same n (formula-ending-shown g h.1))
  with-followed-shown (load at n rs g) h = ap (bracketed true) (load-same n rs h.1 (arrow-ending-shown g h.2))
  with-followed-shown (binary op.ColonDash at l r) h = ap (bracketed true) (sides (codes ":-") (formula-followed-shown l h.0) (arrow-ending-shown r h.1))
  with-followed-shown (binary op.LeftArrow at l r) h = ap (bracketed true) (sides (codes "<=") (formula-followed-shown l h.0) (arrow-ending-shown r h.1))
  with-followed-shown (binary op.Lolli at l r) h = ap (bracketed true) (sides (codes "-o") (sum-followed-shown l h.0) (arrow-ending-shown r h.1))
  with-followed-shown (binary op.RightArrow at l r) h = ap (bracketed true) (sides (codes "=>") (sum-followed-shown l h.0) (arrow-ending-shown r h.1))
  with-followed-shown (binary op.Plus at l r) h = ap (bracketed true) (sides (codes ";") (with-followed-shown l h.0) (sum-ending-shown r h.1))
  with-followed-shown (binary op.With at l r) h = sides (codes "&") (tensor-followed-shown l h.0) (with-followed-shown r h.1)
  with-followed-shown (binary op.Tensor at l r) h = sides (codes ",") (primary-followed-shown l h.0) (tensor-followed-shown r h.1)
  with-followed-shown (head n rs) h = head-same n rs h.1
  with-followed-shown (anything at) h = absurd h
  with-followed-shown (int at z) h = absurd h
  with-followed-shown (is_goal at l r) h = is-shown l r h.0 h.1
  with-followed-shown (less_goal at l r) h = test-shown (codes "<") l r h.0 h.1
  with-followed-shown (most_goal at l r) h = test-shown (codes "=<") l r h.0 h.1

  tensor-followed-shown : (x : Raw) → IsFormula x → tensor_bytes (to_tensor (followed x) (ending x)) ≡ formula_text tensors true x
  tensor-followed-shown (truth at) h = refl
  tensor-followed-shown (erasure at) h = refl
  tensor-followed-shown (braces at g) h = ap (λ z. codes "{" ++ (z ++ codes "}")) (formula-ending-shown g h)
  tensor-followed-shown (universal at n g) h = ap (λ z. bracketed true (codes "forall" ++ z)) (bound-same n (formula-ending-shown g h.1))
  tensor-followed-shown (existential at n g) h = ap (λ z. bracketed true (codes "exists" ++ z)) (bound-same n (formula-ending-shown g h.1))
  tensor-followed-shown (load at n rs g) h = ap (bracketed true) (load-same n rs h.1 (arrow-ending-shown g h.2))
  tensor-followed-shown (binary op.ColonDash at l r) h = ap (bracketed true) (sides (codes ":-") (formula-followed-shown l h.0) (arrow-ending-shown r h.1))
  tensor-followed-shown (binary op.LeftArrow at l r) h = ap (bracketed true) (sides (codes "<=") (formula-followed-shown l h.0) (arrow-ending-shown r h.1))
  tensor-followed-shown (binary op.Lolli at l r) h = ap (bracketed true) (sides (codes "-o") (sum-followed-shown l h.0) (arrow-ending-shown r h.1))
  tensor-followed-shown (binary op.RightArrow at l r) h = ap (bracketed true) (sides (codes "=>") (sum-followed-shown l h.0) (arrow-ending-shown r h.1))
  tensor-followed-shown (binary op.Plus at l r) h = ap (bracketed true) (sides (codes ";") (with-followed-shown l h.0) (sum-ending-shown r h.1))
  tensor-followed-shown (binary op.With at l r) h = ap (bracketed true) (sides (codes "&") (tensor-followed-shown l h.0) (with-ending-shown r h.1))
  tensor-followed-shown (binary op.Tensor at l r) h = sides (codes ",") (primary-followed-shown l h.0) (tensor-followed-shown r h.1)
  tensor-followed-shown (head n rs) h = head-same n rs h.1
  tensor-followed-shown (anything at) h = absurd h
  tensor-followed-shown (int at z) h = absurd h
  tensor-followed-shown (is_goal at l r) h = is-shown l r h.0 h.1
  tensor-followed-shown (less_goal at l r) h = test-shown (codes "<") l r h.0 h.1
  tensor-followed-shown (most_goal at l r) h = test-shown (codes "=<") l r h.0 h.1

  primary-followed-shown : (x : Raw) → IsFormula x → primary_bytes (to_primary (followed x) (ending x)) ≡ formula_text primaries true x
  primary-followed-shown (truth at) h = refl
  primary-followed-shown (erasure at) h = refl
  primary-followed-shown (braces at g) h = ap (λ z. codes "{" ++ (z ++ codes "}")) (formula-ending-shown g h)
  primary-followed-shown (universal at n g) h = ap (λ z. bracketed true (codes "forall" ++ z)) (bound-same n (formula-ending-shown g h.1))
  primary-followed-shown (existential at n g) h = ap (λ z. bracketed true (codes "exists" ++ z)) (bound-same n (formula-ending-shown g h.1))
  primary-followed-shown (load at n rs g) h = ap (bracketed true) (load-same n rs h.1 (arrow-ending-shown g h.2))
  primary-followed-shown (binary op.ColonDash at l r) h = ap (bracketed true) (sides (codes ":-") (formula-followed-shown l h.0) (arrow-ending-shown r h.1))
  primary-followed-shown (binary op.LeftArrow at l r) h = ap (bracketed true) (sides (codes "<=") (formula-followed-shown l h.0) (arrow-ending-shown r h.1))
  primary-followed-shown (binary op.Lolli at l r) h = ap (bracketed true) (sides (codes "-o") (sum-followed-shown l h.0) (arrow-ending-shown r h.1))
  primary-followed-shown (binary op.RightArrow at l r) h = ap (bracketed true) (sides (codes "=>") (sum-followed-shown l h.0) (arrow-ending-shown r h.1))
  primary-followed-shown (binary op.Plus at l r) h = ap (bracketed true) (sides (codes ";") (with-followed-shown l h.0) (sum-ending-shown r h.1))
  primary-followed-shown (binary op.With at l r) h = ap (bracketed true) (sides (codes "&") (tensor-followed-shown l h.0) (with-ending-shown r h.1))
  primary-followed-shown (binary op.Tensor at l r) h = ap (bracketed true) (sides (codes ",") (primary-followed-shown l h.0) (tensor-ending-shown r h.1))
  primary-followed-shown (head n rs) h = head-same n rs h.1
  primary-followed-shown (anything at) h = absurd h
  primary-followed-shown (int at z) h = absurd h
  primary-followed-shown (is_goal at l r) h = is-shown l r h.0 h.1
  primary-followed-shown (less_goal at l r) h = test-shown (codes "<") l r h.0 h.1
  primary-followed-shown (most_goal at l r) h = test-shown (codes "=<") l r h.0 h.1

  pub formula-ending-shown : (x : Raw) → IsFormula x → formula_bytes (last_formula (ending x)) ≡ formula_text clauses false x
  formula-ending-shown (truth at) h = refl
  formula-ending-shown (erasure at) h = refl
  formula-ending-shown (braces at g) h = ap (λ z. codes "{" ++ (z ++ codes "}")) (formula-ending-shown g h)
  formula-ending-shown (universal at n g) h = ap (λ z. codes "forall" ++ z) (bound-same n (formula-ending-shown g h.1))
  formula-ending-shown (existential at n g) h = ap (λ z. codes "exists" ++ z) (bound-same n (formula-ending-shown g h.1))
  formula-ending-shown (load at n rs g) h = load-same n rs h.1 (arrow-ending-shown g h.2)
  formula-ending-shown (binary op.ColonDash at l r) h = sides (codes ":-") (formula-followed-shown l h.0) (arrow-ending-shown r h.1)
  formula-ending-shown (binary op.LeftArrow at l r) h = sides (codes "<=") (formula-followed-shown l h.0) (arrow-ending-shown r h.1)
  formula-ending-shown (binary op.Lolli at l r) h = sides (codes "-o") (sum-followed-shown l h.0) (arrow-ending-shown r h.1)
  formula-ending-shown (binary op.RightArrow at l r) h = sides (codes "=>") (sum-followed-shown l h.0) (arrow-ending-shown r h.1)
  formula-ending-shown (binary op.Plus at l r) h = sides (codes ";") (with-followed-shown l h.0) (sum-ending-shown r h.1)
  formula-ending-shown (binary op.With at l r) h = sides (codes "&") (tensor-followed-shown l h.0) (with-ending-shown r h.1)
  formula-ending-shown (binary op.Tensor at l r) h = sides (codes ",") (primary-followed-shown l h.0) (tensor-ending-shown r h.1)
  formula-ending-shown (head n rs) h = head-same n rs h.1
  formula-ending-shown (anything at) h = absurd h
  formula-ending-shown (int at z) h = absurd h
  formula-ending-shown (is_goal at l r) h = is-shown l r h.0 h.1
  formula-ending-shown (less_goal at l r) h = test-shown (codes "<") l r h.0 h.1
  formula-ending-shown (most_goal at l r) h = test-shown (codes "=<") l r h.0 h.1

  arrow-ending-shown : (x : Raw) → IsFormula x → arrow_bytes (last_arrow (ending x)) ≡ formula_text arrows false x
  arrow-ending-shown (truth at) h = refl
  arrow-ending-shown (erasure at) h = refl
  arrow-ending-shown (braces at g) h = ap (λ z. codes "{" ++ (z ++ codes "}")) (formula-ending-shown g h)
  arrow-ending-shown (universal at n g) h = ap (λ z. codes "forall" ++ z) (bound-same n (formula-ending-shown g h.1))
  arrow-ending-shown (existential at n g) h = ap (λ z. codes "exists" ++ z) (bound-same n (formula-ending-shown g h.1))
  arrow-ending-shown (load at n rs g) h = load-same n rs h.1 (arrow-ending-shown g h.2)
  arrow-ending-shown (binary op.ColonDash at l r) h = ap (bracketed true) (sides (codes ":-") (formula-followed-shown l h.0) (arrow-ending-shown r h.1))
  arrow-ending-shown (binary op.LeftArrow at l r) h = ap (bracketed true) (sides (codes "<=") (formula-followed-shown l h.0) (arrow-ending-shown r h.1))
  arrow-ending-shown (binary op.Lolli at l r) h = sides (codes "-o") (sum-followed-shown l h.0) (arrow-ending-shown r h.1)
  arrow-ending-shown (binary op.RightArrow at l r) h = sides (codes "=>") (sum-followed-shown l h.0) (arrow-ending-shown r h.1)
  arrow-ending-shown (binary op.Plus at l r) h = sides (codes ";") (with-followed-shown l h.0) (sum-ending-shown r h.1)
  arrow-ending-shown (binary op.With at l r) h = sides (codes "&") (tensor-followed-shown l h.0) (with-ending-shown r h.1)
  arrow-ending-shown (binary op.Tensor at l r) h = sides (codes ",") (primary-followed-shown l h.0) (tensor-ending-shown r h.1)
  arrow-ending-shown (head n rs) h = head-same n rs h.1
  arrow-ending-shown (anything at) h = absurd h
  arrow-ending-shown (int at z) h = absurd h
  arrow-ending-shown (is_goal at l r) h = is-shown l r h.0 h.1
  arrow-ending-shown (less_goal at l r) h = test-shown (codes "<") l r h.0 h.1
  arrow-ending-shown (most_goal at l r) h = test-shown (codes "=<") l r h.0 h.1

  sum-ending-shown : (x : Raw) → IsFormula x → sum_bytes (last_sum (ending x)) ≡ formula_text sums false x
  sum-ending-shown (truth at) h = refl
  sum-ending-shown (erasure at) h = refl
  sum-ending-shown (braces at g) h = ap (λ z. codes "{" ++ (z ++ codes "}")) (formula-ending-shown g h)
  sum-ending-shown (universal at n g) h = ap (λ z. codes "forall" ++ z) (bound-same n (formula-ending-shown g h.1))
  sum-ending-shown (existential at n g) h = ap (λ z. codes "exists" ++ z) (bound-same n (formula-ending-shown g h.1))
  sum-ending-shown (load at n rs g) h = ap (bracketed true) (load-same n rs h.1 (arrow-ending-shown g h.2))
  sum-ending-shown (binary op.ColonDash at l r) h = ap (bracketed true) (sides (codes ":-") (formula-followed-shown l h.0) (arrow-ending-shown r h.1))
  sum-ending-shown (binary op.LeftArrow at l r) h = ap (bracketed true) (sides (codes "<=") (formula-followed-shown l h.0) (arrow-ending-shown r h.1))
  sum-ending-shown (binary op.Lolli at l r) h = ap (bracketed true) (sides (codes "-o") (sum-followed-shown l h.0) (arrow-ending-shown r h.1))
  sum-ending-shown (binary op.RightArrow at l r) h = ap (bracketed true) (sides (codes "=>") (sum-followed-shown l h.0) (arrow-ending-shown r h.1))
  sum-ending-shown (binary op.Plus at l r) h = sides (codes ";") (with-followed-shown l h.0) (sum-ending-shown r h.1)
  sum-ending-shown (binary op.With at l r) h = sides (codes "&") (tensor-followed-shown l h.0) (with-ending-shown r h.1)
  sum-ending-shown (binary op.Tensor at l r) h = sides (codes ",") (primary-followed-shown l h.0) (tensor-ending-shown r h.1)
  sum-ending-shown (head n rs) h = head-same n rs h.1
  sum-ending-shown (anything at) h = absurd h
  sum-ending-shown (int at z) h = absurd h
  sum-ending-shown (is_goal at l r) h = is-shown l r h.0 h.1
  sum-ending-shown (less_goal at l r) h = test-shown (codes "<") l r h.0 h.1
  sum-ending-shown (most_goal at l r) h = test-shown (codes "=<") l r h.0 h.1

  with-ending-shown : (x : Raw) → IsFormula x → with_bytes (last_with (ending x)) ≡ formula_text withs false x
  with-ending-shown (truth at) h = refl
  with-ending-shown (erasure at) h = refl
  with-ending-shown (braces at g) h = ap (λ z. codes "{" ++ (z ++ codes "}")) (formula-ending-shown g h)
  with-ending-shown (universal at n g) h = ap (λ z. codes "forall" ++ z) (bound-same n (formula-ending-shown g h.1))
  with-ending-shown (existential at n g) h = ap (λ z. codes "exists" ++ z) (bound-same n (formula-ending-shown g h.1))
  with-ending-shown (load at n rs g) h = ap (bracketed true) (load-same n rs h.1 (arrow-ending-shown g h.2))
  with-ending-shown (binary op.ColonDash at l r) h = ap (bracketed true) (sides (codes ":-") (formula-followed-shown l h.0) (arrow-ending-shown r h.1))
  with-ending-shown (binary op.LeftArrow at l r) h = ap (bracketed true) (sides (codes "<=") (formula-followed-shown l h.0) (arrow-ending-shown r h.1))
  with-ending-shown (binary op.Lolli at l r) h = ap (bracketed true) (sides (codes "-o") (sum-followed-shown l h.0) (arrow-ending-shown r h.1))
  with-ending-shown (binary op.RightArrow at l r) h = ap (bracketed true) (sides (codes "=>") (sum-followed-shown l h.0) (arrow-ending-shown r h.1))
  with-ending-shown (binary op.Plus at l r) h = ap (bracketed true) (sides (codes ";") (with-followed-shown l h.0) (sum-ending-shown r h.1))
  with-ending-shown (binary op.With at l r) h = sides (codes "&") (tensor-followed-shown l h.0) (with-ending-shown r h.1)
  with-ending-shown (binary op.Tensor at l r) h = sides (codes ",") (primary-followed-shown l h.0) (tensor-ending-shown r h.1)
  with-ending-shown (head n rs) h = head-same n rs h.1
  with-ending-shown (anything at) h = absurd h
  with-ending-shown (int at z) h = absurd h
  with-ending-shown (is_goal at l r) h = is-shown l r h.0 h.1
  with-ending-shown (less_goal at l r) h = test-shown (codes "<") l r h.0 h.1
  with-ending-shown (most_goal at l r) h = test-shown (codes "=<") l r h.0 h.1

  tensor-ending-shown : (x : Raw) → IsFormula x → tensor_bytes (last_tensor (ending x)) ≡ formula_text tensors false x
  tensor-ending-shown (truth at) h = refl
  tensor-ending-shown (erasure at) h = refl
  tensor-ending-shown (braces at g) h = ap (λ z. codes "{" ++ (z ++ codes "}")) (formula-ending-shown g h)
  tensor-ending-shown (universal at n g) h = ap (λ z. codes "forall" ++ z) (bound-same n (formula-ending-shown g h.1))
  tensor-ending-shown (existential at n g) h = ap (λ z. codes "exists" ++ z) (bound-same n (formula-ending-shown g h.1))
  tensor-ending-shown (load at n rs g) h = ap (bracketed true) (load-same n rs h.1 (arrow-ending-shown g h.2))
  tensor-ending-shown (binary op.ColonDash at l r) h = ap (bracketed true) (sides (codes ":-") (formula-followed-shown l h.0) (arrow-ending-shown r h.1))
  tensor-ending-shown (binary op.LeftArrow at l r) h = ap (bracketed true) (sides (codes "<=") (formula-followed-shown l h.0) (arrow-ending-shown r h.1))
  tensor-ending-shown (binary op.Lolli at l r) h = ap (bracketed true) (sides (codes "-o") (sum-followed-shown l h.0) (arrow-ending-shown r h.1))
  tensor-ending-shown (binary op.RightArrow at l r) h = ap (bracketed true) (sides (codes "=>") (sum-followed-shown l h.0) (arrow-ending-shown r h.1))
  tensor-ending-shown (binary op.Plus at l r) h = ap (bracketed true) (sides (codes ";") (with-followed-shown l h.0) (sum-ending-shown r h.1))
  tensor-ending-shown (binary op.With at l r) h = ap (bracketed true) (sides (codes "&") (tensor-followed-shown l h.0) (with-ending-shown r h.1))
  tensor-ending-shown (binary op.Tensor at l r) h = sides (codes ",") (primary-followed-shown l h.0) (tensor-ending-shown r h.1)
  tensor-ending-shown (head n rs) h = head-same n rs h.1
  tensor-ending-shown (anything at) h = absurd h
  tensor-ending-shown (int at z) h = absurd h
  tensor-ending-shown (is_goal at l r) h = is-shown l r h.0 h.1
  tensor-ending-shown (less_goal at l r) h = test-shown (codes "<") l r h.0 h.1
  tensor-ending-shown (most_goal at l r) h = test-shown (codes "=<") l r h.0 h.1
