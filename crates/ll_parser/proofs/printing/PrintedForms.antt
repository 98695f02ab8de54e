-- The formula that is printed has the raw tree that is printed.
use Rattle.std.proofs.Common.{◌≡◌, Bool, false, refl, ◌∙◌, ap}
use Rattle.ll_parser.specs.declared.Op.TheVariants as op
use Rattle.ll_parser.specs.Raw.{Raw, truth, erasure, braces, universal, existential, load, binary, head, anything, int, is_goal, less_goal, most_goal}
use Rattle.ll_parser.specs.Grammar.{simples_raws, formula_raw, arrow_raw, sum_raw, with_raw, tensor_raw, primary_raw}
use Rattle.ll_parser.proofs.printing.PrintedTree.{arguments_of, Any, at_formula, at_arrow, at_sum, at_with, at_tensor, at_primary, Last, last, any_raw}
use Rattle.ll_parser.proofs.printing.PrintedTree.{last_raw, to_formula, in_parens, to_arrow, to_sum, to_with, to_tensor, to_primary, last_formula, last_arrow}
use Rattle.ll_parser.proofs.printing.PrintedTree.{last_sum, last_with, last_tensor, followed, ending}
use Rattle.ll_parser.proofs.printing.Printable.{IsFormula}
use Rattle.ll_parser.proofs.printing.PrintedTerms.{word-kept, arguments-kept, left-kept, lead-side-kept, right-kept}

formula-kept : {o : Bool} (a : Any o) → formula_raw (to_formula a) ≡ any_raw a
formula-kept (at_formula x) = refl
formula-kept (at_arrow x) = refl
formula-kept (at_sum x) = refl
formula-kept (at_with x) = refl
formula-kept (at_tensor x) = refl
formula-kept (at_primary x) = refl

parens-kept : (l : Last) → primary_raw (in_parens l) ≡ last_raw l
parens-kept (last o a) = formula-kept a

-- ---- an operand that an operator follows

arrow-kept : (a : Any false) (e : Last) (r : Raw) → any_raw a ≡ r → last_raw e ≡ r → arrow_raw (to_arrow a e) ≡ r
arrow-kept (at_formula x) e r h k = parens-kept e ∙ k
arrow-kept (at_arrow x) e r h k = h
arrow-kept (at_sum x) e r h k = h
arrow-kept (at_with x) e r h k = h
arrow-kept (at_tensor x) e r h k = h
arrow-kept (at_primary x) e r h k = h

sum-kept : (a : Any false) (e : Last) (r : Raw) → any_raw a ≡ r → last_raw e ≡ r → sum_raw (to_sum a e) ≡ r
sum-kept (at_formula x) e r h k = parens-kept e ∙ k
sum-kept (at_arrow x) e r h k = parens-kept e ∙ k
sum-kept (at_sum x) e r h k = h
sum-kept (at_with x) e r h k = h
sum-kept (at_tensor x) e r h k = h
sum-kept (at_primary x) e r h k = h

with-kept : (a : Any false) (e : Last) (r : Raw) → any_raw a ≡ r → last_raw e ≡ r → with_raw (to_with a e) ≡ r
with-kept (at_formula x) e r h k = parens-kept e ∙ k
with-kept (at_arrow x) e r h k = parens-kept e ∙ k
with-kept (at_sum x) e r h k = parens-kept e ∙ k
with-kept (at_with x) e r h k = h
with-kept (at_tensor x) e r h k = h
with-kept (at_primary x) e r h k = h

tensor-kept : (a : Any false) (e : Last) (r : Raw) → any_raw a ≡ r → last_raw e ≡ r → tensor_raw (to_tensor a e) ≡ r
tensor-kept (at_formula x) e r h k = parens-kept e ∙ k
tensor-kept (at_arrow x) e r h k = parens-kept e ∙ k
tensor-kept (at_sum x) e r h k = parens-kept e ∙ k
tensor-kept (at_with x) e r h k = parens-kept e ∙ k
tensor-kept (at_tensor x) e r h k = h
tensor-kept (at_primary x) e r h k = h

primary-kept : (a : Any false) (e : Last) (r : Raw) → any_raw a ≡ r → last_raw e ≡ r → primary_raw (to_primary a e) ≡ r
primary-kept (at_formula x) e r h k = parens-kept e ∙ k
primary-kept (at_arrow x) e r h k = parens-kept e ∙ k
primary-kept (at_sum x) e r h k = parens-kept e ∙ k
primary-kept (at_with x) e r h k = parens-kept e ∙ k
primary-kept (at_tensor x) e r h k = parens-kept e ∙ k
primary-kept (at_primary x) e r h k = h

-- ---- the last operand

pub last-formula-kept : (e : Last) → formula_raw (last_formula e) ≡ last_raw e
last-formula-kept (last o a) = formula-kept a

last-arrow-kept : (e : Last) → arrow_raw (last_arrow e) ≡ last_raw e
last-arrow-kept (last o (at_formula x)) = refl
last-arrow-kept (last o (at_arrow x)) = refl
last-arrow-kept (last o (at_sum x)) = refl
last-arrow-kept (last o (at_with x)) = refl
last-arrow-kept (last o (at_tensor x)) = refl
last-arrow-kept (last o (at_primary x)) = refl

last-sum-kept : (e : Last) → sum_raw (last_sum e) ≡ last_raw e
last-sum-kept (last o (at_formula x)) = refl
last-sum-kept (last o (at_arrow x)) = refl
last-sum-kept (last o (at_sum x)) = refl
last-sum-kept (last o (at_with x)) = refl
last-sum-kept (last o (at_tensor x)) = refl
last-sum-kept (last o (at_primary x)) = refl

last-with-kept : (e : Last) → with_raw (last_with e) ≡ last_raw e
last-with-kept (last o (at_formula x)) = refl
last-with-kept (last o (at_arrow x)) = refl
last-with-kept (last o (at_sum x)) = refl
last-with-kept (last o (at_with x)) = refl
last-with-kept (last o (at_tensor x)) = refl
last-with-kept (last o (at_primary x)) = refl

last-tensor-kept : (e : Last) → tensor_raw (last_tensor e) ≡ last_raw e
last-tensor-kept (last o (at_formula x)) = refl
last-tensor-kept (last o (at_arrow x)) = refl
last-tensor-kept (last o (at_sum x)) = refl
last-tensor-kept (last o (at_with x)) = refl
last-tensor-kept (last o (at_tensor x)) = refl
last-tensor-kept (last o (at_primary x)) = refl

-- ---- the whole formula

mutual
  followed-kept : (r : Raw) → IsFormula r → any_raw (followed r) ≡ r
  followed-kept (truth at) h = refl
  followed-kept (erasure at) h = refl
  followed-kept (braces at g) h = ap (braces at) (last-formula-kept (ending g) ∙ ending-kept g h)
  followed-kept (universal at n g) h = ap (λ z. universal at z (formula_raw (last_formula (ending g)))) (word-kept n)
      ∙ ap (universal at n) (last-formula-kept (ending g) ∙ ending-kept g h.1)
  followed-kept (existential at n g) h = ap (λ z. existential at z (formula_raw (last_formula (ending g)))) (word-kept n)
      ∙ ap (existential at n) (last-formula-kept (ending g) ∙ ending-kept g h.1)
  followed-kept (load at n rs g) h = ap (λ z. load at n z (arrow_raw (to_arrow (followed g) (ending g)))) (arguments-kept rs h.1)
      ∙ ap (load at n rs) (arrow-kept (followed g) (ending g) g (followed-kept g h.2) (ending-kept g h.2))
  followed-kept (binary op.ColonDash at l r) h = ap (λ z. binary op.ColonDash at z (arrow_raw (to_arrow (followed r) (ending r))))
      (formula-kept (followed l) ∙ followed-kept l h.0) ∙ ap (binary op.ColonDash at l)
      (arrow-kept (followed r) (ending r) r (followed-kept r h.1) (ending-kept r h.1))
  followed-kept (binary op.LeftArrow at l r) h = ap (λ z. binary op.LeftArrow at z (arrow_raw (to_arrow (followed r) (ending r))))
      (formula-kept (followed l) ∙ followed-kept l h.0) ∙ ap (binary op.LeftArrow at l)
      (arrow-kept (followed r) (ending r) r (followed-kept r h.1) (ending-kept r h.1))
  followed-kept (binary op.Lolli at l r) h = ap (λ z. binary op.Lolli at z (arrow_raw (to_arrow (followed r) (ending r))))
      (sum-kept (followed l) (ending l) l (followed-kept l h.0) (ending-kept l h.0))
      ∙ ap (binary op.Lolli at l) (arrow-kept (followed r) (ending r) r (followed-kept r h.1) (ending-kept r h.1))
  followed-kept (binary op.RightArrow at l r) h = ap (λ z. binary op.RightArrow at z (arrow_raw (to_arrow (followed r) (ending r))))
      (sum-kept (followed l) (ending l) l (followed-kept l h.0) (ending-kept l h.0))
      ∙ ap (binary op.RightArrow at l) (arrow-kept (followed r) (ending r) r (followed-kept r h.1) (ending-kept r h.1))
  followed-kept (binary op.Plus at l r) h = ap (λ z. binary op.Plus at z (sum_raw (to_sum (followed r) (ending r))))
      (with-kept (followed l) (ending l) l (followed-kept l h.0) (ending-kept l h.0))
      ∙ ap (binary op.Plus at l) (sum-kept (followed r) (ending r) r (followed-kept r h.1) (ending-kept r h.1))
  followed-kept (binary op.With at l r) h = ap (λ z. binary op.With at z (with_raw (to_with (followed r) (ending r))))
      (tensor-kept (followed l) (ending l) l (followed-kept l h.0) (ending-kept l h.0))
      ∙ ap (binary op.With at l) (with-kept (followed r) (ending r) r (followed-kept r h.1) (ending-kept r h.1))
  followed-kept (binary op.Tensor at l r) h = ap (λ z. binary op.Tensor at z (tensor_raw (to_tensor (followed r) (ending r))))
      (primary-kept (followed l) (ending l) l (followed-kept l h.0) (ending-kept l h.0))
      ∙ ap (binary op.Tensor at l) (tensor-kept (followed r) (ending r) r (followed-kept r h.1) (ending-kept r h.1))
  followed-kept (head n rs) h = ap (λ z. head z (simples_raws (arguments_of rs))) (word-kept n) ∙ ap (head n) (arguments-kept rs h.1)
  followed-kept (anything at) h = absurd h
  followed-kept (int at z) h = absurd h
  followed-kept (is_goal at l r) h = λ i. is_goal at (left-kept l h.0 i) (right-kept r h.1 i)
  followed-kept (less_goal at l r) h = λ i. less_goal at (lead-side-kept l h.0 i) (right-kept r h.1 i)
  followed-kept (most_goal at l r) h = λ i. most_goal at (lead-side-kept l h.0 i) (right-kept r h.1 i)

  pub ending-kept : (r : Raw) → IsFormula r → last_raw (ending r) ≡ r
  ending-kept (truth at) h = refl
  ending-kept (erasure at) h = refl
  ending-kept (braces at g) h = ap (braces at) (last-formula-kept (ending g) ∙ ending-kept g h)
  ending-kept (universal at n g) h = ap (λ z. universal at z (formula_raw (last_formula (ending g)))) (word-kept n)
      ∙ ap (universal at n) (last-formula-kept (ending g) ∙ ending-kept g h.1)
  ending-kept (existential at n g) h = ap (λ z. existential at z (formula_raw (last_formula (ending g)))) (word-kept n)
      ∙ ap (existential at n) (last-formula-kept (ending g) ∙ ending-kept g h.1)
  ending-kept (load at n rs g) h = ap (λ z. load at n z (arrow_raw (last_arrow (ending g)))) (arguments-kept rs h.1)
      ∙ ap (load at n rs) (last-arrow-kept (ending g) ∙ ending-kept g h.2)
  ending-kept (binary op.ColonDash at l r) h = ap (λ z. binary op.ColonDash at z (arrow_raw (last_arrow (ending r))))
      (formula-kept (followed l) ∙ followed-kept l h.0) ∙ ap (binary op.ColonDash at l) (last-arrow-kept (ending r) ∙ ending-kept r h.1)
  ending-kept (binary op.LeftArrow at l r) h = ap (λ z. binary op.LeftArrow at z (arrow_raw (last_arrow (ending r))))
      (formula-kept (followed l) ∙ followed-kept l h.0) ∙ ap (binary op.LeftArrow at l) (last-arrow-kept (ending r) ∙ ending-kept r h.1)
  ending-kept (binary op.Lolli at l r) h = ap (λ z. binary op.Lolli at z (arrow_raw (last_arrow (ending r))))
      (sum-kept (followed l) (ending l) l (followed-kept l h.0) (ending-kept l h.0))
      ∙ ap (binary op.Lolli at l) (last-arrow-kept (ending r) ∙ ending-kept r h.1)
  ending-kept (binary op.RightArrow at l r) h = ap (λ z. binary op.RightArrow at z (arrow_raw (last_arrow (ending r))))
      (sum-kept (followed l) (ending l) l (followed-kept l h.0) (ending-kept l h.0))
      ∙ ap (binary op.RightArrow at l) (last-arrow-kept (ending r) ∙ ending-kept r h.1)
  ending-kept (binary op.Plus at l r) h = ap (λ z. binary op.Plus at z (sum_raw (last_sum (ending r))))
      (with-kept (followed l) (ending l) l (followed-kept l h.0) (ending-kept l h.0)) ∙ ap (binary op.Plus at l) (last-sum-kept (ending r) ∙ ending-kept r h.1)
  ending-kept (binary op.With at l r) h = ap (λ z. binary op.With at z (with_raw (last_with (ending r))))
      (tensor-kept (followed l) (ending l) l (followed-kept l h.0) (ending-kept l h.0))
      ∙ ap (binary op.With at l) (last-with-kept (ending r) ∙ ending-kept r h.1)
  ending-kept (binary op.Tensor at l r) h = ap (λ z. binary op.Tensor at z (tensor_raw (last_tensor (ending r))))
      (primary-kept (followed l) (ending l) l (followed-kept l h.0) (ending-kept l h.0))
      ∙ ap (binary op.Tensor at l) (last-tensor-kept (ending r) ∙ ending-kept r h.1)
  ending-kept (head n rs) h = ap (λ z. head z (simples_raws (arguments_of rs))) (word-kept n) ∙ ap (head n) (arguments-kept rs h.1)
  ending-kept (anything at) h = absurd h
  ending-kept (int at z) h = absurd h
  ending-kept (is_goal at l r) h = λ i. is_goal at (left-kept l h.0 i) (right-kept r h.1 i)
  ending-kept (less_goal at l r) h = λ i. less_goal at (lead-side-kept l h.0 i) (right-kept r h.1 i)
  ending-kept (most_goal at l r) h = λ i. most_goal at (lead-side-kept l h.0 i) (right-kept r h.1 i)
