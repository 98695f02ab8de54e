-- The formulas that are printed need no more brackets than any formulas with their raw trees.
use Rattle.std.proofs.Common.{ℕ, zero, suc, Bool, false, [], ◌∷◌}
use Rattle.ll_parser.specs.declared.Op.TheVariants as op
use Rattle.ll_parser.specs.declared.Quantifier.TheVariants as quantifier
use Rattle.ll_parser.specs.Tokens.{comma, ampersand, semicolon, paren_right, brace_right, load_arrow}
use Rattle.ll_parser.specs.Raw.{Raw, truth, erasure, braces, universal, existential, load, binary, head, anything, int, is_goal, less_goal, most_goal}
use Rattle.ll_parser.specs.Grammar.{by_colon, by_left, by_lolli, by_right, Formula, of_arrow, clause, Arrow, of_sum, implies, loads, Sum, of_with, plus, With}
use Rattle.ll_parser.specs.Grammar.{of_tensor, with, Tensor, of_primary, times, Primary, truly, erased, bracket, brace, quantified, atom, clause_token}
use Rattle.ll_parser.specs.Grammar.{arrow_token, simples_tokens, formula_tokens, arrow_tokens, sum_tokens, with_tokens, tensor_tokens, primary_tokens}
use Rattle.ll_parser.specs.Grammar.{formula_raw, arrow_raw, sum_raw, with_raw, tensor_raw, primary_raw, valued, tested, by_less, by_most}
use Rattle.ll_parser.proofs.printing.PrintedTree.{arguments_of, at_formula, at_arrow, at_sum, at_with, at_tensor, at_primary, Last, last, to_formula, to_arrow}
use Rattle.ll_parser.proofs.printing.PrintedTree.{to_sum, to_with, to_tensor, to_primary, last_formula, last_arrow, last_sum, last_with, last_tensor, followed}
use Rattle.ll_parser.proofs.printing.PrintedTree.{ending, expr_of, lead_of}
use Rattle.ll_parser.proofs.printing.Printable.{Spelled, spelled-split}
use Rattle.ll_parser.proofs.machines.Room.{Enough, FormulaRoom, ArrowRoom, SumRoom, WithRoom, TensorRoom, PrimaryRoom}
use Rattle.ll_parser.proofs.printing.PrintedTermRoom.{enough-more, simples-more, arguments-room, expr-more, lead-more, expr-room, lead-room}

-- ---- more room does no harm

mutual
  formula-more : {o : Bool} (f : Formula o) (n : ℕ) → FormulaRoom n f → FormulaRoom (suc n) f
  formula-more (of_arrow a) n h = arrow-more a n h
  formula-more (clause f c at a) n h = (formula-more f n h.0, arrow-more a n h.1)

  arrow-more : {o : Bool} (a : Arrow o) (n : ℕ) → ArrowRoom n a → ArrowRoom (suc n) a
  arrow-more (of_sum s) n h = sum-more s n h
  arrow-more (implies s c at a) n h = (sum-more s n h.0, arrow-more a n h.1)
  arrow-more (loads m ss at a) n h = (simples-more ss n h.0, arrow-more a n h.1)

  sum-more : {o : Bool} (s : Sum o) (n : ℕ) → SumRoom n s → SumRoom (suc n) s
  sum-more (of_with w) n h = with-more w n h
  sum-more (plus w at s) n h = (with-more w n h.0, sum-more s n h.1)

  with-more : {o : Bool} (w : With o) (n : ℕ) → WithRoom n w → WithRoom (suc n) w
  with-more (of_tensor t) n h = tensor-more t n h
  with-more (with t at w) n h = (tensor-more t n h.0, with-more w n h.1)

  tensor-more : {o : Bool} (t : Tensor o) (n : ℕ) → TensorRoom n t → TensorRoom (suc n) t
  tensor-more (of_primary p) n h = primary-more p n h
  tensor-more (times p at t) n h = (primary-more p n h.0, tensor-more t n h.1)

  primary-more : {o : Bool} (p : Primary o) (n : ℕ) → PrimaryRoom n p → PrimaryRoom (suc n) p
  primary-more (truly at) n h = tt
  primary-more (erased at) n h = tt
  primary-more (bracket at f end) n h = enough-more (λ m. FormulaRoom m f) (formula-more f) n h
  primary-more (brace at f end) n h = enough-more (λ m. FormulaRoom m f) (formula-more f) n h
  primary-more (quantified q at w slash f) n h = formula-more f n h
  primary-more (atom w ss) n h = simples-more ss n h
  primary-more (valued x at e) n h = expr-more e n h
  primary-more (tested l c at e) n h = (lead-more l n h.0, expr-more e n h.1)

-- ---- one bracket more is room enough for what an operator follows, where there is room for the same behind which it ends

mutual
  formula-followed-more : (y : Raw) (n : ℕ) → FormulaRoom n (last_formula (ending y)) → FormulaRoom (suc n) (to_formula (followed y))
  formula-followed-more (truth at) n h = tt
  formula-followed-more (erasure at) n h = tt
  formula-followed-more (braces at g) n h = enough-more (λ m. FormulaRoom m (last_formula (ending g))) (formula-more (last_formula (ending g))) n h
  formula-followed-more (universal at x g) n h = h
  formula-followed-more (existential at x g) n h = h
  formula-followed-more (load at x rs g) n h = (simples-more (arguments_of rs) n h.0, arrow-followed-more g n h.1)
  formula-followed-more (binary op.ColonDash at l r) n h = (formula-more (to_formula (followed l)) n h.0, arrow-followed-more r n h.1)
  formula-followed-more (binary op.LeftArrow at l r) n h = (formula-more (to_formula (followed l)) n h.0, arrow-followed-more r n h.1)
  formula-followed-more (binary op.Lolli at l r) n h = (sum-more (to_sum (followed l) (ending l)) n h.0, arrow-followed-more r n h.1)
  formula-followed-more (binary op.RightArrow at l r) n h = (sum-more (to_sum (followed l) (ending l)) n h.0, arrow-followed-more r n h.1)
  formula-followed-more (binary op.Plus at l r) n h = (with-more (to_with (followed l) (ending l)) n h.0, sum-followed-more r n h.1)
  formula-followed-more (binary op.With at l r) n h = (tensor-more (to_tensor (followed l) (ending l)) n h.0, with-followed-more r n h.1)
  formula-followed-more (binary op.Tensor at l r) n h = (primary-more (to_primary (followed l) (ending l)) n h.0, tensor-followed-more r n h.1)
  formula-followed-more (head x rs) n h = simples-more (arguments_of rs) n h
  formula-followed-more (anything at) n h = tt
  formula-followed-more (int at z) n h = tt
  formula-followed-more (is_goal at l r) n h = expr-more (expr_of r) n h
  formula-followed-more (less_goal at l r) n h = (lead-more (lead_of l) n h.0, expr-more (expr_of r) n h.1)
  formula-followed-more (most_goal at l r) n h = (lead-more (lead_of l) n h.0, expr-more (expr_of r) n h.1)

  arrow-followed-more : (y : Raw) (n : ℕ) → ArrowRoom n (last_arrow (ending y)) → ArrowRoom (suc n) (to_arrow (followed y) (ending y))
  arrow-followed-more (truth at) n h = tt
  arrow-followed-more (erasure at) n h = tt
  arrow-followed-more (braces at g) n h = enough-more (λ m. FormulaRoom m (last_formula (ending g))) (formula-more (last_formula (ending g))) n h
  arrow-followed-more (universal at x g) n h = h
  arrow-followed-more (existential at x g) n h = h
  arrow-followed-more (load at x rs g) n h = (simples-more (arguments_of rs) n h.0, arrow-followed-more g n h.1)
  arrow-followed-more (binary op.ColonDash at l r) n h = enough-more (λ m. FormulaRoom m (last_formula (ending (binary op.ColonDash at l r))))
      (formula-more (last_formula (ending (binary op.ColonDash at l r)))) n h
  arrow-followed-more (binary op.LeftArrow at l r) n h = enough-more (λ m. FormulaRoom m (last_formula (ending (binary op.LeftArrow at l r))))
      (formula-more (last_formula (ending (binary op.LeftArrow at l r)))) n h
  arrow-followed-more (binary op.Lolli at l r) n h = (sum-more (to_sum (followed l) (ending l)) n h.0, arrow-followed-more r n h.1)
  arrow-followed-more (binary op.RightArrow at l r) n h = (sum-more (to_sum (followed l) (ending l)) n h.0, arrow-followed-more r n h.1)
  arrow-followed-more (binary op.Plus at l r) n h = (with-more (to_with (followed l) (ending l)) n h.0, sum-followed-more r n h.1)
  arrow-followed-more (binary op.With at l r) n h = (tensor-more (to_tensor (followed l) (ending l)) n h.0, with-followed-more r n h.1)
  arrow-followed-more (binary op.Tensor at l r) n h = (primary-more (to_primary (followed l) (ending l)) n h.0, tensor-followed-more r n h.1)
  arrow-followed-more (head x rs) n h = simples-more (arguments_of rs) n h
  arrow-followed-more (anything at) n h = tt
  arrow-followed-more (int at z) n h = tt
  arrow-followed-more (is_goal at l r) n h = expr-more (expr_of r) n h
  arrow-followed-more (less_goal at l r) n h = (lead-more (lead_of l) n h.0, expr-more (expr_of r) n h.1)
  arrow-followed-more (most_goal at l r) n h = (lead-more (lead_of l) n h.0, expr-more (expr_of r) n h.1)

  sum-followed-more : (y : Raw) (n : ℕ) → SumRoom n (last_sum (ending y)) → SumRoom (suc n) (to_sum (followed y) (ending y))
  sum-followed-more (truth at) n h = tt
  sum-followed-more (erasure at) n h = tt
  sum-followed-more (braces at g) n h = enough-more (λ m. FormulaRoom m (last_formula (ending g))) (formula-more (last_formula (ending g))) n h
  sum-followed-more (universal at x g) n h = h
  sum-followed-more (existential at x g) n h = h
  sum-followed-more (load at x rs g) n h = enough-more (λ m. FormulaRoom m (last_formula (ending (load at x rs g))))
      (formula-more (last_formula (ending (load at x rs g)))) n h
  sum-followed-more (binary op.ColonDash at l r) n h = enough-more (λ m. FormulaRoom m (last_formula (ending (binary op.ColonDash at l r))))
      (formula-more (last_formula (ending (binary op.ColonDash at l r)))) n h
  sum-followed-more (binary op.LeftArrow at l r) n h = enough-more (λ m. FormulaRoom m (last_formula (ending (binary op.LeftArrow at l r))))
      (formula-more (last_formula (ending (binary op.LeftArrow at l r)))) n h
  sum-followed-more (binary op.Lolli at l r) n h = enough-more (λ m. FormulaRoom m (last_formula (ending (binary op.Lolli at l r))))
      (formula-more (last_formula (ending (binary op.Lolli at l r)))) n h
  sum-followed-more (binary op.RightArrow at l r) n h = enough-more (λ m. FormulaRoom m (last_formula (ending (binary op.RightArrow at l r))))
      (formula-more (last_formula (ending (binary op.RightArrow at l r)))) n h
  sum-followed-more (binary op.Plus at l r) n h = (with-more (to_with (followed l) (ending l)) n h.0, sum-followed-more r n h.1)
  sum-followed-more (binary op.With at l r) n h = (tensor-more (to_tensor (followed l) (ending l)) n h.0, with-followed-more r n h.1)
  sum-followed-more (binary op.Tensor at l r) n h = (primary-more (to_primary (followed l) (ending l)) n h.0, tensor-followed-more r n h.1)
  sum-followed-more (head x rs) n h = simples-more (arguments_of rs) n h
  sum-followed-more (anything at) n h = tt
  sum-followed-more (int at z) n h = tt
  sum-followed-more (is_goal at l r) n h = expr-more (expr_of r) n h
  sum-followed-more (less_goal at l r) n h = (lead-more (lead_of l) n h.0, expr-more (expr_of r) n h.1)
  sum-followed-more (most_goal at l r) n h = (lead-more (lead_of l) n h.0, expr-more (expr_of r) n h.1)

  with-followed-more : (y : Raw) (n : ℕ) → WithRoom n (last_with (ending y)) → WithRoom (suc n) (to_with (followed y) (ending y))
  with-followed-more (truth at) n h = tt
  with-followed-more (erasure at) n h = tt
  with-followed-more (braces at g) n h = enough-more (λ m. FormulaRoom m (last_formula (ending g))) (formula-more (last_formula (ending g))) n h
  with-followed-more (universal at x g) n h = h
  with-followed-more (existential at x g) n h = h
  with-followed-more (load at x rs g) n h = enough-more (λ m. FormulaRoom m (last_formula (ending (load at x rs g))))
      (formula-more (last_formula (ending (load at x rs g)))) n h
  with-followed-more (binary op.ColonDash at l r) n h = enough-more (λ m. FormulaRoom m (last_formula (ending (binary op.ColonDash at l r))))
      (formula-more (last_formula (ending (binary op.ColonDash at l r)))) n h
  with-followed-more (binary op.LeftArrow at l r) n h = enough-more (λ m. FormulaRoom m (last_formula (ending (binary op.LeftArrow at l r))))
      (formula-more (last_formula (ending (binary op.LeftArrow at l r)))) n h
  with-followed-more (binary op.Lolli at l r) n h = enough-more (λ m. FormulaRoom m (last_formula (ending (binary op.Lolli at l r))))
      (formula-more (last_formula (ending (binary op.Lolli at l r)))) n h
  with-followed-more (binary op.RightArrow at l r) n h = enough-more (λ m. FormulaRoom m (last_formula (ending (binary op.RightArrow at l r))))
      (formula-more (last_formula (ending (binary op.RightArrow at l r)))) n h
  with-followed-more (binary op.Plus at l r) n h = enough-more (λ m. FormulaRoom m (last_formula (ending (binary op.Plus at l r))))
      (formula-more (last_formula (ending (binary op.Plus at l r)))) n h
  with-followed-more (binary op.With at l r) n h = (tensor-more (to_tensor (followed l) (ending l)) n h.0, with-followed-more r n h.1)
  with-followed-more (binary op.Tensor at l r) n h = (primary-more (to_primary (followed l) (ending l)) n h.0, tensor-followed-more r n h.1)
  with-followed-more (head x rs) n h = simples-more (arguments_of rs) n h
  with-followed-more (anything at) n h = tt
  with-followed-more (int at z) n h = tt
  with-followed-more (is_goal at l r) n h = expr-more (expr_of r) n h
  with-followed-more (less_goal at l r) n h = (lead-more (lead_of l) n h.0, expr-more (expr_of r) n h.1)
  with-followed-more (most_goal at l r) n h = (lead-more (lead_of l) n h.0, expr-more (expr_of r) n h.1)

  tensor-followed-more : (y : Raw) (n : ℕ) → TensorRoom n (last_tensor (ending y)) → TensorRoom (suc n) (to_tensor (followed y) (ending y))
  tensor-followed-more (truth at) n h = tt
  tensor-followed-more (erasure at) n h = tt
  tensor-followed-more (braces at g) n h = enough-more (λ m. FormulaRoom m (last_formula (ending g))) (formula-more (last_formula (ending g))) n h
  tensor-followed-more (universal at x g) n h = h
  tensor-followed-more (existential at x g) n h = h
  tensor-followed-more (load at x rs g) n h = enough-more (λ m. FormulaRoom m (last_formula (ending (load at x rs g))))
      (formula-more (last_formula (ending (load at x rs g)))) n h
  tensor-followed-more (binary op.ColonDash at l r) n h = enough-more (λ m. FormulaRoom m (last_formula (ending (binary op.ColonDash at l r))))
      (formula-more (last_formula (ending (binary op.ColonDash at l r)))) n h
  tensor-followed-more (binary op.LeftArrow at l r) n h = enough-more (λ m. FormulaRoom m (last_formula (ending (binary op.LeftArrow at l r))))
      (formula-more (last_formula (ending (binary op.LeftArrow at l r)))) n h
  tensor-followed-more (binary op.Lolli at l r) n h = enough-more (λ m. FormulaRoom m (last_formula (ending (binary op.Lolli at l r))))
      (formula-more (last_formula (ending (binary op.Lolli at l r)))) n h
  tensor-followed-more (binary op.RightArrow at l r) n h = enough-more (λ m. FormulaRoom m (last_formula (ending (binary op.RightArrow at l r))))
      (formula-more (last_formula (ending (binary op.RightArrow at l r)))) n h
  tensor-followed-more (binary op.Plus at l r) n h = enough-more (λ m. FormulaRoom m (last_formula (ending (binary op.Plus at l r))))
      (formula-more (last_formula (ending (binary op.Plus at l r)))) n h
  tensor-followed-more (binary op.With at l r) n h = enough-more (λ m. FormulaRoom m (last_formula (ending (binary op.With at l r))))
      (formula-more (last_formula (ending (binary op.With at l r)))) n h
  tensor-followed-more (binary op.Tensor at l r) n h = (primary-more (to_primary (followed l) (ending l)) n h.0, tensor-followed-more r n h.1)
  tensor-followed-more (head x rs) n h = simples-more (arguments_of rs) n h
  tensor-followed-more (anything at) n h = tt
  tensor-followed-more (int at z) n h = tt
  tensor-followed-more (is_goal at l r) n h = expr-more (expr_of r) n h
  tensor-followed-more (less_goal at l r) n h = (lead-more (lead_of l) n h.0, expr-more (expr_of r) n h.1)
  tensor-followed-more (most_goal at l r) n h = (lead-more (lead_of l) n h.0, expr-more (expr_of r) n h.1)

-- ---- what stands in brackets leaves room for a bracket

primary-enclosed : (y : Raw) (n : ℕ) → FormulaRoom n (last_formula (ending y)) → PrimaryRoom (suc n) (to_primary (followed y) (ending y))
primary-enclosed (truth at) n h = tt
primary-enclosed (erasure at) n h = tt
primary-enclosed (braces at g) n h = enough-more (λ m. FormulaRoom m (last_formula (ending g))) (formula-more (last_formula (ending g))) n h
primary-enclosed (universal at x g) n h = h
primary-enclosed (existential at x g) n h = h
primary-enclosed (load at x rs g) n h = h
primary-enclosed (binary op.ColonDash at l r) n h = h
primary-enclosed (binary op.LeftArrow at l r) n h = h
primary-enclosed (binary op.Lolli at l r) n h = h
primary-enclosed (binary op.RightArrow at l r) n h = h
primary-enclosed (binary op.Plus at l r) n h = h
primary-enclosed (binary op.With at l r) n h = h
primary-enclosed (binary op.Tensor at l r) n h = h
primary-enclosed (head x rs) n h = simples-more (arguments_of rs) n h
primary-enclosed (anything at) n h = tt
primary-enclosed (int at z) n h = tt
primary-enclosed (is_goal at l r) n h = expr-more (expr_of r) n h
primary-enclosed (less_goal at l r) n h = (lead-more (lead_of l) n h.0, expr-more (expr_of r) n h.1)
primary-enclosed (most_goal at l r) n h = (lead-more (lead_of l) n h.0, expr-more (expr_of r) n h.1)

tensor-enclosed : (e : Last) (n : ℕ) → FormulaRoom n (last_formula e) → TensorRoom (suc n) (last_tensor e)
tensor-enclosed (last o (at_formula x)) n h = h
tensor-enclosed (last o (at_arrow x)) n h = h
tensor-enclosed (last o (at_sum x)) n h = h
tensor-enclosed (last o (at_with x)) n h = h
tensor-enclosed (last o (at_tensor x)) n h = tensor-more x n h
tensor-enclosed (last o (at_primary x)) n h = primary-more x n h

-- ---- a looser place asks for no more brackets

enough-less : (P : ℕ → Type 0) → ((m : ℕ) → P m → P (suc m)) → (n : ℕ) → Enough n P → P n
enough-less P f zero h = absurd h
enough-less P f (suc n) h = f n h

with-last : (e : Last) (n : ℕ) → TensorRoom n (last_tensor e) → WithRoom n (last_with e)
with-last (last o (at_formula x)) n h = h
with-last (last o (at_arrow x)) n h = h
with-last (last o (at_sum x)) n h = h
with-last (last o (at_with x)) n h = enough-less (λ m. WithRoom m x) (with-more x) n h
with-last (last o (at_tensor x)) n h = h
with-last (last o (at_primary x)) n h = h

sum-last : (e : Last) (n : ℕ) → WithRoom n (last_with e) → SumRoom n (last_sum e)
sum-last (last o (at_formula x)) n h = h
sum-last (last o (at_arrow x)) n h = h
sum-last (last o (at_sum x)) n h = enough-less (λ m. SumRoom m x) (sum-more x) n h
sum-last (last o (at_with x)) n h = h
sum-last (last o (at_tensor x)) n h = h
sum-last (last o (at_primary x)) n h = h

arrow-last : (e : Last) (n : ℕ) → SumRoom n (last_sum e) → ArrowRoom n (last_arrow e)
arrow-last (last o (at_formula x)) n h = h
arrow-last (last o (at_arrow x)) n h = enough-less (λ m. ArrowRoom m x) (arrow-more x) n h
arrow-last (last o (at_sum x)) n h = h
arrow-last (last o (at_with x)) n h = h
arrow-last (last o (at_tensor x)) n h = h
arrow-last (last o (at_primary x)) n h = h

formula-last : (e : Last) (n : ℕ) → ArrowRoom n (last_arrow e) → FormulaRoom n (last_formula e)
formula-last (last o (at_formula x)) n h = enough-less (λ m. FormulaRoom m x) (formula-more x) n h
formula-last (last o (at_arrow x)) n h = h
formula-last (last o (at_sum x)) n h = h
formula-last (last o (at_with x)) n h = h
formula-last (last o (at_tensor x)) n h = h
formula-last (last o (at_primary x)) n h = h

tensor-loosened : (y : Raw) (n : ℕ) → PrimaryRoom n (to_primary (followed y) (ending y)) → TensorRoom n (to_tensor (followed y) (ending y))
tensor-loosened (truth at) n h = h
tensor-loosened (erasure at) n h = h
tensor-loosened (braces at g) n h = h
tensor-loosened (universal at x g) n h = h
tensor-loosened (existential at x g) n h = h
tensor-loosened (load at x rs g) n h = h
tensor-loosened (binary op.ColonDash at l r) n h = h
tensor-loosened (binary op.LeftArrow at l r) n h = h
tensor-loosened (binary op.Lolli at l r) n h = h
tensor-loosened (binary op.RightArrow at l r) n h = h
tensor-loosened (binary op.Plus at l r) n h = h
tensor-loosened (binary op.With at l r) n h = h
tensor-loosened (binary op.Tensor at l r) zero h = absurd h
tensor-loosened (binary op.Tensor at l r) (suc n) h = tensor-followed-more (binary op.Tensor at l r) n h
tensor-loosened (head x rs) n h = h
tensor-loosened (anything at) n h = h
tensor-loosened (int at z) n h = h
tensor-loosened (is_goal at l r) n h = h
tensor-loosened (less_goal at l r) n h = h
tensor-loosened (most_goal at l r) n h = h

with-loosened : (y : Raw) (n : ℕ) → TensorRoom n (to_tensor (followed y) (ending y)) → WithRoom n (to_with (followed y) (ending y))
with-loosened (truth at) n h = h
with-loosened (erasure at) n h = h
with-loosened (braces at g) n h = h
with-loosened (universal at x g) n h = h
with-loosened (existential at x g) n h = h
with-loosened (load at x rs g) n h = h
with-loosened (binary op.ColonDash at l r) n h = h
with-loosened (binary op.LeftArrow at l r) n h = h
with-loosened (binary op.Lolli at l r) n h = h
with-loosened (binary op.RightArrow at l r) n h = h
with-loosened (binary op.Plus at l r) n h = h
with-loosened (binary op.With at l r) zero h = absurd h
with-loosened (binary op.With at l r) (suc n) h = with-followed-more (binary op.With at l r) n h
with-loosened (binary op.Tensor at l r) n h = h
with-loosened (head x rs) n h = h
with-loosened (anything at) n h = h
with-loosened (int at z) n h = h
with-loosened (is_goal at l r) n h = h
with-loosened (less_goal at l r) n h = h
with-loosened (most_goal at l r) n h = h

sum-loosened : (y : Raw) (n : ℕ) → WithRoom n (to_with (followed y) (ending y)) → SumRoom n (to_sum (followed y) (ending y))
sum-loosened (truth at) n h = h
sum-loosened (erasure at) n h = h
sum-loosened (braces at g) n h = h
sum-loosened (universal at x g) n h = h
sum-loosened (existential at x g) n h = h
sum-loosened (load at x rs g) n h = h
sum-loosened (binary op.ColonDash at l r) n h = h
sum-loosened (binary op.LeftArrow at l r) n h = h
sum-loosened (binary op.Lolli at l r) n h = h
sum-loosened (binary op.RightArrow at l r) n h = h
sum-loosened (binary op.Plus at l r) zero h = absurd h
sum-loosened (binary op.Plus at l r) (suc n) h = sum-followed-more (binary op.Plus at l r) n h
sum-loosened (binary op.With at l r) n h = h
sum-loosened (binary op.Tensor at l r) n h = h
sum-loosened (head x rs) n h = h
sum-loosened (anything at) n h = h
sum-loosened (int at z) n h = h
sum-loosened (is_goal at l r) n h = h
sum-loosened (less_goal at l r) n h = h
sum-loosened (most_goal at l r) n h = h

arrow-loosened : (y : Raw) (n : ℕ) → SumRoom n (to_sum (followed y) (ending y)) → ArrowRoom n (to_arrow (followed y) (ending y))
arrow-loosened (truth at) n h = h
arrow-loosened (erasure at) n h = h
arrow-loosened (braces at g) n h = h
arrow-loosened (universal at x g) n h = h
arrow-loosened (existential at x g) n h = h
arrow-loosened (load at x rs g) zero h = absurd h
arrow-loosened (load at x rs g) (suc n) h = arrow-followed-more (load at x rs g) n h
arrow-loosened (binary op.ColonDash at l r) n h = h
arrow-loosened (binary op.LeftArrow at l r) n h = h
arrow-loosened (binary op.Lolli at l r) zero h = absurd h
arrow-loosened (binary op.Lolli at l r) (suc n) h = arrow-followed-more (binary op.Lolli at l r) n h
arrow-loosened (binary op.RightArrow at l r) zero h = absurd h
arrow-loosened (binary op.RightArrow at l r) (suc n) h = arrow-followed-more (binary op.RightArrow at l r) n h
arrow-loosened (binary op.Plus at l r) n h = h
arrow-loosened (binary op.With at l r) n h = h
arrow-loosened (binary op.Tensor at l r) n h = h
arrow-loosened (head x rs) n h = h
arrow-loosened (anything at) n h = h
arrow-loosened (int at z) n h = h
arrow-loosened (is_goal at l r) n h = h
arrow-loosened (less_goal at l r) n h = h
arrow-loosened (most_goal at l r) n h = h

formula-loosened : (y : Raw) (n : ℕ) → ArrowRoom n (to_arrow (followed y) (ending y)) → FormulaRoom n (to_formula (followed y))
formula-loosened (truth at) n h = h
formula-loosened (erasure at) n h = h
formula-loosened (braces at g) n h = h
formula-loosened (universal at x g) n h = h
formula-loosened (existential at x g) n h = h
formula-loosened (load at x rs g) n h = h
formula-loosened (binary op.ColonDash at l r) zero h = absurd h
formula-loosened (binary op.ColonDash at l r) (suc n) h = formula-followed-more (binary op.ColonDash at l r) n h
formula-loosened (binary op.LeftArrow at l r) zero h = absurd h
formula-loosened (binary op.LeftArrow at l r) (suc n) h = formula-followed-more (binary op.LeftArrow at l r) n h
formula-loosened (binary op.Lolli at l r) n h = h
formula-loosened (binary op.RightArrow at l r) n h = h
formula-loosened (binary op.Plus at l r) n h = h
formula-loosened (binary op.With at l r) n h = h
formula-loosened (binary op.Tensor at l r) n h = h
formula-loosened (head x rs) n h = h
formula-loosened (anything at) n h = h
formula-loosened (int at z) n h = h
formula-loosened (is_goal at l r) n h = h
formula-loosened (less_goal at l r) n h = h
formula-loosened (most_goal at l r) n h = h

-- ---- the whole formula

mutual
  pub formula-ending : {o : Bool} (f : Formula o) (n : ℕ) → Spelled (formula_tokens f) → FormulaRoom n f → FormulaRoom n (last_formula (ending (formula_raw f)))
  formula-ending (of_arrow a) n s h = formula-last (ending (arrow_raw a)) n (arrow-ending a n s h)
  formula-ending (clause f by_colon at a) n s h = let k = spelled-split (formula_tokens f) (clause_token by_colon at ∷ arrow_tokens a) s in
      (formula-followed f n k.0 h.0, arrow-ending a n k.1.1 h.1)
  formula-ending (clause f by_left at a) n s h = let k = spelled-split (formula_tokens f) (clause_token by_left at ∷ arrow_tokens a) s in
      (formula-followed f n k.0 h.0, arrow-ending a n k.1.1 h.1)

  formula-followed : (f : Formula false) (n : ℕ) → Spelled (formula_tokens f) → FormulaRoom n f → FormulaRoom n (to_formula (followed (formula_raw f)))
  formula-followed (of_arrow a) n s h = formula-loosened (arrow_raw a) n (arrow-followed a n s h)
  formula-followed (clause f by_colon at a) n s h = let k = spelled-split (formula_tokens f) (clause_token by_colon at ∷ arrow_tokens a) s in
      (formula-followed f n k.0 h.0, arrow-followed a n k.1.1 h.1)
  formula-followed (clause f by_left at a) n s h = let k = spelled-split (formula_tokens f) (clause_token by_left at ∷ arrow_tokens a) s in
      (formula-followed f n k.0 h.0, arrow-followed a n k.1.1 h.1)

  arrow-ending : {o : Bool} (a : Arrow o) (n : ℕ) → Spelled (arrow_tokens a) → ArrowRoom n a → ArrowRoom n (last_arrow (ending (arrow_raw a)))
  arrow-ending (of_sum x) n s h = arrow-last (ending (sum_raw x)) n (sum-ending x n s h)
  arrow-ending (implies x by_lolli at a) n s h = let k = spelled-split (sum_tokens x) (arrow_token by_lolli at ∷ arrow_tokens a) s in
      (sum-followed x n k.0 h.0, arrow-ending a n k.1.1 h.1)
  arrow-ending (implies x by_right at a) n s h = let k = spelled-split (sum_tokens x) (arrow_token by_right at ∷ arrow_tokens a) s in
      (sum-followed x n k.0 h.0, arrow-ending a n k.1.1 h.1)
  arrow-ending (loads x ss at a) n s h = let k = spelled-split (simples_tokens ss) (load_arrow at ∷ arrow_tokens a) s.1 in
      (arguments-room ss n k.0 h.0, arrow-ending a n k.1.1 h.1)

  sum-ending : {o : Bool} (x : Sum o) (n : ℕ) → Spelled (sum_tokens x) → SumRoom n x → SumRoom n (last_sum (ending (sum_raw x)))
  sum-ending (of_with x) n s h = sum-last (ending (with_raw x)) n (with-ending x n s h)
  sum-ending (plus x at y) n s h = let k = spelled-split (with_tokens x) (semicolon at ∷ sum_tokens y) s in
      (with-followed x n k.0 h.0, sum-ending y n k.1.1 h.1)

  with-ending : {o : Bool} (x : With o) (n : ℕ) → Spelled (with_tokens x) → WithRoom n x → WithRoom n (last_with (ending (with_raw x)))
  with-ending (of_tensor x) n s h = with-last (ending (tensor_raw x)) n (tensor-ending x n s h)
  with-ending (with x at y) n s h = let k = spelled-split (tensor_tokens x) (ampersand at ∷ with_tokens y) s in
      (tensor-followed x n k.0 h.0, with-ending y n k.1.1 h.1)

  tensor-ending : {o : Bool} (x : Tensor o) (n : ℕ) → Spelled (tensor_tokens x) → TensorRoom n x → TensorRoom n (last_tensor (ending (tensor_raw x)))
  tensor-ending (of_primary x) n s h = primary-ending x n s h
  tensor-ending (times x at y) n s h = let k = spelled-split (primary_tokens x) (comma at ∷ tensor_tokens y) s in
      (primary-followed x n k.0 h.0, tensor-ending y n k.1.1 h.1)

  arrow-followed : (a : Arrow false) (n : ℕ) → Spelled (arrow_tokens a) → ArrowRoom n a → ArrowRoom n (to_arrow (followed (arrow_raw a)) (ending (arrow_raw a)))
  arrow-followed (of_sum x) n s h = arrow-loosened (sum_raw x) n (sum-followed x n s h)
  arrow-followed (implies x by_lolli at a) n s h = let k = spelled-split (sum_tokens x) (arrow_token by_lolli at ∷ arrow_tokens a) s in
      (sum-followed x n k.0 h.0, arrow-followed a n k.1.1 h.1)
  arrow-followed (implies x by_right at a) n s h = let k = spelled-split (sum_tokens x) (arrow_token by_right at ∷ arrow_tokens a) s in
      (sum-followed x n k.0 h.0, arrow-followed a n k.1.1 h.1)
  arrow-followed (loads x ss at a) n s h = let k = spelled-split (simples_tokens ss) (load_arrow at ∷ arrow_tokens a) s.1 in
      (arguments-room ss n k.0 h.0, arrow-followed a n k.1.1 h.1)

  sum-followed : (x : Sum false) (n : ℕ) → Spelled (sum_tokens x) → SumRoom n x → SumRoom n (to_sum (followed (sum_raw x)) (ending (sum_raw x)))
  sum-followed (of_with x) n s h = sum-loosened (with_raw x) n (with-followed x n s h)
  sum-followed (plus x at y) n s h = let k = spelled-split (with_tokens x) (semicolon at ∷ sum_tokens y) s in
      (with-followed x n k.0 h.0, sum-followed y n k.1.1 h.1)

  with-followed : (x : With false) (n : ℕ) → Spelled (with_tokens x) → WithRoom n x → WithRoom n (to_with (followed (with_raw x)) (ending (with_raw x)))
  with-followed (of_tensor x) n s h = with-loosened (tensor_raw x) n (tensor-followed x n s h)
  with-followed (with x at y) n s h = let k = spelled-split (tensor_tokens x) (ampersand at ∷ with_tokens y) s in
      (tensor-followed x n k.0 h.0, with-followed y n k.1.1 h.1)

  tensor-followed : (x : Tensor false) (n : ℕ) → Spelled (tensor_tokens x) → TensorRoom n x
      → TensorRoom n (to_tensor (followed (tensor_raw x)) (ending (tensor_raw x)))
  tensor-followed (of_primary x) n s h = tensor-loosened (primary_raw x) n (primary-followed x n s h)
  tensor-followed (times x at y) n s h = let k = spelled-split (primary_tokens x) (comma at ∷ tensor_tokens y) s in
      (primary-followed x n k.0 h.0, tensor-followed y n k.1.1 h.1)

  primary-ending : {o : Bool} (p : Primary o) (n : ℕ) → Spelled (primary_tokens p) → PrimaryRoom n p → TensorRoom n (last_tensor (ending (primary_raw p)))
  primary-ending (truly at) n s h = tt
  primary-ending (erased at) n s h = tt
  primary-ending (bracket at f end) zero s h = absurd h
  primary-ending (bracket at f end) (suc n) s h = tensor-enclosed (ending (formula_raw f)) n
      (formula-ending f n (spelled-split (formula_tokens f) (paren_right end ∷ []) s.1).0 h)
  primary-ending (brace at f end) zero s h = absurd h
  primary-ending (brace at f end) (suc n) s h = formula-ending f n (spelled-split (formula_tokens f) (brace_right end ∷ []) s.1).0 h
  primary-ending (quantified quantifier.Forall at w slash f) n s h = formula-ending f n s.1.1.1 h
  primary-ending (quantified quantifier.Exists at w slash f) n s h = formula-ending f n s.1.1.1 h
  primary-ending (atom w ss) n s h = arguments-room ss n s.1 h
  primary-ending (valued x at e) n s h = expr-room e n h
  primary-ending (tested l by_less at e) n s h = (lead-room l n h.0, expr-room e n h.1)
  primary-ending (tested l by_most at e) n s h = (lead-room l n h.0, expr-room e n h.1)

  primary-followed : (p : Primary false) (n : ℕ) → Spelled (primary_tokens p) → PrimaryRoom n p
      → PrimaryRoom n (to_primary (followed (primary_raw p)) (ending (primary_raw p)))
  primary-followed (truly at) n s h = tt
  primary-followed (erased at) n s h = tt
  primary-followed (bracket at f end) zero s h = absurd h
  primary-followed (bracket at f end) (suc n) s h = primary-enclosed (formula_raw f) n
      (formula-ending f n (spelled-split (formula_tokens f) (paren_right end ∷ []) s.1).0 h)
  primary-followed (brace at f end) zero s h = absurd h
  primary-followed (brace at f end) (suc n) s h = formula-ending f n (spelled-split (formula_tokens f) (brace_right end ∷ []) s.1).0 h
  primary-followed (atom w ss) n s h = arguments-room ss n s.1 h
  primary-followed (valued x at e) n s h = expr-room e n h
  primary-followed (tested l by_less at e) n s h = (lead-room l n h.0, expr-room e n h.1)
  primary-followed (tested l by_most at e) n s h = (lead-room l n h.0, expr-room e n h.1)
