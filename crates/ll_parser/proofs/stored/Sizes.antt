-- Whole programs and queries: formulas where formulas stand, and no more nodes than tokens.
use Rattle.std.proofs.Common.{◌≡◌, ℕ, suc, ◌+◌, ◌≤◌, Bool, List, [], ◌∷◌, ◌++◌, map, length, refl, sym, subst, arith, length-append}
use Rattle.ll_parser.specs.declared.Quantifier.TheVariants as quantifier
use Rattle.ll_parser.specs.Tokens.{Tok, cons_sign, paren_right, brace_right, semicolon, ampersand, comma, load_arrow, dot, star_sign, less_sign, most_sign}
use Rattle.ll_parser.specs.Raw.{Raw, truth, erasure, braces, universal, existential, load, binary, head, anything, int, RawList, none, more, raws_then}
use Rattle.ll_parser.specs.Raw.{ClauseTree, ModuleTree, ProgramTree, is_goal, less_goal, most_goal}
use Rattle.ll_parser.specs.Grammar.{Term, of_app, cons, App, applied, app_any, app_number, app_bracket, Simple, simple_word, simple_any, simple_number}
use Rattle.ll_parser.specs.Grammar.{simple_bracket, Simples, no_more, and_then, Formula, of_arrow, clause, Arrow, of_sum, implies, loads, Sum, of_with, plus}
use Rattle.ll_parser.specs.Grammar.{With, of_tensor, with, Tensor, of_primary, times, Primary, truly, erased, bracket, brace, quantified, atom, clause_token}
use Rattle.ll_parser.specs.Grammar.{arrow_token, term_tokens, app_tokens, simple_tokens, simples_tokens, formula_tokens, arrow_tokens, sum_tokens, with_tokens}
use Rattle.ll_parser.specs.Grammar.{tensor_tokens, primary_tokens, term_raw, app_raw, simple_raw, simples_raws, formula_raw, arrow_raw, sum_raw, with_raw}
use Rattle.ll_parser.specs.Grammar.{tensor_raw, primary_raw, Plain, plain_word, plain_any, plain_number, Expr, of_product, adds, Product, of_item, multiplies}
use Rattle.ll_parser.specs.Grammar.{Item, item_plain, item_bracket, First, first_plain, first_times, Lead, of_first, lead_adds, valued, tested, by_less}
use Rattle.ll_parser.specs.Grammar.{by_most, add_token, expr_tokens, product_tokens, item_tokens, first_tokens, lead_tokens, plain_raw, expr_raw, product_raw}
use Rattle.ll_parser.specs.Grammar.{item_raw, first_raw, lead_raw}
use Rattle.ll_parser.specs.Text.{Clause, plain, linear, Module, Query, bare, dotted, clause_tokens, locals_tokens, heading_tokens, clauses_tokens}
use Rattle.ll_parser.specs.Text.{module_tokens, modules_tokens, program_tokens, clause_tree, module_tree, query_tokens, query_tree, programs, queries}
use Rattle.ll_parser.specs.Reads.{IsWhole}
use Rattle.ll_parser.specs.Weights.{weight, weights, clauses_weight, modules_weight}

-- ---- raw trees

-- every other raw tree is that of a term alone
abbrev pub IsForm : Raw → Type 0
IsForm (truth at) = Unit {0}
IsForm (erasure at) = Unit {0}
IsForm (braces at r) = IsForm r
IsForm (universal at n r) = IsForm r
IsForm (existential at n r) = IsForm r
IsForm (load at m args r) = IsForm r
IsForm (binary o at l r) = IsForm l × IsForm r
IsForm (is_goal at l r) = Unit {0}
IsForm (less_goal at l r) = Unit {0}
IsForm (most_goal at l r) = Unit {0}
IsForm (head n args) = Unit {0}
IsForm (anything at) = ⊥
IsForm (int at z) = ⊥

pub weight_some : (r : Raw) → 1 ≤ weight r
weight_some (truth at) = omega arith
weight_some (erasure at) = omega arith
weight_some (braces at r) = omega arith
weight_some (universal at n r) = omega arith
weight_some (existential at n r) = omega arith
weight_some (load at m args r) = omega arith
weight_some (binary o at l r) = omega arith
weight_some (is_goal at l r) = omega arith
weight_some (less_goal at l r) = omega arith
weight_some (most_goal at l r) = omega arith
weight_some (head n args) = omega arith
weight_some (anything at) = omega arith
weight_some (int at z) = omega arith

-- one more at the end
pub weights-then : (rs : RawList) (r : Raw) → weights (raws_then rs r) ≡ weights rs + weight r
weights-then none r = omega arith
weights-then (more x rs) r = let e = weights-then rs r in omega arith

-- ---- terms

mutual
  light_term : (t : Term) → weight (term_raw t) ≤ length (term_tokens t)
  light_term (of_app a) = light_app a
  light_term (cons a at t) = let i = light_app a in let j = light_term t in omega (arith, length-append (app_tokens a) (cons_sign at ∷ term_tokens t))

  light_app : (a : App) → weight (app_raw a) ≤ length (app_tokens a)
  light_app (applied w ss) = let i = light_simples ss in omega arith
  light_app (app_any at) = omega arith
  light_app (app_number n at) = omega arith
  light_app (app_bracket at t end) = let i = light_term t in omega (arith, length-append (term_tokens t) (paren_right end ∷ []))

  light_simple : (s : Simple) → weight (simple_raw s) ≤ length (simple_tokens s)
  light_simple (simple_word w) = omega arith
  light_simple (simple_any at) = omega arith
  light_simple (simple_number n at) = omega arith
  light_simple (simple_bracket at t end) = let i = light_term t in omega (arith, length-append (term_tokens t) (paren_right end ∷ []))

  light_simples : (ss : Simples) → weights (simples_raws ss) ≤ length (simples_tokens ss)
  light_simples no_more = omega arith
  light_simples (and_then ss s) =
      let i = light_simples ss in let j = light_simple s in omega (
        arith,
        weights-then (simples_raws ss) (simple_raw s),
        length-append (simples_tokens ss) (simple_tokens s),
      )

-- ---- expressions of whole numbers

light_plain : (x : Plain) → weight (plain_raw x) ≡ 1
light_plain (plain_word w) = refl
light_plain (plain_any at) = refl
light_plain (plain_number z at) = refl

mutual
  light_expr : (e : Expr) → weight (expr_raw e) ≤ length (expr_tokens e)
  light_expr (of_product p) = light_product p
  light_expr (adds e o at p) =
      let i = light_expr e in let j = light_product p in omega (arith, length-append (expr_tokens e) (add_token o at ∷ product_tokens p))

  light_product : (p : Product) → weight (product_raw p) ≤ length (product_tokens p)
  light_product (of_item x) = light_item x
  light_product (multiplies p at x) =
      let i = light_product p in let j = light_item x in omega (arith, length-append (product_tokens p) (star_sign at ∷ item_tokens x))

  light_item : (x : Item) → weight (item_raw x) ≤ length (item_tokens x)
  light_item (item_plain x) = let i = light_plain x in omega arith
  light_item (item_bracket at e end) = let i = light_expr e in omega (arith, length-append (expr_tokens e) (paren_right end ∷ []))

light_first : (f : First) → weight (first_raw f) ≤ length (first_tokens f)
light_first (first_plain x) = let i = light_plain x in omega arith
light_first (first_times f at x) =
    let i = light_first f in let j = light_item x in omega (arith, length-append (first_tokens f) (star_sign at ∷ item_tokens x))

light_lead : (l : Lead) → weight (lead_raw l) ≤ length (lead_tokens l)
light_lead (of_first f) = light_first f
light_lead (lead_adds l o at p) =
    let i = light_lead l in let j = light_product p in omega (arith, length-append (lead_tokens l) (add_token o at ∷ product_tokens p))

-- ---- formulas

-- the raw tree of a formula with these tokens
pub record IsLight (r : Raw) (ts : List Tok) : Type 0 where
  pub form : IsForm r
  pub light : weight r ≤ length ts

mutual
  light_formula : {o : Bool} → (f : Formula o) → IsLight (formula_raw f) (formula_tokens f)
  light_formula (of_arrow a) = light_arrow a
  light_formula (clause f c at a) =
      let i = light_formula f in let j = light_arrow a in
      record { form = (i.form, j.form); light = omega (arith, i.light, j.light, length-append (formula_tokens f) (clause_token c at ∷ arrow_tokens a)) }

  light_arrow : {o : Bool} → (a : Arrow o) → IsLight (arrow_raw a) (arrow_tokens a)
  light_arrow (of_sum s) = light_sum s
  light_arrow (implies s c at a) =
      let i = light_sum s in let j = light_arrow a in
      record { form = (i.form, j.form); light = omega (arith, i.light, j.light, length-append (sum_tokens s) (arrow_token c at ∷ arrow_tokens a)) }
  light_arrow (loads n ss at a) =
      let i = light_simples ss in let j = light_arrow a in
      record { form = j.form; light = omega (arith, i, j.light, length-append (simples_tokens ss) (load_arrow at ∷ arrow_tokens a)) }

  light_sum : {o : Bool} → (s : Sum o) → IsLight (sum_raw s) (sum_tokens s)
  light_sum (of_with w) = light_with w
  light_sum (plus w at s) =
      let i = light_with w in let j = light_sum s in
      record { form = (i.form, j.form); light = omega (arith, i.light, j.light, length-append (with_tokens w) (semicolon at ∷ sum_tokens s)) }

  light_with : {o : Bool} → (w : With o) → IsLight (with_raw w) (with_tokens w)
  light_with (of_tensor t) = light_tensor t
  light_with (with t at w) =
      let i = light_tensor t in let j = light_with w in
      record { form = (i.form, j.form); light = omega (arith, i.light, j.light, length-append (tensor_tokens t) (ampersand at ∷ with_tokens w)) }

  light_tensor : {o : Bool} → (t : Tensor o) → IsLight (tensor_raw t) (tensor_tokens t)
  light_tensor (of_primary p) = light_primary p
  light_tensor (times p at t) =
      let i = light_primary p in let j = light_tensor t in
      record { form = (i.form, j.form); light = omega (arith, i.light, j.light, length-append (primary_tokens p) (comma at ∷ tensor_tokens t)) }

  light_primary : {o : Bool} → (p : Primary o) → IsLight (primary_raw p) (primary_tokens p)
  light_primary (truly at) = record { form = tt; light = omega arith }
  light_primary (erased at) = record { form = tt; light = omega arith }
  light_primary (bracket at f end) =
      let i = light_formula f in record { form = i.form; light = omega (arith, i.light, length-append (formula_tokens f) (paren_right end ∷ [])) }
  light_primary (brace at f end) =
      let i = light_formula f in record { form = i.form; light = omega (arith, i.light, length-append (formula_tokens f) (brace_right end ∷ [])) }
  light_primary (quantified quantifier.Forall at w slash f) = let i = light_formula f in record { form = i.form; light = omega (arith, i.light) }
  light_primary (quantified quantifier.Exists at w slash f) = let i = light_formula f in record { form = i.form; light = omega (arith, i.light) }
  light_primary (atom w ss) = let i = light_simples ss in record { form = tt; light = omega arith }
  light_primary (valued x at e) = let i = light_plain x in let j = light_expr e in record { form = tt; light = omega arith }
  light_primary (tested l by_less at e) =
      let i = light_lead l in let j = light_expr e in record { form = tt; light = omega (arith, length-append (lead_tokens l) (less_sign at ∷ expr_tokens e)) }
  light_primary (tested l by_most at e) =
      let i = light_lead l in let j = light_expr e in record { form = tt; light = omega (arith, length-append (lead_tokens l) (most_sign at ∷ expr_tokens e)) }

-- ---- clauses, modules, programs

-- the raw tree of a formula with so many nodes at most
pub record IsSmall (most : ℕ) (r : Raw) : Type 0 where
  pub form : IsForm r
  pub light : weight r ≤ most

small_of : (most : ℕ) (r : Raw) (ts : List Tok) → IsLight r ts → length ts ≤ most → IsSmall most r
small_of most r ts l le = record { form = l.form; light = omega (arith, l.light) }

abbrev pub AreSmall : ℕ → List ClauseTree → Type 0
AreSmall most [] = Unit {0}
AreSmall most (c ∷ cs) = IsSmall most c.form × AreSmall most cs

abbrev pub HaveSmall : ℕ → List ModuleTree → Type 0
HaveSmall most [] = Unit {0}
HaveSmall most (m ∷ ms) = AreSmall most m.clauses × HaveSmall most ms

small_clause : (most : ℕ) (c : Clause) → length (clause_tokens c) ≤ most → IsSmall most (clause_tree c).form
small_clause most (plain f end) le = small_of most (formula_raw f) (formula_tokens f) (light_formula f)
    (omega (arith, length-append (formula_tokens f) (dot end ∷ [])))
small_clause most (linear at f end) le = small_of most (formula_raw f) (formula_tokens f) (light_formula f)
    (omega (arith, length-append (formula_tokens f) (dot end ∷ [])))

small_clauses : (most : ℕ) (cs : List Clause) → length (clauses_tokens cs) ≤ most → AreSmall most (map clause_tree cs)
small_clauses most [] le = tt
small_clauses most (c ∷ cs) le =
    let e = length-append (clause_tokens c) (clauses_tokens cs) in (small_clause most c (omega arith), small_clauses most cs (omega arith))

small_modules : (most : ℕ) (ms : List Module) → length (modules_tokens ms) ≤ most → HaveSmall most (map module_tree ms)
small_modules most [] le = tt
small_modules most (m ∷ ms) le =
    let e = length-append (module_tokens m) (modules_tokens ms) in
    let h = length-append (heading_tokens m.heading) (locals_tokens m.locals ++ clauses_tokens m.clauses) in
    let l = length-append (locals_tokens m.locals) (clauses_tokens m.clauses) in
    (small_clauses most m.clauses (omega arith), small_modules most ms (omega arith))

-- a whole program is small
pub record IsSmallProgram (most : ℕ) (p : ProgramTree) : Type 0 where
  pub clauses : AreSmall most p.clauses
  pub modules : HaveSmall most p.modules

pub small_program : (tree : ProgramTree) → IsWhole programs tree → IsSmallProgram 16777216 tree
small_program tree (ts, few, spelled, ((p, e, f), within)) =
    let le : length (program_tokens p) ≤ 16777216 = subst (λ z. length z ≤ 16777216) (sym e) few in
    let l = length-append (clauses_tokens p.clauses) (modules_tokens p.modules) in
    subst (IsSmallProgram 16777216) f
    (record { clauses = small_clauses 16777216 p.clauses (omega arith); modules = small_modules 16777216 p.modules (omega arith) })

-- and so is a whole query
pub small_query : (tree : Raw) → IsWhole queries tree → IsSmall 16777216 tree
small_query tree (ts, few, spelled, ((q, e, f), within)) = subst (IsSmall 16777216) f (by q (subst (λ z. length z ≤ 16777216) (sym e) few))
  where
    by : (q : Query) → length (query_tokens q) ≤ 16777216 → IsSmall 16777216 (query_tree q)
    by (bare g) le = small_of 16777216 (formula_raw g) (formula_tokens g) (light_formula g) le
    by (dotted g end) le = small_of 16777216 (formula_raw g) (formula_tokens g) (light_formula g) (let a = length-append (formula_tokens g) (dot end ∷ []) in
        omega arith)

-- ---- all nodes of a program

light_clause : (c : Clause) → weight (clause_tree c).form ≤ length (clause_tokens c)
light_clause (plain f end) = omega (arith, (light_formula f).light, length-append (formula_tokens f) (dot end ∷ []))
light_clause (linear at f end) = omega (arith, (light_formula f).light, length-append (formula_tokens f) (dot end ∷ []))

light_clauses : (cs : List Clause) → clauses_weight (map clause_tree cs) ≤ length (clauses_tokens cs)
light_clauses [] = omega arith
light_clauses (c ∷ cs) = let i = light_clause c in let j = light_clauses cs in omega (arith, length-append (clause_tokens c) (clauses_tokens cs))

light_modules : (ms : List Module) → modules_weight (map module_tree ms) ≤ length (modules_tokens ms)
light_modules [] = omega arith
light_modules (m ∷ ms) =
    let i = light_clauses m.clauses in let j = light_modules ms in
    let e = length-append (module_tokens m) (modules_tokens ms) in
    let h = length-append (heading_tokens m.heading) (locals_tokens m.locals ++ clauses_tokens m.clauses) in
    let l = length-append (locals_tokens m.locals) (clauses_tokens m.clauses) in
    omega arith

-- a whole program has no more nodes than tokens
pub few_nodes : (tree : ProgramTree) → IsWhole programs tree → clauses_weight tree.clauses + modules_weight tree.modules ≤ 16777216
few_nodes tree (ts, few, spelled, ((p, e, f), within)) =
    let le : length (program_tokens p) ≤ 16777216 = subst (λ z. length z ≤ 16777216) (sym e) few in
    let l = length-append (clauses_tokens p.clauses) (modules_tokens p.modules) in
    let i = light_clauses p.clauses in let j = light_modules p.modules in
    subst (λ z. clauses_weight z.clauses + modules_weight z.modules ≤ 16777216) f
    (let k : clauses_weight (map clause_tree p.clauses) + modules_weight (map module_tree p.modules) ≤ 16777216 = omega arith in k)
