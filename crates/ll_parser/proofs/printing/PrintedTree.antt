-- The parse tree that is printed of a raw tree: brackets stand exactly where the levels or a quantifier ask for them.
use Rattle.std.specs.Prelude.{ℕ, Bool, true, false, if◌then◌else◌, codes, List, [], ◌∷◌, map}
use Rattle.ll_lexer.specs.declared.Place.{Place}
use Rattle.ll_lexer.specs.Spelling.{is_name}
use Rattle.ll_parser.specs.declared.Op.TheVariants as op
use Rattle.ll_parser.specs.declared.Quantifier.TheVariants as quantifier
use Rattle.ll_parser.specs.Tokens.{Identifier}
use Rattle.ll_parser.specs.Raw.{Raw, truth, erasure, braces, universal, existential, load, binary, head, anything, int, RawList, none, more, ClauseTree}
use Rattle.ll_parser.specs.Raw.{ModuleTree, ProgramTree, is_goal, less_goal, most_goal}
use Rattle.ll_parser.specs.Grammar.{Word, lower, upper, Term, of_app, cons, App, applied, app_any, app_number, app_bracket, Simple, simple_word, simple_any}
use Rattle.ll_parser.specs.Grammar.{simple_number, simple_bracket, Simples, no_more, and_then, by_colon, by_left, by_lolli, by_right, Formula, of_arrow}
use Rattle.ll_parser.specs.Grammar.{clause, Arrow, of_sum, implies, loads, Sum, of_with, plus, With, of_tensor, with, Tensor, of_primary, times, Primary}
use Rattle.ll_parser.specs.Grammar.{truly, erased, bracket, brace, quantified, atom, formula_raw, arrow_raw, sum_raw, with_raw, tensor_raw, primary_raw, Plain}
use Rattle.ll_parser.specs.Grammar.{plain_word, plain_any, plain_number, Expr, of_product, adds, Product, of_item, multiplies, Item, item_plain, item_bracket}
use Rattle.ll_parser.specs.Grammar.{First, first_plain, first_times, Lead, of_first, lead_adds, valued, tested, by_plus, by_minus, by_less, by_most, SumOp}
use Rattle.ll_parser.specs.Printed.{is_cons, is_star}
use Rattle.ll_parser.specs.Text.{Clause, plain, linear, Local, Module, Program}
use Rattle.std.specs.Str.{bytes_eq}

-- the place of tokens that a raw tree does not keep
abbrev pub somewhere : Place
somewhere = record { line = 1; column = 1 }

-- a name by its text: a Name or a Variable
abbrev pub word_of : Identifier → Word
word_of n = if is_name n.text then lower n else upper n

-- ---- terms

-- left of `::` a term of this form stands in brackets, and an application does not
abbrev pub to_app : Term → App
to_app (of_app a) = a
to_app (cons a at t) = app_bracket somewhere (cons a at t) somewhere

-- an argument that has arguments, or is of the form `::`, stands in brackets
abbrev pub to_simple : Term → Simple
to_simple (of_app (applied w no_more)) = simple_word w
to_simple (of_app (applied w (and_then ss s))) = simple_bracket somewhere (of_app (applied w (and_then ss s))) somewhere
to_simple (of_app (app_any at)) = simple_any at
to_simple (of_app (app_number z at)) = simple_number z at
to_simple (of_app (app_bracket at t end)) = simple_bracket at t end
to_simple (cons a at t) = simple_bracket somewhere (cons a at t) somewhere

-- a head of two arguments whose text is `::`, or any other head
abbrev pub pick : Bool → Identifier → List Term → Simples → Term
pick true n (a ∷ b ∷ []) ss = cons (to_app a) n.at b
pick _ n ts ss = of_app (applied (word_of n) ss)

-- the term that is printed, and the arguments
abbrev mutual
  pub term_of : Raw → Term
  term_of (head n rs) = pick (is_cons n.text) n (terms_of rs) (simples_of no_more rs)
  term_of (anything at) = of_app (app_any at)
  term_of (int at z) = of_app (app_number z at)
  term_of (truth at) = of_app (app_any at)
  term_of (erasure at) = of_app (app_any at)
  term_of (braces at g) = of_app (app_any at)
  term_of (universal at n g) = of_app (app_any at)
  term_of (existential at n g) = of_app (app_any at)
  term_of (load at n rs g) = of_app (app_any at)
  term_of (binary o at l r) = of_app (app_any at)
  term_of (is_goal at l r) = of_app (app_any at)
  term_of (less_goal at l r) = of_app (app_any at)
  term_of (most_goal at l r) = of_app (app_any at)

  pub terms_of : RawList → List Term
  terms_of none = []
  terms_of (more r rs) = term_of r ∷ terms_of rs

  pub simples_of : Simples → RawList → Simples
  simples_of acc none = acc
  simples_of acc (more r rs) = simples_of (and_then acc (to_simple (term_of r))) rs

-- the arguments of a head
abbrev pub arguments_of : RawList → Simples
arguments_of rs = simples_of no_more rs

-- ---- expressions of whole numbers

-- a plain term
abbrev pub plain_of : Raw → Plain
plain_of (head n rs) = plain_word (word_of n)
plain_of (int at z) = plain_number z at
plain_of (anything at) = plain_any at
plain_of _ = plain_any somewhere

abbrev pub of_plain : Plain → Expr
of_plain x = of_product (of_item (item_plain x))

-- what stands on the right of `+` and `-`, or on the left of `*`; and what stands on the right of `*`
abbrev pub to_product : Expr → Product
to_product (of_product p) = p
to_product (adds e o at p) = of_item (item_bracket somewhere (adds e o at p) somewhere)

abbrev pub to_item : Expr → Item
to_item (of_product (of_item x)) = x
to_item (of_product (multiplies p at x)) = item_bracket somewhere (of_product (multiplies p at x)) somewhere
to_item (adds e o at p) = item_bracket somewhere (adds e o at p) somewhere

-- the sign of a sum, by its text
abbrev pub sum_op : List ℕ → SumOp
sum_op w = if bytes_eq (codes "+") w then by_plus else by_minus

-- a product, or a sum
abbrev pub operated : Bool → SumOp → Place → Expr → Expr → Expr
operated true o at x y = of_product (multiplies (to_product x) at (to_item y))
operated false o at x y = adds x o at (to_product y)

-- the expression that is printed
abbrev mutual
  pub expr_of : Raw → Expr
  expr_of (head n rs) = sides_of n rs
  expr_of (int at z) = of_plain (plain_number z at)
  expr_of (anything at) = of_plain (plain_any at)
  expr_of _ = of_plain (plain_any somewhere)

  pub sides_of : Identifier → RawList → Expr
  sides_of n (more x (more y none)) = operated (is_star n.text) (sum_op n.text) n.at (expr_of x) (expr_of y)
  sides_of n _ = of_plain (plain_word (word_of n))

-- what stands on the left of `*` in a left side, where no sum stands
abbrev pub to_first : Lead → First
to_first (of_first f) = f
to_first (lead_adds l o at p) = to_first l

abbrev pub lead_operated : Bool → SumOp → Place → Lead → Expr → Lead
lead_operated true o at l y = of_first (first_times (to_first l) at (to_item y))
lead_operated false o at l y = lead_adds l o at (to_product y)

-- the left side of a comparison that is printed
abbrev mutual
  pub lead_of : Raw → Lead
  lead_of (head n rs) = lead_sides n rs
  lead_of (int at z) = of_first (first_plain (plain_number z at))
  lead_of (anything at) = of_first (first_plain (plain_any at))
  lead_of _ = of_first (first_plain (plain_any somewhere))

  pub lead_sides : Identifier → RawList → Lead
  lead_sides n (more x (more y none)) = lead_operated (is_star n.text) (sum_op n.text) n.at (lead_of x) (expr_of y)
  lead_sides n _ = of_first (first_plain (plain_word (word_of n)))

-- ---- formulas

-- a form at its own level
pub data Any : Bool → Type 0 where
  at_formula : {o : Bool} → Formula o → Any o
  at_arrow : {o : Bool} → Arrow o → Any o
  at_sum : {o : Bool} → Sum o → Any o
  at_with : {o : Bool} → With o → Any o
  at_tensor : {o : Bool} → Tensor o → Any o
  at_primary : {o : Bool} → Primary o → Any o

-- a form behind which nothing stands, or a token that closes it; the Bool says whether its end is open
pub data Last : Type 0 where
  last : (o : Bool) → Any o → Last

-- the raw tree of a form
abbrev pub any_raw : {o : Bool} → Any o → Raw
any_raw (at_formula f) = formula_raw f
any_raw (at_arrow a) = arrow_raw a
any_raw (at_sum s) = sum_raw s
any_raw (at_with w) = with_raw w
any_raw (at_tensor t) = tensor_raw t
any_raw (at_primary p) = primary_raw p

abbrev pub last_raw : Last → Raw
last_raw (last o a) = any_raw a

-- a form as a formula
abbrev pub to_formula : {o : Bool} → Any o → Formula o
to_formula (at_formula f) = f
to_formula (at_arrow a) = of_arrow a
to_formula (at_sum s) = of_arrow (of_sum s)
to_formula (at_with w) = of_arrow (of_sum (of_with w))
to_formula (at_tensor t) = of_arrow (of_sum (of_with (of_tensor t)))
to_formula (at_primary p) = of_arrow (of_sum (of_with (of_tensor (of_primary p))))

-- a form in brackets, behind which a bracket closes it
abbrev pub in_parens : Last → Primary false
in_parens (last o a) = bracket somewhere (to_formula a) somewhere

-- ---- an operand that an operator follows: one that is too loose is put in brackets

-- what stands on the right of `-o`, `=>` and `-->`, or on the right of `:-` and `<=`
abbrev pub to_arrow : Any false → Last → Arrow false
to_arrow (at_formula x) e = of_sum (of_with (of_tensor (of_primary (in_parens e))))
to_arrow (at_arrow x) e = x
to_arrow (at_sum x) e = of_sum x
to_arrow (at_with x) e = of_sum (of_with x)
to_arrow (at_tensor x) e = of_sum (of_with (of_tensor x))
to_arrow (at_primary x) e = of_sum (of_with (of_tensor (of_primary x)))

-- what stands on the left of `-o` and `=>`, or on the right of `;`
abbrev pub to_sum : Any false → Last → Sum false
to_sum (at_formula x) e = of_with (of_tensor (of_primary (in_parens e)))
to_sum (at_arrow x) e = of_with (of_tensor (of_primary (in_parens e)))
to_sum (at_sum x) e = x
to_sum (at_with x) e = of_with x
to_sum (at_tensor x) e = of_with (of_tensor x)
to_sum (at_primary x) e = of_with (of_tensor (of_primary x))

-- what stands on the left of `;`, or on the right of `&`
abbrev pub to_with : Any false → Last → With false
to_with (at_formula x) e = of_tensor (of_primary (in_parens e))
to_with (at_arrow x) e = of_tensor (of_primary (in_parens e))
to_with (at_sum x) e = of_tensor (of_primary (in_parens e))
to_with (at_with x) e = x
to_with (at_tensor x) e = of_tensor x
to_with (at_primary x) e = of_tensor (of_primary x)

-- what stands on the left of `&`, or on the right of `,`
abbrev pub to_tensor : Any false → Last → Tensor false
to_tensor (at_formula x) e = of_primary (in_parens e)
to_tensor (at_arrow x) e = of_primary (in_parens e)
to_tensor (at_sum x) e = of_primary (in_parens e)
to_tensor (at_with x) e = of_primary (in_parens e)
to_tensor (at_tensor x) e = x
to_tensor (at_primary x) e = of_primary x

-- what stands on the left of `,`
abbrev pub to_primary : Any false → Last → Primary false
to_primary (at_formula x) e = in_parens e
to_primary (at_arrow x) e = in_parens e
to_primary (at_sum x) e = in_parens e
to_primary (at_with x) e = in_parens e
to_primary (at_tensor x) e = in_parens e
to_primary (at_primary x) e = x

-- ---- an operand that is the last one: its end may be open, unless it is put in brackets

-- the same places, and whether the end of what stands there is open
abbrev pub arrow_open : Last → Bool
arrow_open (last o (at_formula x)) = false
arrow_open (last o (at_arrow x)) = o
arrow_open (last o (at_sum x)) = o
arrow_open (last o (at_with x)) = o
arrow_open (last o (at_tensor x)) = o
arrow_open (last o (at_primary x)) = o

abbrev pub last_arrow : (e : Last) → Arrow (arrow_open e)
last_arrow (last o (at_formula x)) = of_sum (of_with (of_tensor (of_primary (in_parens (last o (at_formula x))))))
last_arrow (last o (at_arrow x)) = x
last_arrow (last o (at_sum x)) = of_sum x
last_arrow (last o (at_with x)) = of_sum (of_with x)
last_arrow (last o (at_tensor x)) = of_sum (of_with (of_tensor x))
last_arrow (last o (at_primary x)) = of_sum (of_with (of_tensor (of_primary x)))

abbrev pub sum_open : Last → Bool
sum_open (last o (at_formula x)) = false
sum_open (last o (at_arrow x)) = false
sum_open (last o (at_sum x)) = o
sum_open (last o (at_with x)) = o
sum_open (last o (at_tensor x)) = o
sum_open (last o (at_primary x)) = o

abbrev pub last_sum : (e : Last) → Sum (sum_open e)
last_sum (last o (at_formula x)) = of_with (of_tensor (of_primary (in_parens (last o (at_formula x)))))
last_sum (last o (at_arrow x)) = of_with (of_tensor (of_primary (in_parens (last o (at_arrow x)))))
last_sum (last o (at_sum x)) = x
last_sum (last o (at_with x)) = of_with x
last_sum (last o (at_tensor x)) = of_with (of_tensor x)
last_sum (last o (at_primary x)) = of_with (of_tensor (of_primary x))

abbrev pub with_open : Last → Bool
with_open (last o (at_formula x)) = false
with_open (last o (at_arrow x)) = false
with_open (last o (at_sum x)) = false
with_open (last o (at_with x)) = o
with_open (last o (at_tensor x)) = o
with_open (last o (at_primary x)) = o

abbrev pub last_with : (e : Last) → With (with_open e)
last_with (last o (at_formula x)) = of_tensor (of_primary (in_parens (last o (at_formula x))))
last_with (last o (at_arrow x)) = of_tensor (of_primary (in_parens (last o (at_arrow x))))
last_with (last o (at_sum x)) = of_tensor (of_primary (in_parens (last o (at_sum x))))
last_with (last o (at_with x)) = x
last_with (last o (at_tensor x)) = of_tensor x
last_with (last o (at_primary x)) = of_tensor (of_primary x)

abbrev pub tensor_open : Last → Bool
tensor_open (last o (at_formula x)) = false
tensor_open (last o (at_arrow x)) = false
tensor_open (last o (at_sum x)) = false
tensor_open (last o (at_with x)) = false
tensor_open (last o (at_tensor x)) = o
tensor_open (last o (at_primary x)) = o

abbrev pub last_tensor : (e : Last) → Tensor (tensor_open e)
last_tensor (last o (at_formula x)) = of_primary (in_parens (last o (at_formula x)))
last_tensor (last o (at_arrow x)) = of_primary (in_parens (last o (at_arrow x)))
last_tensor (last o (at_sum x)) = of_primary (in_parens (last o (at_sum x)))
last_tensor (last o (at_with x)) = of_primary (in_parens (last o (at_with x)))
last_tensor (last o (at_tensor x)) = x
last_tensor (last o (at_primary x)) = of_primary x

abbrev pub formula_open : Last → Bool
formula_open (last o a) = o

abbrev pub last_formula : (e : Last) → Formula (formula_open e)
last_formula (last o a) = to_formula a

-- ---- formulas that are printed

-- a quantified formula that an operator follows stands in brackets
abbrev pub in_brackets : {o : Bool} → Primary o → Any false
in_brackets p = at_primary (bracket somewhere (of_arrow (of_sum (of_with (of_tensor (of_primary p))))) somewhere)

-- the formula that is printed: `followed` where an operator stands behind it, `ending` where nothing or a token that closes does
abbrev mutual
  pub followed : Raw → Any false
  followed (truth at) = at_primary (truly at)
  followed (erasure at) = at_primary (erased at)
  followed (braces at g) = at_primary (brace at (last_formula (ending g)) somewhere)
  followed (universal at n g) = in_brackets (quantified quantifier.Forall at (word_of n) somewhere (last_formula (ending g)))
  followed (existential at n g) = in_brackets (quantified quantifier.Exists at (word_of n) somewhere (last_formula (ending g)))
  followed (load at n rs g) = at_arrow (loads n (arguments_of rs) at (to_arrow (followed g) (ending g)))
  followed (binary op.ColonDash at l r) = at_formula (clause (to_formula (followed l)) by_colon at (to_arrow (followed r) (ending r)))
  followed (binary op.LeftArrow at l r) = at_formula (clause (to_formula (followed l)) by_left at (to_arrow (followed r) (ending r)))
  followed (binary op.Lolli at l r) = at_arrow (implies (to_sum (followed l) (ending l)) by_lolli at (to_arrow (followed r) (ending r)))
  followed (binary op.RightArrow at l r) = at_arrow (implies (to_sum (followed l) (ending l)) by_right at (to_arrow (followed r) (ending r)))
  followed (binary op.Plus at l r) = at_sum (plus (to_with (followed l) (ending l)) at (to_sum (followed r) (ending r)))
  followed (binary op.With at l r) = at_with (with (to_tensor (followed l) (ending l)) at (to_with (followed r) (ending r)))
  followed (binary op.Tensor at l r) = at_tensor (times (to_primary (followed l) (ending l)) at (to_tensor (followed r) (ending r)))
  followed (head n rs) = at_primary (atom (word_of n) (arguments_of rs))
  followed (anything at) = at_primary (truly at)
  followed (int at z) = at_primary (truly at)
  followed (is_goal at l r) = at_primary (valued (plain_of l) at (expr_of r))
  followed (less_goal at l r) = at_primary (tested (lead_of l) by_less at (expr_of r))
  followed (most_goal at l r) = at_primary (tested (lead_of l) by_most at (expr_of r))

  pub ending : Raw → Last
  ending (truth at) = last false (at_primary (truly at))
  ending (erasure at) = last false (at_primary (erased at))
  ending (braces at g) = last false (at_primary (brace at (last_formula (ending g)) somewhere))
  ending (universal at n g) = last true (at_primary (quantified quantifier.Forall at (word_of n) somewhere (last_formula (ending g))))
  ending (existential at n g) = last true (at_primary (quantified quantifier.Exists at (word_of n) somewhere (last_formula (ending g))))
  ending (load at n rs g) = last (arrow_open (ending g)) (at_arrow (loads n (arguments_of rs) at (last_arrow (ending g))))
  ending (binary op.ColonDash at l r) = last (arrow_open (ending r)) (at_formula (clause (to_formula (followed l)) by_colon at (last_arrow (ending r))))
  ending (binary op.LeftArrow at l r) = last (arrow_open (ending r)) (at_formula (clause (to_formula (followed l)) by_left at (last_arrow (ending r))))
  ending (binary op.Lolli at l r) = last (arrow_open (ending r)) (at_arrow (implies (to_sum (followed l) (ending l)) by_lolli at (last_arrow (ending r))))
  ending (binary op.RightArrow at l r) = last (arrow_open (ending r)) (at_arrow (implies (to_sum (followed l) (ending l)) by_right at (last_arrow (ending r))))
  ending (binary op.Plus at l r) = last (sum_open (ending r)) (at_sum (plus (to_with (followed l) (ending l)) at (last_sum (ending r))))
  ending (binary op.With at l r) = last (with_open (ending r)) (at_with (with (to_tensor (followed l) (ending l)) at (last_with (ending r))))
  ending (binary op.Tensor at l r) = last (tensor_open (ending r)) (at_tensor (times (to_primary (followed l) (ending l)) at (last_tensor (ending r))))
  ending (head n rs) = last false (at_primary (atom (word_of n) (arguments_of rs)))
  ending (anything at) = last false (at_primary (truly at))
  ending (int at z) = last false (at_primary (truly at))
  ending (is_goal at l r) = last false (at_primary (valued (plain_of l) at (expr_of r)))
  ending (less_goal at l r) = last false (at_primary (tested (lead_of l) by_less at (expr_of r)))
  ending (most_goal at l r) = last false (at_primary (tested (lead_of l) by_most at (expr_of r)))

-- ---- programs

-- a clause, a module and a program as they are printed
abbrev pub printed_clause : ClauseTree → Clause
printed_clause c = if c.linear then linear somewhere (last_formula (ending c.form)) somewhere else plain (last_formula (ending c.form)) somewhere

-- one line `LOCAL` with all local constants, if there are any
abbrev pub printed_locals : List Identifier → List Local
printed_locals [] = []
printed_locals (n ∷ ns) = record { word = somewhere; first = n; others = ns; end = somewhere } ∷ []

abbrev pub printed_module : ModuleTree → Module
printed_module m = record {
  heading = record { word = somewhere; name = m.name; params = m.params; end = somewhere };
  locals = printed_locals m.locals;
  clauses = map printed_clause m.clauses;
}

abbrev pub printed_program : ProgramTree → Program
printed_program p = record { clauses = map printed_clause p.clauses; modules = map printed_module p.modules }
