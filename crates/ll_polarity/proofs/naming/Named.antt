-- The names of whole texts have texts, so their numbers are those of names.
use Rattle.std.proofs.Common.{◌≡◌, ℕ, ◌<◌, ◌≤◌, Bool, true, false, ltb, List, [], ◌∷◌, ◌++◌, map, length, ◌⊎◌, inl, inr, refl, sym, subst, ap, arith}
use Rattle.std.specs.List.{AllByRecursion}
use Rattle.std.proofs.lemmas.List.Elements.{All-from_recursion, recursion_from_All}
use Rattle.std.proofs.lemmas.Bool.Decides.{Decides-ltb}
use Rattle.std.proofs.lemmas.List.{get_or_past}
use Rattle.ll_lexer.specs.declared.TokenKind.TheVariants as kind
use Rattle.ll_lexer.specs.Spelling.{Spells, kind_of, fixed_spellings}
use Rattle.ll_parser.specs.declared.Named.{Named}
use Rattle.ll_parser.specs.declared.SumOp.{SumOp}
use Rattle.ll_parser.specs.declared.SumOp.TheVariants.{Plus as by_plus, Minus as by_minus}
use Rattle.ll_parser.specs.Tokens.{Identifier, IsSpelled, dot, paren_right, star_sign}
use Rattle.ll_parser.specs.Raw.{Raw, truth, erasure, braces, universal, existential, load, binary, is_goal, less_goal, most_goal, head, anything, int, RawList}
use Rattle.ll_parser.specs.Raw.{none, more, ClauseTree, ProgramTree}
use Rattle.ll_parser.specs.Grammar.{lower, upper, Plain, plain_word, plain_any, plain_number, Expr, of_product, adds, Product, of_item, multiplies, Item}
use Rattle.ll_parser.specs.Grammar.{item_plain, item_bracket, First, first_plain, first_times, Lead, of_first, lead_adds, add_token, add_sign, plain_token}
use Rattle.ll_parser.specs.Grammar.{expr_tokens, product_tokens, item_tokens, first_tokens, lead_tokens, plain_raw, expr_raw, product_raw, item_raw, first_raw}
use Rattle.ll_parser.specs.Grammar.{lead_raw, formula_tokens, formula_raw}
use Rattle.ll_parser.specs.Text.{Clause, plain, linear, Local, Module, Query, bare, dotted, names, variables, clause_tokens, local_tokens, locals_tokens}
use Rattle.ll_parser.specs.Text.{heading_tokens, clauses_tokens, module_tokens, modules_tokens, program_tokens, query_tokens, clause_tree, locals_of}
use Rattle.ll_parser.specs.Text.{module_tree, query_tree, programs, queries}
use Rattle.ll_parser.specs.Reads.{IsWhole}
use Rattle.ll_parser.specs.Nodes.{identifier}
use Rattle.ll_parser.proofs.CallerLemmas.{IsLower, IsUpper, IsWord, IsTerm, AreTerms, IsPlainTerm, IsExpr, IsLead, IsFormula, Spelled, spelled-split}
use Rattle.ll_parser.proofs.CallerLemmas.{formula-printable}
use Rattle.ll_polarity.proofs.naming.Binders.{not_below}
use Rattle.ll_polarity.specs.Named.{HasText, IsNamed, AreNamed, IsModuleNamed, IsProgramNamed}

-- ---- numbers

-- a number past the names has no text
pub number-within : (texts : List (List ℕ)) (n : Named) → HasText (identifier texts n) → n.name < length texts
number-within texts n h = by (ltb n.name (length texts)) refl
  where
    by : (b : Bool) → ltb n.name (length texts) ≡ b → n.name < length texts
    by true q = (Decides-ltb n.name (length texts)).0 q
    by false q =
        let past : length texts ≤ n.name = not_below n.name (length texts) q in let e = ap length (get_or_past texts n.name [] past) in
        absurd (let l : 0 < 0 = omega (arith, h, e) in omega arith)

-- ---- words

no_text : Spells kind.Name [] ⊎ Spells kind.Variable [] → ⊥
unfolding kind_of fixed_spellings
no_text (inl h) = cc
no_text (inr h) = cc

some_text : (w : List ℕ) → Spells kind.Name w ⊎ Spells kind.Variable w → 0 < length w
some_text [] h = absurd (no_text h)
some_text (b ∷ bs) h = omega arith

lower_text : (n : Identifier) → IsLower n → HasText n
lower_text n h = some_text n.text (inl h.0)

upper_text : (n : Identifier) → IsUpper n → HasText n
upper_text n h = some_text n.text (inr h.0)

word_text : (n : Identifier) → IsWord n → HasText n
word_text n (inl h) = lower_text n h
word_text n (inr h) = upper_text n h

-- ---- terms and formulas

mutual
  term_named : (r : Raw) → IsTerm r → IsNamed r
  term_named (head n rs) (inl w, h) = (word_text n w, terms_named rs h)
  term_named (head n rs) (inr w, h) = (subst (λ t. 0 < length t) (sym w.0) (let l : 0 < 2 = omega arith in l), terms_named rs h)
  term_named (anything at) h = tt
  term_named (int at z) h = tt
  term_named (truth at) h = absurd h
  term_named (erasure at) h = absurd h
  term_named (braces at g) h = absurd h
  term_named (universal at n g) h = absurd h
  term_named (existential at n g) h = absurd h
  term_named (load at n rs g) h = absurd h
  term_named (binary o at l r) h = absurd h
  term_named (is_goal at l r) h = absurd h
  term_named (less_goal at l r) h = absurd h
  term_named (most_goal at l r) h = absurd h

  terms_named : (rs : RawList) → AreTerms rs → AreNamed rs
  terms_named none h = tt
  terms_named (more r rs) h = (term_named r h.0, terms_named rs h.1)

-- ---- expressions

plain_named : (x : Plain) → Spelled (plain_token x ∷ []) → IsNamed (plain_raw x)
plain_named (plain_word (lower n)) h = (lower_text n h.0, tt)
plain_named (plain_word (upper n)) h = (upper_text n h.0, tt)
plain_named (plain_any at) h = tt
plain_named (plain_number z at) h = tt

sum_text : (o : SumOp) → 0 < length (add_sign o)
sum_text by_plus = let l : 0 < 1 = omega arith in l
sum_text by_minus = let l : 0 < 1 = omega arith in l

mutual
  expr_named : (e : Expr) → Spelled (expr_tokens e) → IsNamed (expr_raw e)
  expr_named (of_product p) h = product_named p h
  expr_named (adds e o at p) h = let k = spelled-split (expr_tokens e) (add_token o at ∷ product_tokens p) h in
      (sum_text o, (expr_named e k.0, (product_named p k.1.1, tt)))

  product_named : (p : Product) → Spelled (product_tokens p) → IsNamed (product_raw p)
  product_named (of_item x) h = item_named x h
  product_named (multiplies p at x) h =
      let k = spelled-split (product_tokens p) (star_sign at ∷ item_tokens x) h in
      ((let l : 0 < 1 = omega arith in l), (product_named p k.0, (item_named x k.1.1, tt)))

  item_named : (x : Item) → Spelled (item_tokens x) → IsNamed (item_raw x)
  item_named (item_plain x) h = plain_named x h
  item_named (item_bracket at e end) h = expr_named e (spelled-split (expr_tokens e) (paren_right end ∷ []) h.1).0

first_named : (f : First) → Spelled (first_tokens f) → IsNamed (first_raw f)
first_named (first_plain x) h = plain_named x h
first_named (first_times f at x) h =
    let k = spelled-split (first_tokens f) (star_sign at ∷ item_tokens x) h in
    ((let l : 0 < 1 = omega arith in l), (first_named f k.0, (item_named x k.1.1, tt)))

lead_named : (l : Lead) → Spelled (lead_tokens l) → IsNamed (lead_raw l)
lead_named (of_first f) h = first_named f h
lead_named (lead_adds l o at p) h = let k = spelled-split (lead_tokens l) (add_token o at ∷ product_tokens p) h in
    (sum_text o, (lead_named l k.0, (product_named p k.1.1, tt)))

plain_term_named : (r : Raw) → IsPlainTerm r → IsNamed r
plain_term_named r (x, s, e) = subst IsNamed e (plain_named x s)

side_named : (r : Raw) → IsExpr r → IsNamed r
side_named r (x, s, e) = subst IsNamed e (expr_named x s)

left_side_named : (r : Raw) → IsLead r → IsNamed r
left_side_named r (x, s, e) = subst IsNamed e (lead_named x s)

formula_named : (r : Raw) → IsFormula r → IsNamed r
formula_named (truth at) h = tt
formula_named (erasure at) h = tt
formula_named (braces at g) h = formula_named g h
formula_named (universal at n g) h = (word_text n h.0, formula_named g h.1)
formula_named (existential at n g) h = (word_text n h.0, formula_named g h.1)
formula_named (load at n rs g) h = (lower_text n h.0, terms_named rs h.1, formula_named g h.2)
formula_named (binary o at l r) h = (formula_named l h.0, formula_named r h.1)
formula_named (is_goal at l r) h = (plain_term_named l h.0, side_named r h.1)
formula_named (less_goal at l r) h = (left_side_named l h.0, side_named r h.1)
formula_named (most_goal at l r) h = (left_side_named l h.0, side_named r h.1)
formula_named (head n rs) h = (word_text n h.0, terms_named rs h.1)
formula_named (anything at) h = absurd h
formula_named (int at z) h = absurd h

-- ---- clauses, modules, programs

abbrev pub ClauseNamed : ClauseTree → Type 0
ClauseNamed c = IsNamed c.form

clause_named : (c : Clause) → Spelled (clause_tokens c) → ClauseNamed (clause_tree c)
clause_named (plain f end) h = formula_named (formula_raw f) (formula-printable f (spelled-split (formula_tokens f) (dot end ∷ []) h).0)
clause_named (linear at f end) h = formula_named (formula_raw f) (formula-printable f (spelled-split (formula_tokens f) (dot end ∷ []) h.1).0)

clauses_named : (cs : List Clause) → Spelled (clauses_tokens cs) → AllByRecursion ClauseNamed (map clause_tree cs)
clauses_named [] h = tt
clauses_named (c ∷ cs) h = let k = spelled-split (clause_tokens c) (clauses_tokens cs) h in (clause_named c k.0, clauses_named cs k.1)

names_named : (ns : List Identifier) → Spelled (names ns) → AllByRecursion HasText ns
names_named [] h = tt
names_named (n ∷ ns) h = (lower_text n h.0, names_named ns h.1)

variables_named : (ns : List Identifier) → Spelled (variables ns) → AllByRecursion HasText ns
variables_named [] h = tt
variables_named (n ∷ ns) h = (upper_text n h.0, variables_named ns h.1)

both_named : (xs ys : List Identifier) → AllByRecursion HasText xs → AllByRecursion HasText ys → AllByRecursion HasText (xs ++ ys)
both_named [] ys h k = k
both_named (x ∷ xs) ys h k = (h.0, both_named xs ys h.1 k)

locals_named : (ls : List Local) → Spelled (locals_tokens ls) → AllByRecursion HasText (locals_of ls)
locals_named [] h = tt
locals_named (l ∷ ls) h =
    let k = spelled-split (local_tokens l) (locals_tokens ls) h in
    let o = (spelled-split (names l.others) (dot l.end ∷ []) k.0.1.1).0 in
    (lower_text l.first k.0.1.0, both_named l.others (locals_of ls) (names_named l.others o) (locals_named ls k.1))

module_named : (m : Module) → Spelled (module_tokens m) → IsModuleNamed (module_tree m)
module_named m h =
    let k = spelled-split (heading_tokens m.heading) (locals_tokens m.locals ++ clauses_tokens m.clauses) h in
    let j = spelled-split (locals_tokens m.locals) (clauses_tokens m.clauses) k.1 in
    let v = (spelled-split (variables m.heading.params) (dot m.heading.end ∷ []) k.0.1.1).0 in
    record {
      name = lower_text m.heading.name k.0.1.0;
      params = All-from_recursion HasText m.heading.params (variables_named m.heading.params v);
      locals = All-from_recursion HasText (locals_of m.locals) (locals_named m.locals j.0);
      clauses = All-from_recursion ClauseNamed (map clause_tree m.clauses) (clauses_named m.clauses j.1);
    }

modules_named : (ms : List Module) → Spelled (modules_tokens ms) → AllByRecursion IsModuleNamed (map module_tree ms)
modules_named [] h = tt
modules_named (m ∷ ms) h = let k = spelled-split (module_tokens m) (modules_tokens ms) h in (module_named m k.0, modules_named ms k.1)

-- each name of a whole program has a text
pub whole_program_named : (p : ProgramTree) → IsWhole programs p → IsProgramNamed p
whole_program_named tree (ts, few, spelled, ((p, e, f), within)) =
    let s : Spelled (program_tokens p) = subst Spelled (sym e) (recursion_from_All IsSpelled ts spelled) in
    let k = spelled-split (clauses_tokens p.clauses) (modules_tokens p.modules) s in
    subst IsProgramNamed f (record {
      clauses = All-from_recursion ClauseNamed (map clause_tree p.clauses) (clauses_named p.clauses k.0);
      modules = All-from_recursion IsModuleNamed (map module_tree p.modules) (modules_named p.modules k.1);
    })

-- and of a whole query
pub whole_query_named : (r : Raw) → IsWhole queries r → IsNamed r
whole_query_named r (ts, few, spelled, ((q, e, f), within)) = subst IsNamed f (by q (subst Spelled (sym e) (recursion_from_All IsSpelled ts spelled)))
  where
    by : (q : Query) → Spelled (query_tokens q) → IsNamed (query_tree q)
    by (bare g) h = formula_named (formula_raw g) (formula-printable g h)
    by (dotted g end) h = formula_named (formula_raw g) (formula-printable g (spelled-split (formula_tokens g) (dot end ∷ []) h).0)
