-- Raw trees that can be printed: those of the grammar, whose names and numbers can stand in a text. What is read is of this form.
use Rattle.std.proofs.Common.{◌≡◌, ◌≤◌, Bool, true, false, List, [], ◌∷◌, ◌++◌, length, codes, ◌⊎◌, inl, inr, FitsSigned, refl, sym, subst}
use Rattle.std.specs.Int.{w64}
use Rattle.std.specs.List.{AllByRecursion}
use Rattle.std.proofs.lemmas.Slice.Eq.{bytes_eq-Decides}
use Rattle.ll_lexer.specs.declared.Place.{Place}
use Rattle.ll_lexer.specs.declared.TokenKind.TheVariants as kind
use Rattle.ll_lexer.specs.Spelling.{Spells, kind_of, fixed_spellings}
use Rattle.ll_parser.specs.declared.Quantifier.{Quantifier}
use Rattle.ll_parser.specs.declared.Quantifier.TheVariants as quantifier
use Rattle.ll_parser.specs.Tokens.{Identifier, Tok, paren_right, brace_right, cons_sign, comma, ampersand, semicolon, load_arrow, backslash, IsSpelled}
use Rattle.ll_parser.specs.Tokens.{less_sign, most_sign}
use Rattle.ll_parser.specs.Raw.{Raw, truth, erasure, braces, universal, existential, load, binary, head, anything, int, RawList, none, more, raws_then}
use Rattle.ll_parser.specs.Raw.{is_goal, less_goal, most_goal}
use Rattle.ll_parser.specs.Grammar.{Word, lower, upper, Term, of_app, cons, App, applied, app_any, app_number, app_bracket, Simple, simple_word, simple_any}
use Rattle.ll_parser.specs.Grammar.{simple_number, simple_bracket, Simples, no_more, and_then, Formula, of_arrow, clause, Arrow, of_sum, implies, loads, Sum}
use Rattle.ll_parser.specs.Grammar.{of_with, plus, With, of_tensor, with, Tensor, of_primary, times, Primary, truly, erased, bracket, brace, quantified, atom}
use Rattle.ll_parser.specs.Grammar.{word_token, word_identifier, clause_token, arrow_token, term_tokens, app_tokens, simple_tokens, simples_tokens}
use Rattle.ll_parser.specs.Grammar.{formula_tokens, arrow_tokens, sum_tokens, with_tokens, tensor_tokens, primary_tokens, term_raw, app_raw, simple_raw}
use Rattle.ll_parser.specs.Grammar.{simples_raws, quantifier_raw, formula_raw, arrow_raw, sum_raw, with_raw, tensor_raw, primary_raw, Plain, Expr, Lead}
use Rattle.ll_parser.specs.Grammar.{valued, tested, by_less, by_most, plain_token, expr_tokens, lead_tokens, plain_raw, expr_raw, lead_raw}
use Rattle.ll_parser.specs.Printed.{is_cons}

-- a Name that can stand in a text, and a Variable
abbrev pub IsLower : Identifier → Type 0
IsLower n = Spells kind.Name n.text × (length n.text ≤ 255)

abbrev pub IsUpper : Identifier → Type 0
IsUpper n = Spells kind.Variable n.text × (length n.text ≤ 255)

abbrev pub IsWord : Identifier → Type 0
IsWord n = IsLower n ⊎ IsUpper n

-- a head is a word, or the sign `::` with two arguments
abbrev pub HasShape : Identifier → RawList → Type 0
HasShape n rs = IsWord n ⊎ ((n.text ≡ codes "::") × (x : Raw) × (y : Raw) × (rs ≡ more x (more y none)))

abbrev mutual
  pub IsTerm : Raw → Type 0
  IsTerm (head n rs) = HasShape n rs × AreTerms rs
  IsTerm (anything at) = Unit {0}
  IsTerm (int at z) = FitsSigned w64 z
  IsTerm (truth at) = ⊥
  IsTerm (erasure at) = ⊥
  IsTerm (braces at g) = ⊥
  IsTerm (universal at n g) = ⊥
  IsTerm (existential at n g) = ⊥
  IsTerm (load at n rs g) = ⊥
  IsTerm (binary o at l r) = ⊥
  IsTerm (is_goal at l r) = ⊥
  IsTerm (less_goal at l r) = ⊥
  IsTerm (most_goal at l r) = ⊥

  pub AreTerms : RawList → Type 0
  AreTerms none = Unit {0}
  AreTerms (more r rs) = IsTerm r × AreTerms rs

-- all tokens can stand in a text
abbrev pub Spelled : List Tok → Type 0
Spelled ts = AllByRecursion IsSpelled ts

-- Whole-number goals stand on both sides of their signs what the grammar has there. So no sign is the head of an argument, the left
-- side of `is` is a plain term, and the left side of a comparison does not begin with a bracket.
abbrev pub IsPlainTerm : Raw → Type 0
IsPlainTerm r = (x : Plain) × Spelled (plain_token x ∷ []) × (plain_raw x ≡ r)

abbrev pub IsExpr : Raw → Type 0
IsExpr r = (e : Expr) × Spelled (expr_tokens e) × (expr_raw e ≡ r)

abbrev pub IsLead : Raw → Type 0
IsLead r = (l : Lead) × Spelled (lead_tokens l) × (lead_raw l ≡ r)

abbrev pub IsFormula : Raw → Type 0
IsFormula (truth at) = Unit {0}
IsFormula (erasure at) = Unit {0}
IsFormula (braces at g) = IsFormula g
IsFormula (universal at n g) = IsWord n × IsFormula g
IsFormula (existential at n g) = IsWord n × IsFormula g
IsFormula (load at n rs g) = IsLower n × AreTerms rs × IsFormula g
IsFormula (binary o at l r) = IsFormula l × IsFormula r
IsFormula (head n rs) = IsWord n × AreTerms rs
IsFormula (anything at) = ⊥
IsFormula (int at z) = ⊥
IsFormula (is_goal at l r) = IsPlainTerm l × IsExpr r
IsFormula (less_goal at l r) = IsLead l × IsExpr r
IsFormula (most_goal at l r) = IsLead l × IsExpr r

-- ---- what is known of words

cons-no-word : Spells kind.Name (codes "::") ⊎ Spells kind.Variable (codes "::") → ⊥
unfolding kind_of fixed_spellings
cons-no-word (inl h) = cc
cons-no-word (inr h) = cc

-- a word is spelled as a name or as a variable
pub word_spells : (n : Identifier) → IsWord n → Spells kind.Name n.text ⊎ Spells kind.Variable n.text
word_spells n (inl s) = inl s.0
word_spells n (inr s) = inr s.0

-- a word is not the sign `::`
pub word-no-cons : (n : Identifier) → IsWord n → is_cons n.text ≡ false
word-no-cons n h = by_test (is_cons n.text) refl
  where
    by_test : (v : Bool) → is_cons n.text ≡ v → v ≡ false
    by_test true e =
        absurd (cons-no-word (subst (λ w. Spells kind.Name w ⊎ Spells kind.Variable w) (sym ((bytes_eq-Decides (codes "::") n.text).0 e)) (word_spells n h)))
    by_test false e = refl

-- ---- what is read of tokens that can stand in a text

pub spelled-split : (xs ys : List Tok) → Spelled (xs ++ ys) → Spelled xs × Spelled ys
spelled-split [] ys h = (tt, h)
spelled-split (x ∷ xs) ys h = let k = spelled-split xs ys h.1 in ((h.0, k.0), k.1)

pub spelled-join : (xs ys : List Tok) → Spelled xs → Spelled ys → Spelled (xs ++ ys)
spelled-join [] ys h k = k
spelled-join (x ∷ xs) ys h k = (h.0, spelled-join xs ys h.1 k)

word-spelled : (w : Word) (ts : List Tok) → Spelled (word_token w ∷ ts) → IsWord (word_identifier w)
word-spelled (lower n) ts h = inl h.0
word-spelled (upper n) ts h = inr h.0

terms-then : (rs : RawList) (r : Raw) → AreTerms rs → IsTerm r → AreTerms (raws_then rs r)
terms-then none r h k = (k, tt)
terms-then (more x rs) r h k = (h.0, terms-then rs r h.1 k)

mutual
  term-printable : (t : Term) → Spelled (term_tokens t) → IsTerm (term_raw t)
  term-printable (of_app a) h = app-printable a h
  term-printable (cons a at t) h =
      let k = spelled-split (app_tokens a) (cons_sign at ∷ term_tokens t) h in
      (inr (refl, app_raw a, term_raw t, refl), (app-printable a k.0, (term-printable t k.1.1, tt)))

  app-printable : (a : App) → Spelled (app_tokens a) → IsTerm (app_raw a)
  app-printable (applied (lower n) ss) h = (inl (inl h.0), simples-printable ss h.1)
  app-printable (applied (upper n) ss) h = (inl (inr h.0), simples-printable ss h.1)
  app-printable (app_any at) h = tt
  app-printable (app_number z at) h = h.0
  app-printable (app_bracket at t end) h = term-printable t (spelled-split (term_tokens t) (paren_right end ∷ []) h.1).0

  simple-printable : (s : Simple) → Spelled (simple_tokens s) → IsTerm (simple_raw s)
  simple-printable (simple_word (lower n)) h = (inl (inl h.0), tt)
  simple-printable (simple_word (upper n)) h = (inl (inr h.0), tt)
  simple-printable (simple_any at) h = tt
  simple-printable (simple_number z at) h = h.0
  simple-printable (simple_bracket at t end) h = term-printable t (spelled-split (term_tokens t) (paren_right end ∷ []) h.1).0

  simples-printable : (ss : Simples) → Spelled (simples_tokens ss) → AreTerms (simples_raws ss)
  simples-printable no_more h = tt
  simples-printable (and_then ss s) h =
      let k = spelled-split (simples_tokens ss) (simple_tokens s) h in
      terms-then (simples_raws ss) (simple_raw s) (simples-printable ss k.0) (simple-printable s k.1)

quantified-printable : (q : Quantifier) (at : Place) (w : Word) (r : Raw) → IsWord (word_identifier w) → IsFormula r
    → IsFormula (quantifier_raw q at (word_identifier w) r)
quantified-printable quantifier.Forall at w r h k = (h, k)
quantified-printable quantifier.Exists at w r h k = (h, k)

mutual
  pub formula-printable : {o : Bool} (f : Formula o) → Spelled (formula_tokens f) → IsFormula (formula_raw f)
  formula-printable (of_arrow a) h = arrow-printable a h
  formula-printable (clause f c at a) h =
      let k = spelled-split (formula_tokens f) (clause_token c at ∷ arrow_tokens a) h in (formula-printable f k.0, arrow-printable a k.1.1)

  arrow-printable : {o : Bool} (a : Arrow o) → Spelled (arrow_tokens a) → IsFormula (arrow_raw a)
  arrow-printable (of_sum s) h = sum-printable s h
  arrow-printable (implies s c at a) h =
      let k = spelled-split (sum_tokens s) (arrow_token c at ∷ arrow_tokens a) h in (sum-printable s k.0, arrow-printable a k.1.1)
  arrow-printable (loads n ss at a) h =
      let k = spelled-split (simples_tokens ss) (load_arrow at ∷ arrow_tokens a) h.1 in (h.0, simples-printable ss k.0, arrow-printable a k.1.1)

  sum-printable : {o : Bool} (s : Sum o) → Spelled (sum_tokens s) → IsFormula (sum_raw s)
  sum-printable (of_with w) h = with-printable w h
  sum-printable (plus w at s) h =
      let k = spelled-split (with_tokens w) (semicolon at ∷ sum_tokens s) h in (with-printable w k.0, sum-printable s k.1.1)

  with-printable : {o : Bool} (w : With o) → Spelled (with_tokens w) → IsFormula (with_raw w)
  with-printable (of_tensor t) h = tensor-printable t h
  with-printable (with t at w) h =
      let k = spelled-split (tensor_tokens t) (ampersand at ∷ with_tokens w) h in (tensor-printable t k.0, with-printable w k.1.1)

  tensor-printable : {o : Bool} (t : Tensor o) → Spelled (tensor_tokens t) → IsFormula (tensor_raw t)
  tensor-printable (of_primary p) h = primary-printable p h
  tensor-printable (times p at t) h =
      let k = spelled-split (primary_tokens p) (comma at ∷ tensor_tokens t) h in (primary-printable p k.0, tensor-printable t k.1.1)

  primary-printable : {o : Bool} (p : Primary o) → Spelled (primary_tokens p) → IsFormula (primary_raw p)
  primary-printable (truly at) h = tt
  primary-printable (erased at) h = tt
  primary-printable (bracket at f end) h = formula-printable f (spelled-split (formula_tokens f) (paren_right end ∷ []) h.1).0
  primary-printable (brace at f end) h = formula-printable f (spelled-split (formula_tokens f) (brace_right end ∷ []) h.1).0
  primary-printable (quantified q at w slash f) h = quantified-printable q at w (formula_raw f) (word-spelled w (backslash slash ∷ formula_tokens f) h.1)
      (formula-printable f h.1.1.1)
  primary-printable (atom w ss) h = (word-spelled w (simples_tokens ss) h, simples-printable ss h.1)
  primary-printable (valued x at e) h = ((x, (h.0, tt), refl), (e, h.1.1, refl))
  primary-printable (tested l by_less at e) h = let k = spelled-split (lead_tokens l) (less_sign at ∷ expr_tokens e) h in ((l, k.0, refl), (e, k.1.1, refl))
  primary-printable (tested l by_most at e) h = let k = spelled-split (lead_tokens l) (most_sign at ∷ expr_tokens e) h in ((l, k.0, refl), (e, k.1.1, refl))
