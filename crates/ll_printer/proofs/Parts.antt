-- Formulas part by part.
use Rattle.std.proofs.Common.{◌≡◌, ℕ, suc, ◌+◌, ◌*◌, ◌<◌, ◌≤◌, Bool, true, false, ◌&&◌, ◌||◌, cond, eqb, not, List, [], ◌∷◌, ◌++◌, length, All, refl, ap, sym}
use Rattle.std.proofs.Common.{subst, ◌∙◌, arith, append_assoc, codes, to_z, of_z, w64}
use Rattle.std.specs.Prelude.{ℤ, FitsSigned}
use Rattle.std.specs.Fmt.{signed_decimal}
use Rattle.std.proofs.lemmas.Int.{to_z-of_z}
use Rattle.std.proofs.lemmas.Bool.{ne_eqb, eqb-true, and_parts}
use Rattle.std.proofs.lemmas.List.{append-nil}
use Rattle.std.proofs.lemmas.List.Elements.{All-head, All-tail}
use Rattle.ll_lexer.specs.declared.Place.{Place}
use Rattle.ll_parser.specs.declared.Named.{Named}
use Rattle.ll_parser.specs.declared.Op.{Op}
use Rattle.ll_parser.specs.declared.Op.TheVariants as op
use Rattle.ll_parser.specs.declared.RawAt.{RawAt}
use Rattle.ll_parser.specs.Tokens.{Identifier}
use Rattle.ll_parser.specs.Raw.{Raw, truth, erasure, braces, universal, existential, load, binary, is_goal, less_goal, most_goal, head, anything, int, RawList}
use Rattle.ll_parser.specs.Raw.{none, more}
use Rattle.ll_parser.specs.Nodes.{Node, identifier, raw_at, raws_in, raw_trees}
use Rattle.ll_parser.specs.Seen.{places}
use Rattle.ll_parser.specs.Printed.{Rank, clauses, left_rank, right_rank, op_bytes, between, bracketed, is_cons, is_pair, has_arguments, head_text, term_text}
use Rattle.ll_parser.specs.Printed.{arguments_text, pair_text, is_add, is_star, is_sum, is_product, left_encloses, right_encloses, expr_text, formula_text}
use Rattle.ll_printer.specs.declared.formulas.Level.{Level}
use Rattle.ll_printer.specs.declared.formulas.Level.TheVariants as level
use Rattle.ll_printer.specs.declared.formulas.Word.{Word}
use Rattle.ll_printer.specs.declared.formulas.Word.TheVariants as word
use Rattle.ll_printer.specs.declared.formulas.Part.{Part}
use Rattle.ll_printer.specs.declared.formulas.Part.TheVariants as part
use Rattle.ll_printer.specs.Pieces.{BeginsText}
use Rattle.ll_printer.specs.Parts.{rank_of, word_text, needs_brackets, inner_text, part_text, parts_text, raw_size, raws_size, part_weight, parts_weight}
use Rattle.ll_printer.specs.Parts.{HasPart, AreParts, argument_parts, head_parts, operator_text, operand_parts, sides_parts, expression_parts, PushesParts}
use Rattle.ll_printer.specs.Parts.{PartMoves, IsWriting}

-- ---- texts on their way

pub writing-begins : (text start : List ℕ) → IsWriting text start start text
writing-begins text start = record { written = []; is = sym (append-nil start); rest = refl }

pub writing-on : (text start now next todo written : List ℕ) → IsWriting text start now (written ++ todo) → next ≡ now ++ written
    → IsWriting text start next todo
writing-on text start now next todo written w e = record {
  written = w.written ++ written;
  is = e ∙ (ap (λ u. u ++ written) w.is ∙ append_assoc start w.written written);
  rest = w.rest ∙ sym (append_assoc w.written written todo);
}

pub writing-refused : (text start now next todo whole : List ℕ) → IsWriting text start now (whole ++ todo) → BeginsText whole now next
    → BeginsText text start next
writing-refused text start now next todo whole w b = record {
  written = w.written ++ b.written;
  rest = b.rest ++ todo;
  is = b.is ∙ (ap (λ u. u ++ b.written) w.is ∙ append_assoc start w.written b.written);
  begun = w.rest ∙ (ap (λ u. w.written ++ (u ++ todo)) b.begun
      ∙ (ap (λ u. w.written ++ u) (append_assoc b.written b.rest todo) ∙ sym (append_assoc w.written b.written (b.rest ++ todo))));
}

pub writing-stops : (text start now next todo : List ℕ) → IsWriting text start now todo → next ≡ now → BeginsText text start next
writing-stops text start now next todo w e = record { written = w.written; rest = todo; is = e ∙ w.is; begun = w.rest }

pub writing-ends : (text start now : List ℕ) → IsWriting text start now [] → now ≡ start ++ text
writing-ends text start now w = w.is ∙ ap (λ u. start ++ u) (sym (w.rest ∙ append-nil w.written))

pub writing-last : (text start now next last : List ℕ) → IsWriting text start now last → next ≡ now ++ last → next ≡ start ++ text
writing-last text start now next last w e =
    writing-ends text start next (writing-on text start now next [] last (subst (IsWriting text start now) (sym (append-nil last)) w) e)

-- ---- the operators of expressions

pub sum-is : (r : Raw) → is_sum r ≡ is_add (operator_text r)
sum-is (head n none) = refl
sum-is (head n (more x none)) = refl
sum-is (head n (more x (more y none))) = refl
sum-is (head n (more x (more y (more z rs)))) = refl
sum-is _ = refl

pub product-is : (r : Raw) → is_product r ≡ is_star (operator_text r)
product-is (head n none) = refl
product-is (head n (more x none)) = refl
product-is (head n (more x (more y none))) = refl
product-is (head n (more x (more y (more z rs)))) = refl
product-is _ = refl

pub left-encloses-is : (w s o : List ℕ) (r : Raw) (v : Bool) → s ≡ w → o ≡ operator_text r → v ≡ (is_star s && is_add o) → v ≡ left_encloses w r
left-encloses-is w s o r v se oe e = e ∙ ((λ i. is_star (se i) && is_add (oe i)) ∙ ap (λ b. is_star w && b) (sym (sum-is r)))

pub right-encloses-is : (w s o : List ℕ) (r : Raw) (v : Bool) → s ≡ w → o ≡ operator_text r → v ≡ (is_add o || (is_star s && is_star o))
    → v ≡ right_encloses w r
right-encloses-is w s o r v se oe e =
    e ∙ ((λ i. is_add (oe i) || (is_star (se i) && is_star (oe i)))
    ∙ (ap (λ b. b || (is_star w && is_star (operator_text r))) (sym (sum-is r)) ∙ ap (λ b. is_sum r || (is_star w && b)) (sym (product-is r))))

-- ---- the stack

size-positive : (t : Raw) → 1 ≤ raw_size t
size-positive (truth at) = omega arith
size-positive (erasure at) = omega arith
size-positive (braces at g) = omega arith
size-positive (universal at n g) = omega arith
size-positive (existential at n g) = omega arith
size-positive (load at n rs g) = omega arith
size-positive (binary o at l r) = omega arith
size-positive (is_goal at l r) = omega arith
size-positive (less_goal at l r) = omega arith
size-positive (most_goal at l r) = omega arith
size-positive (head n rs) = omega arith
size-positive (anything at) = omega arith
size-positive (int at z) = omega arith

module _ (names : List (List ℕ)) (nodes : List Node) where
  pub parts_text-append : (xs ys : List Part) (rest : List ℕ)
      → parts_text names nodes (xs ++ ys) rest ≡ parts_text names nodes ys (parts_text names nodes xs rest)
  parts_text-append [] ys rest = refl
  parts_text-append (x ∷ xs) ys rest = parts_text-append xs ys (part_text names nodes x ++ rest)

  pub parts_weight-append : (xs ys : List Part) → parts_weight names nodes (xs ++ ys) ≡ parts_weight names nodes xs + parts_weight names nodes ys
  parts_weight-append [] ys = omega arith
  parts_weight-append (x ∷ xs) ys = let e = parts_weight-append xs ys in omega arith

  pub parts-append : (xs ys : List Part) → AreParts nodes xs → AreParts nodes ys → AreParts nodes (xs ++ ys)
  parts-append [] ys a b = b
  parts-append (x ∷ xs) ys a b = (a.0, parts-append xs ys a.1 b)

  pub parts-first : (xs ys : List Part) → AreParts nodes (xs ++ ys) → AreParts nodes xs
  parts-first [] ys a = tt
  parts-first (x ∷ xs) ys a = (a.0, parts-first xs ys a.1)

  pub parts-last : (xs ys : List Part) → AreParts nodes (xs ++ ys) → AreParts nodes ys
  parts-last [] ys a = a
  parts-last (x ∷ xs) ys a = parts-last xs ys a.1

  -- arguments on it
  pub arguments-text : (args : List RawAt) (rest : List ℕ) → parts_text names nodes (argument_parts args) rest
      ≡ arguments_text (raws_in (raw_trees names nodes) (places args)) ++ rest
  arguments-text [] rest = refl
  arguments-text (a ∷ args) rest =
      parts_text-append (argument_parts args) (part.Argument a ∷ []) rest
      ∙ (ap (λ u. part_text names nodes (part.Argument a) ++ u) (arguments-text args rest)
      ∙ sym (append_assoc (part_text names nodes (part.Argument a)) (arguments_text (raws_in (raw_trees names nodes) (places args))) rest)
      ∙ ap (λ u. u ++ rest) (append_assoc (codes " ") (bracketed (has_arguments (raw_at names nodes a.0)) (term_text (raw_at names nodes a.0)))
      (arguments_text (raws_in (raw_trees names nodes) (places args)))))

  pub arguments-weight : (args : List RawAt) → parts_weight names nodes (argument_parts args) ≤ 8 * raws_size (raws_in (raw_trees names nodes) (places args))
  arguments-weight [] = omega arith
  arguments-weight (a ∷ args) =
      let e = parts_weight-append (argument_parts args) (part.Argument a ∷ []) in let f = arguments-weight args in omega arith

  pub arguments-inside : (args : List RawAt) (at : ℕ) → at ≤ length nodes → All (λ (a : RawAt). a.0 < at) args → AreParts nodes (argument_parts args)
  arguments-inside [] at l h = tt
  arguments-inside (a ∷ args) at l h =
      parts-append (argument_parts args) (part.Argument a ∷ []) (arguments-inside args at l (All-tail (λ (b : RawAt). b.0 < at) a args h))
      ((let x = All-head (λ (b : RawAt). b.0 < at) a args h in let y : a.0 < length nodes = omega arith in y), tt)

  -- ---- one step

  -- what a part leaves, where its tree begins so
  pub leaves-inside : (at : RawAt) (f : Bool) (old new qs : List Part) (t : Raw) → raw_at names nodes at.0 ≡ t → new ≡ old ++ qs
      → ((rest : List ℕ) → parts_text names nodes qs rest ≡ inner_text f t ++ rest)
      → AreParts nodes qs → parts_weight names nodes qs < 8 * raw_size t → PushesParts names nodes (part.Inside at f) old new
  leaves-inside at f old new qs t is e same inside lighter = record {
    left = qs;
    is = e;
    same = λ rest. same rest ∙ ap (λ r. inner_text f r ++ rest) (sym is);
    inside = inside;
    lighter = subst (λ r. parts_weight names nodes qs < 8 * raw_size r) (sym is) lighter;
  }

  pub leaves-term : (at : RawAt) (old new qs : List Part) (t : Raw) → raw_at names nodes at.0 ≡ t → new ≡ old ++ qs
      → ((rest : List ℕ) → parts_text names nodes qs rest ≡ term_text t ++ rest)
      → AreParts nodes qs → parts_weight names nodes qs < 8 * raw_size t → PushesParts names nodes (part.Term at) old new
  leaves-term at old new qs t is e same inside lighter = record {
    left = qs;
    is = e;
    same = λ rest. same rest ∙ ap (λ r. term_text r ++ rest) (sym is);
    inside = inside;
    lighter = subst (λ r. parts_weight names nodes qs < 8 * raw_size r) (sym is) lighter;
  }

  -- a word alone
  pub word-inside : (at : RawAt) (f : Bool) (old new : List Part) (t : Raw) (w : Word) → raw_at names nodes at.0 ≡ t → new ≡ old ++ part.Word w ∷ []
      → inner_text f t ≡ word_text w
      → PushesParts names nodes (part.Inside at f) old new
  word-inside at f old new t w is e same = leaves-inside at f old new (part.Word w ∷ []) t is e (λ rest. ap (λ u. u ++ rest) (sym same)) (tt, tt) (let s =
      size-positive t in omega arith)

  pub word-term : (at : RawAt) (old new : List Part) (t : Raw) → raw_at names nodes at.0 ≡ t → new ≡ old ++ part.Word word.Any ∷ [] → term_text t ≡ codes "_"
      → PushesParts names nodes (part.Term at) old new
  word-term at old new t is e same = leaves-term at old new (part.Word word.Any ∷ []) t is e (λ rest. ap (λ u. u ++ rest) (sym same)) (tt, tt) (let s =
      size-positive t in omega arith)

  -- with brackets round it, and without
  formula-is : (s : Rank) (f : Bool) (r : Raw) → formula_text s f r ≡ bracketed (needs_brackets s f r) (inner_text (cond (needs_brackets s f r) false f) r)
  formula-is s f (truth at) = refl
  formula-is s f (erasure at) = refl
  formula-is s f (braces at g) = refl
  formula-is s f (universal at n g) = refl
  formula-is s f (existential at n g) = refl
  formula-is s f (load at n rs g) = refl
  formula-is s f (binary o at l r) = refl
  formula-is s f (is_goal at l r) = refl
  formula-is s f (less_goal at l r) = refl
  formula-is s f (most_goal at l r) = refl
  formula-is s f (head n rs) = refl
  formula-is s f (anything at) = refl
  formula-is s f (int at z) = refl

  pub leaves-bracketed : (at : RawAt) (l : Level) (f : Bool) (old new : List Part) → at.0 < length nodes
      → needs_brackets (rank_of l) f (raw_at names nodes at.0) ≡ true
      → new ≡ old ++ (part.Word word.Close ∷ part.Inside at false ∷ part.Word word.Open ∷ []) → PushesParts names nodes (part.Formula at l f) old new
  leaves-bracketed at l f old new h b e =
      let r : Raw = raw_at names nodes at.0 in
      record {
        left = part.Word word.Close ∷ part.Inside at false ∷ part.Word word.Open ∷ [];
        is = e;
        same = λ rest. ap (λ u. codes "(" ++ u) (sym (append_assoc (inner_text false r) (codes ")") rest))
            ∙ ap (λ u. u ++ rest) (sym (formula-is (rank_of l) f r ∙ ap (λ x. bracketed x (inner_text (cond x false f) r)) b));
        inside = (tt, (h, (tt, tt)));
        lighter = omega arith;
      }

  pub leaves-plain : (at : RawAt) (l : Level) (f : Bool) (old new : List Part) → at.0 < length nodes
      → needs_brackets (rank_of l) f (raw_at names nodes at.0) ≡ false
      → new ≡ old ++ part.Inside at f ∷ [] → PushesParts names nodes (part.Formula at l f) old new
  leaves-plain at l f old new h b e =
      let r : Raw = raw_at names nodes at.0 in
      record {
        left = part.Inside at f ∷ [];
        is = e;
        same = λ rest. ap (λ u. u ++ rest) (sym (formula-is (rank_of l) f r ∙ ap (λ x. bracketed x (inner_text (cond x false f) r)) b));
        inside = (h, tt);
        lighter = omega arith;
      }

  -- each kind of formula
  pub inside-braces : (at g : RawAt) (f : Bool) (p : Place) (old new : List Part) → at.0 < length nodes
      → raw_at names nodes at.0 ≡ braces p (raw_at names nodes g.0) → g.0 < at.0
      → new ≡ old ++ (part.Word word.CloseBrace ∷ part.Formula g level.Clauses false ∷ part.Word word.OpenBrace ∷ [])
      → PushesParts names nodes (part.Inside at f) old new
  inside-braces at g f p old new h is lt e =
      leaves-inside at f old new (part.Word word.CloseBrace ∷ part.Formula g level.Clauses false ∷ part.Word word.OpenBrace ∷ [])
      (braces p (raw_at names nodes g.0)) is e
      (λ rest. ap (λ u. codes "{" ++ u) (sym (append_assoc (formula_text clauses false (raw_at names nodes g.0)) (codes "}") rest)))
      (tt, ((let x : g.0 < length nodes = omega arith in x), (tt, tt))) (omega arith)

  pub inside-bound : (at g : RawAt) (f : Bool) (n : Named) (w : Word) (t : Raw) (old new : List Part) → at.0 < length nodes → raw_at names nodes at.0 ≡ t
      → g.0 < at.0
      → inner_text f t ≡ word_text w ++ ((identifier names n).text ++ (92 ∷ (codes " " ++ formula_text clauses false (raw_at names nodes g.0))))
      → raw_size t ≡ 1 + raw_size (raw_at names nodes g.0)
      → new ≡ old ++ (part.Formula g level.Clauses false ∷ part.Word word.Backslash ∷ part.Name n ∷ part.Word w ∷ [])
      → PushesParts names nodes (part.Inside at f) old new
  inside-bound at g f n w t old new h is lt text size e =
      let b : List ℕ = formula_text clauses false (raw_at names nodes g.0) in
      let m : List ℕ = (identifier names n).text in
      leaves-inside at f old new (part.Formula g level.Clauses false ∷ part.Word word.Backslash ∷ part.Name n ∷ part.Word w ∷ []) t is e
      (λ rest. sym (ap (λ u. u ++ rest) text ∙ (append_assoc (word_text w) (m ++ (92 ∷ (codes " " ++ b))) rest
      ∙ ap (λ u. word_text w ++ u) (append_assoc m (92 ∷ (codes " " ++ b)) rest))))
      ((let x : g.0 < length nodes = omega arith in x), (tt, (tt, (tt, tt)))) (omega arith)

  operator-text : (o : Op) (xs rest : List ℕ) → word_text (word.Operator o) ++ (xs ++ rest) ≡ between (op_bytes o) xs ++ rest
  operator-text op.ColonDash xs rest = refl
  operator-text op.LeftArrow xs rest = refl
  operator-text op.Lolli xs rest = refl
  operator-text op.RightArrow xs rest = refl
  operator-text op.Plus xs rest = refl
  operator-text op.With xs rest = refl
  operator-text op.Tensor xs rest = refl

  pub inside-binary : (at l r : RawAt) (o : Op) (ll rl : Level) (f : Bool) (p : Place) (old new : List Part) → at.0 < length nodes
      → raw_at names nodes at.0 ≡ binary o p (raw_at names nodes l.0) (raw_at names nodes r.0) → l.0 < at.0 → r.0 < at.0 → rank_of ll ≡ left_rank o
      → rank_of rl ≡ right_rank o
      → new ≡ old ++ (part.Formula r rl f ∷ part.Word (word.Operator o) ∷ part.Formula l ll true ∷ []) → PushesParts names nodes (part.Inside at f) old new
  inside-binary at l r o ll rl f p old new h is lt rt le re e =
      let x : Raw = raw_at names nodes l.0 in
      let y : Raw = raw_at names nodes r.0 in
      leaves-inside at f old new (part.Formula r rl f ∷ part.Word (word.Operator o) ∷ part.Formula l ll true ∷ []) (binary o p x y) is e
      (λ rest. ap (λ u. formula_text u true x ++ (word_text (word.Operator o) ++ (formula_text (rank_of rl) f y ++ rest))) le
      ∙ (ap (λ u. formula_text (left_rank o) true x ++ (word_text (word.Operator o) ++ (formula_text u f y ++ rest))) re
      ∙ (ap (λ u. formula_text (left_rank o) true x ++ u) (operator-text o (formula_text (right_rank o) f y) rest)
      ∙ sym (append_assoc (formula_text (left_rank o) true x) (between (op_bytes o) (formula_text (right_rank o) f y)) rest))))
      ((let a : r.0 < length nodes = omega arith in a), (tt, ((let b : l.0 < length nodes = omega arith in b), tt))) (omega arith)

  -- a whole-number goal, by its word
  pub inside-number : (at l r : RawAt) (w : Word) (f : Bool) (t : Raw) (old new : List Part) → at.0 < length nodes → raw_at names nodes at.0 ≡ t
      → (l.0 < at.0) × (r.0 < at.0)
      → inner_text f t ≡ expr_text (raw_at names nodes l.0) ++ (word_text w ++ expr_text (raw_at names nodes r.0))
      → raw_size t ≡ 1 + raw_size (raw_at names nodes l.0) + raw_size (raw_at names nodes r.0)
      → new ≡ old ++ (part.Expression r ∷ part.Word w ∷ part.Expression l ∷ []) → PushesParts names nodes (part.Inside at f) old new
  inside-number at l r w f t old new h is lt text size e =
      let x : List ℕ = expr_text (raw_at names nodes l.0) in
      let y : List ℕ = expr_text (raw_at names nodes r.0) in
      let a = lt.0 in let b = lt.1 in
      leaves-inside at f old new (part.Expression r ∷ part.Word w ∷ part.Expression l ∷ []) t is e
      (λ rest. sym (ap (λ u. u ++ rest) text ∙ (append_assoc x (word_text w ++ y) rest ∙ ap (λ u. x ++ u) (append_assoc (word_text w) y rest))))
      ((let c : r.0 < length nodes = omega arith in c), (tt, ((let c : l.0 < length nodes = omega arith in c), tt))) (omega arith)

  -- a name and its arguments
  name-text : (n : Named) (args : List RawAt) (rest : List ℕ) → parts_text names nodes (argument_parts args ++ part.Name n ∷ []) rest
      ≡ (identifier names n).text ++ (arguments_text (raws_in (raw_trees names nodes) (places args)) ++ rest)
  name-text n args rest = parts_text-append (argument_parts args) (part.Name n ∷ []) rest ∙ ap (λ u. (identifier names n).text ++ u) (arguments-text args rest)

  pub inside-head : (at : RawAt) (n : Named) (args : List RawAt) (f : Bool) (old new : List Part) → at.0 < length nodes
      → raw_at names nodes at.0 ≡ head (identifier names n) (raws_in (raw_trees names nodes) (places args)) → All (λ (a : RawAt). a.0 < at.0) args
      → new ≡ old ++ (argument_parts args ++ part.Name n ∷ []) → PushesParts names nodes (part.Inside at f) old new
  inside-head at n args f old new h is all e =
      let list : RawList = raws_in (raw_trees names nodes) (places args) in
      leaves-inside at f old new (argument_parts args ++ part.Name n ∷ []) (head (identifier names n) list) is e
      (λ rest. name-text n args rest ∙ sym (append_assoc (identifier names n).text (arguments_text list) rest))
      (parts-append (argument_parts args) (part.Name n ∷ []) (arguments-inside args at.0 (omega arith) all) (tt, tt))
      (let a = parts_weight-append (argument_parts args) (part.Name n ∷ []) in let b = arguments-weight args in omega arith)

  pub inside-load : (at g : RawAt) (n : Named) (args : List RawAt) (f : Bool) (p : Place) (old new : List Part) → at.0 < length nodes
      → raw_at names nodes at.0 ≡ load p (identifier names n) (raws_in (raw_trees names nodes) (places args)) (raw_at names nodes g.0)
      → All (λ (a : RawAt). a.0 < at.0) args → g.0 < at.0
      → new ≡ old ++ (part.Formula g level.Arrows f ∷ part.Word word.LoadArrow ∷ (argument_parts args ++ part.Name n ∷ []))
      → PushesParts names nodes (part.Inside at f) old new
  inside-load at g n args f p old new h is all lt e =
      let list : RawList = raws_in (raw_trees names nodes) (places args) in
      let b : List ℕ = formula_text (rank_of level.Arrows) f (raw_at names nodes g.0) in
      let m : List ℕ = (identifier names n).text in
      leaves-inside at f old new (part.Formula g level.Arrows f ∷ part.Word word.LoadArrow ∷ (argument_parts args ++ part.Name n ∷ []))
      (load p (identifier names n) list (raw_at names nodes g.0)) is e
      (λ rest. name-text n args (codes " --> " ++ (b ++ rest))
      ∙ (ap (λ u. m ++ u) (sym (append_assoc (arguments_text list) (between (codes "-->") b) rest))
      ∙ sym (append_assoc m (arguments_text list ++ between (codes "-->") b) rest))) (
        (let x : g.0 < length nodes = omega arith in x),
        (
          tt,
          parts-append (argument_parts args) (part.Name n ∷ []) (arguments-inside args at.0 (omega arith) all) (tt, tt),
        ),
      )
      (let a = parts_weight-append (argument_parts args) (part.Name n ∷ []) in let c = arguments-weight args in omega arith)

  -- ---- terms

  pub pair-is : (n : Identifier) (args : List RawAt) → is_pair (head n (raws_in (raw_trees names nodes) (places args)))
      ≡ (eqb (length args) 2 && is_cons n.text)
  pair-is n [] = refl
  pair-is n (a ∷ []) = refl
  pair-is n (a ∷ b ∷ []) = refl
  pair-is n (a ∷ b ∷ d ∷ args) = sym (ap (λ x. x && is_cons n.text) (ne_eqb (suc (suc (suc (length args)))) 2 (λ p. let x : ⊥ = absurd (omega arith) in x)))

  pub arguments-are : (n : Identifier) (args : List RawAt) (b : Bool) → b ≡ eqb (length args) 0
      → not b ≡ has_arguments (head n (raws_in (raw_trees names nodes) (places args)))
  arguments-are n [] b e = ap not e
  arguments-are n (a ∷ args) b e = ap not (e ∙ ne_eqb (suc (length args)) 0 (λ p. let x : ⊥ = absurd (omega arith) in x))

  pub term-number : (at : RawAt) (z : ℤ) (p : Place) (old new : List Part) → FitsSigned w64 z → raw_at names nodes at.0 ≡ int p z
      → new ≡ old ++ part.Number (to_z w64 (of_z w64 z)) ∷ [] → PushesParts names nodes (part.Term at) old new
  term-number at z p old new fits is e =
      leaves-term at old new (part.Number z ∷ []) (int p z) is (e ∙ ap (λ v. old ++ part.Number v ∷ []) (to_z-of_z w64 z fits)) (λ rest. refl) (tt, tt)
      (omega arith)

  head-term : (at : RawAt) (n : Named) (args : List RawAt) (b : Bool) (old new : List Part) → at.0 < length nodes
      → (eqb (length args) 2 && is_cons (identifier names n).text) ≡ b
      → raw_at names nodes at.0 ≡ head (identifier names n) (raws_in (raw_trees names nodes) (places args)) → All (λ (a : RawAt). a.0 < at.0) args
      → new ≡ old ++ head_parts b n args → PushesParts names nodes (part.Term at) old new
  head-term at n args false old new h t is all e =
      let list : RawList = raws_in (raw_trees names nodes) (places args) in
      leaves-term at old new (argument_parts args ++ part.Name n ∷ []) (head (identifier names n) list) is e
      (λ rest. name-text n args rest ∙ (sym (append_assoc (identifier names n).text (arguments_text list) rest)
      ∙ ap (λ x. head_text x (identifier names n) (pair_text list) (arguments_text list) ++ rest) (sym (pair-is (identifier names n) args ∙ t))))
      (parts-append (argument_parts args) (part.Name n ∷ []) (arguments-inside args at.0 (omega arith) all) (tt, tt))
      (let a = parts_weight-append (argument_parts args) (part.Name n ∷ []) in let b = arguments-weight args in omega arith)
  head-term at n [] true old new h t is all e = absurd (let x : ⊥ = cc in x)
  head-term at n (x ∷ []) true old new h t is all e = absurd (let x : ⊥ = cc in x)
  head-term at n (x ∷ y ∷ []) true old new h t is all e =
      let a : Raw = raw_at names nodes x.0 in
      let b : Raw = raw_at names nodes y.0 in
      let first : x.0 < at.0 = All-head (λ (c : RawAt). c.0 < at.0) x (y ∷ []) all in
      let second : y.0 < at.0 = All-head (λ (c : RawAt). c.0 < at.0) y [] (All-tail (λ (c : RawAt). c.0 < at.0) x (y ∷ []) all) in
      leaves-term at old new (part.Term y ∷ part.Word word.Cons ∷ part.Item x ∷ []) (head (identifier names n) (more a (more b none))) is e
      (λ rest. sym (append_assoc (bracketed (is_pair a) (term_text a)) (codes "::" ++ term_text b) rest)
      ∙ ap (λ z. head_text z (identifier names n) (pair_text (more a (more b none))) (arguments_text (more a (more b none))) ++ rest) (sym t))
      ((let c : y.0 < length nodes = omega arith in c), (tt, ((let c : x.0 < length nodes = omega arith in c), tt))) (omega arith)
  head-term at n (x ∷ y ∷ z ∷ args) true old new h t is all e =
      absurd (let p = eqb-true (suc (suc (suc (length args)))) 2 (and_parts (eqb (suc (suc (suc (length args)))) 2) (is_cons (identifier names n).text) t).0 in
      omega arith)

  pub term-head : (at : RawAt) (n : Named) (args : List RawAt) (old new : List Part) → at.0 < length nodes
      → raw_at names nodes at.0 ≡ head (identifier names n) (raws_in (raw_trees names nodes) (places args)) → All (λ (a : RawAt). a.0 < at.0) args
      → new ≡ old ++ head_parts (eqb (length args) 2 && is_cons (identifier names n).text) n args → PushesParts names nodes (part.Term at) old new
  term-head at n args old new h is all e = head-term at n args (eqb (length args) 2 && is_cons (identifier names n).text) old new h refl is all e

  -- ---- expressions

  pub leaves-expression : (at : RawAt) (old new qs : List Part) (t : Raw) → raw_at names nodes at.0 ≡ t → new ≡ old ++ qs
      → ((rest : List ℕ) → parts_text names nodes qs rest ≡ expr_text t ++ rest)
      → AreParts nodes qs → parts_weight names nodes qs < 8 * raw_size t → PushesParts names nodes (part.Expression at) old new
  leaves-expression at old new qs t is e same inside lighter = record {
    left = qs;
    is = e;
    same = λ rest. same rest ∙ ap (λ r. expr_text r ++ rest) (sym is);
    inside = inside;
    lighter = subst (λ r. parts_weight names nodes qs < 8 * raw_size r) (sym is) lighter;
  }

  pub word-expression : (at : RawAt) (old new : List Part) (t : Raw) → raw_at names nodes at.0 ≡ t → new ≡ old ++ part.Word word.Any ∷ []
      → expr_text t ≡ codes "_"
      → PushesParts names nodes (part.Expression at) old new
  word-expression at old new t is e same =
      leaves-expression at old new (part.Word word.Any ∷ []) t is e (λ rest. ap (λ u. u ++ rest) (sym same)) (tt, tt) (let s = size-positive t in omega arith)

  pub expression-number : (at : RawAt) (z : ℤ) (p : Place) (old new : List Part) → FitsSigned w64 z → raw_at names nodes at.0 ≡ int p z
      → new ≡ old ++ part.Number (to_z w64 (of_z w64 z)) ∷ []
      → PushesParts names nodes (part.Expression at) old new
  expression-number at z p old new fits is e =
      leaves-expression at old new (part.Number z ∷ []) (int p z) is (e ∙ ap (λ v. old ++ part.Number v ∷ []) (to_z-of_z w64 z fits)) (λ rest. refl) (tt, tt)
      (omega arith)

  pub operator-two : (n : Identifier) (args : List RawAt) → length args ≡ 2 → operator_text (head n (raws_in (raw_trees names nodes) (places args))) ≡ n.text
  operator-two n [] h = absurd (let x : ⊥ = absurd (omega arith) in x)
  operator-two n (x ∷ []) h = absurd (let x : ⊥ = absurd (omega arith) in x)
  operator-two n (x ∷ y ∷ []) h = refl
  operator-two n (x ∷ y ∷ z ∷ args) h = absurd (let x : ⊥ = absurd (omega arith) in x)

  pub operator-none : (n : Identifier) (args : List RawAt) → (length args ≡ 2 → ⊥) → operator_text (head n (raws_in (raw_trees names nodes) (places args))) ≡ []
  operator-none n [] h = refl
  operator-none n (x ∷ []) h = refl
  operator-none n (x ∷ y ∷ []) h = absurd (h refl)
  operator-none n (x ∷ y ∷ z ∷ args) h = refl

  -- what is put on the stack for a sign between its two operands
  pub sides-pushed : (n : Named) (x y : RawAt) (p q : Bool) (old first second new : List Part)
      → p ≡ left_encloses (identifier names n).text (raw_at names nodes x.0)
      → q ≡ right_encloses (identifier names n).text (raw_at names nodes y.0) → first ≡ old ++ operand_parts q y
      → second ≡ first ++ (part.Word word.Space ∷ part.Name n ∷ part.Word word.Space ∷ []) → new ≡ second ++ operand_parts p x
      → new ≡ old ++ sides_parts names nodes n x y
  sides-pushed n x y p q old first second new pe qe a b e =
      let front : List Part = part.Word word.Space ∷ part.Name n ∷ part.Word word.Space ∷ [] in
      e ∙ (ap (λ u. u ++ operand_parts p x) (b ∙ ap (λ u. u ++ front) a)
      ∙ (append_assoc (old ++ operand_parts q y) front (operand_parts p x) ∙ (append_assoc old (operand_parts q y) (front ++ operand_parts p x)
      ∙ λ i. old ++ (operand_parts (qe i) y ++ (front ++ operand_parts (pe i) x)))))

  operand-text : (b : Bool) (x : RawAt) (rest : List ℕ) → parts_text names nodes (operand_parts b x) rest ≡ bracketed b (expr_text (raw_at names nodes x.0))
      ++ rest
  operand-text true x rest = ap (λ u. codes "(" ++ u) (sym (append_assoc (expr_text (raw_at names nodes x.0)) (codes ")") rest))
  operand-text false x rest = refl

  operand-weight : (b : Bool) (x : RawAt) → parts_weight names nodes (operand_parts b x) ≤ 8 * raw_size (raw_at names nodes x.0) + 2
  operand-weight true x = omega arith
  operand-weight false x = omega arith

  operand-inside : (b : Bool) (x : RawAt) → x.0 < length nodes → AreParts nodes (operand_parts b x)
  operand-inside true x h = (tt, (h, (tt, tt)))
  operand-inside false x h = (h, tt)

  expression-two : (at : RawAt) (n : Named) (x y : RawAt) (old new : List Part) → at.0 < length nodes
      → raw_at names nodes at.0 ≡ head (identifier names n) (more (raw_at names nodes x.0) (more (raw_at names nodes y.0) none)) → x.0 < at.0 → y.0 < at.0
      → new ≡ old ++ sides_parts names nodes n x y → PushesParts names nodes (part.Expression at) old new
  expression-two at n x y old new h is first second e =
      let w : List ℕ = (identifier names n).text in
      let a : Raw = raw_at names nodes x.0 in
      let b : Raw = raw_at names nodes y.0 in
      let p : Bool = left_encloses w a in
      let q : Bool = right_encloses w b in
      let front : List Part = part.Word word.Space ∷ part.Name n ∷ part.Word word.Space ∷ operand_parts p x in
      let s : List ℕ = bracketed p (expr_text a) in
      let t : List ℕ = bracketed q (expr_text b) in
      leaves-expression at old new (operand_parts q y ++ front) (head (identifier names n) (more a (more b none))) is e
      (λ rest. parts_text-append (operand_parts q y) front rest
      ∙ (ap (parts_text names nodes front) (operand-text q y rest)
      ∙ (operand-text p x (codes " " ++ (w ++ (codes " " ++ (t ++ rest))))
      ∙ (ap (λ u. s ++ (codes " " ++ u)) (sym (append_assoc w (codes " " ++ t) rest)) ∙ sym (append_assoc s (between w t) rest)))))
      (parts-append (operand_parts q y) front (operand-inside q y (omega arith)) (tt, (tt, (tt, operand-inside p x (omega arith)))))
      (let c = parts_weight-append (operand_parts q y) front in let d = operand-weight q y in let f = operand-weight p x in omega arith)

  expression-head : (at : RawAt) (n : Named) (args : List RawAt) (b : Bool) (old new : List Part) → at.0 < length nodes → eqb (length args) 2 ≡ b
      → raw_at names nodes at.0 ≡ head (identifier names n) (raws_in (raw_trees names nodes) (places args)) → All (λ (a : RawAt). a.0 < at.0) args
      → new ≡ old ++ expression_parts names nodes b n args → PushesParts names nodes (part.Expression at) old new
  expression-head at n [] true old new h t is all e = absurd (let x : ⊥ = cc in x)
  expression-head at n (x ∷ []) true old new h t is all e = absurd (let x : ⊥ = cc in x)
  expression-head at n (x ∷ y ∷ []) true old new h t is all e =
      expression-two at n x y old new h is (All-head (λ (c : RawAt). c.0 < at.0) x (y ∷ []) all)
      (All-head (λ (c : RawAt). c.0 < at.0) y [] (All-tail (λ (c : RawAt). c.0 < at.0) x (y ∷ []) all)) e
  expression-head at n (x ∷ y ∷ z ∷ args) true old new h t is all e = absurd (let p = eqb-true (suc (suc (suc (length args)))) 2 t in omega arith)
  expression-head at n [] false old new h t is all e =
      leaves-expression at old new (part.Name n ∷ []) (head (identifier names n) none) is e (λ rest. refl) (tt, tt) (omega arith)
  expression-head at n (x ∷ []) false old new h t is all e =
      leaves-expression at old new (part.Name n ∷ []) (head (identifier names n) (more (raw_at names nodes x.0) none)) is e (λ rest. refl) (tt, tt)
      (omega arith)
  expression-head at n (x ∷ y ∷ []) false old new h t is all e = absurd (let u : ⊥ = cc in u)
  expression-head at n (x ∷ y ∷ z ∷ args) false old new h t is all e =
      leaves-expression at old new (part.Name n ∷ []) (head (identifier names n) (raws_in (raw_trees names nodes) (places (x ∷ y ∷ z ∷ args)))) is e
      (λ rest. refl) (tt, tt) (omega arith)

  pub expression-head-is : (at : RawAt) (n : Named) (args : List RawAt) (old new : List Part) → at.0 < length nodes
      → raw_at names nodes at.0 ≡ head (identifier names n) (raws_in (raw_trees names nodes) (places args)) → All (λ (a : RawAt). a.0 < at.0) args
      → new ≡ old ++ expression_parts names nodes (eqb (length args) 2) n args → PushesParts names nodes (part.Expression at) old new
  expression-head-is at n args old new h is all e = expression-head at n args (eqb (length args) 2) old new h refl is all e

  -- ---- arguments

  pub argument-bracketed : (at : RawAt) (old new : List Part) → at.0 < length nodes → has_arguments (raw_at names nodes at.0) ≡ true
      → new ≡ old ++ (part.Word word.Close ∷ part.Term at ∷ part.Word word.Open ∷ part.Word word.Space ∷ [])
      → PushesParts names nodes (part.Argument at) old new
  argument-bracketed at old new h b e = record {
    left = part.Word word.Close ∷ part.Term at ∷ part.Word word.Open ∷ part.Word word.Space ∷ [];
    is = e;
    same = λ rest. ap (λ u. codes " (" ++ u) (sym (append_assoc (term_text (raw_at names nodes at.0)) (codes ")") rest))
        ∙ ap (λ x. (codes " " ++ bracketed x (term_text (raw_at names nodes at.0))) ++ rest) (sym b);
    inside = (tt, (h, (tt, (tt, tt))));
    lighter = omega arith;
  }

  pub argument-plain : (at : RawAt) (old new : List Part) → at.0 < length nodes → has_arguments (raw_at names nodes at.0) ≡ false
      → new ≡ old ++ (part.Term at ∷ part.Word word.Space ∷ []) → PushesParts names nodes (part.Argument at) old new
  argument-plain at old new h b e = record {
    left = part.Term at ∷ part.Word word.Space ∷ [];
    is = e;
    same = λ rest. ap (λ x. (codes " " ++ bracketed x (term_text (raw_at names nodes at.0))) ++ rest) (sym b);
    inside = (h, (tt, tt));
    lighter = omega arith;
  }

  pub item-bracketed : (at : RawAt) (old new : List Part) → at.0 < length nodes → is_pair (raw_at names nodes at.0) ≡ true
      → new ≡ old ++ (part.Word word.Close ∷ part.Term at ∷ part.Word word.Open ∷ []) → PushesParts names nodes (part.Item at) old new
  item-bracketed at old new h b e = record {
    left = part.Word word.Close ∷ part.Term at ∷ part.Word word.Open ∷ [];
    is = e;
    same = λ rest. ap (λ u. codes "(" ++ u) (sym (append_assoc (term_text (raw_at names nodes at.0)) (codes ")") rest))
        ∙ ap (λ x. bracketed x (term_text (raw_at names nodes at.0)) ++ rest) (sym b);
    inside = (tt, (h, (tt, tt)));
    lighter = omega arith;
  }

  pub item-plain : (at : RawAt) (old new : List Part) → at.0 < length nodes → is_pair (raw_at names nodes at.0) ≡ false
      → new ≡ old ++ part.Term at ∷ [] → PushesParts names nodes (part.Item at) old new
  item-plain at old new h b e = record {
    left = part.Term at ∷ [];
    is = e;
    same = λ rest. ap (λ x. bracketed x (term_text (raw_at names nodes at.0)) ++ rest) (sym b);
    inside = (h, tt);
    lighter = omega arith;
  }

  -- ---- a step of the whole

  pub moves-left : (p q : Part) (old new : List Part) (start : List ℕ) → q ≡ p → PushesParts names nodes p old new → PartMoves names nodes q old start new start
  moves-left p q old new start e l =
      subst (λ r. PartMoves names nodes r old start new start) (sym e)
      (record { written = []; left = l.left; appended = sym (append-nil start); is = l.is; same = l.same; inside = l.inside; lighter = l.lighter })

  pub moves-written : (p q : Part) (old : List Part) (start end : List ℕ) → q ≡ p → end ≡ start ++ part_text names nodes p → 1 ≤ part_weight names nodes p
      → PartMoves names nodes q old start old end
  moves-written p q old start end is e w = subst (λ r. PartMoves names nodes r old start old end) (sym is) (record {
    written = part_text names nodes p;
    left = [];
    appended = e;
    is = sym (append-nil old);
    same = λ rest. refl;
    inside = tt;
    lighter = omega arith;
  })

  -- a number of 64 bits
  pub moves-number : (z : ℤ) (q : Part) (old : List Part) (start end : List ℕ) → FitsSigned w64 z → q ≡ part.Number z
      → end ≡ start ++ signed_decimal (to_z w64 (of_z w64 z)) → PartMoves names nodes q old start old end
  moves-number z q old start end fits is e =
      moves-written (part.Number z) q old start end is (e ∙ ap (λ v. start ++ signed_decimal v) (to_z-of_z w64 z fits)) (omega arith)

  pub printing-on : (text start now next : List ℕ) (parts popped new : List Part) (p : Part) → IsWriting text start now (parts_text names nodes parts [])
      → AreParts nodes parts
      → parts ≡ popped ++ p ∷ [] → PartMoves names nodes p popped now new next → IsWriting text start next (parts_text names nodes new []) × AreParts nodes new
  printing-on text start now next parts popped new p w inside e m = (
    record {
      written = w.written ++ m.written;
      is = m.appended ∙ (ap (λ u. u ++ m.written) w.is ∙ append_assoc start w.written m.written);
      rest = w.rest ∙ (ap (λ u. w.written ++ parts_text names nodes u []) e
          ∙ (ap (λ u. w.written ++ u) (parts_text-append popped (p ∷ []) [] ∙ (sym (m.same (parts_text names nodes popped []))
          ∙ ap (λ u. m.written ++ u) (sym (parts_text-append popped m.left []) ∙ ap (λ u. parts_text names nodes u []) (sym m.is))))
          ∙ sym (append_assoc w.written m.written (parts_text names nodes new []))));
    },
    subst (AreParts nodes) (sym m.is) (parts-append popped m.left (parts-first popped (p ∷ []) (subst (AreParts nodes) e inside)) m.inside),
  )

  pub printing-part : (parts popped : List Part) (p : Part) → AreParts nodes parts → parts ≡ popped ++ p ∷ [] → HasPart nodes p
  printing-part parts popped p inside e = (parts-last popped (p ∷ []) (subst (AreParts nodes) e inside)).0

  pub printing-lighter : (now next : List ℕ) (parts popped new : List Part) (p : Part) → parts ≡ popped ++ p ∷ [] → PartMoves names nodes p popped now new next
      → parts_weight names nodes new < parts_weight names nodes parts
  printing-lighter now next parts popped new p e m =
      let a = ap (parts_weight names nodes) e in let b = parts_weight-append popped (p ∷ []) in let d = ap (parts_weight names nodes) m.is in
      let f = parts_weight-append popped m.left in let g = m.lighter in omega arith
