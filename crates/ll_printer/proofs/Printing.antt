-- Texts piece by piece.
use Rattle.std.proofs.Common.{◌≡◌, ℕ, zero, suc, ◌+◌, ◌*◌, ◌<◌, ◌≤◌, Bool, true, false, ◌&&◌, eqb, List, [], ◌∷◌, ◌++◌, length, map}
use Rattle.std.proofs.Common.{All, get_or, take, drop, refl, ap, sym, subst, Option, Some, None}
use Rattle.std.proofs.Common.{◌∙◌, arith, append_assoc, if◌then◌else◌, codes, not}
use Rattle.std.proofs.lemmas.List.{append-nil, length-map}
use Rattle.std.proofs.lemmas.List.Elements.{All-head, All-tail, All-cons, All-append, All-push, All-drop}
use Rattle.std.proofs.lemmas.Bool.{cond-true, cond-false, ne_eqb, eqb-true, and_parts, true≢false}
use Rattle.ll_bank.specs.declared.At.{At}
use Rattle.ll_bank.specs.declared.Head.{Head}
use Rattle.ll_bank.specs.declared.TermView.{TermView}
use Rattle.ll_bank.specs.declared.TermView.TheVariants.{Var as VarView, Int as IntView, App as AppView}
use Rattle.ll_bank.specs.Term.{Term, Con, Ap, app, apply}
use Rattle.ll_laws.specs.Views.{IsViewOf}
use Rattle.ll_laws.specs.Output.{term_text, applied_text, argument_text, head_text, bracket_if, has_arguments, is_cons, is_cons_head}
use Rattle.ll_printer.specs.declared.pieces.Piece.{Piece}
use Rattle.ll_printer.specs.declared.pieces.Piece.TheVariants.{Argument as ArgumentPiece, Rest as RestPiece, Bracket as BracketPiece}
use Rattle.ll_printer.specs.Pieces.{BeginsText}
use Rattle.ll_printer.specs.Stack.{view_term, HasView, has_arguments_view, is_cons_view, sign_text, piece_text, stack_text, next_text, HasPiece, HasNext}
use Rattle.ll_printer.specs.Stack.{term_size, piece_weight, stack_weight, next_weight, Moves, arguments_text, arguments_weight, argument_pieces, IsPrinting}
use Rattle.ll_printer.specs.Stack.{cell_text, cell_weight, opening_text, closing_pieces}

-- ---- the stack

module _ (names : List (List ℕ)) (tree : ℕ → Term) where
  pub stack_text-append : (xs ys : List Piece) → stack_text names tree (xs ++ ys) ≡ stack_text names tree ys ++ stack_text names tree xs
  stack_text-append [] ys = sym (append-nil (stack_text names tree ys))
  stack_text-append (x ∷ xs) ys =
      ap (λ t. t ++ piece_text names tree x) (stack_text-append xs ys)
      ∙ append_assoc (stack_text names tree ys) (stack_text names tree xs) (piece_text names tree x)

  pub stack_weight-append : (xs ys : List Piece) → stack_weight tree (xs ++ ys) ≡ stack_weight tree xs + stack_weight tree ys
  stack_weight-append [] ys = omega arith
  stack_weight-append (x ∷ xs) ys = let e = stack_weight-append xs ys in omega arith

  -- arguments on it
  argument_text-pieces : (args : List At) → stack_text names tree (argument_pieces args) ≡ arguments_text names (map (λ (a : At). tree a.0) args)
  argument_text-pieces [] = refl
  argument_text-pieces (a ∷ args) =
      stack_text-append (argument_pieces args) (ArgumentPiece a ∷ [])
      ∙ ap (λ t. (codes " " ++ argument_text (tree a.0) (term_text names (tree a.0))) ++ t) (argument_text-pieces args)

  argument_weight-pieces : (args : List At) → stack_weight tree (argument_pieces args) ≡ arguments_weight (map (λ (a : At). tree a.0) args)
  argument_weight-pieces [] = refl
  argument_weight-pieces (a ∷ args) =
      let e = stack_weight-append (argument_pieces args) (ArgumentPiece a ∷ []) in let f = argument_weight-pieces args in omega arith

no_pieces : (has : ℕ → Type 0) → All (HasPiece has) []
no_pieces has = λ k d l. absurd (omega arith)

argument_pieces-inside : (has : ℕ → Type 0) (args : List At) → All (λ (a : At). has a.0) args → All (HasPiece has) (argument_pieces args)
argument_pieces-inside has [] h = no_pieces has
argument_pieces-inside has (a ∷ args) h =
    All-push (HasPiece has) (argument_pieces args) (ArgumentPiece a) (argument_pieces-inside has args (All-tail (λ (b : At). has b.0) a args h))
    (All-head (λ (b : At). has b.0) a args h)

-- ---- the text of a term

-- behind two arguments a term is printed argument by argument
long_text : (names : List (List ℕ)) (f x y z : Term) (ts : List Term)
    → term_text names (apply (Ap (Ap (Ap f x) y) z) ts) ≡ applied_text names (apply (Ap (Ap (Ap f x) y) z) ts)
long_text names f x y z [] = refl
long_text names f x y z (t ∷ ts) = long_text names (Ap f x) y z t ts

pub applied_text-apply : (names : List (List ℕ)) (f : Term) (ts : List Term) → applied_text names (apply f ts) ≡ applied_text names f ++ arguments_text names ts
applied_text-apply names f [] = sym (append-nil (applied_text names f))
applied_text-apply names f (t ∷ ts) =
    applied_text-apply names (Ap f t) ts
    ∙ (append_assoc (applied_text names f ++ codes " ") (argument_text t (term_text names t)) (arguments_text names ts)
    ∙ (append_assoc (applied_text names f) (codes " ") (argument_text t (term_text names t) ++ arguments_text names ts)
    ∙ ap (λ u. applied_text names f ++ u) (sym (append_assoc (codes " ") (argument_text t (term_text names t)) (arguments_text names ts)))))

-- a head with arguments that are not the two of a `::`
pub app_text : (names : List (List ℕ)) (h : Head) (ts : List Term) → (eqb (length ts) 2 && is_cons_head names h) ≡ false
    → term_text names (app h ts) ≡ head_text names h ++ arguments_text names ts
app_text names h [] e = sym (append-nil (head_text names h))
app_text names h (x ∷ []) e = applied_text-apply names (Con h) (x ∷ [])
app_text names h (x ∷ y ∷ []) e =
    cond-false (is_cons_head names h) (bracket_if (is_cons names x) (term_text names x) ++ codes "::" ++ term_text names y)
    (head_text names h ++ codes " " ++ argument_text x (term_text names x) ++ codes " " ++ argument_text y (term_text names y)) e
    ∙ applied_text-apply names (Con h) (x ∷ y ∷ [])
app_text names h (x ∷ y ∷ z ∷ ts) e = long_text names (Con h) x y z ts ∙ applied_text-apply names (Con h) (x ∷ y ∷ z ∷ ts)

-- the form `X::L`
pub cons_text : (names : List (List ℕ)) (h : Head) (x y : Term) → is_cons_head names h ≡ true
    → term_text names (app h (x ∷ y ∷ [])) ≡ bracket_if (is_cons names x) (term_text names x) ++ codes "::" ++ term_text names y
cons_text names h x y e =
    cond-true (is_cons_head names h) (bracket_if (is_cons names x) (term_text names x) ++ codes "::" ++ term_text names y)
    (head_text names h ++ codes " " ++ argument_text x (term_text names x) ++ codes " " ++ argument_text y (term_text names y)) e

-- whether a head with arguments has any
has_arguments-apply : (f x : Term) (ts : List Term) → has_arguments (apply (Ap f x) ts) ≡ true
has_arguments-apply f x [] = refl
has_arguments-apply f x (t ∷ ts) = has_arguments-apply (Ap f x) t ts

pub has_arguments-app : (h : Head) (ts : List Term) (b : Bool) → b ≡ eqb (length ts) 0 → has_arguments (app h ts) ≡ not b
has_arguments-app h [] b e = rw e refl
has_arguments-app h (t ∷ ts) b e = has_arguments-apply (Con h) t ts ∙ sym (ap not (e ∙ ne_eqb (suc (length ts)) 0 (λ p. let x : ⊥ = absurd (omega arith) in x)))

-- and whether it is of the form `X::L`
is_cons-long : (names : List (List ℕ)) (f x y z : Term) (ts : List Term) → is_cons names (apply (Ap (Ap (Ap f x) y) z) ts) ≡ false
is_cons-long names f x y z [] = refl
is_cons-long names f x y z (t ∷ ts) = is_cons-long names (Ap f x) y z t ts

pub is_cons-app : (names : List (List ℕ)) (h : Head) (ts : List Term) → is_cons names (app h ts) ≡ (eqb (length ts) 2 && is_cons_head names h)
is_cons-app names h [] = refl
is_cons-app names h (x ∷ []) = refl
is_cons-app names h (x ∷ y ∷ []) = refl
is_cons-app names h (x ∷ y ∷ z ∷ ts) =
    is_cons-long names (Con h) x y z ts ∙ sym (ap (λ b. b && is_cons_head names h)
    (ne_eqb (suc (suc (suc (length ts)))) 2 (λ p. let x : ⊥ = absurd (omega arith) in x)))

-- the size of an application
pub size-apply : (f : Term) (ts : List Term) → 2 * term_size (apply f ts) ≡ 2 * term_size f + arguments_weight ts
size-apply f [] = omega arith
size-apply f (t ∷ ts) = let e = size-apply (Ap f t) ts in omega arith

-- a head without arguments
head_alone : (names : List (List ℕ)) (h : Head) (term : At → Term) (args : List At) → not (eqb (length args) 0) ≡ false
    → term_text names (app h (map term args)) ≡ head_text names h
head_alone names h term [] e = refl
head_alone names h term (a ∷ args) e =
    let p : eqb (suc (length args)) 0 ≡ false = ne_eqb (suc (length args)) 0 (λ q. let x : ⊥ = absurd (omega arith) in x) in
    absurd (true≢false (sym (ap not p) ∙ e))

-- ---- what stands at a place

pub view-tree : (has : ℕ → Type 0) (tree : ℕ → Term) (at : ℕ) (v : TermView) → IsViewOf has tree at v → tree at ≡ view_term tree v
view-tree has tree at (VarView n) h = h
view-tree has tree at (IntView z) h = h
view-tree has tree at (AppView h args) is = is.0

pub view-has : (has : ℕ → Type 0) (tree : ℕ → Term) (at : ℕ) (v : TermView) → IsViewOf has tree at v → HasView has v
view-has has tree at (VarView n) h = tt
view-has has tree at (IntView z) h = tt
view-has has tree at (AppView h args) is = is.1

module _ (tree : ℕ → Term) where
  -- whether it has arguments
  view-arguments : (v : TermView) → has_arguments (view_term tree v) ≡ has_arguments_view v
  view-arguments (VarView n) = refl
  view-arguments (IntView z) = refl
  view-arguments (AppView h args) =
      has_arguments-app h (map (λ (a : At). tree a.0) args.now) (eqb (length args.now) 0)
      (ap (λ n. eqb n 0) (sym (length-map args.now (λ (a : At). tree a.0))))

  -- and whether it is of the form `X::L`
  view-cons : (names : List (List ℕ)) (v : TermView) → is_cons names (view_term tree v) ≡ is_cons_view names v
  view-cons names (VarView n) = refl
  view-cons names (IntView z) = refl
  view-cons names (AppView h args) =
      is_cons-app names h (map (λ (a : At). tree a.0) args.now)
      ∙ ap (λ n. eqb n 2 && is_cons_head names h) (length-map args.now (λ (a : At). tree a.0))

  -- one without arguments
  view-sign : (names : List (List ℕ)) (v : TermView) → has_arguments_view v ≡ false → term_text names (view_term tree v) ≡ sign_text names v
  view-sign names (VarView n) e = refl
  view-sign names (IntView z) e = refl
  view-sign names (AppView h args) e = head_alone names h (λ (a : At). tree a.0) args.now e

-- ---- refusals

-- nothing was printed yet, or all that is to be
pub begins_same : (text start end : List ℕ) → end ≡ start → BeginsText text start end
begins_same text start end e = record { written = []; rest = text; is = e ∙ sym (append-nil start); begun = refl }

pub begins_all : (text start end : List ℕ) → end ≡ start ++ text → BeginsText text start end
begins_all text start end e = record { written = text; rest = []; is = e; begun = sym (append-nil text) }

-- behind what was written of a text
pub begins_on : (text start middle end first rest : List ℕ) → middle ≡ start ++ first → text ≡ first ++ rest → BeginsText rest middle end
    → BeginsText text start end
begins_on text start middle end first rest e t b = record {
  written = first ++ b.written;
  rest = b.rest;
  is = b.is ∙ (ap (λ xs. xs ++ b.written) e ∙ append_assoc start first b.written);
  begun = t ∙ (ap (λ u. first ++ u) b.begun ∙ sym (append_assoc first b.written b.rest));
}

-- within the first part of a text
pub begins_first : (text start end first rest : List ℕ) → text ≡ first ++ rest → BeginsText first start end → BeginsText text start end
begins_first text start end first rest t b = record {
  written = b.written;
  rest = b.rest ++ rest;
  is = b.is;
  begun = t ∙ (ap (λ u. u ++ rest) b.begun ∙ append_assoc b.written b.rest rest);
}

-- ---- one step

module _ (names : List (List ℕ)) (has : ℕ → Type 0) (tree : ℕ → Term) where
  -- a first part of the text was printed, and a term that goes on and pieces are left for what follows
  moved : (text : List ℕ) (weight : ℕ) (old new qs : List Piece) (next : Option TermView) (start end prefix : List ℕ) → All (HasPiece has) old
      → end ≡ start ++ prefix → new ≡ old ++ qs → All (HasPiece has) qs → HasNext has next
      → text ≡ prefix ++ (next_text names tree next ++ stack_text names tree qs) → next_weight tree next + stack_weight tree qs < weight
      → Moves names has tree text weight old start new next end
  moved text weight old new qs next start end prefix before is e inside goes t lighter = record {
    written = prefix;
    is = is;
    rest = ap (λ ps. prefix ++ (next_text names tree next ++ stack_text names tree ps)) e
        ∙ (ap (λ u. prefix ++ (next_text names tree next ++ u)) (stack_text-append names tree old qs)
        ∙ (ap (λ u. prefix ++ u) (sym (append_assoc (next_text names tree next) (stack_text names tree qs) (stack_text names tree old)))
        ∙ (sym (append_assoc prefix (next_text names tree next ++ stack_text names tree qs) (stack_text names tree old))
        ∙ ap (λ u. u ++ stack_text names tree old) (sym t))));
    inside = rw e (All-append (HasPiece has) old qs before inside);
    next_inside = goes;
    lighter = let a = ap (stack_weight tree) e in let b = stack_weight-append names tree old qs in omega arith;
  }

  -- the same text and the same work
  pub moved_same : (text part : List ℕ) (weight less : ℕ) (old new : List Piece) (next : Option TermView) (start end : List ℕ) → text ≡ part
      → weight ≡ less → Moves names has tree part less old start new next end → Moves names has tree text weight old start new next end
  moved_same text part weight less old new next start end t w m = record {
    written = m.written;
    is = m.is;
    rest = m.rest ∙ ap (λ u. u ++ stack_text names tree old) (sym t);
    inside = m.inside;
    next_inside = m.next_inside;
    lighter = let k = m.lighter in omega arith;
  }

-- ---- an argument

-- its text
argument_is : (t : Term) (text : List ℕ) (b : Bool) → has_arguments t ≡ b
    → codes " " ++ argument_text t text ≡ (if b then codes " (" ++ (text ++ codes ")") else codes " " ++ text)
argument_is t text true e = ap (λ b. codes " " ++ bracket_if b text) e
argument_is t text false e = ap (λ b. codes " " ++ bracket_if b text) e

module _ (names : List (List ℕ)) (has : ℕ → Type 0) (tree : ℕ → Term) (at : At) (view : TermView) (shown : IsViewOf has tree at.0 view) where
  same : tree at.0 ≡ view_term tree view
  same = view-tree has tree at.0 view shown

  abbrev argument : List ℕ
  argument = codes " " ++ argument_text (tree at.0) (term_text names (tree at.0))

  abbrev inner : List ℕ
  inner = term_text names (view_term tree view)

  -- with its bracket
  opened-is : has_arguments_view view ≡ true → argument ≡ codes " (" ++ (inner ++ codes ")")
  opened-is h =
      ap (λ t. codes " " ++ argument_text t (term_text names t)) same
      ∙ argument_is (view_term tree view) inner true (view-arguments tree view ∙ h)

  -- or without
  short-is : has_arguments_view view ≡ false → argument ≡ codes " " ++ sign_text names view
  short-is h =
      ap (λ t. codes " " ++ argument_text t (term_text names t)) same
      ∙ (argument_is (view_term tree view) inner false (view-arguments tree view ∙ h) ∙ ap (λ u. codes " " ++ u) (view-sign tree names view h))

  -- the term goes on in brackets
  pub argument_opens : (old new : List Piece) (start end : List ℕ) → All (HasPiece has) old → has_arguments_view view ≡ true
      → new ≡ old ++ BracketPiece ∷ [] → end ≡ start ++ codes " ("
      → Moves names has tree argument (2 * term_size (tree at.0) + 2) old start new (Some view) end
  argument_opens old new start end before h e is =
      moved names has tree argument (2 * term_size (tree at.0) + 2) old new (BracketPiece ∷ []) (Some view) start end (codes " (") before is e
      (All-cons (HasPiece has) BracketPiece [] tt (no_pieces has)) (view-has has tree at.0 view shown) (opened-is h)
      (let k = ap term_size same in omega arith)

  -- a refusal within it
  pub opens_refused : (start end : List ℕ) → has_arguments_view view ≡ true → BeginsText (codes " (") start end → BeginsText argument start end
  opens_refused start end h b = begins_first argument start end (codes " (") (inner ++ codes ")") (opened-is h) b

-- ---- the form `X::L`

-- a term in front of a `::` by its brackets
item_brackets : (names : List (List ℕ)) (tree : ℕ → Term) (b : Bool) (text rest : List ℕ)
    → bracket_if b text ++ (codes "::" ++ rest) ≡ opening_text b ++ (text ++ (stack_text names tree (closing_pieces b) ++ (codes "::" ++ rest)))
item_brackets names tree true text rest =
    append_assoc (codes "(") (text ++ codes ")") (codes "::" ++ rest) ∙ ap (λ u. codes "(" ++ u) (append_assoc text (codes ")") (codes "::" ++ rest))
item_brackets names tree false text rest = refl

closing-inside : (has : ℕ → Type 0) (b : Bool) → All (HasPiece has) (closing_pieces b)
closing-inside has true = All-cons (HasPiece has) BracketPiece [] tt (no_pieces has)
closing-inside has false = no_pieces has

closing-light : (tree : ℕ → Term) (b : Bool) → stack_weight tree (closing_pieces b) ≤ 1
closing-light tree true = omega arith
closing-light tree false = omega arith

module _ (names : List (List ℕ)) (has : ℕ → Type 0) (tree : ℕ → Term) (x l : At) (item : TermView) (shown : IsViewOf has tree x.0 item) where
  item_is : tree x.0 ≡ view_term tree item
  item_is = view-tree has tree x.0 item shown

  abbrev cell : List ℕ
  cell = cell_text names (map (λ (a : At). tree a.0) (x ∷ l ∷ []))

  abbrev item_text : List ℕ
  item_text = term_text names (view_term tree item)

  abbrev behind : List ℕ
  behind = codes "::" ++ term_text names (tree l.0)

  -- with its brackets
  cell_parts : cell ≡ opening_text (is_cons_view names item) ++ (item_text ++ (stack_text names tree (closing_pieces (is_cons_view names item)) ++ behind))
  cell_parts =
      append_assoc (bracket_if (is_cons names (tree x.0)) (term_text names (tree x.0))) (codes "::") (term_text names (tree l.0))
      ∙ (ap (λ t. bracket_if (is_cons names t) (term_text names t) ++ behind) item_is
      ∙ (ap (λ b. bracket_if b item_text ++ behind) (view-cons tree names item)
      ∙ item_brackets names tree (is_cons_view names item) item_text (term_text names (tree l.0))))

  -- the first of the two arguments goes on, and the other one is left behind the sign
  cell_opens : (old middle new : List Piece) (start end : List ℕ) → All (HasPiece has) old → has l.0 → middle ≡ old ++ RestPiece l ∷ []
      → new ≡ middle ++ closing_pieces (is_cons_view names item) → end ≡ start ++ opening_text (is_cons_view names item)
      → Moves names has tree cell (cell_weight (map (λ (a : At). tree a.0) (x ∷ l ∷ []))) old start new (Some item) end
  cell_opens old middle new start end before hl d e is =
      let b : Bool = is_cons_view names item in
      moved names has tree cell (cell_weight (map (λ (a : At). tree a.0) (x ∷ l ∷ []))) old new (RestPiece l ∷ closing_pieces b) (Some item) start end
      (opening_text b) before is (e ∙ (ap (λ ps. ps ++ closing_pieces b) d ∙ append_assoc old (RestPiece l ∷ []) (closing_pieces b)))
      (All-cons (HasPiece has) (RestPiece l) (closing_pieces b) hl (closing-inside has b)) (view-has has tree x.0 item shown) cell_parts
      (let k = ap term_size item_is in let c = closing-light tree b in omega arith)

-- by the list of both arguments
module _ (names : List (List ℕ)) (has : ℕ → Type 0) (tree : ℕ → Term) where
  pub cons_opens : (args : List At) (d : At) (item : TermView) (old middle new : List Piece) (start end : List ℕ) → length args ≡ 2
      → IsViewOf has tree (get_or args 0 d).0 item → All (HasPiece has) old → All (λ (a : At). has a.0) args
      → middle ≡ old ++ RestPiece (get_or args 1 d) ∷ [] → new ≡ middle ++ closing_pieces (is_cons_view names item)
      → end ≡ start ++ opening_text (is_cons_view names item)
      → Moves names has tree (cell_text names (map (λ (a : At). tree a.0) args)) (cell_weight (map (λ (a : At). tree a.0) args)) old start new (Some item) end
  cons_opens [] d item old middle new start end two shown before inside m e is = absurd (omega (arith, two))
  cons_opens (x ∷ []) d item old middle new start end two shown before inside m e is = absurd (omega (arith, two))
  cons_opens (x ∷ y ∷ z ∷ args) d item old middle new start end two shown before inside m e is = absurd (omega (arith, two))
  cons_opens (x ∷ l ∷ []) d item old middle new start end two shown before inside m e is =
      cell_opens names has tree x l item shown old middle new start end before
      (All-head (λ (a : At). has a.0) l [] (All-tail (λ (a : At). has a.0) x (l ∷ []) inside)) m e is

  -- a refusal within the bracket in front
  pub cons_begins : (args : List At) (d : At) (item : TermView) (start end : List ℕ) → length args ≡ 2 → IsViewOf has tree (get_or args 0 d).0 item
      → BeginsText (opening_text (is_cons_view names item)) start end → BeginsText (cell_text names (map (λ (a : At). tree a.0) args)) start end
  cons_begins [] d item start end two shown b = absurd (omega (arith, two))
  cons_begins (x ∷ []) d item start end two shown b = absurd (omega (arith, two))
  cons_begins (x ∷ y ∷ z ∷ args) d item start end two shown b = absurd (omega (arith, two))
  cons_begins (x ∷ l ∷ []) d item start end two shown b =
      begins_first (cell_text names (map (λ (a : At). tree a.0) (x ∷ l ∷ []))) start end (opening_text (is_cons_view names item))
      (term_text names (view_term tree item)
      ++ (stack_text names tree (closing_pieces (is_cons_view names item)) ++ (codes "::" ++ term_text names (tree l.0))))
      (cell_parts names has tree x l item shown) b

-- the text and the work of a `::` with its arguments
pub cell_is : (names : List (List ℕ)) (tree : ℕ → Term) (h : Head) (args : List At) → (eqb (length args) 2 && is_cons_head names h) ≡ true
    → (term_text names (app h (map (λ (a : At). tree a.0) args)) ≡ cell_text names (map (λ (a : At). tree a.0) args))
    × (2 * term_size (app h (map (λ (a : At). tree a.0) args)) ≡ cell_weight (map (λ (a : At). tree a.0) args))
cell_is names tree h [] test = absurd (let x : ⊥ = cc in x)
cell_is names tree h (x ∷ []) test = absurd (let x : ⊥ = cc in x)
cell_is names tree h (x ∷ l ∷ []) test = (cons_text names h (tree x.0) (tree l.0) test, omega arith)
cell_is names tree h (x ∷ y ∷ z ∷ args) test =
    absurd (let p = eqb-true (suc (suc (suc (length args)))) 2 (and_parts (eqb (suc (suc (suc (length args)))) 2) (is_cons_head names h) test).0 in omega arith)

-- ---- a head and its arguments

-- arguments in front, one of them, and those behind it
arguments_parts : (names : List (List ℕ)) (tree : ℕ → Term) (args : List At) (i : ℕ) (d : At) → i < length args
    → arguments_text names (map (λ (a : At). tree a.0) args)
    ≡ arguments_text names (map (λ (a : At). tree a.0) (take i args))
    ++ ((codes " " ++ argument_text (tree (get_or args i d).0) (term_text names (tree (get_or args i d).0)))
    ++ arguments_text names (map (λ (a : At). tree a.0) (drop (i + 1) args)))
arguments_parts names tree args i d l =
    go args i l
    ∙ ap (λ k. arguments_text names (map (λ (a : At). tree a.0) (take i args)) ++ ((codes " " ++ argument_text (tree (get_or args i d).0)
    (term_text names (tree (get_or args i d).0))) ++ arguments_text names (map (λ (a : At). tree a.0) (drop k args))))
    (let e : suc i ≡ i + 1 = omega arith in e)
  where
    go : (as' : List At) (k : ℕ) → k < length as'
        → arguments_text names (map (λ (a : At). tree a.0) as')
        ≡ arguments_text names (map (λ (a : At). tree a.0) (take k as'))
        ++ ((codes " " ++ argument_text (tree (get_or as' k d).0) (term_text names (tree (get_or as' k d).0)))
        ++ arguments_text names (map (λ (a : At). tree a.0) (drop (suc k) as')))
    go [] k l = absurd (omega (arith, l))
    go (a ∷ as') zero l =
        append_assoc (codes " ") (argument_text (tree a.0) (term_text names (tree a.0))) (arguments_text names (map (λ (b : At). tree b.0) as'))
    go (a ∷ as') (suc k) l =
        let t : List ℕ = codes " " ++ argument_text (tree a.0) (term_text names (tree a.0)) in
        ap (λ u. t ++ u) (go as' k (omega (arith, l))) ∙ sym (append_assoc t _ _)

-- one more in front
arguments_more : (names : List (List ℕ)) (tree : ℕ → Term) (args : List At) (i : ℕ) (d : At) → i < length args
    → arguments_text names (map (λ (a : At). tree a.0) (take (i + 1) args))
    ≡ arguments_text names (map (λ (a : At). tree a.0) (take i args))
    ++ (codes " " ++ argument_text (tree (get_or args i d).0) (term_text names (tree (get_or args i d).0)))
arguments_more names tree args i d l =
    ap (λ k. arguments_text names (map (λ (a : At). tree a.0) (take k args))) (let e : i + 1 ≡ suc i = omega arith in e) ∙ go args i l
  where
    go : (as' : List At) (k : ℕ) → k < length as'
        → arguments_text names (map (λ (a : At). tree a.0) (take (suc k) as'))
        ≡ arguments_text names (map (λ (a : At). tree a.0) (take k as'))
        ++ (codes " " ++ argument_text (tree (get_or as' k d).0) (term_text names (tree (get_or as' k d).0)))
    go [] k l = absurd (omega (arith, l))
    go (a ∷ as') zero l = append-nil (codes " " ++ argument_text (tree a.0) (term_text names (tree a.0)))
    go (a ∷ as') (suc k) l =
        let t : List ℕ = codes " " ++ argument_text (tree a.0) (term_text names (tree a.0)) in
        ap (λ u. t ++ u) (go as' k (omega (arith, l))) ∙ sym (append_assoc t _ _)

-- fewer arguments are no more work
arguments_light : (tree : ℕ → Term) (args : List At) (i : ℕ) (d : At) → i < length args
    → 2 * term_size (tree (get_or args i d).0) + 2 + arguments_weight (map (λ (a : At). tree a.0) (drop (i + 1) args))
    ≤ arguments_weight (map (λ (a : At). tree a.0) args)
arguments_light tree args i d l =
    subst (λ k. 2 * term_size (tree (get_or args i d).0) + 2 + arguments_weight (map (λ (a : At). tree a.0) (drop k args))
    ≤ arguments_weight (map (λ (a : At). tree a.0) args)) (let e : suc i ≡ i + 1 = omega arith in e) (go args i l)
  where
    go : (as' : List At) (k : ℕ) → k < length as'
        → 2 * term_size (tree (get_or as' k d).0) + 2 + arguments_weight (map (λ (a : At). tree a.0) (drop (suc k) as'))
        ≤ arguments_weight (map (λ (a : At). tree a.0) as')
    go [] k l = absurd (omega (arith, l))
    go (a ∷ as') zero l = omega arith
    go (a ∷ as') (suc k) l = let h = go as' k (omega (arith, l)) in omega arith

module _ (names : List (List ℕ)) (has : ℕ → Type 0) (tree : ℕ → Term) (args : List At) (i : ℕ) (d : At) (view : TermView) (start now : List ℕ)
    (within : i < length args) (shown : IsViewOf has tree (get_or args i d).0 view)
    (so_far : now ≡ start ++ arguments_text names (map (λ (a : At). tree a.0) (take i args))) where
  abbrev whole : List ℕ
  whole = arguments_text names (map (λ (a : At). tree a.0) args)

  abbrev front : List ℕ
  front = arguments_text names (map (λ (a : At). tree a.0) (take i args))

  abbrev one : List ℕ
  one = codes " " ++ argument_text (tree (get_or args i d).0) (term_text names (tree (get_or args i d).0))

  abbrev others : List ℕ
  others = arguments_text names (map (λ (a : At). tree a.0) (drop (i + 1) args))

  -- one without arguments was printed too
  pub arguments_on : (next : List ℕ) → has_arguments_view view ≡ false → next ≡ now ++ (codes " " ++ sign_text names view)
      → next ≡ start ++ arguments_text names (map (λ (a : At). tree a.0) (take (i + 1) args))
  arguments_on next h e =
      e ∙ (ap (λ u. now ++ u) (sym (short-is names has tree (get_or args i d) view shown h))
      ∙ (ap (λ u. u ++ one) so_far ∙ (append_assoc start front one ∙ ap (λ u. start ++ u) (sym (arguments_more names tree args i d within)))))

  -- a refusal within it
  argument_refused : (next : List ℕ) → BeginsText one now next → BeginsText whole start next
  argument_refused next b =
      begins_on whole start now next front (one ++ others) so_far (arguments_parts names tree args i d within)
      (begins_first (one ++ others) now next one others refl b)

  pub arguments_short_refused : (next : List ℕ) → has_arguments_view view ≡ false → BeginsText (codes " " ++ sign_text names view) now next
      → BeginsText whole start next
  arguments_short_refused next h b = argument_refused next (subst (λ t. BeginsText t now next)
      (sym (short-is names has tree (get_or args i d) view shown h)) b)

  pub arguments_opens_refused : (next : List ℕ) → has_arguments_view view ≡ true → BeginsText (codes " (") now next → BeginsText whole start next
  arguments_opens_refused next h b = argument_refused next (opens_refused names has tree (get_or args i d) view shown now next h b)

  -- and one in front of it
  pub arguments_stop : (next : List ℕ) → next ≡ now → BeginsText whole start next
  arguments_stop next e = argument_refused next (begins_same one now next e)

  -- one with arguments goes on, and those behind it are left
  pub arguments_opens : (old middle new : List Piece) (end : List ℕ) → All (HasPiece has) old → All (λ (a : At). has a.0) args
      → has_arguments_view view ≡ true → middle ≡ old ++ argument_pieces (drop (i + 1) args) → new ≡ middle ++ BracketPiece ∷ [] → end ≡ now ++ codes " ("
      → Moves names has tree whole (arguments_weight (map (λ (a : At). tree a.0) args) + 2) old start new (Some view) end
  arguments_opens old middle new end before inside h m e is =
      let qs : List Piece = argument_pieces (drop (i + 1) args) in
      let text : List ℕ = term_text names (view_term tree view) in
      let left : stack_text names tree (qs ++ BracketPiece ∷ []) ≡ codes ")" ++ others =
      stack_text-append names tree qs (BracketPiece ∷ []) ∙ ap (λ u. codes ")" ++ u) (argument_text-pieces names tree (drop (i + 1) args)) in
      moved names has tree whole (arguments_weight (map (λ (a : At). tree a.0) args) + 2) old new (qs ++ BracketPiece ∷ []) (Some view) start end
      (front ++ codes " (") before (is ∙ (ap (λ u. u ++ codes " (") so_far ∙ append_assoc start front (codes " (")))
      (e ∙ (ap (λ ps. ps ++ BracketPiece ∷ []) m ∙ append_assoc old qs (BracketPiece ∷ [])))
      (All-push (HasPiece has) qs BracketPiece (argument_pieces-inside has (drop (i + 1) args) (All-drop (λ (a : At). has a.0) (i + 1) args inside)) tt)
      (view-has has tree (get_or args i d).0 view shown)
      (arguments_parts names tree args i d within
      ∙ (ap (λ u. front ++ (u ++ others)) (opened-is names has tree (get_or args i d) view shown h)
      ∙ (ap (λ u. front ++ u) (append_assoc (codes " (") (text ++ codes ")") others)
      ∙ (ap (λ u. front ++ (codes " (" ++ u)) (append_assoc text (codes ")") others ∙ ap (λ u. text ++ u) (sym left))
      ∙ sym (append_assoc front (codes " (") (text ++ stack_text names tree (qs ++ BracketPiece ∷ [])))))))
      (let a = stack_weight-append names tree qs (BracketPiece ∷ []) in let b = argument_weight-pieces names tree (drop (i + 1) args) in
      let c = arguments_light tree args i d within in let k = ap term_size (view-tree has tree (get_or args i d).0 view shown) in omega arith)

-- a head that is not that of a `::` was printed, and its arguments follow
module _ (names : List (List ℕ)) (tree : ℕ → Term) (h : Head) (args : List At) (test : (eqb (length args) 2 && is_cons_head names h) ≡ false) where
  pub applied_is : term_text names (app h (map (λ (a : At). tree a.0) args)) ≡ head_text names h ++ arguments_text names (map (λ (a : At). tree a.0) args)
  applied_is =
      app_text names h (map (λ (a : At). tree a.0) args)
      (ap (λ n. eqb n 2 && is_cons_head names h) (length-map args (λ (a : At). tree a.0)) ∙ test)

  pub applied_moves : (has : ℕ → Type 0) (old new : List Piece) (next : Option TermView) (start middle end : List ℕ) → middle ≡ start ++ head_text names h
      → Moves names has tree (arguments_text names (map (λ (a : At). tree a.0) args)) (arguments_weight (map (λ (a : At). tree a.0) args) + 2)
      old middle new next end
      → Moves names has tree (term_text names (app h (map (λ (a : At). tree a.0) args))) (2 * term_size (app h (map (λ (a : At). tree a.0) args)))
      old start new next end
  applied_moves has old new next start middle end e m = record {
    written = head_text names h ++ m.written;
    is = m.is ∙ (ap (λ xs. xs ++ m.written) e ∙ append_assoc start (head_text names h) m.written);
    rest = append_assoc (head_text names h) m.written (next_text names tree next ++ stack_text names tree new)
        ∙ (ap (λ u. head_text names h ++ u) m.rest
        ∙ (sym (append_assoc (head_text names h) (arguments_text names (map (λ (a : At). tree a.0) args)) (stack_text names tree old))
        ∙ ap (λ u. u ++ stack_text names tree old) (sym applied_is)));
    inside = m.inside;
    next_inside = m.next_inside;
    lighter = let k = m.lighter in let b = size-apply (Con h) (map (λ (a : At). tree a.0) args) in omega arith;
  }

-- ---- the whole

-- no term goes on, and the piece on top is taken off
module _ (names : List (List ℕ)) (has : ℕ → Type 0) (tree : ℕ → Term) (text start now : List ℕ) (pieces : List Piece) (next : Option TermView)
    (p : IsPrinting names has tree text start now pieces next) (popped : List Piece) (top : Piece) (none : next ≡ None) (is : pieces ≡ popped ++ top ∷ [])
  where
    piece_first : next_text names tree next ++ stack_text names tree pieces ≡ piece_text names tree top ++ stack_text names tree popped
    piece_first =
        ap (λ n. next_text names tree n ++ stack_text names tree pieces) none
        ∙ (ap (stack_text names tree) is ∙ stack_text-append names tree popped (top ∷ []))

    -- its beginning was printed
    module _ (left : List Piece) (goes : Option TermView) (end : List ℕ)
        (m : Moves names has tree (piece_text names tree top) (piece_weight tree top) popped now left goes end) where
      pub piece_on : IsPrinting names has tree text start end left goes
      piece_on = record {
        written = p.written ++ m.written;
        is = m.is ∙ (ap (λ xs. xs ++ m.written) p.is ∙ append_assoc start p.written m.written);
        rest = append_assoc p.written m.written (next_text names tree goes ++ stack_text names tree left)
            ∙ (ap (λ u. p.written ++ u) (m.rest ∙ sym piece_first) ∙ p.rest);
        inside = m.inside;
        next_inside = m.next_inside;
      }

      pub piece_lighter : next_weight tree goes + stack_weight tree left < next_weight tree next + stack_weight tree pieces
      piece_lighter =
          let k = m.lighter in let a = ap (stack_weight tree) is in let b = stack_weight-append names tree popped (top ∷ []) in
          let w = ap (next_weight tree) none in omega arith

    -- a refusal within it
    pub piece_refused : (end : List ℕ) → BeginsText (piece_text names tree top) now end → BeginsText text start end
    piece_refused end b = record {
      written = p.written ++ b.written;
      rest = b.rest ++ stack_text names tree popped;
      is = b.is ∙ (ap (λ xs. xs ++ b.written) p.is ∙ append_assoc start p.written b.written);
      begun = sym p.rest ∙ (ap (λ u. p.written ++ u) (piece_first ∙ (ap (λ u. u ++ stack_text names tree popped) b.begun
          ∙ append_assoc b.written b.rest (stack_text names tree popped)))
          ∙ sym (append_assoc p.written b.written (b.rest ++ stack_text names tree popped)));
    }
