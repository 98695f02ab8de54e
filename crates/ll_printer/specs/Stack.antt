-- The pieces of a text that are still to be printed, the last one first. The terms stand at places: `has` says which places are those of
-- terms, and `tree` gives the term of each.
use Rattle.std.specs.Prelude.{◌≡◌, ℕ, ◌+◌, ◌*◌, ◌<◌, ◌&&◌, Bool, true, false, not, nat_eq, List, [], ◌∷◌, ◌++◌, length, map, Option, Some, None, All, codes}
use Rattle.std.specs.Prelude.{decimal}
use Rattle.std.specs.Fmt.{signed_decimal}
use Rattle.ll_bank.specs.declared.At.{At}
use Rattle.ll_bank.specs.declared.TermView.{TermView}
use Rattle.ll_bank.specs.declared.TermView.TheVariants.{Var as VarView, Int as IntView, App as AppView}
use Rattle.ll_bank.specs.Term.{Term, Var, Int, Con, Ap, app}
use Rattle.ll_laws.specs.Output.{term_text, head_text, argument_text, bracket_if, is_cons, is_cons_head}
use Rattle.ll_printer.specs.declared.pieces.Piece.{Piece}
use Rattle.ll_printer.specs.declared.pieces.Piece.TheVariants.{Argument as ArgumentPiece, Rest as RestPiece, Bracket as BracketPiece}

-- ---- what stands at the place of a term

-- its term
abbrev pub view_term : (ℕ → Term) → TermView → Term
view_term tree (VarView n) = Var n
view_term tree (IntView z) = Int z
view_term tree (AppView h args) = app h (map (λ a. tree a.0) args.now)

-- its arguments are at places of terms
abbrev pub HasView : (ℕ → Type 0) → TermView → Type 0
HasView has (VarView n) = Unit {0}
HasView has (IntView z) = Unit {0}
HasView has (AppView h args) = All (λ a. has a.0) args.now

-- it has arguments
abbrev pub has_arguments_view : TermView → Bool
has_arguments_view (VarView n) = false
has_arguments_view (IntView z) = false
has_arguments_view (AppView h args) = not (nat_eq (length args.now) 0)

-- it is of the form `X::L`
abbrev pub is_cons_view : List (List ℕ) → TermView → Bool
is_cons_view names (VarView n) = false
is_cons_view names (IntView z) = false
is_cons_view names (AppView h args) = nat_eq (length args.now) 2 && is_cons_head names h

-- its text without its arguments
abbrev pub sign_text : List (List ℕ) → TermView → List ℕ
sign_text names (VarView n) = codes "?" ++ decimal n
sign_text names (IntView z) = signed_decimal z
sign_text names (AppView h args) = head_text names h

-- ---- pieces

-- the text of a piece
abbrev pub piece_text : List (List ℕ) → (ℕ → Term) → Piece → List ℕ
piece_text names tree (ArgumentPiece at) = codes " " ++ argument_text (tree at.0) (term_text names (tree at.0))
piece_text names tree (RestPiece at) = codes "::" ++ term_text names (tree at.0)
piece_text names tree BracketPiece = codes ")"

-- the text of all pieces, of which the last one comes first
abbrev pub stack_text : List (List ℕ) → (ℕ → Term) → List Piece → List ℕ
stack_text names tree [] = []
stack_text names tree (p ∷ ps) = stack_text names tree ps ++ piece_text names tree p

-- the text of the term that goes on, if there is one
abbrev pub next_text : List (List ℕ) → (ℕ → Term) → Option TermView → List ℕ
next_text names tree None = []
next_text names tree (Some view) = term_text names (view_term tree view)

-- the term of a piece is at a place of one
abbrev pub HasPiece : (ℕ → Type 0) → Piece → Type 0
HasPiece has (ArgumentPiece at) = has at.0
HasPiece has (RestPiece at) = has at.0
HasPiece has BracketPiece = Unit {0}

-- and so are the arguments of the term that goes on
abbrev pub HasNext : (ℕ → Type 0) → Option TermView → Type 0
HasNext has None = Unit {0}
HasNext has (Some view) = HasView has view

-- the number of signs in a term
abbrev pub term_size : Term → ℕ
term_size (Var n) = 1
term_size (Int z) = 1
term_size (Con h) = 1
term_size (Ap f a) = term_size f + term_size a + 1

-- how much work a piece is
abbrev pub piece_weight : (ℕ → Term) → Piece → ℕ
piece_weight tree (ArgumentPiece at) = 2 * term_size (tree at.0) + 2
piece_weight tree (RestPiece at) = 2 * term_size (tree at.0) + 1
piece_weight tree BracketPiece = 1

abbrev pub stack_weight : (ℕ → Term) → List Piece → ℕ
stack_weight tree [] = 0
stack_weight tree (p ∷ ps) = piece_weight tree p + stack_weight tree ps

abbrev pub next_weight : (ℕ → Term) → Option TermView → ℕ
next_weight tree None = 0
next_weight tree (Some view) = 2 * term_size (view_term tree view)

-- some first bytes of a text were appended, and the term that goes on and the pieces that were put on the stack are what is left of it, with
-- less work
pub record Moves (names : List (List ℕ)) (has : ℕ → Type 0) (tree : ℕ → Term) (text : List ℕ) (weight : ℕ) (old : List Piece) (start : List ℕ)
    (new : List Piece) (next : Option TermView) (end : List ℕ) : Type 0 where
  pub written : List ℕ
  pub is : end ≡ start ++ written
  pub rest : written ++ (next_text names tree next ++ stack_text names tree new) ≡ text ++ stack_text names tree old
  pub inside : All (HasPiece has) new
  pub next_inside : HasNext has next
  pub lighter : next_weight tree next + stack_weight tree new < weight + stack_weight tree old

-- the arguments of a head, each behind a space
abbrev pub arguments_text : List (List ℕ) → List Term → List ℕ
arguments_text names [] = []
arguments_text names (t ∷ ts) = codes " " ++ argument_text t (term_text names t) ++ arguments_text names ts

-- how much work they are
abbrev pub arguments_weight : List Term → ℕ
arguments_weight [] = 0
arguments_weight (t ∷ ts) = 2 * term_size t + 2 + arguments_weight ts

-- a text on its way: what was appended, and the term that goes on and the pieces that are left
pub record IsPrinting (names : List (List ℕ)) (has : ℕ → Type 0) (tree : ℕ → Term) (text start now : List ℕ) (pieces : List Piece)
    (next : Option TermView) : Type 0 where
  pub written : List ℕ
  pub is : now ≡ start ++ written
  pub rest : written ++ (next_text names tree next ++ stack_text names tree pieces) ≡ text
  pub inside : All (HasPiece has) pieces
  pub next_inside : HasNext has next

-- the pieces of arguments, of which the first one is on top
abbrev pub argument_pieces : List At → List Piece
argument_pieces [] = []
argument_pieces (a ∷ args) = argument_pieces args ++ ArgumentPiece a ∷ []

-- the text of a `::` with its two arguments
abbrev pub cell_text : List (List ℕ) → List Term → List ℕ
cell_text names (x ∷ l ∷ []) = bracket_if (is_cons names x) (term_text names x) ++ codes "::" ++ term_text names l
cell_text names _ = []

-- how much work it is
abbrev pub cell_weight : List Term → ℕ
cell_weight (x ∷ l ∷ []) = 2 * term_size x + 2 * term_size l + 6
cell_weight _ = 0

-- the bracket in front of a term that stands in brackets where a test holds
abbrev pub opening_text : Bool → List ℕ
opening_text true = codes "("
opening_text false = []

-- and the piece that is left for the one behind it
abbrev pub closing_pieces : Bool → List Piece
closing_pieces true = BracketPiece ∷ []
closing_pieces false = []
