use Rattle.std.proofs.Common.{◌≡◌, ℕ, List, [], Some, ap, sym, ◌∙◌, arith}
use Rattle.std.specs.Prelude.{slice_get, option_map}
use Rattle.std.proofs.lemmas.Result.{IfOk-from_err}
use Rattle.std.proofs.lemmas.List.{append-nil}
use Rattle.std.proofs.lemmas.Option.{slice_get-map}
use Rattle.ll_lexer.specs.declared.Token.{Token}
use Rattle.ll_lexer.specs.declared.TokenKind.{TokenKind}
use Rattle.ll_lexer.specs.Reading.{LexedText, bytes_of}
use Rattle.ll_parser.specs.Tokens.{toks_of, tok_of, tok_by, Identifier, name, variable}
use Rattle.ll_parser.specs.Symbols.{AddsOne}
use Rattle.ll_parser.proofs.symbols.symbol_at.Goals as goal

-- a token that is no word adds none
none_added : (texts : List (List ℕ)) → AddsOne texts texts
none_added texts = record { more = []; is = sym (append-nil texts); few = omega arith }

-- the token at a place, by its kind
tok_at : (lexed : LexedText) (i : ℕ) (t : Token) (k : TokenKind) → slice_get lexed.tokens i ≡ Some t → t.kind ≡ k
    → slice_get (toks_of lexed) i ≡ Some (tok_by k (bytes_of lexed.text t) t.at)
tok_at lexed i t k e is =
    slice_get-map (tok_of lexed.text) lexed.tokens i
    ∙ (ap (option_map (tok_of lexed.text)) e ∙ ap (λ x. Some (tok_by x (bytes_of lexed.text t) t.at)) is)

pub returns-in-Any-clause-names : goal.returns-in-Any-clause-names
returns-in-Any-clause-names c = none_added c.args.names.now

pub returns-in-Any-clause-token : goal.returns-in-Any-clause-token
returns-in-Any-clause-token c = λ more. tok_at c.args.tokens.now c.args.i c.get-token.result _ c.get-token.ensures.token c.in-Any.is

pub returns-in-True-clause-names : goal.returns-in-True-clause-names
returns-in-True-clause-names c = none_added c.args.names.now

pub returns-in-True-clause-token : goal.returns-in-True-clause-token
returns-in-True-clause-token c = λ more. tok_at c.args.tokens.now c.args.i c.get-token.result _ c.get-token.ensures.token c.in-True.is

pub returns-in-Erase-clause-names : goal.returns-in-Erase-clause-names
returns-in-Erase-clause-names c = none_added c.args.names.now

pub returns-in-Erase-clause-token : goal.returns-in-Erase-clause-token
returns-in-Erase-clause-token c = λ more. tok_at c.args.tokens.now c.args.i c.get-token.result _ c.get-token.ensures.token c.in-Erase.is

pub returns-in-Forall-clause-names : goal.returns-in-Forall-clause-names
returns-in-Forall-clause-names c = none_added c.args.names.now

pub returns-in-Forall-clause-token : goal.returns-in-Forall-clause-token
returns-in-Forall-clause-token c = λ more. tok_at c.args.tokens.now c.args.i c.get-token.result _ c.get-token.ensures.token c.in-Forall.is

pub returns-in-Exists-clause-names : goal.returns-in-Exists-clause-names
returns-in-Exists-clause-names c = none_added c.args.names.now

pub returns-in-Exists-clause-token : goal.returns-in-Exists-clause-token
returns-in-Exists-clause-token c = λ more. tok_at c.args.tokens.now c.args.i c.get-token.result _ c.get-token.ensures.token c.in-Exists.is

pub returns-in-Is-clause-names : goal.returns-in-Is-clause-names
returns-in-Is-clause-names c = none_added c.args.names.now

pub returns-in-Is-clause-token : goal.returns-in-Is-clause-token
returns-in-Is-clause-token c = λ more. tok_at c.args.tokens.now c.args.i c.get-token.result _ c.get-token.ensures.token c.in-Is.is

pub returns-in-Module-clause-names : goal.returns-in-Module-clause-names
returns-in-Module-clause-names c = none_added c.args.names.now

pub returns-in-Module-clause-token : goal.returns-in-Module-clause-token
returns-in-Module-clause-token c = λ more. tok_at c.args.tokens.now c.args.i c.get-token.result _ c.get-token.ensures.token c.in-Module.is

pub returns-in-Local-clause-names : goal.returns-in-Local-clause-names
returns-in-Local-clause-names c = none_added c.args.names.now

pub returns-in-Local-clause-token : goal.returns-in-Local-clause-token
returns-in-Local-clause-token c = λ more. tok_at c.args.tokens.now c.args.i c.get-token.result _ c.get-token.ensures.token c.in-Local.is

pub returns-in-Linear-clause-names : goal.returns-in-Linear-clause-names
returns-in-Linear-clause-names c = none_added c.args.names.now

pub returns-in-Linear-clause-token : goal.returns-in-Linear-clause-token
returns-in-Linear-clause-token c = λ more. tok_at c.args.tokens.now c.args.i c.get-token.result _ c.get-token.ensures.token c.in-Linear.is

pub returns-in-Dot-clause-names : goal.returns-in-Dot-clause-names
returns-in-Dot-clause-names c = none_added c.args.names.now

pub returns-in-Dot-clause-token : goal.returns-in-Dot-clause-token
returns-in-Dot-clause-token c = λ more. tok_at c.args.tokens.now c.args.i c.get-token.result _ c.get-token.ensures.token c.in-Dot.is

pub returns-in-Comma-clause-names : goal.returns-in-Comma-clause-names
returns-in-Comma-clause-names c = none_added c.args.names.now

pub returns-in-Comma-clause-token : goal.returns-in-Comma-clause-token
returns-in-Comma-clause-token c = λ more. tok_at c.args.tokens.now c.args.i c.get-token.result _ c.get-token.ensures.token c.in-Comma.is

pub returns-in-Ampersand-clause-names : goal.returns-in-Ampersand-clause-names
returns-in-Ampersand-clause-names c = none_added c.args.names.now

pub returns-in-Ampersand-clause-token : goal.returns-in-Ampersand-clause-token
returns-in-Ampersand-clause-token c = λ more. tok_at c.args.tokens.now c.args.i c.get-token.result _ c.get-token.ensures.token c.in-Ampersand.is

pub returns-in-Semicolon-clause-names : goal.returns-in-Semicolon-clause-names
returns-in-Semicolon-clause-names c = none_added c.args.names.now

pub returns-in-Semicolon-clause-token : goal.returns-in-Semicolon-clause-token
returns-in-Semicolon-clause-token c = λ more. tok_at c.args.tokens.now c.args.i c.get-token.result _ c.get-token.ensures.token c.in-Semicolon.is

pub returns-in-ParenLeft-clause-names : goal.returns-in-ParenLeft-clause-names
returns-in-ParenLeft-clause-names c = none_added c.args.names.now

pub returns-in-ParenLeft-clause-token : goal.returns-in-ParenLeft-clause-token
returns-in-ParenLeft-clause-token c = λ more. tok_at c.args.tokens.now c.args.i c.get-token.result _ c.get-token.ensures.token c.in-ParenLeft.is

pub returns-in-ParenRight-clause-names : goal.returns-in-ParenRight-clause-names
returns-in-ParenRight-clause-names c = none_added c.args.names.now

pub returns-in-ParenRight-clause-token : goal.returns-in-ParenRight-clause-token
returns-in-ParenRight-clause-token c = λ more. tok_at c.args.tokens.now c.args.i c.get-token.result _ c.get-token.ensures.token c.in-ParenRight.is

pub returns-in-BraceLeft-clause-names : goal.returns-in-BraceLeft-clause-names
returns-in-BraceLeft-clause-names c = none_added c.args.names.now

pub returns-in-BraceLeft-clause-token : goal.returns-in-BraceLeft-clause-token
returns-in-BraceLeft-clause-token c = λ more. tok_at c.args.tokens.now c.args.i c.get-token.result _ c.get-token.ensures.token c.in-BraceLeft.is

pub returns-in-BraceRight-clause-names : goal.returns-in-BraceRight-clause-names
returns-in-BraceRight-clause-names c = none_added c.args.names.now

pub returns-in-BraceRight-clause-token : goal.returns-in-BraceRight-clause-token
returns-in-BraceRight-clause-token c = λ more. tok_at c.args.tokens.now c.args.i c.get-token.result _ c.get-token.ensures.token c.in-BraceRight.is

pub returns-in-Backslash-clause-names : goal.returns-in-Backslash-clause-names
returns-in-Backslash-clause-names c = none_added c.args.names.now

pub returns-in-Backslash-clause-token : goal.returns-in-Backslash-clause-token
returns-in-Backslash-clause-token c = λ more. tok_at c.args.tokens.now c.args.i c.get-token.result _ c.get-token.ensures.token c.in-Backslash.is

pub returns-in-Cons-clause-names : goal.returns-in-Cons-clause-names
returns-in-Cons-clause-names c = none_added c.args.names.now

pub returns-in-Cons-clause-token : goal.returns-in-Cons-clause-token
returns-in-Cons-clause-token c = λ more. tok_at c.args.tokens.now c.args.i c.get-token.result _ c.get-token.ensures.token c.in-Cons.is

pub returns-in-ColonDash-clause-names : goal.returns-in-ColonDash-clause-names
returns-in-ColonDash-clause-names c = none_added c.args.names.now

pub returns-in-ColonDash-clause-token : goal.returns-in-ColonDash-clause-token
returns-in-ColonDash-clause-token c = λ more. tok_at c.args.tokens.now c.args.i c.get-token.result _ c.get-token.ensures.token c.in-ColonDash.is

pub returns-in-LeftArrow-clause-names : goal.returns-in-LeftArrow-clause-names
returns-in-LeftArrow-clause-names c = none_added c.args.names.now

pub returns-in-LeftArrow-clause-token : goal.returns-in-LeftArrow-clause-token
returns-in-LeftArrow-clause-token c = λ more. tok_at c.args.tokens.now c.args.i c.get-token.result _ c.get-token.ensures.token c.in-LeftArrow.is

pub returns-in-RightArrow-clause-names : goal.returns-in-RightArrow-clause-names
returns-in-RightArrow-clause-names c = none_added c.args.names.now

pub returns-in-RightArrow-clause-token : goal.returns-in-RightArrow-clause-token
returns-in-RightArrow-clause-token c = λ more. tok_at c.args.tokens.now c.args.i c.get-token.result _ c.get-token.ensures.token c.in-RightArrow.is

pub returns-in-Most-clause-names : goal.returns-in-Most-clause-names
returns-in-Most-clause-names c = none_added c.args.names.now

pub returns-in-Most-clause-token : goal.returns-in-Most-clause-token
returns-in-Most-clause-token c = λ more. tok_at c.args.tokens.now c.args.i c.get-token.result _ c.get-token.ensures.token c.in-Most.is

pub returns-in-Less-clause-names : goal.returns-in-Less-clause-names
returns-in-Less-clause-names c = none_added c.args.names.now

pub returns-in-Less-clause-token : goal.returns-in-Less-clause-token
returns-in-Less-clause-token c = λ more. tok_at c.args.tokens.now c.args.i c.get-token.result _ c.get-token.ensures.token c.in-Less.is

pub returns-in-Plus-clause-names : goal.returns-in-Plus-clause-names
returns-in-Plus-clause-names c = none_added c.args.names.now

pub returns-in-Plus-clause-token : goal.returns-in-Plus-clause-token
returns-in-Plus-clause-token c = λ more. tok_at c.args.tokens.now c.args.i c.get-token.result _ c.get-token.ensures.token c.in-Plus.is

pub returns-in-Minus-clause-names : goal.returns-in-Minus-clause-names
returns-in-Minus-clause-names c = none_added c.args.names.now

pub returns-in-Minus-clause-token : goal.returns-in-Minus-clause-token
returns-in-Minus-clause-token c = λ more. tok_at c.args.tokens.now c.args.i c.get-token.result _ c.get-token.ensures.token c.in-Minus.is

pub returns-in-Star-clause-names : goal.returns-in-Star-clause-names
returns-in-Star-clause-names c = none_added c.args.names.now

pub returns-in-Star-clause-token : goal.returns-in-Star-clause-token
returns-in-Star-clause-token c = λ more. tok_at c.args.tokens.now c.args.i c.get-token.result _ c.get-token.ensures.token c.in-Star.is

pub returns-in-Lolli-clause-names : goal.returns-in-Lolli-clause-names
returns-in-Lolli-clause-names c = none_added c.args.names.now

pub returns-in-Lolli-clause-token : goal.returns-in-Lolli-clause-token
returns-in-Lolli-clause-token c = λ more. tok_at c.args.tokens.now c.args.i c.get-token.result _ c.get-token.ensures.token c.in-Lolli.is

pub returns-in-LoadArrow-clause-names : goal.returns-in-LoadArrow-clause-names
returns-in-LoadArrow-clause-names c = none_added c.args.names.now

pub returns-in-LoadArrow-clause-token : goal.returns-in-LoadArrow-clause-token
returns-in-LoadArrow-clause-token c = λ more. tok_at c.args.tokens.now c.args.i c.get-token.result _ c.get-token.ensures.token c.in-LoadArrow.is

pub returns-in-Number-clause-names : goal.returns-in-Number-clause-names
returns-in-Number-clause-names c = none_added c.args.names.now

pub get-token-requires : goal.get-token-requires
get-token-requires c = c.requires.token

pub bytes-requires : goal.bytes-requires
bytes-requires c = c.requires.token

pub bytes-requires-in-Variable : goal.bytes-requires-in-Variable
bytes-requires-in-Variable c = c.requires.token

pub word-requires-clause-ascii : goal.word-requires-clause-ascii
word-requires-clause-ascii c = c.bytes.ensures.ascii

pub word-requires-clause-room : goal.word-requires-clause-room
word-requires-clause-room c = c.requires.room

pub word-requires-in-Variable-clause-ascii : goal.word-requires-in-Variable-clause-ascii
word-requires-in-Variable-clause-ascii c = c.bytes-in-Variable.ensures.ascii

pub word-requires-in-Variable-clause-room : goal.word-requires-in-Variable-clause-room
word-requires-in-Variable-clause-room c = c.requires.room

pub returns-in_err-word-in-Name-clause-names : goal.returns-in_err-word-in-Name-clause-names
returns-in_err-word-in-Name-clause-names c = IfOk-from_err c.from_residual.result _ c.from_residual.ensures.0

pub returns-in_err-word-in-Name-clause-token : goal.returns-in_err-word-in-Name-clause-token
returns-in_err-word-in-Name-clause-token c = IfOk-from_err c.from_residual.result _ c.from_residual.ensures.0

pub returns-in_ok-word-in-Name-clause-names : goal.returns-in_ok-word-in-Name-clause-names
returns-in_ok-word-in-Name-clause-names c = c.in_ok-word-in-Name.ensures.names

pub returns-in_err-word-in-Variable-clause-names : goal.returns-in_err-word-in-Variable-clause-names
returns-in_err-word-in-Variable-clause-names c =
    IfOk-from_err c.from_residual-in_err-word-in-Variable.result _ c.from_residual-in_err-word-in-Variable.ensures.0

pub returns-in_err-word-in-Variable-clause-token : goal.returns-in_err-word-in-Variable-clause-token
returns-in_err-word-in-Variable-clause-token c =
    IfOk-from_err c.from_residual-in_err-word-in-Variable.result _ c.from_residual-in_err-word-in-Variable.ensures.0

pub returns-in_ok-word-in-Variable-clause-names : goal.returns-in_ok-word-in-Variable-clause-names
returns-in_ok-word-in-Variable-clause-names c = c.in_ok-word-in-Variable.ensures.names

pub number-requires : goal.number-requires
number-requires c = rw c.get-token.ensures.token c.in-Number.is

pub returns-in_ok-word-in-Name-clause-token : goal.returns-in_ok-word-in-Name-clause-token
returns-in_ok-word-in-Name-clause-token c = λ more.
    tok_at c.args.tokens.now c.args.i c.get-token.result _ c.get-token.ensures.token c.in-Name.is
    ∙ ap (λ (n : Identifier). Some (name n)) (sym (c.in_ok-word-in-Name.ensures.text more
    ∙ ap (λ bytes. let n : Identifier = record { text = bytes; at = c.get-token.result.at } in n)
    (rw c.get-token.ensures.token at c.bytes.ensures.bytes)))

pub returns-in_ok-word-in-Variable-clause-token : goal.returns-in_ok-word-in-Variable-clause-token
returns-in_ok-word-in-Variable-clause-token c = λ more.
    tok_at c.args.tokens.now c.args.i c.get-token.result _ c.get-token.ensures.token c.in-Variable.is
    ∙ ap (λ (n : Identifier). Some (variable n)) (sym (c.in_ok-word-in-Variable.ensures.text more
    ∙ ap (λ bytes. let n : Identifier = record { text = bytes; at = c.get-token.result.at } in n)
    (rw c.get-token.ensures.token at c.bytes-in-Variable.ensures.bytes)))
