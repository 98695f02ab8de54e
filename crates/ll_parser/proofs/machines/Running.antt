-- The loop over the tokens of a text: what holds between two tokens, one turn, and its ends.
use Rattle.std.proofs.Common.{◌≡◌, ℕ, ◌+◌, ◌≤◌, true, List, [], ◌∷◌, ◌++◌, length, slice_get, Option, Some, None, refl, sym, subst, ◌∙◌, ap, append_assoc}
use Rattle.std.proofs.Common.{append-nil, arith}
use Rattle.std.proofs.lemmas.List.{length-map}
use Rattle.std.proofs.lemmas.Option.{slice_get-map}
use Rattle.ll_lexer.specs.declared.Place.{Place}
use Rattle.ll_lexer.specs.declared.Token.{Token}
use Rattle.ll_lexer.specs.declared.TokenKind.{TokenKind}
use Rattle.ll_lexer.specs.declared.TokenKind.TheVariants as kind
use Rattle.ll_lexer.specs.Reading.{LexedText, bytes_of}
use Rattle.ll_parser.specs.declared.symbols.Symbol.{Symbol}
use Rattle.ll_parser.specs.Tokens.{Tok, tok_by, tok_of, toks_of, tok_place}
use Rattle.ll_parser.specs.Text.{Language}
use Rattle.ll_parser.specs.Reads.{open_after, opens, Reads, HasFault}
use Rattle.ll_parser.specs.FlatText.{Taken}
use Rattle.ll_parser.specs.Symbols.{symbol_tok, AddsOne}
use Rattle.ll_parser.specs.Waiting.{known}
use Rattle.ll_parser.proofs.machines.Decides.{Decides}
use Rattle.ll_parser.proofs.verdicts.Verdict.{taken-none, is-bad, is-too-many, taken-next, reads-all, is-early}

-- the place of a token is the lexer's
pub place-by : (k : TokenKind) (bytes : List ℕ) (at : Place) → tok_place (tok_by k bytes at) ≡ at
place-by kind.Name bytes at = refl
place-by kind.Variable bytes at = refl
place-by kind.Any bytes at = refl
place-by kind.Number bytes at = refl
place-by kind.True bytes at = refl
place-by kind.Erase bytes at = refl
place-by kind.Forall bytes at = refl
place-by kind.Exists bytes at = refl
place-by kind.Module bytes at = refl
place-by kind.Local bytes at = refl
place-by kind.Linear bytes at = refl
place-by kind.Dot bytes at = refl
place-by kind.Comma bytes at = refl
place-by kind.Ampersand bytes at = refl
place-by kind.Semicolon bytes at = refl
place-by kind.ParenLeft bytes at = refl
place-by kind.ParenRight bytes at = refl
place-by kind.BraceLeft bytes at = refl
place-by kind.BraceRight bytes at = refl
place-by kind.Backslash bytes at = refl
place-by kind.Cons bytes at = refl
place-by kind.ColonDash bytes at = refl
place-by kind.LeftArrow bytes at = refl
place-by kind.RightArrow bytes at = refl
place-by kind.Is bytes at = refl
place-by kind.Most bytes at = refl
place-by kind.Less bytes at = refl
place-by kind.Plus bytes at = refl
place-by kind.Minus bytes at = refl
place-by kind.Star bytes at = refl
place-by kind.Lolli bytes at = refl
place-by kind.LoadArrow bytes at = refl

place-of : (tokens : LexedText) (i : ℕ) (token : Token) (t : Tok) → slice_get tokens.tokens i ≡ Some token → slice_get (toks_of tokens) i ≡ Some t
    → tok_place t ≡ token.at
place-of tokens i token t e f =
    let g : Some (tok_of tokens.text token) ≡ Some t = sym (slice_get-map (tok_of tokens.text) tokens.tokens i ∙ ap (λ o. some_map o) e) ∙ f in
    ap tok_place (sym (some-is g)) ∙ place-by token.kind (bytes_of tokens.text token) token.at
  where
    some_map : Option Token → Option Tok
    some_map None = None
    some_map (Some x) = Some (tok_of tokens.text x)

    some-is : {x y : Tok} → Some x ≡ Some y → x ≡ y
    some-is h = cc

-- the names, and what the machine has read of the tokens so far, whatever names are added later
pub record Running {F : Type 0} (begin : F) (next : F → Tok → Option F) (tokens : LexedText) (i : ℕ) (names : List (List ℕ)) (view : List (List ℕ)
    → F) (depth : ℕ) : Type 0 where
  pub begins : (rest : List (List ℕ)) × (names ≡ known rest)
  pub few : length names ≤ i + 4
  pub below : depth ≤ 1000
  pub taken : (more : List (List ℕ)) → Taken begin next 1000 (toks_of tokens) i (view (names ++ more)) depth

module _ (l : Language) (F : Type 0) (begin : F) (next : F → Tok → Option F) (end : F
    → Option l.Tree) (d : Decides l F begin next end) (tokens : LexedText) where
  pub running-none : (names : List (List ℕ)) (view : List (List ℕ) → F) → names ≡ known [] → ((texts : List (List ℕ)) → view texts ≡ begin)
      → Running begin next tokens 0 names view 0
  running-none names view e b = record {
    begins = ([], e);
    few = rw e (omega arith);
    below = omega arith;
    taken = λ more. subst (λ z. Taken begin next 1000 (toks_of tokens) 0 z 0) (sym (b (names ++ more))) (taken-none l F begin next end d 1000 (toks_of tokens));
  }

  module _ (i : ℕ) (names : List (List ℕ)) (view : List (List ℕ)
      → F) (depth : ℕ) (r : Running begin next tokens i names view depth) (later : List (List ℕ)) (a : AddsOne names later)
      (s : Symbol) (here : (more : List (List ℕ)) → slice_get (toks_of tokens) i ≡ Some (symbol_tok (later ++ more) s)) where
    all-known : (more : List (List ℕ)) → known ((r.begins.0 ++ a.more) ++ more) ≡ later ++ more
    all-known more = ap (λ z. z ++ more) (ap (λ z. z ++ a.more) (sym r.begins.1) ∙ sym a.is)

    before : (more : List (List ℕ)) → Taken begin next 1000 (toks_of tokens) i (view (later ++ more)) depth
    before more = subst (λ z. Taken begin next 1000 (toks_of tokens) i (view z) depth) (sym (append_assoc names a.more more) ∙ ap (λ z. z ++ more) (sym a.is))
        (r.taken (a.more ++ more))

    stepped : (o : List (List ℕ) → Option F) → ((texts : List (List ℕ)) → next (view (known texts)) (symbol_tok (known texts) s) ≡ o (known texts))
        → (more : List (List ℕ)) → next (view (later ++ more)) (symbol_tok (later ++ more) s) ≡ o (later ++ more)
    stepped o h more = subst (λ z. next (view z) (symbol_tok z s) ≡ o z) (all-known more) (h ((r.begins.0 ++ a.more) ++ more))

    pub bad-token-at : (token : Token) → slice_get tokens.tokens i ≡ Some token
        → ((texts : List (List ℕ)) → next (view (known texts)) (symbol_tok (known texts) s) ≡ None)
        → HasFault l 1000 (toks_of tokens) tokens.end (record { at = token.at; kind = 4 })
    bad-token-at token e h =
        subst (λ at. HasFault l 1000 (toks_of tokens) tokens.end (record { at = at; kind = 4 }))
        (place-of tokens i token (symbol_tok (later ++ []) s) e (here []))
        (is-bad l F begin next end d 1000 (toks_of tokens) i (symbol_tok (later ++ []) s) (here []) (view (later ++ [])) depth (before []) tokens.end
        (stepped (λ texts. None) h []))

    module _ (new : List (List ℕ) → F) (step : (texts : List (List ℕ))
        → next (view (known texts)) (symbol_tok (known texts) s) ≡ Some (new (known texts))) where
      pub too-many-at : (token : Token) → slice_get tokens.tokens i ≡ Some token
          → ((texts : List (List ℕ)) → (opens (symbol_tok texts s) ≡ true) × (depth ≡ 1000))
          → HasFault l 1000 (toks_of tokens) tokens.end (record { at = token.at; kind = 6 })
      too-many-at token e h =
          subst (λ at. HasFault l 1000 (toks_of tokens) tokens.end (record { at = at; kind = 6 }))
          (place-of tokens i token (symbol_tok (later ++ []) s) e (here []))
          (is-too-many l F begin next end d 1000 (toks_of tokens) i (symbol_tok (later ++ []) s) (here []) (view (later ++ [])) depth (before []) tokens.end
          (new (later ++ [])) (stepped (λ texts. Some (new texts)) step []) (h (later ++ [])).0 (h (later ++ [])).1)

      pub turn : (deeper : ℕ) → ((texts : List (List ℕ)) → (deeper ≡ open_after depth (symbol_tok texts s ∷ [])) × (deeper ≤ 1000))
          → Running begin next tokens (i + 1) later new deeper
      turn deeper h = record {
        begins = (r.begins.0 ++ a.more, a.is ∙ ap (λ z. z ++ a.more) r.begins.1);
        few = omega (arith, a.few, r.few);
        below = (h []).1;
        taken = λ more.
            taken-next l F begin next end d 1000 (toks_of tokens) i (symbol_tok (later ++ more) s) (here more) (view (later ++ more)) depth (before more)
            (new (later ++ more)) deeper (stepped (λ texts. Some (new texts)) step more) (h (later ++ more)).0 (h (later ++ more)).1;
      }

  module _ (i : ℕ) (all : length tokens.tokens ≤ i) (names : List (List ℕ)) (view : List (List ℕ)
      → F) (depth : ℕ) (r : Running begin next tokens i names view depth) where
    all-tokens : length (toks_of tokens) ≤ i
    all-tokens = let n = length-map tokens.tokens (tok_of tokens.text) in omega arith

    now : Taken begin next 1000 (toks_of tokens) i (view names) depth
    now = subst (λ z. Taken begin next 1000 (toks_of tokens) i (view z) depth) (append-nil names) (r.taken [])

    ended : (o : List (List ℕ) → Option l.Tree) → ((texts : List (List ℕ)) → end (view (known texts)) ≡ o (known texts)) → end (view names) ≡ o names
    ended o h = subst (λ z. end (view z) ≡ o z) (sym r.begins.1) (h r.begins.0)

    pub reads : (tree : List (List ℕ) → l.Tree) → ((texts : List (List ℕ)) → end (view (known texts)) ≡ Some (tree (known texts)))
        → Reads l 1000 (toks_of tokens) (tree names)
    reads tree h = reads-all l F begin next end d 1000 (toks_of tokens) i all-tokens (view names) depth now (tree names) (ended (λ texts. Some (tree texts)) h)

    pub ends-early-at : ((texts : List (List ℕ)) → end (view (known texts)) ≡ None)
        → HasFault l 1000 (toks_of tokens) tokens.end (record { at = tokens.end; kind = 5 })
    ends-early-at h = is-early l F begin next end d 1000 (toks_of tokens) i all-tokens (view names) depth now tokens.end (ended (λ texts. None) h)
