-- How written bytes are lexed: pieces of bytes that are read as some tokens, places aside, wherever they may stand.
use Rattle.std.proofs.Common.{◌≡◌, ℕ, ◌+◌, ◌-◌, ◌≤◌, ℤ, true, false, List, [], ◌∷◌, ◌++◌, length, take, drop, map, codes, FitsSigned, refl, sym, ◌∙◌, ap}
use Rattle.std.proofs.Common.{subst, arith, append_assoc, length-append}
use Rattle.std.specs.Int.{w64}
use Rattle.std.specs.Fmt.{signed_decimal}
use Rattle.std.proofs.Math.Seq.{take-append_seam, drop-append_seam}
use Rattle.std.proofs.lemmas.Bool.Decides.{nat_tests}
use Rattle.std.proofs.lemmas.List.{map-append, drop-drop}
use Rattle.ll_lexer.specs.declared.Place.{Place}
use Rattle.ll_lexer.specs.declared.Token.{Token}
use Rattle.ll_lexer.specs.declared.TokenKind.{TokenKind}
use Rattle.ll_lexer.specs.declared.TokenKind.TheVariants as kind
use Rattle.ll_lexer.specs.Spelling.{is_digit, is_word_byte, fixed_spellings, kind_of, Spells, IsLongest}
use Rattle.ll_lexer.specs.Reading.{is_blank, place_at, IsGap, blank, past_64_bits, long_name, long_variable, IsSound, number_value, End, Lexes, gap, token}
use Rattle.ll_lexer.specs.Reading.{token_at}
use Rattle.ll_lexer.proofs.CallerLemmas.{goes_on, Ends, spelled-read, sound-name, sound-variable}
use Rattle.ll_parser.specs.Tokens.{Identifier, Tok, name, variable, number, tok_by, tok_of}
use Rattle.ll_parser.specs.Bare.{nowhere, bare_tok}
use Rattle.ll_parser.proofs.spelling.NumberText.{spelled-number, value-number}

-- the tokens from byte i on are these, places aside, and then those of a list
pub record LexedAs (text : List ℕ) (i : ℕ) (toks : List Tok) (ts : List Token) (e : End) : Type 0 where
  pub tokens : List Token
  pub lexes : Lexes text i tokens e
  pub same : map bare_tok (map (tok_of text) tokens) ≡ map bare_tok toks ++ map bare_tok (map (tok_of text) ts)

-- these bytes are lexed as these tokens, wherever what follows them satisfies P
pub record Piece (P : List ℕ → Type 0) (bytes : List ℕ) (toks : List Tok) : Type 0 where
  pub read : (text : List ℕ) (i : ℕ) (rest : List ℕ) → drop i text ≡ bytes ++ rest → P rest → (ts : List Token) (e : End) → Lexes text (i + length bytes) ts e
      → LexedAs text i toks ts e

-- no byte of a word follows; anything may follow
abbrev pub Safe : List ℕ → Type 0
Safe rest = Ends is_word_byte rest

abbrev pub Anything : List ℕ → Type 0
Anything rest = Unit {0}

-- ---- pieces in general

drop-on : (text : List ℕ) (i : ℕ) (xs ys : List ℕ) → drop i text ≡ xs ++ ys → drop (i + length xs) text ≡ ys
drop-on text i xs ys h = sym (drop-drop (length xs) i text) ∙ ap (drop (length xs)) h ∙ drop-append_seam xs ys

pub nothing : {P : List ℕ → Type 0} → Piece P [] []
nothing = record {
  read = λ text i rest h s ts e x. let n : i + 0 ≡ i = omega arith in
      record { tokens = ts; lexes = subst (λ k. Lexes text k ts e) n x; same = refl };
}

same-joined : (xs ys zs us vs : List Tok) → xs ≡ map bare_tok us ++ ys → ys ≡ map bare_tok vs ++ zs → xs ≡ map bare_tok (us ++ vs) ++ zs
same-joined xs ys zs us vs a b = a ∙ ap (λ z. map bare_tok us ++ z) b ∙ sym (append_assoc (map bare_tok us) (map bare_tok vs) zs)
    ∙ ap (λ z. z ++ zs) (sym (map-append bare_tok us vs))

-- one piece behind another
pub joined : {P Q : List ℕ → Type 0} {xs ys : List ℕ} {us vs : List Tok} → Piece P xs us → Piece Q ys vs → ((rest : List ℕ) → Q rest → P (ys ++ rest))
    → Piece Q (xs ++ ys) (us ++ vs)
joined {P} {Q} {xs} {ys} {us} {vs} p q safe = record { read = both }
  where
    both : (text : List ℕ) (i : ℕ) (rest : List ℕ) → drop i text ≡ (xs ++ ys) ++ rest → Q rest → (ts : List Token) (e : End)
        → Lexes text (i + length (xs ++ ys)) ts e → LexedAs text i (us ++ vs) ts e
    both text i rest h s ts e x =
        let front : drop i text ≡ xs ++ (ys ++ rest) = h ∙ append_assoc xs ys rest in
        let n : i + length (xs ++ ys) ≡ i + length xs + length ys = omega (arith, length-append xs ys) in
        let b = q.read text (i + length xs) rest (drop-on text i xs (ys ++ rest) front) s ts e (subst (λ k. Lexes text k ts e) n x) in
        let a = p.read text i (ys ++ rest) front (safe rest s) b.tokens e b.lexes in
        record {
          tokens = a.tokens;
          lexes = a.lexes;
          same = same-joined (map bare_tok (map (tok_of text) a.tokens)) (map bare_tok (map (tok_of text) b.tokens)) (map bare_tok (map (tok_of text) ts)) us vs
              a.same b.same;
        }

-- a blank before a piece
blank-before : {P : List ℕ → Type 0} {ys : List ℕ} {vs : List Tok} (b : ℕ) → is_blank b ≡ true → Piece P ys vs → Piece P (b ∷ ys) vs
blank-before {P} {ys} {vs} b k q = record { read = behind }
  where
    behind : (text : List ℕ) (i : ℕ) (rest : List ℕ) → drop i text ≡ b ∷ (ys ++ rest) → P rest → (ts : List Token) (e : End)
        → Lexes text (i + length (b ∷ ys)) ts e → LexedAs text i vs ts e
    behind text i rest h s ts e x =
        let n : i + length (b ∷ ys) ≡ i + 1 + length ys = omega arith in
        let a = q.read text (i + 1) rest (drop-on text i (b ∷ []) (ys ++ rest) h) s ts e (subst (λ m. Lexes text m ts e) n x) in
        record { tokens = a.tokens; lexes = gap 1 (subst (λ z. IsGap z 1) (sym h) (blank k)) a.lexes; same = a.same }

pub spaced : {P : List ℕ → Type 0} {ys : List ℕ} {vs : List Tok} → Piece P ys vs → Piece P (codes " " ++ ys) vs
unfolding is_blank
spaced q = blank-before 32 refl q

pub lined : {P : List ℕ → Type 0} {ys : List ℕ} {vs : List Tok} → Piece P ys vs → Piece P (10 ∷ ys) vs
unfolding is_blank
lined q = blank-before 10 refl q

-- ---- one token

-- a token that is spelled so, where its bytes end
read_token : (k : TokenKind) (w : List ℕ) (t : Tok) → Spells k w → IsSound k w → ((at : Place) → bare_tok (tok_by k w at) ≡ bare_tok t)
    → (text : List ℕ) (i : ℕ) (rest : List ℕ) → drop i text ≡ w ++ rest → Ends (goes_on k) rest → (ts : List Token) (e : End) → Lexes text (i + length w) ts e
    → LexedAs text i (t ∷ []) ts e
read_token k w t s f b text i rest h ends ts e x =
    let bytes : take (length w) (drop i text) ≡ w = ap (take (length w)) h ∙ take-append_seam w rest in
    let n : i + length w - i ≡ length w = omega arith in
    let own : take (i + length w - i) (drop i text) ≡ w = ap (λ m. take m (drop i text)) n ∙ bytes in
    record {
      tokens = token_at text i k (length w) ∷ ts;
      lexes = token k (length w) (subst (λ z. IsLongest z k (length w)) (sym h) (spelled-read k w rest s ends)) (subst (IsSound k) (sym bytes) f) x;
      same = ap (λ z. z ∷ map bare_tok (map (tok_of text) ts)) (ap (λ z. bare_tok (tok_by k z (place_at text i))) own ∙ b (place_at text i));
    }

pub token-piece : (P : List ℕ → Type 0) (k : TokenKind) (w : List ℕ) (t : Tok) → Spells k w → IsSound k w
    → ((at : Place) → bare_tok (tok_by k w at) ≡ bare_tok t) → ((rest : List ℕ) → P rest → Ends (goes_on k) rest) → Piece P w (t ∷ [])
token-piece P k w t s f b ends = record { read = λ text i rest h p ts e x. read_token k w t s f b text i rest h (ends rest p) ts e x }

-- ---- names and numbers

pub name-piece : (n : Identifier) → Spells kind.Name n.text × (length n.text ≤ 255) → Piece Safe n.text (name n ∷ [])
name-piece n h = token-piece Safe kind.Name n.text (name n) h.0 (sound-name n.text h.1) (λ at. refl) (λ rest p. p)

pub variable-piece : (n : Identifier) → Spells kind.Variable n.text × (length n.text ≤ 255) → Piece Safe n.text (variable n ∷ [])
variable-piece n h = token-piece Safe kind.Variable n.text (variable n) h.0 (sound-variable n.text h.1) (λ at. refl) (λ rest p. p)

digit-of-word : (b : ℕ) → is_word_byte b ≡ false → is_digit b ≡ false
unfolding is_word_byte is_digit
digit-of-word b h = grind (arith, nat_tests)

digits-end : (rest : List ℕ) → Safe rest → Ends is_digit rest
digits-end [] h = tt
digits-end (b ∷ bs) h = digit-of-word b h

pub number-piece : (z : ℤ) (at : Place) → FitsSigned w64 z → Piece Safe (signed_decimal z) (number z at ∷ [])
number-piece z at h = token-piece Safe kind.Number (signed_decimal z) (number z at) (spelled-number z h) (sound (signed_decimal z) (value-number z h))
    (λ x. ap (λ v. number v nowhere) (value-number z h)) digits-end
  where
    sound : (w : List ℕ) → number_value w ≡ z → IsSound kind.Number w
    sound w e flaw (past_64_bits f) = f (subst (FitsSigned w64) (sym e) h)

-- ---- keywords and signs

-- the spelling of a keyword, of `_` and of a sign
abbrev pub spelling : TokenKind → List ℕ
spelling kind.Name = []
spelling kind.Variable = []
spelling kind.Number = []
spelling kind.True = codes "true"
spelling kind.Erase = codes "erase"
spelling kind.Forall = codes "forall"
spelling kind.Exists = codes "exists"
spelling kind.Is = codes "is"
spelling kind.Module = codes "MODULE"
spelling kind.Local = codes "LOCAL"
spelling kind.Linear = codes "LINEAR"
spelling kind.Any = codes "_"
spelling kind.Dot = codes "."
spelling kind.Comma = codes ","
spelling kind.Ampersand = codes "&"
spelling kind.Semicolon = codes ";"
spelling kind.ParenLeft = codes "("
spelling kind.ParenRight = codes ")"
spelling kind.BraceLeft = codes "{"
spelling kind.BraceRight = codes "}"
spelling kind.Backslash = 92 ∷ []
spelling kind.Cons = codes "::"
spelling kind.ColonDash = codes ":-"
spelling kind.LeftArrow = codes "<="
spelling kind.RightArrow = codes "=>"
spelling kind.Most = codes "=<"
spelling kind.Less = codes "<"
spelling kind.Plus = codes "+"
spelling kind.Minus = codes "-"
spelling kind.Star = codes "*"
spelling kind.Lolli = codes "-o"
spelling kind.LoadArrow = codes "-->"

-- all kinds but names, variables and numbers
abbrev pub IsFixed : TokenKind → Type 0
IsFixed kind.Name = ⊥
IsFixed kind.Variable = ⊥
IsFixed kind.Number = ⊥
IsFixed _ = Unit {0}

fixed-spelled : (k : TokenKind) → IsFixed k → Spells k (spelling k)
unfolding kind_of fixed_spellings
fixed-spelled kind.Name f = absurd f
fixed-spelled kind.Variable f = absurd f
fixed-spelled kind.Number f = absurd f
fixed-spelled _ f = refl

fixed-sound : (k : TokenKind) (w : List ℕ) → IsFixed k → IsSound k w
fixed-sound k w f n (past_64_bits h) = f
fixed-sound k w f n (long_name h) = f
fixed-sound k w f n (long_variable h) = f

-- a keyword or `_`, and the signs
pub keyword : (k : TokenKind) (t : Tok) → IsFixed k → ((at : Place) → bare_tok (tok_by k (spelling k) at) ≡ bare_tok t)
    → ((rest : List ℕ) → Safe rest → Ends (goes_on k) rest) → Piece Safe (spelling k) (t ∷ [])
keyword k t f b ends = token-piece Safe k (spelling k) t (fixed-spelled k f) (fixed-sound k (spelling k) f) b ends

-- no byte goes on with a sign
any-end : (k : TokenKind) → ((b : ℕ) → goes_on k b ≡ false) → (rest : List ℕ) → Ends (goes_on k) rest
any-end k h [] = tt
any-end k h (b ∷ bs) = h b

pub sign : (k : TokenKind) (t : Tok) → IsFixed k → ((at : Place) → bare_tok (tok_by k (spelling k) at) ≡ bare_tok t) → ((b : ℕ) → goes_on k b ≡ false)
    → Piece Anything (spelling k) (t ∷ [])
sign k t f b h = token-piece Anything k (spelling k) t (fixed-spelled k f) (fixed-sound k (spelling k) f) b (λ rest p. any-end k h rest)

-- a word or a sign, behind which its bytes end
pub ended : (k : TokenKind) (t : Tok) → IsFixed k → ((at : Place) → bare_tok (tok_by k (spelling k) at) ≡ bare_tok t)
    → Piece (λ rest. Ends (goes_on k) rest) (spelling k) (t ∷ [])
ended k t f b = token-piece (λ rest. Ends (goes_on k) rest) k (spelling k) t (fixed-spelled k f) (fixed-sound k (spelling k) f) b (λ rest p. p)
