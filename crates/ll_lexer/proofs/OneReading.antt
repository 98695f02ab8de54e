-- A text is read in one way.
use Rattle.std.proofs.Common.{◌≡◌, ℕ, zero, suc, ◌+◌, ◌-◌, ◌<◌, ◌≤◌, true, false, List, [], ◌∷◌, length, take, drop, Some, refl, sym, ◌∙◌, ap, subst, arith}
use Rattle.std.proofs.Common.{length-drop, inl, inr}
use Rattle.std.specs.List.{slice_get}
use Rattle.std.proofs.lemmas.Bool.{cases_lt}
use Rattle.std.proofs.lemmas.Bool.Decides.{nat_tests}
use Rattle.ll_lexer.specs.declared.Fault.{Fault}
use Rattle.ll_lexer.specs.declared.Place.{Place}
use Rattle.ll_lexer.specs.declared.Token.{Token}
use Rattle.ll_lexer.specs.declared.TokenKind.{TokenKind}
use Rattle.ll_lexer.specs.Spelling.{is_digit, is_word_start, IsLongest, HasNone}
use Rattle.ll_lexer.specs.Reading.{is_blank, place_at, IsGap, blank, comment, HasFlaw, past_64_bits, long_name, long_variable, IsSound, End, done, stopped}
use Rattle.ll_lexer.specs.Reading.{Lexes, at_end, gap, token, flawed, no_token, token_at, LexedText, IsLexed, IsTokenOf}
use Rattle.ll_lexer.specs.Reading.{IsLexedOnce, HasFaultOnce, IsLexedOrFaulty}
use Rattle.ll_lexer.proofs.Longest.{begins, first-begins, nonempty}

gap-unique : (bytes : List ℕ) (n m : ℕ) → IsGap bytes n → IsGap bytes m → n ≡ m
unfolding is_blank
gap-unique bytes n m (blank e) (blank f) = refl
gap-unique bytes n m (comment e) (comment f) = refl
gap-unique bytes n m (blank e) (comment f) = let t : false ≡ true = rw f at e in absurd cc
gap-unique bytes n m (comment f) (blank e) = let t : false ≡ true = rw f at e in absurd cc

gap-empty : (n : ℕ) → IsGap [] n → ⊥
gap-empty n g = elim g [ ]

longest-unique : (bytes : List ℕ) (k j : TokenKind) (n m : ℕ) → IsLongest bytes k n → IsLongest bytes j m → (k ≡ j) × (n ≡ m)
longest-unique bytes k j n m a b = elim (cases_lt n m) [
  | inl h ↦ absurd (a.longest j m h b.within b.spells)
  | inr h ↦ elim (cases_lt m n) [
    | inl g ↦ absurd (b.longest k n g a.within a.spells)
    | inr g ↦ (let e : n ≡ m = omega arith in let s : Some k ≡ Some j = sym a.spells ∙ rw e b.spells in (cc, e))
  ]
]

longest-empty : (k : TokenKind) (n : ℕ) → IsLongest [] k n → ⊥
longest-empty k zero l = nonempty k l.spells
longest-empty k (suc n) l = nonempty k l.spells

blank-begins : (b : ℕ) → is_blank b ≡ true → begins b ≡ false
unfolding is_blank is_word_start is_digit
blank-begins b h = grind (arith, nat_tests)

percent-begins : (b : ℕ) → b ≡ 37 → begins b ≡ false
unfolding is_word_start is_digit
percent-begins b h = rw h refl

byte-longest : (b : ℕ) (bs : List ℕ) (k : TokenKind) (m : ℕ) → begins b ≡ false → IsLongest (b ∷ bs) k m → ⊥
byte-longest b bs k zero h l = nonempty k l.spells
byte-longest b bs k (suc m) h l = first-begins b (take m bs) k h l.spells

gap-longest : (bytes : List ℕ) (n : ℕ) (k : TokenKind) (m : ℕ) → IsGap bytes n → IsLongest bytes k m → ⊥
gap-longest bytes n k m (blank {b} {bs} e) l = byte-longest b bs k m (blank-begins b e) l
gap-longest bytes n k m (comment {b} {bs} e) l = byte-longest b bs k m (percent-begins b e) l

flaw-unique : (k : TokenKind) (w : List ℕ) (a b : ℕ) → HasFlaw k w a → HasFlaw k w b → a ≡ b
flaw-unique k w a b (past_64_bits h) (past_64_bits g) = refl
flaw-unique k w a b (long_name h) (long_name g) = refl
flaw-unique k w a b (long_variable h) (long_variable g) = refl

ended-short : (text : List ℕ) (i : ℕ) → drop i text ≡ [] → i < length text → ⊥
ended-short text i e h = let f : length (drop i text) ≡ 0 = ap length e in omega (arith, length-drop i text)

gap-ended : (text : List ℕ) (i n : ℕ) → drop i text ≡ [] → IsGap (drop i text) n → ⊥
gap-ended text i n e g = gap-empty n (rw e at g)

longest-ended : (text : List ℕ) (i n : ℕ) (k : TokenKind) → drop i text ≡ [] → IsLongest (drop i text) k n → ⊥
longest-ended text i n k e l = longest-empty k n (rw e at l)

none-longest : (bytes : List ℕ) (k : TokenKind) (n : ℕ) → HasNone bytes → IsLongest bytes k n → ⊥
none-longest bytes k n h l = h k n l.within l.spells

-- a flaw of the longest token, whichever way it was found
moved-flaw : (bytes : List ℕ) (k j : TokenKind) (n m f : ℕ) → IsLongest bytes k n → IsLongest bytes j m → HasFlaw j (take m bytes) f
    → HasFlaw k (take n bytes) f
moved-flaw bytes k j n m f a b h =
    let u = longest-unique bytes j k m n b a in
    subst (λ z. HasFlaw z (take n bytes) f) u.0 (subst (λ z. HasFlaw j (take z bytes) f) u.1 h)

sound-flawed : (bytes : List ℕ) (k j : TokenKind) (n m f : ℕ) → IsLongest bytes k n → IsSound k (take n bytes) → IsLongest bytes j m
    → HasFlaw j (take m bytes) f → ⊥
sound-flawed bytes k j n m f a s b h = s f (moved-flaw bytes k j n m f a b h)

pub one-reading : (text : List ℕ) (i : ℕ) (ts us : List Token) (d e : End) → Lexes text i ts d → Lexes text i us e → (ts ≡ us) × (d ≡ e)
one-reading text i ts us d e (at_end h) (at_end g) = (refl, refl)
one-reading text i ts us d e (at_end h) (gap n g x) = absurd (gap-ended text i n h g)
one-reading text i ts us d e (at_end h) (token k n l s x) = absurd (longest-ended text i n k h l)
one-reading text i ts us d e (at_end h) (flawed k n f l x) = absurd (longest-ended text i n k h l)
one-reading text i ts us d e (at_end h) (no_token g n m) = absurd (ended-short text i h g)
one-reading text i ts us d e (gap n g x) (at_end h) = absurd (gap-ended text i n h g)
one-reading text i ts us d e (gap n g x) (gap m h y) = one-reading text (i + n) ts us d e x (let f : n ≡ m = gap-unique (drop i text) n m g h in rw f y)
one-reading text i ts us d e (gap n g x) (token k m l s y) = absurd (gap-longest (drop i text) n k m g l)
one-reading text i ts us d e (gap n g x) (flawed k m f l y) = absurd (gap-longest (drop i text) n k m g l)
one-reading text i ts us d e (gap n g x) (no_token h m o) = absurd (o n g)
one-reading text i ts us d e (token k n l s x) (at_end h) = absurd (longest-ended text i n k h l)
one-reading text i ts us d e (token k n l s x) (gap m g y) = absurd (gap-longest (drop i text) m k n g l)
one-reading text i ts us d e (token {ts = vs} k n l s x) (token {ts = ws} j m p t y) =
    let u = longest-unique (drop i text) k j n m l p in
    let r = one-reading text (i + n) vs ws d e x (subst (λ z. Lexes text (i + z) ws e) (sym u.1) y) in
    (ap (λ z. token_at text i z n ∷ vs) u.0 ∙ ap (λ z. token_at text i j z ∷ vs) u.1 ∙ ap (λ z. token_at text i j m ∷ z) r.0, r.1)
one-reading text i ts us d e (token k n l s x) (flawed j m f p y) = absurd (sound-flawed (drop i text) k j n m f l s p y)
one-reading text i ts us d e (token k n l s x) (no_token h m o) = absurd (none-longest (drop i text) k n m l)
one-reading text i ts us d e (flawed k n f l x) (at_end h) = absurd (longest-ended text i n k h l)
one-reading text i ts us d e (flawed k n f l x) (gap m g y) = absurd (gap-longest (drop i text) m k n g l)
one-reading text i ts us d e (flawed k n f l x) (token j m p t y) = absurd (sound-flawed (drop i text) j k m n f p t l x)
one-reading text i ts us d e (flawed k n f l x) (flawed j m g p y) =
    let same : f ≡ g = flaw-unique k (take n (drop i text)) f g x (moved-flaw (drop i text) k j n m g l p y) in
    (refl, ap (λ z. stopped z (place_at text i)) same)
one-reading text i ts us d e (flawed k n f l x) (no_token h m o) = absurd (none-longest (drop i text) k n m l)
one-reading text i ts us d e (no_token h n g) (at_end x) = absurd (ended-short text i x h)
one-reading text i ts us d e (no_token h n g) (gap m o y) = absurd (g m o)
one-reading text i ts us d e (no_token h n g) (token k m l s y) = absurd (none-longest (drop i text) k m n l)
one-reading text i ts us d e (no_token h n g) (flawed k m f l y) = absurd (none-longest (drop i text) k m n l)
one-reading text i ts us d e (no_token h n g) (no_token x m o) = (refl, refl)

pub one-list : IsLexedOnce
one-list a b e h g =
    let f : Lexes a.text 0 b.tokens (done b.end) = rw e g in
    let r = one-reading a.text 0 a.tokens b.tokens (done a.end) (done b.end) h f in
    let t : a.tokens ≡ b.tokens = r.0 in
    let p : a.end ≡ b.end = cc in
    same-text a.text b.text a.tokens b.tokens a.end b.end e t p
  where
    same-text : (t u : List ℕ) (xs ys : List Token) (p q : Place) → t ≡ u → xs ≡ ys → p ≡ q
        → (let x : LexedText = record { text = t; tokens = xs; end = p } in x) ≡ (let y : LexedText = record { text = u; tokens = ys; end = q } in y)
    same-text t u xs ys p q e f g = rw (e, f, g) refl

pub one-fault : HasFaultOnce
one-fault text f g a b =
    let r = one-reading text 0 a.0 b.0 (stopped f.kind f.at) (stopped g.kind g.at) a.1 b.1 in
    let k : f.kind ≡ g.kind = cc in
    let p : f.at ≡ g.at = cc in
    same-fault f.at g.at f.kind g.kind p k
  where
    same-fault : (p q : Place) (k j : ℕ) → p ≡ q → k ≡ j → (let x : Fault = record { at = p; kind = k } in x)
        ≡ (let y : Fault = record { at = q; kind = j } in y)
    same-fault p q k j e h = rw (e, h) refl

pub not-both : IsLexedOrFaulty
not-both a f h g =
    let r = one-reading a.text 0 a.tokens g.0 (done a.end) (stopped f.kind f.at) h g.1 in absurd cc

-- ---- the tokens of a list, one by one

longest-within : (text : List ℕ) (i : ℕ) (k : TokenKind) (n : ℕ) → IsLongest (drop i text) k n → i + n ≤ length text
longest-within text i k zero l = absurd (nonempty k l.spells)
longest-within text i k (suc n) l = let w = l.within in omega (arith, length-drop i text)

token-stands : (text : List ℕ) (i : ℕ) (k : TokenKind) (n : ℕ) → IsLongest (drop i text) k n → IsSound k (take n (drop i text))
    → IsTokenOf text (token_at text i k n)
token-stands text i k n l s =
    let e : i + n - i ≡ n = omega arith in
    record { order = omega arith; within = longest-within text i k n l; spells = rw e l.spells; sound = rw e s }

pub token-found : (text : List ℕ) (i : ℕ) (ts : List Token) (e : End) → Lexes text i ts e → (j : ℕ) (t : Token) → slice_get ts j ≡ Some t → IsTokenOf text t
token-found text i ts e (at_end x) j t h = absurd cc
token-found text i ts e (gap n g x) j t h = token-found text (i + n) ts e x j t h
token-found text i ts e (token k n l s x) zero t h =
    let f : token_at text i k n ≡ t = cc in subst (IsTokenOf text) f (token-stands text i k n l s)
token-found text i ts e (token {ts = us} k n l s x) (suc j) t h = token-found text (i + n) us e x j t h
token-found text i ts e (flawed k n f l x) j t h = absurd cc
token-found text i ts e (no_token x n g) j t h = absurd cc
