-- One turn of the loop over a text: what is read so far, and what each kind of front adds.
use Rattle.std.proofs.Common.{◌≡◌, ℕ, zero, suc, ◌+◌, ◌-◌, ◌<◌, ◌≤◌, true, false, List, [], ◌∷◌, ◌++◌, length, take, drop, get_or, map, refl, sym, ◌∙◌, ap}
use Rattle.std.proofs.Common.{subst, add-one, arith, append_assoc, append-nil, length-drop}
use Rattle.std.specs.List.{list_all, prefix_len}
use Rattle.std.proofs.Math.Seq.{drop-cons, take-length}
use Rattle.std.proofs.Math.ListN.{drop_of_length-le}
use Rattle.std.proofs.lemmas.List.{map-append}
use Rattle.std.proofs.lemmas.List.Sums.{prefix_len-le-length}
use Rattle.ll_list_laws.proofs.CallerLemmas.{run_passes as run-passes}
use Rattle.ll_lexer.specs.declared.Place.{Place}
use Rattle.ll_lexer.specs.declared.Row.{Row}
use Rattle.ll_lexer.specs.declared.Token.{Token}
use Rattle.ll_lexer.specs.declared.TokenKind.{TokenKind}
use Rattle.ll_lexer.specs.Kept.{token_of}
use Rattle.ll_lexer.specs.Spelling.{IsLongest, HasNone}
use Rattle.ll_lexer.specs.Reading.{is_blank, is_no_lf, after, place_at, IsGap, blank, comment, HasFlaw, IsSound, HasNoGap, End, done, Lexes, at_end, gap}
use Rattle.ll_lexer.specs.Reading.{token, flawed, no_token, token_at, IsLexed, HasFault}
use Rattle.ll_lexer.proofs.Longest.{nonempty}
use Rattle.ll_lexer.proofs.Places.{Below, columns, place-below, place-step, place-columns, token-no_lf}

-- the rows are the tokens of the text before byte i, which has this place
pub record IsReadTo (text : List ℕ) (rows : List Row) (at : Place) (i : ℕ) : Type 0 where
  pub within : i ≤ length text
  pub place : at ≡ place_at text i
  pub below : Below at i
  pub goes_on : (ts : List Token) (e : End) → Lexes text i ts e → Lexes text 0 (map token_of rows ++ ts) e

-- the bytes from i on, as the code passes them
pub rest-all : (text : List ℕ) (i : ℕ) → take (length text - i) (drop i text) ≡ drop i text
rest-all text i = let e : length text - i ≡ length (drop i text) = sym (length-drop i text) in rw e (take-length (drop i text))

front : (text : List ℕ) (i : ℕ) → i < length text → drop i text ≡ get_or text i 0 ∷ drop (i + 1) text
front text i h = rw add-one (drop-cons text i 0 h)

-- a place after more bytes
moved : (text : List ℕ) (rows : List Row) (at next : Place) (i j : ℕ) → j ≤ length text → next ≡ place_at text j
    → ((ts : List Token) (e : End) → Lexes text j ts e → Lexes text 0 (map token_of rows ++ ts) e) → IsReadTo text rows next j
moved text rows at next i j h e g = record { within = h; place = e; below = rw e (place-below text j h); goes_on = g }

-- a front that is neither a blank nor a comment
no-gap : (b : ℕ) (bs : List ℕ) → is_blank b ≡ false → (b ≡ 37 → ⊥) → HasNoGap (b ∷ bs)
no-gap b bs h p n (blank e) = absurd cc
no-gap b bs h p n (comment e) = p e

pub after-blank : (text : List ℕ) (rows : List Row) (at : Place) (i : ℕ) → IsReadTo text rows at i → i < length text → is_blank (get_or text i 0) ≡ true
    → IsReadTo text rows (after at (get_or text i 0)) (i + 1)
after-blank text rows at i r h b =
    let g : IsGap (drop i text) 1 = subst (λ z. IsGap z 1) (sym (front text i h)) (blank b) in
    moved text rows at _ i (i + 1) (omega arith) (ap (λ z. after z (get_or text i 0)) r.place ∙ sym (place-step text i h))
    (λ ts e l. r.goes_on ts e (gap 1 g l))

percent : (bs : List ℕ) → list_all is_no_lf bs ≡ true → list_all is_no_lf (37 ∷ bs) ≡ true
unfolding is_no_lf
percent bs h = h

pub after-comment : (text : List ℕ) (rows : List Row) (at : Place) (i n : ℕ) → IsReadTo text rows at i → i < length text → get_or text i 0 ≡ 37
    → n ≡ prefix_len is_no_lf (drop (i + 1) text) → IsReadTo text rows (columns at (1 + n)) (i + (1 + n))
after-comment text rows at i n r h b e =
    let rest = drop (i + 1) text in
    let short : n ≤ length rest = rw e (prefix_len-le-length is_no_lf rest) in
    let within : i + (1 + n) ≤ length text = omega (arith, length-drop (i + 1) text) in
    let g : IsGap (drop i text) (1 + n) = rw e (subst (λ z. IsGap z (1 + prefix_len is_no_lf rest)) (sym (front text i h)) (comment b)) in
    let no_lf : list_all is_no_lf (take (1 + n) (drop i text)) ≡ true =
    rw (front text i h, b, one-more n, e) (percent (take (prefix_len is_no_lf rest) rest) (run-passes is_no_lf rest)) in
    moved text rows at _ i (i + (1 + n)) within (ap (λ z. columns z (1 + n)) r.place ∙ sym (place-columns text i (1 + n) within no_lf))
    (λ ts e l. r.goes_on ts e (gap (1 + n) g l))
  where
    one-more : (n : ℕ) → 1 + n ≡ suc n
    one-more n = omega arith

-- the longest token at byte i, from what the code passes and gets
pub token-found : (text : List ℕ) (i : ℕ) (k : TokenKind) (n : ℕ) → IsLongest (take (length text - i) (drop i text)) k n → IsLongest (drop i text) k n
token-found text i k n l = subst (λ z. IsLongest z k n) (rest-all text i) l

pub token-bytes : (text : List ℕ) (i n : ℕ) → take (i + n - i) (drop i text) ≡ take n (drop i text)
token-bytes text i n = let e : i + n - i ≡ n = omega arith in rw e refl

pub token-length : (bytes : List ℕ) (k : TokenKind) (n : ℕ) → IsLongest bytes k n → 0 < n
token-length bytes k zero l = absurd (nonempty k l.spells)
token-length bytes k (suc n) l = omega arith

token-within : (text : List ℕ) (i n : ℕ) (k : TokenKind) → i ≤ length text → IsLongest (drop i text) k n → i + n ≤ length text
token-within text i n k h l = let w = l.within in omega (arith, length-drop i text)

pub after-token : (text : List ℕ) (rows : List Row) (at : Place) (i : ℕ) (k : TokenKind) (n : ℕ) → IsReadTo text rows at i → IsLongest (drop i text) k n
    → IsSound k (take n (drop i text)) → IsReadTo text (rows ++ record { kind = k; at = at; from = i; to = i + n } ∷ []) (columns at n) (i + n)
after-token text rows at i k n r l s =
    let within = token-within text i n k r.within l in
    let t : Token = record { kind = k; at = at; from = i; to = i + n } in
    let same : t ≡ token_at text i k n = ap (λ z. let u : Token = record { kind = k; at = z; from = i; to = i + n } in u) r.place in
    moved text (rows ++ record { kind = k; at = at; from = i; to = i + n } ∷ []) at _ i (i + n) within
    (ap (λ z. columns z n) r.place ∙ sym (place-columns text i n within (token-no_lf (take n (drop i text)) k l.spells)))
    (λ ts e m. subst (λ z. Lexes text 0 z e) (shown t ts) (r.goes_on (t ∷ ts) e (rw same (token k n l s m))))
  where
    shown : (t : Token) (ts : List Token) → map token_of rows ++ t ∷ ts
        ≡ map token_of (rows ++ record { kind = t.kind; at = t.at; from = t.from; to = t.to } ∷ []) ++ ts
    shown t ts = rw (map-append, append_assoc) refl

pub bad-byte : (text : List ℕ) (rows : List Row) (at : Place) (i : ℕ) → IsReadTo text rows at i → i < length text → HasNone (drop i text)
    → is_blank (get_or text i 0) ≡ false → (get_or text i 0 ≡ 37 → ⊥) → HasFault text (record { at = at; kind = 1 })
bad-byte text rows at i r h n b p = (
  map token_of rows ++ [],
  rw r.place (r.goes_on [] _ (no_token h n (subst HasNoGap (sym (front text i h)) (no-gap (get_or text i 0) (drop (i + 1) text) b p)))),
)

pub flawed-token : (text : List ℕ) (rows : List Row) (at : Place) (i : ℕ) (k : TokenKind) (n kind : ℕ) → IsReadTo text rows at i → IsLongest (drop i text) k n
    → HasFlaw k (take n (drop i text)) kind → HasFault text (record { at = at; kind = kind })
flawed-token text rows at i k n kind r l f = (map token_of rows ++ [], rw r.place (r.goes_on [] _ (flawed k n kind l f)))

pub all-read : (text : List ℕ) (rows : List Row) (at : Place) (i : ℕ) → IsReadTo text rows at i → length text ≤ i
    → IsLexed (record { text = text; tokens = map token_of rows; end = at })
all-read text rows at i r h =
    let e : i ≡ length text = let w = r.within in omega arith in
    let l : Lexes text 0 (map token_of rows ++ []) (done (place_at text (length text))) = r.goes_on [] _ (at_end (drop_of_length-le text h)) in
    let p : at ≡ place_at text (length text) = r.place ∙ ap (place_at text) e in
    rw p (subst (λ z. Lexes text 0 z (done (place_at text (length text)))) (append-nil (map token_of rows)) l)
