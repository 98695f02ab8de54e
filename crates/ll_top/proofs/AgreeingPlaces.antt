-- The fault of a text that is one line stands on line 1.
use Rattle.std.proofs.Common.{◌≡◌, ◌≤◌, ◌<◌, ◌+◌, ◌-◌, ◌^◌, ℕ, zero, suc, ℤ, refl, ap, sym, subst, ◌∙◌, Bool, true, false, List, [], ◌∷◌, ◌++◌, length, take}
use Rattle.std.proofs.Common.{drop, map, inl, inr, if◌then◌else◌, arith}
use Rattle.std.specs.Prelude.{◌==◌, fold, All, FitsSigned}
use Rattle.std.specs.Int.{w64}
use Rattle.std.proofs.lemmas.Bool.{cases_lt}
use Rattle.std.proofs.lemmas.List.Elements.{All-cons}
use mir.Val.{hbits}
use lib.Signed.{mag}
use Rattle.ll_lexer.specs.declared.Fault.{Fault}
use Rattle.ll_lexer.specs.declared.Place.{Place}
use Rattle.ll_lexer.specs.declared.Token.{Token}
use Rattle.ll_lexer.specs.declared.TokenKind.{TokenKind}
use Rattle.ll_lexer.specs.declared.TokenKind.TheVariants as kind
use Rattle.ll_lexer.specs.Spelling.{Spells}
use Rattle.ll_lexer.specs.Reading.{after, place_at, past_64_bits, long_name, long_variable, number_value, IsSound, End, done, stopped, token_at, bytes_of}
use Rattle.ll_lexer.specs.Reading.{Lexes, at_end, gap, token, flawed, no_token}
use Rattle.ll_parser.specs.Raw.{Raw, ProgramTree}
use Rattle.ll_parser.specs.Text.{queries}
use Rattle.ll_parser.specs.Tokens.{Tok, tok_place, tok_by, tok_of, toks_of, IsSpelled}
use Rattle.ll_parser.specs.Reads.{Reads, HasFault as HasTokenFault, bad_token, ends_early, too_many_open}
use Rattle.ll_parser.proofs.CallerLemmas.{kind-spelled, place-by}
use Rattle.ll_polarity.specs.Faults.{Heading, heading, query_faults, AreInOrder}
use Rattle.ll_session.specs.Lines.{with_front, lines}
use Rattle.ll_session.specs.Reading.{most_open, IsQueryFault, lexical, grammatical, of_scope}

-- ---- lines

-- no byte of the text ends a line
abbrev pub IsClean : List ℕ → Type 0
IsClean [] = Unit {0}
IsClean (b ∷ bs) = ((b == 10) ≡ false) × IsClean bs

abbrev pub AreClean : List (List ℕ) → Type 0
AreClean [] = Unit {0}
AreClean (l ∷ ls) = IsClean l × AreClean ls

front-clean : (b : ℕ) (ls : List (List ℕ)) → (b == 10) ≡ false → AreClean ls → AreClean (with_front b ls)
front-clean b [] e h = ((e, tt), tt)
front-clean b (l ∷ ls) e h = ((e, h.0), h.1)

split-clean : (b : ℕ) (ls : List (List ℕ)) → AreClean ls → (v : Bool) → (b == 10) ≡ v → AreClean (if v then [] ∷ ls else with_front b ls)
split-clean b ls h true e = (tt, h)
split-clean b ls h false e = front-clean b ls e h

-- no line of a text has such a byte
pub lines-clean : (text : List ℕ) → AreClean (lines text)
lines-clean [] = tt
lines-clean (b ∷ bs) = split-clean b (lines bs) (lines-clean bs) (b == 10) refl

take-clean : (i : ℕ) (bs : List ℕ) → IsClean bs → IsClean (take i bs)
take-clean zero bs h = tt
take-clean (suc i) [] h = tt
take-clean (suc i) (b ∷ bs) h = (h.0, take-clean i bs h.1)

-- the place after a byte that ends its line or does not
abbrev moved : Place → Bool → Place
moved at v = if v then record { line = at.line + 1; column = 1 } else record { line = at.line; column = at.column + 1 }

-- so no place behind such bytes is on another line
same-line : (at : Place) (bs : List ℕ) → IsClean bs → (fold after at bs).line ≡ at.line
same-line at [] h = refl
same-line at (b ∷ bs) h = same-line (after at b) bs h.1 ∙ ap (λ v. (moved at v).line) h.0

-- ---- tokens

-- all tokens stand on line 1
abbrev OnFirst : List Tok → Type 0
OnFirst [] = Unit {0}
OnFirst (t ∷ ts) = ((tok_place t).line ≡ 1) × OnFirst ts

abbrev end_place : End → Place
end_place (done at) = at
end_place (stopped kind at) = at

-- what a text without such a byte is read as: its tokens stand on line 1, as its end or its fault does, and can stand in a text
record IsOneLine (text : List ℕ) (ts : List Token) (e : End) : Type 0 where
  first : OnFirst (map (tok_of text) ts)
  ends : (end_place e).line ≡ 1
  spell : All IsSpelled (map (tok_of text) ts)

module _ (text : List ℕ) (clean : IsClean text) where
  place-line : (i : ℕ) → (place_at text i).line ≡ 1
  place-line i = same-line (record { line = 1; column = 1 }) (take i text) (take-clean i text clean)

  none-spelled : All IsSpelled (map (tok_of text) [])
  none-spelled = λ k d l. absurd (omega (arith, l))

  one-line : (i : ℕ) (ts : List Token) (e : End) → Lexes text i ts e → IsOneLine text ts e
  one-line i _ _ (at_end h) = record { first = tt; ends = place-line (length text); spell = none-spelled }
  one-line i ts e (gap n g l) = one-line (i + n) ts e l
  one-line i _ e (token {ts = ts} k n longest sound l) =
      let r = one-line (i + n) ts e l in
      let t = token_at text i k n in
      let same : take n (drop i text) ≡ bytes_of text t = let m : n ≡ (i + n) - i = omega arith in ap (λ j. take j (drop i text)) m in
      record {
        first = (ap (λ (p : Place). p.line) (place-by k (bytes_of text t) (place_at text i)) ∙ place-line i, r.first);
        ends = r.ends;
        spell =
            All-cons IsSpelled (tok_of text t) (map (tok_of text) ts)
            (kind-spelled k (bytes_of text t) (place_at text i) (subst (Spells k) same longest.spells) (subst (IsSound k) same sound)) r.spell;
      }
  one-line i _ _ (flawed k n kind a b) = record { first = tt; ends = place-line i; spell = none-spelled }
  one-line i _ _ (no_token a b c) = record { first = tt; ends = place-line i; spell = none-spelled }

-- ---- faults

split-first : (front : List Tok) (t : Tok) (after : List Tok) → OnFirst (front ++ t ∷ after) → (tok_place t).line ≡ 1
split-first [] t after h = h.0
split-first (x ∷ front) t after h = split-first front t after h.1

token-fault : (ts : List Tok) (end : Place) (f : Fault) → OnFirst ts → end.line ≡ 1 → HasTokenFault queries most_open ts end f → f.at.line ≡ 1
token-fault ts end _ h e (bad_token i t s n) = split-first (take i ts) t s.after (subst OnFirst s.split h)
token-fault ts end _ h e (ends_early b w n) = e
token-fault ts end _ h e (too_many_open i t s b o l) = split-first (take i ts) t s.after (subst OnFirst s.split h)

ordered-fault : (f : Fault) (fs : List Fault) (ts : List Tok) → OnFirst ts → AreInOrder (f ∷ fs) ts → f.at.line ≡ 1
ordered-fault f fs [] h o = absurd o
ordered-fault f fs (t ∷ ts) h (inl o) = ap (λ (p : Place). p.line) o.0 ∙ h.0
ordered-fault f fs (t ∷ ts) h (inr o) = ordered-fault f fs ts h.1 o

-- the faults of queries stand in the order of their tokens
abbrev pub QueryOrder : Type 0
QueryOrder = (limit : ℕ) (ts : List Tok) (query : Raw) (modules : List Heading) → All IsSpelled ts → Reads queries limit ts query
    → AreInOrder (query_faults modules query) ts

pub line-fault : QueryOrder → (program : ProgramTree) (text : List ℕ) (f : Fault) → IsClean text → IsQueryFault program text f → f.at.line ≡ 1
line-fault order program text f clean (lexical h) = (one-line text clean 0 h.0 (stopped f.kind f.at) h.1).ends
line-fault order program text f clean (grammatical lexed e l h) =
    let r = one-line lexed.text (subst IsClean (sym e) clean) 0 lexed.tokens (done lexed.end) l in
    token-fault (toks_of lexed) lexed.end f r.first r.ends h
line-fault order program text f clean (of_scope tree q h) =
    let r = one-line q.lexed.text (subst IsClean (sym q.of_text) clean) 0 q.lexed.tokens (done q.lexed.end) q.is_lexed in
    let ts = toks_of q.lexed in
    let modules = map heading program.modules in
    ordered-fault f h.0 ts r.first (subst (λ fs. AreInOrder fs ts) h.1 (order most_open ts tree modules r.spell q.reads))
