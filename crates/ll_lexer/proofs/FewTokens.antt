-- A text has no more tokens than bytes.
use Rattle.std.proofs.Common.{ℕ, zero, suc, ◌+◌, ◌<◌, ◌≤◌, List, [], length, drop, arith}
use Rattle.std.proofs.lemmas.List.{length-drop}
use Rattle.std.proofs.lemmas.List.Sums.{prefix_len-le-length}
use Rattle.ll_lexer.specs.declared.Token.{Token}
use Rattle.ll_lexer.specs.declared.TokenKind.{TokenKind}
use Rattle.ll_lexer.specs.Spelling.{Spells, kind_of, fixed_spellings, IsLongest}
use Rattle.ll_lexer.specs.Reading.{is_no_lf, IsGap, blank, comment, End, done, Lexes, at_end, gap, token, flawed, no_token, LexedText, IsLexed}

gap-within : (bytes : List ℕ) (n : ℕ) → IsGap bytes n → n ≤ length bytes
gap-within _ _ (blank h) = omega arith
gap-within _ _ (comment {b} {bs} h) = let k = prefix_len-le-length is_no_lf bs in omega arith

nothing-spelled : (k : TokenKind) → Spells k [] → ⊥
unfolding kind_of fixed_spellings
nothing-spelled k h = cc

token-long : (bytes : List ℕ) (k : TokenKind) (n : ℕ) → IsLongest bytes k n → 0 < n
token-long bytes k zero l = absurd (nothing-spelled k l.spells)
token-long bytes k (suc n) l = omega arith

few-from : (text : List ℕ) (i : ℕ) (ts : List Token) (e : End) → Lexes text i ts e → i ≤ length text → length ts + i ≤ length text
few-from text i _ _ (at_end h) le = omega arith
few-from text i ts e (gap n g r) le = let w = gap-within (drop i text) n g in let d = length-drop i text in
    let k = few-from text (i + n) ts e r (omega arith) in omega arith
few-from text i _ e (token {ts = ts} k n l s r) le =
    let w = l.within in let d = length-drop i text in let p = token-long (drop i text) k n l in let q = few-from text (i + n) ts e r (omega arith) in
    omega arith
few-from text i _ _ (flawed k n kind l f) le = omega arith
few-from text i _ _ (no_token h p q) le = omega arith

-- a text has no more tokens than bytes
pub few-tokens : (l : LexedText) → IsLexed l → length l.tokens ≤ length l.text
few-tokens l h = let k = few-from l.text 0 l.tokens (done l.end) h (omega arith) in omega arith
