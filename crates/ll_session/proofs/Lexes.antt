-- Each text has its tokens, or a first fault.
use Rattle.std.proofs.Common.{◌≡◌, ◌⊎◌, ℕ, zero, suc, ◌+◌, ◌<◌, ◌≤◌, ◌^◌, Bool, true, false, List, [], ◌∷◌, length, take, drop, Option, Some, None, ℤ, refl}
use Rattle.std.proofs.Common.{sym, ◌∙◌, ap, subst, arith, length-drop, inl, inr}
use Rattle.std.specs.Prelude.{FitsSigned, ◌==◌}
use Rattle.std.specs.Int.{w64}
use Rattle.std.specs.List.{prefix_len}
use Rattle.std.proofs.Math.Nat.{eq-or-lt_of_le}
use Rattle.std.proofs.lemmas.Bool.{cases_lt, false≢true}
use Rattle.std.proofs.lemmas.Bool.Decides.{Decides-eqb}
use Rattle.std.proofs.lemmas.List.Sums.{prefix_len-le-length}
use mir.Val.{hbits}
use lib.Signed.{mag}
use Rattle.ll_lexer.specs.declared.Fault.{Fault}
use Rattle.ll_lexer.specs.declared.Token.{Token}
use Rattle.ll_lexer.specs.declared.TokenKind.{TokenKind}
use Rattle.ll_lexer.specs.declared.TokenKind.TheVariants.{Name, Variable, Number}
use Rattle.ll_lexer.specs.Spelling.{kind_of, Spells, IsLongest, HasNone}
use Rattle.ll_lexer.specs.Reading.{is_blank, is_no_lf, IsGap, blank, comment, HasFlaw, past_64_bits, long_name, long_variable, number_value, IsSound, End}
use Rattle.ll_lexer.specs.Reading.{done, stopped, Lexes, at_end, gap, token, flawed, no_token, token_at, place_at, HasNoGap, LexedText, IsLexed, HasFault}
use Rattle.ll_lexer.proofs.CallerLemmas.{nonempty, sound-name, sound-variable}

-- ---- one token

pub record Longest (bytes : List ℕ) : Type 0 where
  pub kind : TokenKind
  pub count : ℕ
  pub is : IsLongest bytes kind count

-- no token has more than n bytes
abbrev NoneLonger : List ℕ → ℕ → Type 0
NoneLonger bytes n = (j : TokenKind) (m : ℕ) → n < m → m ≤ length bytes → Spells j (take m bytes) → ⊥

none-less : (bytes : List ℕ) (n : ℕ) → kind_of (take (suc n) bytes) ≡ None → NoneLonger bytes (suc n) → NoneLonger bytes n
none-less bytes n e h j m l w s = elim (eq-or-lt_of_le (let k : suc n ≤ m = omega arith in k)) [
  | inl same ↦ absurd (let f : None ≡ Some j = sym e ∙ (ap (λ i. kind_of (take i bytes)) same ∙ s) in cc)
  | inr more ↦ h j m more w s
]

no-bytes : (bytes : List ℕ) → take 0 bytes ≡ []
no-bytes [] = refl
no-bytes (b ∷ bs) = refl

longest-to : (bytes : List ℕ) (n : ℕ) → n ≤ length bytes → NoneLonger bytes n → Longest bytes ⊎ HasNone bytes
longest-to bytes zero w h = inr (λ j m l s. none m j l s)
  where
    none : (m : ℕ) (j : TokenKind) → m ≤ length bytes → Spells j (take m bytes) → ⊥
    none zero j l s = nonempty j (ap kind_of (sym (no-bytes bytes)) ∙ s)
    none (suc m) j l s = h j (suc m) (omega arith) l s
longest-to bytes (suc n) w h = by (kind_of (take (suc n) bytes)) refl (λ more. longest-to bytes n (omega arith) more)
  where
    by : (found : Option TokenKind) → kind_of (take (suc n) bytes) ≡ found → (NoneLonger bytes n → Longest bytes ⊎ HasNone bytes)
        → Longest bytes ⊎ HasNone bytes
    by (Some k) e rest = inl (record { kind = k; count = suc n; is = record { within = w; spells = e; longest = h } })
    by None e rest = rest (none-less bytes n e h)

pub longest-or-none : (bytes : List ℕ) → Longest bytes ⊎ HasNone bytes
longest-or-none bytes = longest-to bytes (length bytes) (omega arith) (λ j m l w s. omega arith)

-- ---- flaws

fits-or-not : (z : ℤ) → FitsSigned w64 z ⊎ (FitsSigned w64 z → ⊥)
fits-or-not z = elim (cases_lt (mag z) (2 ^ hbits w64)) [ inl l ↦ inl (record { sfits = l }) | inr g ↦ inr (λ h. let l = h.sfits in omega arith) ]

sound-number : (w : List ℕ) → FitsSigned w64 (number_value w) → IsSound Number w
sound-number w f kind (past_64_bits not) = not f

pub sound-or-flawed : (k : TokenKind) (w : List ℕ) → IsSound k w ⊎ ((kind : ℕ) × HasFlaw k w kind)
sound-or-flawed Number w = elim (fits-or-not (number_value w)) [ inl f ↦ inl (sound-number w f) | inr not ↦ inr (2, past_64_bits not) ]
sound-or-flawed Name w = elim (cases_lt 255 (length w)) [ inl more ↦ inr (3, long_name more) | inr l ↦ inl (sound-name w l) ]
sound-or-flawed Variable w = elim (cases_lt 255 (length w)) [ inl more ↦ inr (3, long_variable more) | inr l ↦ inl (sound-variable w l) ]
sound-or-flawed _ w = inl (λ kind h. elim h [ ])

-- ---- whole texts

pub record Ends (text : List ℕ) (i : ℕ) : Type 0 where
  pub tokens : List Token
  pub end : End
  pub lexes : Lexes text i tokens end

module _ (text : List ℕ) where
  no-gap : (b : ℕ) (bs : List ℕ) (n : ℕ) → is_blank b ≡ false → (b ≡ 37 → ⊥) → IsGap (b ∷ bs) n → ⊥
  no-gap b bs n e f (blank g) = false≢true (sym e ∙ g)
  no-gap b bs n e f (comment g) = f g

  -- the bytes from byte i on, and how the text ends from each later byte on
  from-here : (i : ℕ) (bytes : List ℕ) → drop i text ≡ bytes → i ≤ length text → ((j : ℕ) → i < j → j ≤ length text → Ends text j) → Ends text i
  from-here i [] e l later = record { tokens = []; end = done (place_at text (length text)); lexes = at_end e }
  from-here i (b ∷ bs) e l later = by-blank (is_blank b) refl
    where
      behind : i + length (b ∷ bs) ≡ length text
      behind = let d = length-drop i text in let c = ap length e in omega arith

      skips : (n : ℕ) → 0 < n → n ≤ length (b ∷ bs) → IsGap (b ∷ bs) n → Ends text i
      skips n p w g = let r = later (i + n) (omega arith) (omega (arith, behind)) in
          record { tokens = r.tokens; end = r.end; lexes = gap n (subst (λ bytes. IsGap bytes n) (sym e) g) r.lexes }

      takes : (k : TokenKind) (n : ℕ) → IsLongest (b ∷ bs) k n → Ends text i
      takes k zero h = absurd (nonempty k h.spells)
      takes k (suc n) h =
          let here : IsLongest (drop i text) k (suc n) = subst (λ bytes. IsLongest bytes k (suc n)) (sym e) h in
          elim (sound-or-flawed k (take (suc n) (drop i text))) [
            | inl sound ↦ (let w = h.within in let r = later (i + suc n) (omega arith) (omega (arith, behind)) in
                record { tokens = token_at text i k (suc n) ∷ r.tokens; end = r.end; lexes = token k (suc n) here sound r.lexes })
            | inr flaw ↦ record { tokens = []; end = stopped flaw.0 (place_at text i); lexes = flawed k (suc n) flaw.0 here flaw.1 }
          ]

      by-token : is_blank b ≡ false → (b ≡ 37 → ⊥) → Ends text i
      by-token f g = elim (longest-or-none (b ∷ bs)) [
        | inl found ↦ takes found.kind found.count found.is
        | inr none ↦ record {
          tokens = [];
          end = stopped 1 (place_at text i);
          lexes = no_token (omega (arith, behind)) (subst HasNone (sym e) none) (subst HasNoGap (sym e) (λ n h. no-gap b bs n f g h));
        }
      ]

      by-percent : is_blank b ≡ false → (v : Bool) → (b == 37) ≡ v → Ends text i
      by-percent f true g = let c = prefix_len-le-length is_no_lf bs in
          skips (1 + prefix_len is_no_lf bs) (omega arith) (omega arith) (comment ((Decides-eqb b 37).0 g))
      by-percent f false g = by-token f (λ h. false≢true (sym g ∙ (Decides-eqb b 37).1 h))

      by-blank : (v : Bool) → is_blank b ≡ v → Ends text i
      by-blank true f = skips 1 (omega arith) (omega arith) (blank f)
      by-blank false f = by-percent f (b == 37) refl

  ends : (fuel i : ℕ) → length text ≤ i + fuel → i ≤ length text → Ends text i
  ends zero i h l = from-here i (drop i text) refl l (λ j m k. absurd (omega arith))
  ends (suc fuel) i h l = from-here i (drop i text) refl l (λ j m k. ends fuel j (omega arith) k)

  how-ends : (ts : List Token) (end : End) → Lexes text 0 ts end → ((l : LexedText) × ((l.text ≡ text) × IsLexed l)) ⊎ ((f : Fault) × HasFault text f)
  how-ends ts (done at) h = inl (record { text = text; tokens = ts; end = at }, (refl, h))
  how-ends ts (stopped kind at) h = inr (record { at = at; kind = kind }, (ts, h))

  -- a text has its tokens, or a first fault
  pub lexed-or-not : ((l : LexedText) × ((l.text ≡ text) × IsLexed l)) ⊎ ((f : Fault) × HasFault text f)
  lexed-or-not = let r = ends (length text) 0 (omega arith) (omega arith) in how-ends r.tokens r.end r.lexes
