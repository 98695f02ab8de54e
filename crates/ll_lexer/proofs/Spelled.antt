-- What the spelling of a token tells: each property is tested on the fixed spellings, and shown for words and numbers.
use Rattle.std.proofs.Common.{◌≡◌, ℕ, Bool, true, false, ◌&&◌, List, [], ◌∷◌, Option, Some, None, refl, ◌∙◌, subst}
use Rattle.std.specs.List.{list_all}
use Rattle.std.specs.Str.{bytes_eq}
use Rattle.std.proofs.lemmas.Slice.Eq.{bytes_eq-Decides}
use Rattle.ll_list_laws.proofs.CallerLemmas.{and_true_both as both}
use Rattle.ll_lexer.specs.declared.TokenKind.{TokenKind}
use Rattle.ll_lexer.specs.declared.TokenKind.TheVariants.{Name, Variable, Number}
use Rattle.ll_lexer.specs.Spelling.{is_name, is_variable, is_number, fixed_spellings, listed_kind, shaped_kind, kind_of}

-- what a list gives passes, if each entry does
listed-passes : (p : List ℕ → TokenKind → Bool) (es : List (List ℕ × TokenKind)) (w : List ℕ) (k : TokenKind) → list_all (λ e. p e.0 e.1) es ≡ true
    → listed_kind es w ≡ Some k → p w k ≡ true
listed-passes p [] w k h l = absurd cc
listed-passes p (entry ∷ more) w k h l = by-test (bytes_eq entry.0 w) refl (both (p entry.0 entry.1) (list_all (λ e. p e.0 e.1) more) h)
    (listed-passes p more w k)
  where
    by-test : (v : Bool) → bytes_eq entry.0 w ≡ v → (p entry.0 entry.1 ≡ true) × (list_all (λ e. p e.0 e.1) more ≡ true)
        → (list_all (λ e. p e.0 e.1) more ≡ true → listed_kind more w ≡ Some k → p w k ≡ true) → p w k ≡ true
    by-test true q f ih =
        let e : entry.0 ≡ w = (bytes_eq-Decides entry.0 w).0 q in
        let g : Some entry.1 ≡ Some k = rw q at l in
        let kind : entry.1 ≡ k = cc in
        subst (λ z. p w z ≡ true) kind (subst (λ z. p z entry.1 ≡ true) e f.0)
    by-test false q f ih = ih f.1 (rw q at l)

-- what each of the three shapes passes
pub record ShapesPass (p : List ℕ → TokenKind → Bool) : Type 0 where
  pub names : (w : List ℕ) → is_name w ≡ true → p w Name ≡ true
  pub variables : (w : List ℕ) → is_variable w ≡ true → p w Variable ≡ true
  pub numbers : (w : List ℕ) → is_number w ≡ true → p w Number ≡ true

shaped-passes : (p : List ℕ → TokenKind → Bool) (w : List ℕ) (k : TokenKind) → ShapesPass p → shaped_kind w ≡ Some k → p w k ≡ true
shaped-passes p w k s h = by-name (is_name w) refl
  where
    by-number : (v : Bool) → is_name w ≡ false → is_variable w ≡ false → is_number w ≡ v → p w k ≡ true
    by-number true a b c = let g : Some Number ≡ Some k = rw (a, b, c) at h in let e : Number ≡ k = cc in subst (λ z. p w z ≡ true) e (s.numbers w c)
    by-number false a b c = let g = rw (a, b, c) at h in absurd cc

    by-variable : (v : Bool) → is_name w ≡ false → is_variable w ≡ v → p w k ≡ true
    by-variable true a b = let g : Some Variable ≡ Some k = rw (a, b) at h in let e : Variable ≡ k = cc in subst (λ z. p w z ≡ true) e (s.variables w b)
    by-variable false a b = by-number (is_number w) a b refl

    by-name : (v : Bool) → is_name w ≡ v → p w k ≡ true
    by-name true a = let g : Some Name ≡ Some k = rw a at h in let e : Name ≡ k = cc in subst (λ z. p w z ≡ true) e (s.names w a)
    by-name false a = by-variable (is_variable w) a refl

-- a test that every fixed spelling, every name, every variable and every number passes is passed by every token
pub kind-passes : (p : List ℕ → TokenKind → Bool) (w : List ℕ) (k : TokenKind) → list_all (λ e. p e.0 e.1) fixed_spellings ≡ true → ShapesPass p
    → kind_of w ≡ Some k → p w k ≡ true
unfolding kind_of
kind-passes p w k f s h = by-listed (listed_kind fixed_spellings w) refl
  where
    by-listed : (v : Option TokenKind) → listed_kind fixed_spellings w ≡ v → p w k ≡ true
    by-listed None q = let g : shaped_kind w ≡ Some k = rw q at h in shaped-passes p w k s g
    by-listed (Some j) q = let g : Some j ≡ Some k = rw q at h in listed-passes p fixed_spellings w k f (q ∙ g)
