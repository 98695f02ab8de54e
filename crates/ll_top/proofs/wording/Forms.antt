-- Words that are in a form, read from part to part and from option to option.
use Rattle.std.proofs.Common.{◌≡◌, ℕ, ◌+◌, true, false, List, [], ◌∷◌, slice_get, Option, Some, None, refl, ap, sym, subst, ◌∙◌}
use Rattle.std.specs.Prelude.{IfSome, IsSomeAnd}
use Rattle.std.specs.List.{list_any, list_all}
use Rattle.std.proofs.lemmas.Bool.{or_left, or_right}
use Rattle.std.proofs.lemmas.Slice.Eq.{bytes_eq-Decides}
use Rattle.ll_top.specs.forms.Begins.{Begins, IsFirstBad, Leads}
use Rattle.ll_top.specs.forms.Words.{Part, is_part, is_word, OptionForm, TakesOption, here, behind, FitsParts, part, option, done}
use Rattle.ll_top.specs.forms.FormWords.{HasPart, LacksPart}
use Rattle.ll_top.proofs.wording.FirstBad.{leads-next, leads-bad, IsStuck}

pub same-word : (w : List ℕ) → is_word w w ≡ true
same-word w = (bytes_eq-Decides w w).1 refl

pub words-same : (w v : List ℕ) → is_word w v ≡ true → w ≡ v
words-same w v h = (bytes_eq-Decides w v).0 h

-- ---- what words in a form begin with

pub part-first : {p : Part} {ps : List Part} {os : List OptionForm} {w : List ℕ} {ws : List (List ℕ)} → FitsParts (p ∷ ps) os (w ∷ ws)
    → (is_part p w ≡ true) × FitsParts ps os ws
part-first (part h f) = (h, f)

pub part-lacks : {p : Part} {ps : List Part} {os : List OptionForm} → FitsParts (p ∷ ps) os [] → ⊥
part-lacks h = elim h [ ]

pub record Chosen (os : List OptionForm) (w : List ℕ) (ws : List (List ℕ)) : Type 0 where
  pub o : OptionForm
  pub others : List OptionForm
  pub takes : TakesOption o os others
  pub is : w ≡ o.word
  pub rest : FitsParts o.values others ws

pub option-first : {os : List OptionForm} {w : List ℕ} {ws : List (List ℕ)} → FitsParts [] os (w ∷ ws) → Chosen os w ws
option-first (option {o} {os} {others} t e f) = record { o = o; others = others; takes = t; is = e; rest = f }

pub options-end : {os : List OptionForm} → FitsParts [] os [] → list_all (λ o. o.may_lack) os ≡ true
options-end (done h) = h

pub no-option : {w : List ℕ} {ws : List (List ℕ)} → FitsParts [] [] (w ∷ ws) → ⊥
no-option (option t e f) = elim t [ ]

-- ---- options with different words

abbrev pub DifferentWords : List OptionForm → Type 0
DifferentWords [] = Unit {0}
DifferentWords (o ∷ os) = (list_any (λ p. is_word o.word p.word) os ≡ false) × DifferentWords os

pub taken-any : {o : OptionForm} {os others : List OptionForm} (w : List ℕ) → w ≡ o.word → TakesOption o os others → list_any (λ p. is_word w p.word) os ≡ true
taken-any w e (here {first} {os} f) = or_left (is_word w first.word) (list_any (λ p. is_word w p.word) os)
    (ap (λ v. is_word w v) (ap (λ x. x.word) f ∙ sym e) ∙ same-word w)
taken-any w e (behind {first} {os} {others} t) = or_right (is_word w first.word) (list_any (λ p. is_word w p.word) os) (taken-any w e t)

record Same (o q : OptionForm) (xs ys : List OptionForm) : Type 0 where
  pub options : o ≡ q
  pub others : xs ≡ ys

one-option : {o q : OptionForm} {os xs ys : List OptionForm} → DifferentWords os → TakesOption o os xs → TakesOption q os ys → o.word ≡ q.word → Same o q xs ys
one-option d (here f) (here g) e = record { options = sym f ∙ g; others = refl }
one-option d (here {first} {os} f) (behind t) e = absurd (let a = taken-any first.word (ap (λ x. x.word) f ∙ e) t in let b = d.0 in cc)
one-option d (behind t) (here {first} {os} g) e = absurd (let a = taken-any first.word (ap (λ x. x.word) g ∙ sym e) t in let b = d.0 in cc)
one-option d (behind {first} t) (behind u) e = let r = one-option d.1 t u e in record { options = r.options; others = ap (λ l. first ∷ l) r.others }

-- what follows the word of an option
pub option-next : {o : OptionForm} {os others : List OptionForm} → DifferentWords os → TakesOption o os others
    → (ys : List (List ℕ)) → FitsParts [] os (o.word ∷ ys)
    → FitsParts o.values others ys
option-next {o} {os} {others} d t ys f =
    let c = option-first f in
    let s = one-option d c.takes t (sym c.is) in
    subst (λ q. FitsParts q.values others ys) s.options (subst (λ l. FitsParts c.o.values l ys) s.others c.rest)

-- ---- from one word to the next

module _ (L : List (List ℕ) → Type 0) (words : List (List ℕ)) (n : ℕ) where
  word-part : (p : Part) (ps : List Part) (os : List OptionForm) (next : Option (List ℕ)) → slice_get words n ≡ next → IsSomeAnd next (λ w. is_part p w ≡ true)
      → Leads L (FitsParts (p ∷ ps) os) words n → Leads L (FitsParts ps os) words (n + 1)
  word-part p ps os None e h l = absurd h
  word-part p ps os (Some w) e h l = leads-next L (FitsParts (p ∷ ps) os) (FitsParts ps os) words n w (λ ys f. part h f) (λ ys f. (part-first f).1) l e

  -- a word for a part
  pub leads-part : (p : Part) (ps : List Part) (os : List OptionForm) → HasPart words n p → Leads L (FitsParts (p ∷ ps) os) words n
      → Leads L (FitsParts ps os) words (n + 1)
  leads-part p ps os h l = word-part p ps os (slice_get words n) refl h l

  stuck-part : (p : Part) (ps : List Part) (os : List OptionForm) (next : Option (List ℕ)) → IfSome next (λ w. is_part p w ≡ false)
      → IsStuck (FitsParts (p ∷ ps) os) next
  stuck-part p ps os None h = λ f. part-lacks f
  stuck-part p ps os (Some w) h = λ ys f. let t = (part-first f).0 in cc

  -- no word for a part
  pub bad-part : (p : Part) (ps : List Part) (os : List OptionForm) → LacksPart words n p
      → Begins (FitsParts (p ∷ ps) os) [] → Leads L (FitsParts (p ∷ ps) os) words n
      → IsFirstBad L words n
  bad-part p ps os h b l = leads-bad L (FitsParts (p ∷ ps) os) words n l b (stuck-part p ps os (slice_get words n) h)

  -- the word of an option
  pub leads-option : {o : OptionForm} {os others : List OptionForm} → DifferentWords os → TakesOption o os others → slice_get words n ≡ Some o.word
      → Leads L (FitsParts [] os) words n → Leads L (FitsParts o.values others) words (n + 1)
  leads-option {o} {os} {others} d t e l = leads-next L (FitsParts [] os) (FitsParts o.values others) words n o.word
      (λ ys f. option t refl f) (option-next d t) l e

  -- a word of no option
  pub bad-option : (os : List OptionForm) (w : List ℕ) → slice_get words n ≡ Some w → list_any (λ o. is_word w o.word) os ≡ false → Begins (FitsParts [] os) []
      → Leads L (FitsParts [] os) words n → IsFirstBad L words n
  bad-option os w e h b l =
      leads-bad L (FitsParts [] os) words n l b
      (subst (λ next. IsStuck (FitsParts [] os) next) (sym e) (λ ys f. let c = option-first f in let t = taken-any w c.is c.takes in cc))

  -- an option lacks
  pub bad-end : (os : List OptionForm) → slice_get words n ≡ None → list_all (λ o. o.may_lack) os ≡ false → Begins (FitsParts [] os) []
      → Leads L (FitsParts [] os) words n → IsFirstBad L words n
  bad-end os e h b l =
      leads-bad L (FitsParts [] os) words n l b
      (subst (λ next. IsStuck (FitsParts [] os) next) (sym e) (λ f. let t = options-end f in cc))
