-- The options of a run, of a session and of a deepening, one read after the other.
use Rattle.std.proofs.Common.{◌≡◌, ℕ, ◌≤◌, Bool, true, false, ◌||◌, List, [], ◌∷◌, ◌++◌, Option, Some, None, refl, ap, sym, subst, ◌∙◌, cond, arith}
use Rattle.std.specs.Prelude.{IfSome, codes, filter, is_some, map, not, unwrap_or}
use Rattle.std.specs.List.{list_any}
use Rattle.std.proofs.lemmas.Bool.{or_parts}
use Rattle.ll_top.specs.declared.forms.searches.SearchForm.{SearchForm}
use Rattle.ll_top.specs.declared.forms.searches.SearchForm.TheVariants.{Run, Session, Deepen}
use Rattle.ll_top.specs.declared.forms.searches.SearchOption.{SearchOption}
use Rattle.ll_top.specs.declared.forms.searches.SearchOption.TheVariants.{Bound, Workers, Proofs, First, From, By, To}
use Rattle.ll_top.specs.declared.forms.searches.SearchOptions.{SearchOptions}
use Rattle.ll_top.specs.forms.Words.{is_word, is_name_word, is_number_word, greatest_bound, greatest_workers}
use Rattle.ll_top.specs.forms.Words.{greatest_first, TakesOption, here, behind, FitsParts, part}
use Rattle.ll_top.specs.forms.Words.{option, done, OptionForm}
use Rattle.ll_top.specs.forms.SearchOptions.{option_word, option_form, search_word, options_of, same_option, value, with_value, is_unread, has_number, least_in}
use Rattle.ll_top.specs.forms.SearchOptions.{greatest_in, IsWithin, IsBetween}
use Rattle.ll_top.proofs.wording.Forms.{part-first, part-lacks, DifferentWords}
use Rattle.ll_top.proofs.wording.WordValues.{other-word, IsNumber, part-number, number-part}

-- ---- options and their words

pub word-of : (m : ℕ) (o : SearchOption) → (option_form m o).word ≡ option_word o
word-of m Bound = refl
word-of m Workers = refl
word-of m Proofs = refl
word-of m First = refl
word-of m From = refl
word-of m By = refl
word-of m To = refl

-- options with the same word are one
pub same-is : (o p : SearchOption) → same_option o p ≡ true → o ≡ p
same-is Bound Bound h = refl
same-is Bound p h = cc
same-is Workers Workers h = refl
same-is Workers p h = cc
same-is Proofs Proofs h = refl
same-is Proofs p h = cc
same-is First First h = refl
same-is First p h = cc
same-is From From h = refl
same-is From p h = cc
same-is By By h = refl
same-is By p h = cc
same-is To To h = refl
same-is To p h = cc

-- no word of an option is a number or a name
pub no-number : (o : SearchOption) → is_number_word (option_word o) ≡ false
no-number Bound = refl
no-number Workers = refl
no-number Proofs = refl
no-number First = refl
no-number From = refl
no-number By = refl
no-number To = refl

pub no-name : (o : SearchOption) → is_name_word (option_word o) ≡ false
no-name Bound = refl
no-name Workers = refl
no-name Proofs = refl
no-name First = refl
no-name From = refl
no-name By = refl
no-name To = refl

-- nor that of a form
pub no-search : (form : SearchForm) (o : SearchOption) → is_word (search_word form) (option_word o) ≡ false
no-search Run o = other-word is_name_word (option_word o) (codes "run") (no-name o) refl
no-search Session o = other-word is_name_word (option_word o) (codes "session") (no-name o) refl
no-search Deepen o = other-word is_name_word (option_word o) (codes "deepen") (no-name o) refl

-- ---- one more option was read

pub other-value : (options : SearchOptions) (o : SearchOption) (v : ℕ) (p : SearchOption) → same_option o p ≡ false
    → value (with_value options o v) p ≡ value options p
other-value options Bound v Bound h = cc
other-value options Bound v p h = refl
other-value options Workers v Workers h = cc
other-value options Workers v p h = refl
other-value options Proofs v Proofs h = cc
other-value options Proofs v p h = refl
other-value options First v First h = cc
other-value options First v p h = refl
other-value options From v From h = cc
other-value options From v p h = refl
other-value options By v By h = cc
other-value options By v p h = refl
other-value options To v To h = cc
other-value options To v p h = refl

own-read : (options : SearchOptions) (o : SearchOption) (v : ℕ) → is_unread (with_value options o v) o ≡ false
own-read options Bound v = refl
own-read options Workers v = refl
own-read options Proofs v = refl
own-read options First v = refl
own-read options From v = refl
own-read options By v = refl
own-read options To v = refl

other-unread : (options : SearchOptions) (o : SearchOption) (v : ℕ) (p : SearchOption) → same_option o p ≡ false
    → is_unread (with_value options o v) p ≡ is_unread options p
other-unread options o v p h = ap (λ x. not (is_some x)) (other-value options o v p h)

pub none-unread : (options : SearchOptions) (o : SearchOption) → value options o ≡ None → is_unread options o ≡ true
none-unread options o e = ap (λ x. not (is_some x)) e

-- ---- the options that are left

-- options without this one stay left
left-same : (options : SearchOptions) (o : SearchOption) (v : ℕ) (os : List SearchOption) → list_any (same_option o) os ≡ false
    → filter (is_unread (with_value options o v)) os ≡ filter (is_unread options) os
left-same options o v [] h = refl
left-same options o v (p ∷ os) h =
    let s = or_parts (same_option o p) (list_any (same_option o) os) h in
    ap (λ b. cond b (p ∷ filter (is_unread (with_value options o v)) os) (filter (is_unread (with_value options o v)) os)) (other-unread options o v p s.0)
    ∙ ap (λ l. cond (is_unread options p) (p ∷ l) l) (left-same options o v os s.1)

-- each option stands once
abbrev AreDifferent : List SearchOption → Type 0
AreDifferent [] = Unit {0}
AreDifferent (o ∷ os) = (list_any (same_option o) os ≡ false) × AreDifferent os

pub offers-different : (form : SearchForm) → AreDifferent (options_of form)
offers-different Run = (refl, (refl, (refl, (refl, tt))))
offers-different Session = (refl, (refl, (refl, tt)))
offers-different Deepen = (refl, (refl, (refl, (refl, (refl, tt)))))

abbrev pub forms_left : ℕ → SearchOptions → List SearchOption → List OptionForm
forms_left m options os = map (option_form m) (filter (is_unread options) os)

-- an option that is left, in front of the others
taken-first : (m : ℕ) (options : SearchOptions) (o : SearchOption) (v : ℕ) (os : List SearchOption) → list_any (same_option o) os ≡ false
    → value options o ≡ None
    → TakesOption (option_form m o) (forms_left m options (o ∷ os)) (forms_left m (with_value options o v) (o ∷ os))
taken-first m options o v os d e =
    subst (λ b. TakesOption (option_form m o) (map (option_form m) (cond b (o ∷ filter (is_unread options) os) (filter (is_unread options) os)))
    (forms_left m (with_value options o v) (o ∷ os))) (sym (none-unread options o e))
    (subst (λ b. TakesOption (option_form m o) (option_form m o ∷ forms_left m options os)
    (map (option_form m) (cond b (o ∷ filter (is_unread (with_value options o v)) os) (filter (is_unread (with_value options o v)) os))))
    (sym (own-read options o v))
    (subst (λ l. TakesOption (option_form m o) (option_form m o ∷ forms_left m options os) (map (option_form m) l))
    (sym (left-same options o v os d)) (here refl)))

-- once an option was read, the others are left
pub taken : (m : ℕ) (options : SearchOptions) (o : SearchOption) (v : ℕ) (os : List SearchOption) → AreDifferent os → list_any (same_option o) os ≡ true
    → value options o ≡ None
    → TakesOption (option_form m o) (forms_left m options os) (forms_left m (with_value options o v) os)
taken m options o v [] d h e = cc
taken m options o v (p ∷ os) d h e = by (same_option o p) refl (λ k. taken m options o v os d.1 k e)
  where
    passed : (a b : Bool) → b ≡ a → TakesOption (option_form m o) (forms_left m options os) (forms_left m (with_value options o v) os)
        → TakesOption (option_form m o) (map (option_form m) (cond a (p ∷ filter (is_unread options) os) (filter (is_unread options) os)))
        (map (option_form m) (cond b (p ∷ filter (is_unread (with_value options o v)) os) (filter (is_unread (with_value options o v)) os)))
    passed true true s t = behind t
    passed true false s t = cc
    passed false true s t = cc
    passed false false s t = t

    by : (b : Bool) → same_option o p ≡ b → (list_any (same_option o) os ≡ true
        → TakesOption (option_form m o) (forms_left m options os) (forms_left m (with_value options o v) os))
        → TakesOption (option_form m o) (forms_left m options (p ∷ os)) (forms_left m (with_value options o v) (p ∷ os))
    by true s later =
        let q = same-is o p s in
        subst (λ x. TakesOption (option_form m o) (forms_left m options (x ∷ os)) (forms_left m (with_value options o v) (x ∷ os))) q
        (taken-first m options o v os (subst (λ x. list_any (same_option x) os ≡ false) (sym q) d.0) e)
    by false s later =
        passed (is_unread options p) (is_unread (with_value options o v) p) (other-unread options o v p s)
        (later (sym (ap (λ b. b || list_any (same_option o) os) s) ∙ h))

pub filter-none : (test keep : SearchOption → Bool) (os : List SearchOption) → list_any test os ≡ false → list_any test (filter keep os) ≡ false
filter-none test keep [] h = refl
filter-none test keep (o ∷ os) h = by (keep o) (or_parts (test o) (list_any test os) h).0 (filter-none test keep os (or_parts (test o) (list_any test os) h).1)
  where
    by : (b : Bool) → test o ≡ false → list_any test (filter keep os) ≡ false → list_any test (cond b (o ∷ filter keep os) (filter keep os)) ≡ false
    by true t r = ap (λ x. x || list_any test (filter keep os)) t ∙ r
    by false t r = r

-- a word among those of options
pub word-among : (m : ℕ) (w : List ℕ) (os : List SearchOption)
    → list_any (λ p. is_word w p.word) (map (option_form m) os) ≡ list_any (λ o. is_word w (option_word o)) os
word-among m w [] = refl
word-among m w (o ∷ os) = ap (λ u. is_word w u || list_any (λ p. is_word w p.word) (map (option_form m) os)) (word-of m o)
    ∙ ap (λ b. is_word w (option_word o) || b) (word-among m w os)

pub different-forms : (m : ℕ) (keep : SearchOption → Bool) (os : List SearchOption) → AreDifferent os → DifferentWords (map (option_form m) (filter keep os))
different-forms m keep [] d = tt
different-forms m keep (o ∷ os) d = by (keep o) (different-forms m keep os d.1)
  where
    by : (b : Bool) → DifferentWords (map (option_form m) (filter keep os))
        → DifferentWords (map (option_form m) (cond b (o ∷ filter keep os) (filter keep os)))
    by true r = (
      subst (λ w. list_any (λ p. is_word w p.word) (map (option_form m) (filter keep os)) ≡ false) (sym (word-of m o))
          (word-among m (option_word o) (filter keep os) ∙ filter-none (same_option o) keep os d.0),
      r,
    )
    by false r = r

-- ---- limits

-- the least and the greatest number of an option, where a deepening's bounds lie round m
abbrev pub least_at : ℕ → SearchOption → ℕ
least_at m Workers = 1
least_at m First = 1
least_at m By = 1
least_at m To = m
least_at m o = 0

abbrev pub greatest_at : ℕ → SearchOption → ℕ
greatest_at m Workers = greatest_workers
greatest_at m Proofs = 0
greatest_at m First = greatest_first
greatest_at m From = m
greatest_at m o = greatest_bound

abbrev pub IsFit : ℕ → SearchOption → ℕ → Type 0
IsFit m o v = (least_at m o ≤ v) × (v ≤ greatest_at m o)

-- a number behind an option
pub value-first : (m : ℕ) (o : SearchOption) (os : List OptionForm) (w : List ℕ) (ws : List (List ℕ)) → has_number o ≡ true
    → FitsParts (option_form m o).values os (w ∷ ws) → IsNumber (least_at m o) (greatest_at m o) w × FitsParts [] os ws
value-first m Bound os w ws h f = let p = part-first f in (part-number 0 greatest_bound w p.0, p.1)
value-first m Workers os w ws h f = let p = part-first f in (part-number 1 greatest_workers w p.0, p.1)
value-first m Proofs os w ws h f = cc
value-first m First os w ws h f = let p = part-first f in (part-number 1 greatest_first w p.0, p.1)
value-first m From os w ws h f = let p = part-first f in (part-number 0 m w p.0, p.1)
value-first m By os w ws h f = let p = part-first f in (part-number 1 greatest_bound w p.0, p.1)
value-first m To os w ws h f = let p = part-first f in (part-number m greatest_bound w p.0, p.1)

pub value-lacks : (m : ℕ) (o : SearchOption) (os : List OptionForm) → has_number o ≡ true → FitsParts (option_form m o).values os [] → ⊥
value-lacks m Bound os h f = part-lacks f
value-lacks m Workers os h f = part-lacks f
value-lacks m Proofs os h f = cc
value-lacks m First os h f = part-lacks f
value-lacks m From os h f = part-lacks f
value-lacks m By os h f = part-lacks f
value-lacks m To os h f = part-lacks f

pub value-part : (m : ℕ) (o : SearchOption) (os : List OptionForm) (w : List ℕ) (ws : List (List ℕ)) → has_number o ≡ true
    → IsNumber (least_at m o) (greatest_at m o) w → FitsParts [] os ws → FitsParts (option_form m o).values os (w ∷ ws)
value-part m Bound os w ws h n f = part (number-part 0 greatest_bound w n) f
value-part m Workers os w ws h n f = part (number-part 1 greatest_workers w n) f
value-part m Proofs os w ws h n f = cc
value-part m First os w ws h n f = part (number-part 1 greatest_first w n) f
value-part m From os w ws h n f = part (number-part 0 m w n) f
value-part m By os w ws h n f = part (number-part 1 greatest_bound w n) f
value-part m To os w ws h n f = part (number-part m greatest_bound w n) f

pub no-values : (m : ℕ) (o : SearchOption) → has_number o ≡ false → (option_form m o).values ≡ []
no-values m Bound h = cc
no-values m Workers h = cc
no-values m Proofs h = refl
no-values m First h = cc
no-values m From h = cc
no-values m By h = cc
no-values m To h = cc

at-most : (o : Option ℕ) (m d : ℕ) → IfSome o (λ c. m ≤ c) → m ≤ d → m ≤ unwrap_or o d
at-most None m d h l = l
at-most (Some c) m d h l = h

at-least : (o : Option ℕ) (m d : ℕ) → IfSome o (λ a. a ≤ m) → d ≤ m → unwrap_or o d ≤ m
at-least None m d h l = l
at-least (Some a) m d h l = h

to-most : (o : Option ℕ) (v d : ℕ) → v ≤ unwrap_or o d → IfSome o (λ c. v ≤ c)
to-most None v d h = tt
to-most (Some c) v d h = h

to-least : (o : Option ℕ) (v d : ℕ) → unwrap_or o d ≤ v → IfSome o (λ a. a ≤ v)
to-least None v d h = tt
to-least (Some a) v d h = h

small-default : (o : Option ℕ) (v d : ℕ) → IfSome o (λ c. c ≤ d) → v ≤ unwrap_or o d → v ≤ d
small-default None v d h l = l
small-default (Some c) v d h l = omega arith

-- a number that fits is within the limits that follow from what was read
pub fit-within : (options : SearchOptions) (o : SearchOption) (m v : ℕ) → IsBetween options m → IsFit m o v
    → (least_in options o ≤ v) × (v ≤ greatest_in options o)
fit-within options Bound m v b f = f
fit-within options Workers m v b f = f
fit-within options Proofs m v b f = f
fit-within options First m v b f = f
fit-within options From m v b f =
    (omega arith, let l = at-most options.to m greatest_bound b.to b.small in let k = f.1 in omega arith)
fit-within options By m v b f = f
fit-within options To m v b f =
    (let l = at-least options.from m 0 b.from (omega arith) in let k = f.0 in omega arith, f.1)

-- and the other way round, once it was read
pub within-fit : (options : SearchOptions) (o : SearchOption) (m v : ℕ) → IsBetween (with_value options o v) m → least_in options o ≤ v
    → v ≤ greatest_in options o → IsFit m o v
within-fit options Bound m v b l g = (l, g)
within-fit options Workers m v b l g = (l, g)
within-fit options Proofs m v b l g = (l, g)
within-fit options First m v b l g = (l, g)
within-fit options From m v b l g = (l, b.from)
within-fit options By m v b l g = (l, g)
within-fit options To m v b l g = (b.to, g)

-- what lies between the bounds still does where one fewer was read
pub between-old : (options : SearchOptions) (o : SearchOption) (m v : ℕ) → value options o ≡ None → IsBetween (with_value options o v) m → IsBetween options m
between-old options From m v e b = record { small = b.small; from = subst (λ x. IfSome x (λ a. a ≤ m)) (sym e) tt; to = b.to }
between-old options To m v e b = record { small = b.small; from = b.from; to = subst (λ x. IfSome x (λ c. m ≤ c)) (sym e) tt }
between-old options o m v e b = record { small = b.small; from = b.from; to = b.to }

-- and where one more was read that fits
pub between-new : (options : SearchOptions) (o : SearchOption) (m v : ℕ) → IsBetween options m → IsFit m o v → IsBetween (with_value options o v) m
between-new options From m v b f = record { small = b.small; from = f.1; to = b.to }
between-new options To m v b f = record { small = b.small; from = b.from; to = f.0 }
between-new options o m v b f = record { small = b.small; from = b.from; to = b.to }

-- some number lies between the bounds
pub middle-new : (options : SearchOptions) (o : SearchOption) (m v : ℕ) → ((p : SearchOption) → IfSome (value options p) (IsWithin p)) → IsBetween options m
    → least_in options o ≤ v → v ≤ greatest_in options o
    → (n : ℕ) × IsBetween (with_value options o v) n
middle-new options From m v w b l g = (
  v,
  record {
    small = small-default options.to v greatest_bound (by options.to (w To)) g;
    from = omega arith;
    to =
        to-most options.to v greatest_bound g;
  },
)
  where
    by : (c : Option ℕ) → IfSome c (IsWithin To) → IfSome c (λ n. n ≤ greatest_bound)
    by None h = tt
    by (Some c) h = h.1
middle-new options To m v w b l g = (v, record { small = g; from = to-least options.from v 0 l; to = omega arith })
middle-new options Bound m v w b l g = (m, between-new options Bound m v b (l, g))
middle-new options Workers m v w b l g = (m, between-new options Workers m v b (l, g))
middle-new options Proofs m v w b l g = (m, between-new options Proofs m v b (l, g))
middle-new options First m v w b l g = (m, between-new options First m v b (l, g))
middle-new options By m v w b l g = (m, between-new options By m v b (l, g))

-- a number within its limits is one that the option may have
within-own : (options : SearchOptions) (o : SearchOption) (v : ℕ) → ((p : SearchOption) → IfSome (value options p) (IsWithin p)) → least_in options o ≤ v
    → v ≤ greatest_in options o → IfSome (value (with_value options o v) o) (IsWithin o)
within-own options Bound v w l g = (l, g)
within-own options Workers v w l g = (l, g)
within-own options Proofs v w l g = (omega arith, omega arith)
within-own options First v w l g = (l, g)
within-own options From v w l g = (l, small-default options.to v greatest_bound (by options.to (w To)) g)
  where
    by : (c : Option ℕ) → IfSome c (IsWithin To) → IfSome c (λ n. n ≤ greatest_bound)
    by None h = tt
    by (Some c) h = h.1
within-own options By v w l g = (l, g)
within-own options To v w l g = (omega arith, g)

pub within-new : (options : SearchOptions) (o : SearchOption) (v : ℕ) → ((p : SearchOption) → IfSome (value options p) (IsWithin p)) → least_in options o ≤ v
    → v ≤ greatest_in options o
    → (p : SearchOption) → IfSome (value (with_value options o v) p) (IsWithin p)
within-new options o v w l g p = by (same_option o p) refl
  where
    by : (b : Bool) → same_option o p ≡ b → IfSome (value (with_value options o v) p) (IsWithin p)
    by true s = subst (λ q. IfSome (value (with_value options o v) q) (IsWithin q)) (same-is o p s) (within-own options o v w l g)
    by false s = subst (λ x. IfSome x (IsWithin p)) (sym (other-value options o v p s)) (w p)

-- ---- every part can be gone on with

-- what may stand behind the word of an option
abbrev pub sample : SearchOption → List (List ℕ)
sample Bound = codes "0" ∷ []
sample Workers = codes "1" ∷ []
sample Proofs = []
sample First = codes "1" ∷ []
sample From = codes "0" ∷ []
sample By = codes "1" ∷ []
sample To = codes "1000000" ∷ []

pub sample-fits : (m : ℕ) → m ≤ greatest_bound → (o : SearchOption) (os : List OptionForm) (ws : List (List ℕ)) → FitsParts [] os ws
    → FitsParts (option_form m o).values os (sample o ++ ws)
sample-fits m l Bound os ws f = part refl f
sample-fits m l Workers os ws f = part refl f
sample-fits m l Proofs os ws f = f
sample-fits m l First os ws f = part refl f
sample-fits m l From os ws f = part (number-part 0 m (codes "0") (record { number = refl; least_is = omega arith; greatest_is = omega arith })) f
sample-fits m l By os ws f = part refl f
sample-fits m l To os ws f = part (number-part m greatest_bound (codes "1000000") (record { number = refl; least_is = l; greatest_is = omega arith })) f

pub can-rest : (m : ℕ) → m ≤ greatest_bound → (os : List SearchOption) → (ws : List (List ℕ)) × FitsParts [] (map (option_form m) os) ws
can-rest m l [] = ([], done refl)
can-rest m l (o ∷ os) =
    let r = can-rest m l os in
    (option_word o ∷ (sample o ++ r.0), option (here refl) (sym (word-of m o)) (sample-fits m l o (map (option_form m) os) r.0 r.1))
