-- The words of a run, of a session and of a deepening, read from their names to their options.
use Rattle.std.proofs.Common.{◌≡◌, ℕ, ◌+◌, ◌<◌, ◌≤◌, Bool, true, false, ◌||◌, List, [], ◌∷◌, ◌++◌, length, take, slice_get, Option, Some, None, refl, ap, sym}
use Rattle.std.proofs.Common.{subst, ◌∙◌, cond, arith}
use Rattle.std.specs.Prelude.{All, IfSome, IsSomeAnd, MatchOption, codes, filter, is_some, map, not}
use Rattle.std.specs.List.{list_any, list_all}
use Rattle.std.specs.Str.Parse.{digits_value}
use Rattle.std.proofs.lemmas.Bool.{and_parts}
use Rattle.std.proofs.lemmas.List.{take_all, length-map}
use Rattle.std.proofs.lemmas.Option.{slice_get_past}
use Rattle.std.specs.Borrow.{Bor}
use Rattle.ll_top.specs.declared.forms.searches.SearchForm.{SearchForm}
use Rattle.ll_top.specs.declared.forms.searches.SearchForm.TheVariants.{Run, Session, Deepen}
use Rattle.ll_top.specs.declared.forms.searches.SearchOption.{SearchOption}
use Rattle.ll_top.specs.declared.forms.searches.SearchOption.TheVariants.{Bound, Workers, Proofs, First, From, By, To}
use Rattle.ll_top.specs.declared.forms.searches.SearchOptions.{SearchOptions}
use Rattle.ll_deepen.specs.Deciding.{IsSeries}
use Rattle.ll_top.specs.forms.Words.{word_texts}
use Rattle.ll_top.specs.forms.Begins.{Begins, IsFirstBad, Leads}
use Rattle.ll_top.specs.forms.Words.{Part, ThisWord, AnyName, NumberFrom, is_part}
use Rattle.ll_top.specs.forms.Words.{is_word, is_name_word, is_number_word, number_from, greatest_bound, TakesOption}
use Rattle.ll_top.specs.forms.Words.{FitsParts, part, option, done, number_behind, has_word, HasFirst, IsRun, IsSession, IsDeepen}
use Rattle.ll_top.specs.forms.FormWords.{HasPart, LacksPart}
use Rattle.ll_top.specs.forms.SearchOptions.{option_word, option_form, search_word, options_of, IsSearchForm, IsBadSearchWord, same_option, offers, flag, value}
use Rattle.ll_top.specs.forms.SearchOptions.{no_options, with_value, is_unread, options_left, IsLeft, has_number, least_in, greatest_in, IsValue, IsWithin}
use Rattle.ll_top.specs.forms.SearchOptions.{IsBetween, Follows, IsReadTo, IsSearch}
use Rattle.ll_top.proofs.wording.SearchLemmas.{between-new, between-old, can-rest, different-forms, filter-none, fit-within, middle-new, no-name, no-number}
use Rattle.ll_top.proofs.wording.SearchLemmas.{no-search, no-values, none-unread, offers-different, other-value, same-is, sample-fits, taken, value-first}
use Rattle.ll_top.proofs.wording.SearchLemmas.{value-lacks, value-part, within-fit, within-new, word-among, word-of, sample, forms_left, IsFit}
use Rattle.ll_top.proofs.wording.FirstBad.{drop-end, leads-start, leads-next, leads-bad, IsStuck}
use Rattle.ll_top.proofs.wording.Forms.{words-same, part-first, part-lacks, option-first, options-end, taken-any, option-next}
use Rattle.ll_top.proofs.wording.WordValues.{value-of, other-word, found-behind, none-more, has-none, has-at, IsNumber, part-number, number-part}

-- ---- the names

-- words are in the form, but for the parts in front of these
abbrev IsRest : SearchForm → List Part → List (List ℕ) → Type 0
IsRest form ps words = (m : ℕ) × (m ≤ greatest_bound) × FitsParts ps (map (option_form m) (options_of form)) words

none-left : (m : ℕ) (form : SearchForm) → map (option_form m) (options_left form no_options) ≡ map (option_form m) (options_of form)
none-left m Run = refl
none-left m Session = refl
none-left m Deepen = refl

can-one : (form : SearchForm) → Begins (IsRest form (AnyName ∷ [])) []
can-one form = let r = can-rest 0 (omega arith) (options_of form) in (codes "q" ∷ r.0, (0, omega arith, part refl r.1))

can-two : (form : SearchForm) → Begins (IsRest form (AnyName ∷ AnyName ∷ [])) []
can-two form = let r = can-rest 0 (omega arith) (options_of form) in (codes "p" ∷ codes "q" ∷ r.0, (0, omega arith, part refl (part refl r.1)))

module _ (form : SearchForm) (words : List (List ℕ)) where
  part-word : (at : ℕ) (p : Part) (ps : List Part) → HasPart words at p → Leads (IsSearchForm form) (IsRest form (p ∷ ps)) words at
      → Leads (IsSearchForm form) (IsRest form ps) words (at + 1)
  part-word at p ps h l = by (slice_get words at) refl h
    where
      by : (next : Option (List ℕ)) → slice_get words at ≡ next → IsSomeAnd next (λ w. is_part p w ≡ true)
          → Leads (IsSearchForm form) (IsRest form ps) words (at + 1)
      by None e h = absurd h
      by (Some w) e h = leads-next (IsSearchForm form) (IsRest form (p ∷ ps)) (IsRest form ps) words at w (λ ys f. (f.0, f.1, part h f.2))
          (λ ys f. (f.0, f.1, (part-first f.2).1)) l e

  no-word : (at : ℕ) (p : Part) (ps : List Part) → LacksPart words at p → Begins (IsRest form (p ∷ ps)) []
      → Leads (IsSearchForm form) (IsRest form (p ∷ ps)) words at → IsFirstBad (IsSearchForm form) words at
  no-word at p ps h b l = leads-bad (IsSearchForm form) (IsRest form (p ∷ ps)) words at l b (by (slice_get words at) h)
    where
      by : (next : Option (List ℕ)) → IfSome next (λ w. is_part p w ≡ false) → IsStuck (IsRest form (p ∷ ps)) next
      by None h = λ f. part-lacks f.2
      by (Some w) h = λ ys f. let t = (part-first f.2).0 in cc

  as-word : (number place : ℕ) → number ≡ place + 1 → IsFirstBad (IsSearchForm form) words place → IsBadSearchWord form words number
  as-word number place e b = record { place = place; is = e; bad = b }

  module _ (begun : HasPart words 0 (ThisWord (search_word form))) where
    to-first : Leads (IsSearchForm form) (IsRest form (AnyName ∷ AnyName ∷ [])) words 1
    to-first = part-word 0 (ThisWord (search_word form)) (AnyName ∷ AnyName ∷ []) begun (leads-start (IsSearchForm form) words)

    pub no-first : (number : ℕ) → number ≡ 2 → LacksPart words 1 AnyName → IsBadSearchWord form words number
    no-first number e h = as-word number 1 e (no-word 1 AnyName (AnyName ∷ []) h (can-two form) to-first)

    module _ (first : HasPart words 1 AnyName) where
      to-second : Leads (IsSearchForm form) (IsRest form (AnyName ∷ [])) words 2
      to-second = part-word 1 AnyName (AnyName ∷ []) first to-first

      pub no-second : (number : ℕ) → number ≡ 3 → LacksPart words 2 AnyName → IsBadSearchWord form words number
      no-second number e h = as-word number 2 e (no-word 2 AnyName [] h (can-one form) to-second)

      module _ (second : HasPart words 2 AnyName) where
        to-none : (next : Option (List ℕ)) → slice_get words 2 ≡ next → IsSomeAnd next (λ w. is_part AnyName w ≡ true)
            → Leads (IsSearchForm form) (Follows form no_options) words 3
        to-none None e h = absurd h
        to-none (Some w) e h = leads-next (IsSearchForm form) (IsRest form (AnyName ∷ [])) (Follows form no_options) words 2 w
            (λ ys f. (f.0, f.1.small, part h (subst (λ os. FitsParts [] os ys) (none-left f.0 form) f.2)))
            (λ ys f. (
              f.0,
              record { small = f.1; from = tt; to = tt },
              subst (λ os. FitsParts [] os ys)
                  (sym (none-left f.0 form)) (part-first f.2).1,
            )) to-second e

        name-other : (text : List ℕ) (n : ℕ) (next : Option (List ℕ)) → is_name_word text ≡ false → slice_get words n ≡ next
            → IsSomeAnd next (λ w. is_name_word w ≡ true) → All (λ u. is_word u text ≡ false) (take n words)
            → All (λ u. is_word u text ≡ false) (take (n + 1) words)
        name-other text n None fails e h a = absurd h
        name-other text n (Some w) fails e h a = none-more text words n w e (other-word is_name_word text w fails h) a

        begun-other : (text : List ℕ) (next : Option (List ℕ)) → is_word (search_word form) text ≡ false → slice_get words 0 ≡ next
            → IsSomeAnd next (λ w. is_word w (search_word form) ≡ true) → All (λ u. is_word u text ≡ false) (take 1 words)
        begun-other text None fails e h = absurd h
        begun-other text (Some w) fails e h =
            none-more text words 0 w e (ap (λ v. is_word v text) (words-same w (search_word form) h) ∙ fails) (λ k d l. absurd (none-of words k l))
          where
            none-of : (xs : List (List ℕ)) (k : ℕ) → k < length (take 0 xs) → ⊥
            none-of [] k l = omega arith
            none-of (x ∷ xs) k l = omega arith

        -- no option stands in front of the fourth word
        none-before : (o : SearchOption) → All (λ u. is_word u (option_word o) ≡ false) (take 3 words)
        none-before o =
            name-other (option_word o) 2 (slice_get words 2) (no-name o) refl second
            (name-other (option_word o) 1 (slice_get words 1) (no-name o) refl first
            (begun-other (option_word o) (slice_get words 0) (no-search form o) refl begun))

        unread-values : (o : SearchOption) → IsValue words o 3 (value no_options o)
        unread-values Bound = none-before Bound
        unread-values Workers = none-before Workers
        unread-values Proofs = none-before Proofs
        unread-values First = none-before First
        unread-values From = none-before From
        unread-values By = none-before By
        unread-values To = none-before To

        unread-within : (o : SearchOption) → IfSome (value no_options o) (IsWithin o)
        unread-within Bound = tt
        unread-within Workers = tt
        unread-within Proofs = tt
        unread-within First = tt
        unread-within From = tt
        unread-within By = tt
        unread-within To = tt

        pub names-read : IsReadTo words form no_options 3
        names-read = record {
          leads = to-none (slice_get words 2) refl second;
          values = unread-values;
          within = unread-within;
          middle = 0;
          between = record { small = omega arith; from = tt; to = tt };
        }

-- ---- one option

-- one word more that is not the option's: its value stays
value-stays : (words : List (List ℕ)) (o : SearchOption) (at : ℕ) (w : List ℕ) (found : Option ℕ) → slice_get words at ≡ Some w
    → is_word w (option_word o) ≡ false → IsValue words o at found → IsValue words o (at + 1) found
value-stays words o at w None e n h = none-more (option_word o) words at w e n h
value-stays words o at w (Some v) e n h = h

own-found : (words : List (List ℕ)) (options : SearchOptions) (o : SearchOption) (at v : ℕ) → has_number o ≡ true → number_behind (option_word o) words ≡ Some v
    → IsValue words o at (value (with_value options o v) o)
own-found words options Bound at v h f = f
own-found words options Workers at v h f = f
own-found words options Proofs at v h f = cc
own-found words options First at v h f = f
own-found words options From at v h f = f
own-found words options By at v h f = f
own-found words options To at v h f = f

flag-found : (words : List (List ℕ)) (options : SearchOptions) (o : SearchOption) (at v : ℕ) → has_number o ≡ false → has_word (option_word o) words ≡ true
    → IsValue words o at (value (with_value options o v) o)
flag-found words options Bound at v h f = cc
flag-found words options Workers at v h f = cc
flag-found words options Proofs at v h f = f
flag-found words options First at v h f = cc
flag-found words options From at v h f = cc
flag-found words options By at v h f = cc
flag-found words options To at v h f = cc

flag-limits : (options : SearchOptions) (o : SearchOption) → has_number o ≡ false → (least_in options o ≤ 0) × (0 ≤ greatest_in options o)
flag-limits options Bound h = cc
flag-limits options Workers h = cc
flag-limits options Proofs h = (omega arith, omega arith)
flag-limits options First h = cc
flag-limits options From h = cc
flag-limits options By h = cc
flag-limits options To h = cc

-- what follows the word of an option
abbrev FollowsWord : SearchForm → SearchOptions → SearchOption → ℕ → List (List ℕ) → Type 0
FollowsWord form options o v words = (m : ℕ) × IsBetween options m
    × FitsParts (option_form m o).values (map (option_form m) (options_left form (with_value options o v))) words

module _ (words : List (List ℕ)) (form : SearchForm) (options : SearchOptions) (at : ℕ) (read : IsReadTo words form options at) where
  -- no option that is left
  pub no-option : (w : List ℕ) → slice_get words at ≡ Some w → list_any (λ o. is_word w (option_word o)) (options_left form options) ≡ false
      → IsBadSearchWord form words (at + 1)
  no-option w e h =
      as-word form words (at + 1) at refl (leads-bad (IsSearchForm form) (Follows form options) words at read.leads can-follow
      (subst (λ next. IsStuck (Follows form options) next) (sym e) stuck))
    where
      can-follow : Begins (Follows form options) []
      can-follow = let r = can-rest read.middle read.between.small (options_left form options) in (r.0, (read.middle, read.between, r.1))

      stuck : (ys : List (List ℕ)) → Follows form options (w ∷ ys) → ⊥
      stuck ys f = let c = option-first f.2 in let t = taken-any w c.is c.takes in let k = word-among f.0 w (options_left form options) ∙ h in cc

  module _ (o : SearchOption) (left : IsLeft form options o) (is : slice_get words at ≡ Some (option_word o)) where
    takes : (m v : ℕ) → TakesOption (option_form m o) (map (option_form m) (options_left form options))
        (map (option_form m) (options_left form (with_value options o v)))
    takes m v = taken m options o v (options_of form) (offers-different form) left.0 left.1

    to-word : (v : ℕ) (ys : List (List ℕ)) → FollowsWord form options o v ys → Follows form options (option_word o ∷ ys)
    to-word v ys f = (f.0, f.1, option (takes f.0 v) (sym (word-of f.0 o)) f.2)

    from-word : (v : ℕ) (ys : List (List ℕ)) → Follows form options (option_word o ∷ ys) → FollowsWord form options o v ys
    from-word v ys f = (
      f.0,
      f.1,
      option-next (different-forms f.0 (is_unread options) (options_of form) (offers-different form)) (takes f.0 v) ys
          (subst (λ w. FitsParts [] (map (option_form f.0) (options_left form options)) (w ∷ ys)) (sym (word-of f.0 o)) f.2),
    )

    leads-word : (v : ℕ) → Leads (IsSearchForm form) (FollowsWord form options o v) words (at + 1)
    leads-word v = leads-next (IsSearchForm form) (Follows form options) (FollowsWord form options o v) words at (option_word o) (to-word v) (from-word v)
        read.leads is

    -- the value of each option behind the word
    stays : (p : SearchOption) → same_option o p ≡ false → IsValue words p (at + 1) (value options p)
    stays p s = value-stays words p at (option_word o) (value options p) is s (read.values p)

    -- a number that is missing
    pub bad-number : (number least greatest : ℕ) → number ≡ at + 1 + 1 → has_number o ≡ true → least ≡ least_in options o → greatest ≡ greatest_in options o
        → LacksPart words (at + 1) (NumberFrom least greatest) → IsBadSearchWord form words number
    bad-number number least greatest e n l g h =
        as-word form words number (at + 1) e (leads-bad (IsSearchForm form) (FollowsWord form options o 0) words (at + 1) (leads-word 0) can-value
        (stuck (slice_get words (at + 1)) h))
      where
        can-value : Begins (FollowsWord form options o 0) []
        can-value =
            let r = can-rest read.middle read.between.small (options_left form (with_value options o 0)) in (
              sample o ++ r.0,
              (
                read.middle,
                read.between,
                sample-fits read.middle read.between.small o
                    (map (option_form read.middle) (options_left form (with_value options o 0))) r.0 r.1,
              ),
            )

        stuck : (next : Option (List ℕ)) → IfSome next (λ w. is_part (NumberFrom least greatest) w ≡ false) → IsStuck (FollowsWord form options o 0) next
        stuck None h = λ f. value-lacks f.0 o (map (option_form f.0) (options_left form (with_value options o 0))) n f.2
        stuck (Some w) h = λ ys f.
            let v = (value-first f.0 o (map (option_form f.0) (options_left form (with_value options o 0))) w ys n f.2).0 in
            let k = fit-within options o f.0 (digits_value 10 w) f.1 (v.least_is, v.greatest_is) in
            let a = k.0 in
            let b = k.1 in
            let t = number-part least greatest w (record { number = v.number; least_is = omega arith; greatest_is = omega arith }) in
            cc

    -- an option without a number
    pub flag-read : has_number o ≡ false → IsReadTo words form (with_value options o 0) (at + 1)
    flag-read n =
        let limits = flag-limits options o n in
        let middle = middle-new options o read.middle 0 read.within read.between limits.0 limits.1 in
        record {
          leads = leads-next (IsSearchForm form) (Follows form options) (Follows form (with_value options o 0)) words at (option_word o) to from read.leads is;
          values = values;
          within = within-new options o 0 read.within limits.0 limits.1;
          middle = middle.0;
          between = middle.1;
        }
      where
        fit : (m : ℕ) (p : SearchOption) → has_number p ≡ false → IsFit m p 0
        fit m Bound h = cc
        fit m Workers h = cc
        fit m Proofs h = (omega arith, omega arith)
        fit m First h = cc
        fit m From h = cc
        fit m By h = cc
        fit m To h = cc

        to : (ys : List (List ℕ)) → Follows form (with_value options o 0) ys → Follows form options (option_word o ∷ ys)
        to ys f = to-word 0 ys (
          f.0,
          between-old options o f.0 0 left.1 f.1,
          subst (λ ps. FitsParts ps (map (option_form f.0) (options_left form (with_value options o 0))) ys) (sym (no-values f.0 o n)) f.2,
        )

        from : (ys : List (List ℕ)) → Follows form options (option_word o ∷ ys) → Follows form (with_value options o 0) ys
        from ys f =
            let r = from-word 0 ys f in (
              r.0,
              between-new options o r.0 0 r.1 (fit r.0 o n),
              subst (λ ps. FitsParts ps (map (option_form r.0) (options_left form (with_value options o 0))) ys) (no-values r.0 o n) r.2,
            )

        values : (p : SearchOption) → IsValue words p (at + 1) (value (with_value options o 0) p)
        values p = by (same_option o p) refl
          where
            by : (b : Bool) → same_option o p ≡ b → IsValue words p (at + 1) (value (with_value options o 0) p)
            by true s = subst (λ q. IsValue words q (at + 1) (value (with_value options o 0) q)) (same-is o p s)
                (flag-found words options o (at + 1) 0 n (has-at (option_word o) words at is))
            by false s = subst (λ x. IsValue words p (at + 1) x) (sym (other-value options o 0 p s)) (stays p s)

    -- an option with its number
    module _ (v : ℕ) (n : has_number o ≡ true) (w : List ℕ) (next : slice_get words (at + 1) ≡ Some w)
        (number : number_from (least_in options o) (greatest_in options o) w ≡ Some v) where
      digits : digits_value 10 w ≡ v
      digits = value-of (least_in options o) (greatest_in options o) w v number

      is_number : IsNumber (least_in options o) (greatest_in options o) w
      is_number = part-number (least_in options o) (greatest_in options o) w (ap is_some number)

      least : least_in options o ≤ v
      least = let d = digits in let l = is_number.least_is in omega arith

      greatest : v ≤ greatest_in options o
      greatest = let d = digits in let g = is_number.greatest_is in omega arith

      to-number : (ys : List (List ℕ)) → Follows form (with_value options o v) ys → FollowsWord form options o v (w ∷ ys)
      to-number ys f =
          let fit = within-fit options o f.0 v f.1 least greatest in
          let l = fit.0 in
          let g = fit.1 in
          let d = digits in (
            f.0,
            between-old options o f.0 v left.1 f.1,
            value-part f.0 o (map (option_form f.0) (options_left form (with_value options o v))) w ys n
                (record { number = is_number.number; least_is = omega arith; greatest_is = omega arith }) f.2,
          )

      from-number : (ys : List (List ℕ)) → FollowsWord form options o v (w ∷ ys) → Follows form (with_value options o v) ys
      from-number ys f =
          let p = value-first f.0 o (map (option_form f.0) (options_left form (with_value options o v))) w ys n f.2 in
          let l = p.0.least_is in
          let g = p.0.greatest_is in
          let d = digits in
          (f.0, between-new options o f.0 v f.1 (omega arith, omega arith), p.1)

      number-values : (p : SearchOption) → IsValue words p (at + 1 + 1) (value (with_value options o v) p)
      number-values p = by (same_option o p) refl
        where
          unread : (x : Option ℕ) → x ≡ None → IsValue words o at x → All (λ u. is_word u (option_word o) ≡ false) (take at words)
          unread None e h = h
          unread (Some y) e h = cc

          found : number_behind (option_word o) words ≡ Some v
          found = found-behind (option_word o) words at w (unread (value options o) left.1 (read.values o)) is next
              ∙ ap (λ x. let y : Option ℕ = Some x in y) digits

          by : (b : Bool) → same_option o p ≡ b → IsValue words p (at + 1 + 1) (value (with_value options o v) p)
          by true s = subst (λ q. IsValue words q (at + 1 + 1) (value (with_value options o v) q)) (same-is o p s)
              (own-found words options o (at + 1 + 1) v n found)
          by false s =
              subst (λ x. IsValue words p (at + 1 + 1) x) (sym (other-value options o v p s))
              (value-stays words p (at + 1) w (value options p) next (other-word is_number_word (option_word p) w (no-number p) is_number.number) (stays p s))

      number-read : IsReadTo words form (with_value options o v) (at + 1 + 1)
      number-read =
          let middle = middle-new options o read.middle v read.within read.between least greatest in
          record {
            leads = leads-next (IsSearchForm form) (FollowsWord form options o v) (Follows form (with_value options o v)) words (at + 1) w to-number from-number
                (leads-word v) next;
            values = number-values;
            within = within-new options o v read.within least greatest;
            middle = middle.0;
            between = middle.1;
          }

    pub value-read : (v least greatest : ℕ) → has_number o ≡ true → least ≡ least_in options o → greatest ≡ greatest_in options o
        → IsSomeAnd (slice_get words (at + 1)) (λ w. number_from least greatest w ≡ Some v) → IsReadTo words form (with_value options o v) (at + 2)
    value-read v least greatest n l g h = subst (λ k. IsReadTo words form (with_value options o v) k) (let s : at + 1 + 1 ≡ at + 2 = omega arith in
        s) (by (slice_get words (at + 1)) refl h)
      where
        by : (next : Option (List ℕ)) → slice_get words (at + 1) ≡ next → IsSomeAnd next (λ w. number_from least greatest w ≡ Some v)
            → IsReadTo words form (with_value options o v) (at + 1 + 1)
        by None e h = absurd h
        by (Some w) e h = number-read v n w e (subst (λ x. number_from x (greatest_in options o) w ≡ Some v) l
            (subst (λ x. number_from least x w ≡ Some v) g h))

-- ---- an option of the form that was not come to

-- a word that is none
pub none-left-of : (form : SearchForm) (options : SearchOptions) (w : List ℕ) → ((o : SearchOption) → is_word w (option_word o) ≡ false)
    → list_any (λ o. is_word w (option_word o)) (options_left form options) ≡ false
none-left-of form options w h = filter-none (λ o. is_word w (option_word o)) (is_unread options) (options_of form) (none (options_of form))
  where
    none : (os : List SearchOption) → list_any (λ o. is_word w (option_word o)) os ≡ false
    none [] = refl
    none (o ∷ os) = ap (λ b. b || list_any (λ p. is_word w (option_word p)) os) (h o) ∙ none os

-- an option that is not the form's
pub not-offered : (form : SearchForm) (options : SearchOptions) (o : SearchOption) (w : List ℕ) → w ≡ option_word o → offers form o ≡ false
    → list_any (λ p. is_word w (option_word p)) (options_left form options) ≡ false
not-offered form options o w e h =
    subst (λ u. list_any (λ p. is_word u (option_word p)) (options_left form options) ≡ false) (sym e)
    (filter-none (same_option o) (is_unread options) (options_of form) h)

-- one that was read
pub read-not-left : (form : SearchForm) (options : SearchOptions) (o : SearchOption) (w : List ℕ) → w ≡ option_word o → is_some (value options o) ≡ true
    → list_any (λ p. is_word w (option_word p)) (options_left form options) ≡ false
read-not-left form options o w e h = subst (λ u. list_any (λ p. is_word u (option_word p)) (options_left form options) ≡ false) (sym e) (none (options_of form))
  where
    none : (os : List SearchOption) → list_any (same_option o) (filter (is_unread options) os) ≡ false
    none [] = refl
    none (p ∷ os) = by (is_unread options p) (same_option o p) refl refl (none os)
      where
        by : (a b : Bool) → is_unread options p ≡ a → same_option o p ≡ b → list_any (same_option o) (filter (is_unread options) os) ≡ false
            → list_any (same_option o) (cond a (p ∷ filter (is_unread options) os) (filter (is_unread options) os)) ≡ false
        by false b u s r = r
        by true false u s r = ap (λ x. x || list_any (same_option o) (filter (is_unread options) os)) s ∙ r
        by true true u s r = let k = subst (λ x. is_some (value options x) ≡ true) (same-is o p s) h in let z = ap not k in cc

-- ---- the end of the words

pub all-read : (words : List (Bor (List ℕ))) (form : SearchForm) (options : SearchOptions) (at : ℕ) → length words ≤ at
    → IsReadTo (word_texts words) form options at → IsReadTo (word_texts words) form options (length (word_texts words))
all-read words form options at h r =
    let l = length-map words (λ (b : Bor (List ℕ)). b.now) in
    let w = r.leads.within in
    subst (IsReadTo (word_texts words) form options) (let e : at ≡ length (word_texts words) = omega arith in e) r

-- an option lacks that may not
lacking : (m : ℕ) (options : SearchOptions) (o : SearchOption) (os : List SearchOption) → list_any (same_option o) os ≡ true → value options o ≡ None
    → (option_form m o).may_lack ≡ false → list_all (λ x. x.may_lack) (forms_left m options os) ≡ true → ⊥
lacking m options o [] h e l a = cc
lacking m options o (p ∷ os) h e l a = by (same_option o p) refl (λ k. lacking m options o os k e l)
  where
    later : (b : Bool) → list_all (λ x. x.may_lack) (map (option_form m) (cond b (p ∷ filter (is_unread options) os) (filter (is_unread options) os))) ≡ true
        → list_all (λ x. x.may_lack) (forms_left m options os) ≡ true
    later true k = (and_parts (option_form m p).may_lack (list_all (λ x. x.may_lack) (forms_left m options os)) k).1
    later false k = k

    here_is : (b : Bool) → is_unread options p ≡ b → same_option o p ≡ true
        → list_all (λ x. x.may_lack) (map (option_form m) (cond b (p ∷ filter (is_unread options) os) (filter (is_unread options) os))) ≡ true → ⊥
    here_is true u s k =
        let t = (and_parts (option_form m p).may_lack (list_all (λ x. x.may_lack) (forms_left m options os)) k).0 in
        let z = ap (λ x. (option_form m x).may_lack) (same-is o p s) in
        cc
    here_is false u s k = let z = ap (is_unread options) (same-is o p s) in let y = none-unread options o e in cc

    by : (b : Bool) → same_option o p ≡ b → (list_any (same_option o) os ≡ true → list_all (λ x. x.may_lack) (forms_left m options os) ≡ true → ⊥) → ⊥
    by true s behind_it = here_is (is_unread options p) refl s a
    by false s behind_it = behind_it (sym (ap (λ b. b || list_any (same_option o) os) s) ∙ h) (later (is_unread options p) a)

pub option-lacks : (words : List (List ℕ)) (form : SearchForm) (options : SearchOptions) (o : SearchOption) (number : ℕ) → number ≡ length words + 1
    → offers form o ≡ true → ((m : ℕ) → (option_form m o).may_lack ≡ false) → value options o ≡ None
    → IsReadTo words form options (length words) → IsBadSearchWord form words number
option-lacks words form options o number n h l e read =
    as-word form words number (length words) n
    (leads-bad (IsSearchForm form) (Follows form options) words (length words) read.leads can-follow
    (subst (λ next. IsStuck (Follows form options) next) (sym (slice_get_past words (length words) (omega arith))) stuck))
  where
    can-follow : Begins (Follows form options) []
    can-follow = let r = can-rest read.middle read.between.small (options_left form options) in (r.0, (read.middle, read.between, r.1))

    stuck : Follows form options [] → ⊥
    stuck f = lacking f.0 options o (options_of form) h e (l f.0) (options-end f.2)

module _ (words : List (List ℕ)) (form : SearchForm) (first second : List ℕ) (options : SearchOptions) (search : IsSearch words form first second options) where
  -- no option lacks
  all-there : ((m : ℕ) → list_all (λ x. x.may_lack) (map (option_form m) (options_left form options)) ≡ true) → IsSearchForm form words
  all-there h =
      search.read.leads.good (
        search.read.middle,
        search.read.between,
        subst (FitsParts [] (map (option_form search.read.middle) (options_left form options)))
            (sym (drop-end words (length words) (slice_get_past words (length words) (omega arith)))) (done (h search.read.middle)),
      )

  -- the number of an option
  found-number : (text : List ℕ) (x : Option ℕ) (v : ℕ) → x ≡ Some v
      → MatchOption x (All (λ w. is_word w text ≡ false) (take (length words) words)) (λ n. number_behind text words ≡ Some n)
      → number_behind text words ≡ Some v
  found-number text None v e h = cc
  found-number text (Some y) v e h = let z : y ≡ v = cc in h ∙ ap (λ n. let o : Option ℕ = Some n in o) z

  none-there : (text : List ℕ) → All (λ w. is_word w text ≡ false) (take (length words) words) → has_word text words ≡ false
  none-there text h = sym (ap (has_word text) (take_all (length words) words (omega arith))) ∙ has-none text (take (length words) words) h

  proofs-there : has_word (codes "--proofs") words ≡ options.proofs
  proofs-there = by options.proofs (search.read.values Proofs)
    where
      by : (b : Bool) → IsValue words Proofs (length words) (flag b) → has_word (codes "--proofs") words ≡ b
      by true h = h
      by false h = none-there (codes "--proofs") h

  first-there : HasFirst words options.first
  first-there = by options.first (search.read.values First)
    where
      by : (x : Option ℕ) → IsValue words First (length words) x → HasFirst words x
      by None h = none-there (codes "--first") h
      by (Some k) h = h

  pub number-within : (o : SearchOption) (v : ℕ) → value options o ≡ Some v → IsWithin o v
  number-within o v e = subst (λ x. IfSome x (IsWithin o)) e (search.read.within o)

-- what is left of the options of a form where those are there that may not lack
run-left : (m b w : ℕ) (p : Bool) (k f y t : Option ℕ) → list_all (λ x. x.may_lack)
    (map (option_form m) (options_left Run (record { bound = Some b; workers = Some w; proofs = p; first = k; from = f; by = y; to = t }))) ≡ true
run-left m b w true None f y t = refl
run-left m b w true (Some k) f y t = refl
run-left m b w false None f y t = refl
run-left m b w false (Some k) f y t = refl

session-left : (m b w : ℕ) (p : Bool) (k f y t : Option ℕ) → list_all (λ x. x.may_lack)
    (map (option_form m) (options_left Session (record { bound = Some b; workers = Some w; proofs = p; first = k; from = f; by = y; to = t }))) ≡ true
session-left m b w true k f y t = refl
session-left m b w false k f y t = refl

deepen-left : (m w f y t : ℕ) (p : Bool) (b k : Option ℕ) → list_all (λ x. x.may_lack)
    (map (option_form m) (options_left Deepen (record { bound = b; workers = Some w; proofs = p; first = k; from = Some f; by = Some y; to = Some t }))) ≡ true
deepen-left m w f y t true b k = refl
deepen-left m w f y t false b k = refl

module _ (words : List (List ℕ)) (first second : List ℕ) (options : SearchOptions) (workers : ℕ) (w : options.workers ≡ Some workers) where
  -- the whole words of a run
  pub whole-run : (bound : ℕ) → options.bound ≡ Some bound → IsSearch words Run first second options
      → IsRun words (record { program = first; query = second; bound = bound; workers = workers; proofs = options.proofs; first = options.first })
  whole-run bound b search = record {
    form = (all-there words Run first second options search (λ m.
        subst (λ x. list_all (λ o. o.may_lack) (map (option_form m) (options_left Run (record options { bound = x }))) ≡ true) (sym b)
        (subst (λ x. list_all (λ o. o.may_lack) (map (option_form m) (options_left Run (record options { bound = Some bound; workers = x }))) ≡ true) (sym w)
        (run-left m bound workers options.proofs options.first options.from options.by options.to)))).2;
    program = search.first_is;
    query = search.second_is;
    bound = found-number words Run first second options search (codes "--bound") options.bound bound b (search.read.values Bound);
    workers = found-number words Run first second options search (codes "--workers") options.workers workers w (search.read.values Workers);
    proofs = proofs-there words Run first second options search;
    first = first-there words Run first second options search;
  }

  -- those of a session
  pub whole-session : (bound : ℕ) → options.bound ≡ Some bound → IsSearch words Session first second options
      → IsSession words (record { program = first; queries = second; bound = bound; workers = workers; proofs = options.proofs })
  whole-session bound b search = record {
    form = (all-there words Session first second options search (λ m.
        subst (λ x. list_all (λ o. o.may_lack) (map (option_form m) (options_left Session (record options { bound = x }))) ≡ true) (sym b)
        (subst (λ x. list_all (λ o. o.may_lack) (map (option_form m) (options_left Session (record options { bound = Some bound; workers = x }))) ≡ true)
        (sym w)
        (session-left m bound workers options.proofs options.first options.from options.by options.to)))).2;
    program = search.first_is;
    queries = search.second_is;
    bound = found-number words Session first second options search (codes "--bound") options.bound bound b (search.read.values Bound);
    workers = found-number words Session first second options search (codes "--workers") options.workers workers w (search.read.values Workers);
    proofs = proofs-there words Session first second options search;
  }

  -- and those of a deepening
  module _ (from by to : ℕ) (f : options.from ≡ Some from) (y : options.by ≡ Some by) (t : options.to ≡ Some to)
      (search : IsSearch words Deepen first second options) where
    pub whole-deepen : IsDeepen words (record {
      program = first;
      query = second;
      series = record { from = from; by = by; to = to };
      workers = workers;
      proofs =
          options.proofs;
    })
    whole-deepen = record {
      form = all-there words Deepen first second options search (λ m.
          subst (λ x. list_all (λ o. o.may_lack) (map (option_form m) (options_left Deepen (record options { workers = x }))) ≡ true) (sym w)
          (subst (λ x. list_all (λ o. o.may_lack) (map (option_form m) (options_left Deepen (record options { workers = Some workers; from = x }))) ≡ true)
          (sym f)
          (subst (λ x. list_all (λ o. o.may_lack) (map (option_form m)
          (options_left Deepen (record options { workers = Some workers; from = Some from; by = x }))) ≡ true) (sym y)
          (subst (λ x. list_all (λ o. o.may_lack) (map (option_form m)
          (options_left Deepen (record options { workers = Some workers; from = Some from; by = Some by; to = x }))) ≡ true) (sym t)
          (deepen-left m workers from by to options.proofs options.bound options.first)))));
      program = search.first_is;
      query = search.second_is;
      from_is = found-number words Deepen first second options search (codes "--from") options.from from f (search.read.values From);
      by_is = found-number words Deepen first second options search (codes "--by") options.by by y (search.read.values By);
      to_is = found-number words Deepen first second options search (codes "--to") options.to to t (search.read.values To);
      workers = found-number words Deepen first second options search (codes "--workers") options.workers workers w (search.read.values Workers);
      proofs = proofs-there words Deepen first second options search;
    }

    pub whole-series : IsSeries (record { from = from; by = by; to = to })
    whole-series =
        let a = subst (λ x. IfSome x (λ a. a ≤ search.read.middle)) f search.read.between.from in
        let c = subst (λ x. IfSome x (λ c. search.read.middle ≤ c)) t search.read.between.to in
        let d = number-within words Deepen first second options search To to t in
        let e = number-within words Deepen first second options search By by y in
        let g = d.1 in
        let l = e.0 in
        record { order = omega arith; greatest = g; steps = omega arith }

-- the first answers are one at least
pub first-positive : (options : SearchOptions) → IfSome options.first (IsWithin First) → IfSome options.first (λ k. 0 < k)
first-positive options h = by options.first h
  where
    by : (x : Option ℕ) → IfSome x (IsWithin First) → IfSome x (λ k. 0 < k)
    by None h = tt
    by (Some k) h = let l = h.0 in omega arith

-- one past the last word
pub text-length : (words : List (Bor (List ℕ))) → length words + 1 ≡ length (word_texts words) + 1
text-length words = ap (λ n. n + 1) (sym (length-map words (λ (b : Bor (List ℕ)). b.now)))
