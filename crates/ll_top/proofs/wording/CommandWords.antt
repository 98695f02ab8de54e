-- The words of a print, those of a check, those of a cover, and those of a conversion.
use Rattle.std.proofs.Common.{◌≡◌, ℕ, zero, suc, ◌<◌, ◌≤◌, true, false, ◌||◌, List, [], ◌∷◌, length, take, slice_get, get_or, Option, Some, None}
use Rattle.std.proofs.Common.{refl, ap, sym, subst, ◌∙◌, inl, inr, arith}
use Rattle.std.specs.Prelude.{All, IfSome, IsSomeAnd, codes}
use Rattle.std.proofs.lemmas.Option.{slice_get_past, slice_get-get_or}
use Rattle.ll_top.specs.forms.Begins.{Begins, IsFirstBad, Leads}
use Rattle.ll_top.specs.forms.Words.{ThisWord, AnyName, NumberFrom, is_word, is_name_word, FitsParts, part, option, done, FitsForm, here, bound_option}
use Rattle.ll_top.specs.forms.Words.{version_option}
use Rattle.ll_top.specs.forms.Words.{greatest_bound, number_from, print_form, check_form, cover_form, convert_form, IsPrint, CheckWords, IsCheckForm, IsCheck}
use Rattle.ll_top.specs.forms.Words.{ConvertWords, IsConvert, IsVersion}
use Rattle.ll_top.specs.forms.FormWords.{HasPart, LacksPart, IsBadFormWord}
use Rattle.ll_top.proofs.wording.FirstBad.{drop-end, leads-start}
use Rattle.ll_top.proofs.wording.Forms.{words-same, leads-part, bad-part, leads-option, bad-option, bad-end}
use Rattle.ll_top.proofs.wording.WordValues.{value-of, value-small, value-least, other-word, found-behind, none-more, HasNumber, number-there, number-value}
use Rattle.ll_top.proofs.wording.WordValues.{number-word-at, this-word}

-- ---- the words of a print

pub can-name : Begins (FitsParts (AnyName ∷ []) []) []
can-name = (codes "p" ∷ [], part refl (done refl))

pub can-end : Begins (FitsParts [] []) []
can-end = ([], done refl)

module _ (words : List (List ℕ)) (print : HasPart words 0 (ThisWord (codes "print"))) where
  to-name : Leads (FitsForm print_form) (FitsParts (AnyName ∷ []) []) words 1
  to-name = leads-part (FitsForm print_form) words 0 (ThisWord (codes "print")) (AnyName ∷ []) [] print (leads-start (FitsForm print_form) words)

  pub no-name : (number : ℕ) → number ≡ 2 → LacksPart words 1 AnyName → IsBadFormWord print_form words number
  no-name number e h = record { place = 1; is = e; bad = bad-part (FitsForm print_form) words 1 AnyName [] [] h can-name to-name }

  module _ (name : HasPart words 1 AnyName) where
    to-end : Leads (FitsForm print_form) (FitsParts [] []) words 2
    to-end = leads-part (FitsForm print_form) words 1 AnyName [] [] name to-name

    pub one-more : 2 < length words → IsBadFormWord print_form words 3
    one-more l = record {
      place = 2;
      is = refl;
      bad = bad-option (FitsForm print_form) words 2 [] (get_or words 2 []) (slice_get-get_or words 2 [] l) refl
          can-end to-end;
    }

    pub whole-print : (text : List ℕ) → slice_get words 1 ≡ Some text → length words ≤ 2 → IsPrint words text
    whole-print text e l = record { form = to-end.good (subst (FitsParts [] []) (sym (drop-end words 2 (slice_get_past words 2 l))) (done refl)); program = e }

-- ---- the words of a check

can-name_two : Begins (FitsParts (AnyName ∷ AnyName ∷ []) []) []
can-name_two = (codes "p" ∷ codes "q" ∷ [], part refl (part refl (done refl)))

can-name_three : Begins (FitsParts (AnyName ∷ AnyName ∷ AnyName ∷ []) []) []
can-name_three = (codes "p" ∷ codes "q" ∷ codes "r" ∷ [], part refl (part refl (part refl (done refl))))

module _ (words : List (List ℕ)) (check : HasPart words 0 (ThisWord (codes "check"))) where
  to-program : Leads (FitsForm check_form) (FitsParts (AnyName ∷ AnyName ∷ AnyName ∷ []) []) words 1
  to-program = leads-part (FitsForm check_form) words 0 (ThisWord (codes "check")) (AnyName ∷ AnyName ∷ AnyName ∷ []) [] check
      (leads-start (FitsForm check_form) words)

  pub no-checked_program : (number : ℕ) → number ≡ 2 → LacksPart words 1 AnyName → IsBadFormWord check_form words number
  no-checked_program number e h = record {
    place = 1;
    is = e;
    bad =
        bad-part (FitsForm check_form) words 1 AnyName (AnyName ∷ AnyName ∷ []) [] h can-name_three to-program;
  }

  module _ (program : HasPart words 1 AnyName) where
    to-query : Leads (FitsForm check_form) (FitsParts (AnyName ∷ AnyName ∷ []) []) words 2
    to-query = leads-part (FitsForm check_form) words 1 AnyName (AnyName ∷ AnyName ∷ []) [] program to-program

    pub no-checked_query : (number : ℕ) → number ≡ 3 → LacksPart words 2 AnyName → IsBadFormWord check_form words number
    no-checked_query number e h = record { place = 2; is = e; bad = bad-part (FitsForm check_form) words 2 AnyName (AnyName ∷ []) [] h can-name_two to-query }

    module _ (query : HasPart words 2 AnyName) where
      to-proof : Leads (FitsForm check_form) (FitsParts (AnyName ∷ []) []) words 3
      to-proof = leads-part (FitsForm check_form) words 2 AnyName (AnyName ∷ []) [] query to-query

      pub no-checked_proof : (number : ℕ) → number ≡ 4 → LacksPart words 3 AnyName → IsBadFormWord check_form words number
      no-checked_proof number e h = record { place = 3; is = e; bad = bad-part (FitsForm check_form) words 3 AnyName [] [] h can-name to-proof }

      module _ (proof : HasPart words 3 AnyName) where
        to-check_end : Leads (FitsForm check_form) (FitsParts [] []) words 4
        to-check_end = leads-part (FitsForm check_form) words 3 AnyName [] [] proof to-proof

        pub one-more_checked : 4 < length words → IsBadFormWord check_form words 5
        one-more_checked l = record {
          place = 4;
          is = refl;
          bad =
              bad-option (FitsForm check_form) words 4 [] (get_or words 4 []) (slice_get-get_or words 4 [] l) refl can-end to-check_end;
        }

        pub whole-check : (check : CheckWords) → check.bound ≡ None → slice_get words 1 ≡ Some check.program → slice_get words 2 ≡ Some check.query
            → slice_get words 3 ≡ Some check.proof → length words ≤ 4 → IsCheck words check
        whole-check check e p q r l =
            let form = to-check_end.good (subst (FitsParts [] []) (sym (drop-end words 4 (slice_get_past words 4 l))) (done refl)) in
            record { form = subst (IsCheckForm words) (sym e) form; program = p; query = q; proof = r }

-- ---- the words of a cover

can-bound : Begins (FitsParts [] (bound_option ∷ [])) []
can-bound = (codes "--bound" ∷ codes "0" ∷ [], option (here refl) refl (part refl (done refl)))

can-number : Begins (FitsParts (NumberFrom 0 greatest_bound ∷ []) []) []
can-number = (codes "0" ∷ [], part refl (done refl))

can-cover_one : Begins (FitsParts (AnyName ∷ []) (bound_option ∷ [])) []
can-cover_one = (codes "r" ∷ can-bound.0, part refl can-bound.1)

can-cover_two : Begins (FitsParts (AnyName ∷ AnyName ∷ []) (bound_option ∷ [])) []
can-cover_two = (codes "q" ∷ can-cover_one.0, part refl can-cover_one.1)

can-cover_three : Begins (FitsParts (AnyName ∷ AnyName ∷ AnyName ∷ []) (bound_option ∷ [])) []
can-cover_three = (codes "p" ∷ can-cover_two.0, part refl can-cover_two.1)

module _ (words : List (List ℕ)) (cover : HasPart words 0 (ThisWord (codes "cover"))) where
  to-covered_program : Leads (FitsForm cover_form) (FitsParts (AnyName ∷ AnyName ∷ AnyName ∷ []) (bound_option ∷ [])) words 1
  to-covered_program = leads-part (FitsForm cover_form) words 0 (ThisWord (codes "cover")) (AnyName ∷ AnyName ∷ AnyName ∷ []) (bound_option ∷ []) cover
      (leads-start (FitsForm cover_form) words)

  pub no-covered_program : (number : ℕ) → number ≡ 2 → LacksPart words 1 AnyName → IsBadFormWord cover_form words number
  no-covered_program number e h =
      record {
        place = 1;
        is = e;
        bad = bad-part (FitsForm cover_form) words 1 AnyName (AnyName ∷ AnyName ∷ []) (bound_option ∷ []) h can-cover_three
            to-covered_program;
      }

  module _ (program : HasPart words 1 AnyName) where
    to-covered_query : Leads (FitsForm cover_form) (FitsParts (AnyName ∷ AnyName ∷ []) (bound_option ∷ [])) words 2
    to-covered_query = leads-part (FitsForm cover_form) words 1 AnyName (AnyName ∷ AnyName ∷ []) (bound_option ∷ []) program to-covered_program

    pub no-covered_query : (number : ℕ) → number ≡ 3 → LacksPart words 2 AnyName → IsBadFormWord cover_form words number
    no-covered_query number e h =
        record { place = 2; is = e; bad = bad-part (FitsForm cover_form) words 2 AnyName (AnyName ∷ []) (bound_option ∷ []) h can-cover_two to-covered_query }

    module _ (query : HasPart words 2 AnyName) where
      to-covered_proof : Leads (FitsForm cover_form) (FitsParts (AnyName ∷ []) (bound_option ∷ [])) words 3
      to-covered_proof = leads-part (FitsForm cover_form) words 2 AnyName (AnyName ∷ []) (bound_option ∷ []) query to-covered_query

      pub no-covered_proof : (number : ℕ) → number ≡ 4 → LacksPart words 3 AnyName → IsBadFormWord cover_form words number
      no-covered_proof number e h =
          record { place = 3; is = e; bad = bad-part (FitsForm cover_form) words 3 AnyName [] (bound_option ∷ []) h can-cover_one to-covered_proof }

      module _ (proof : HasPart words 3 AnyName) where
        to-bound_word : Leads (FitsForm cover_form) (FitsParts [] (bound_option ∷ [])) words 4
        to-bound_word = leads-part (FitsForm cover_form) words 3 AnyName [] (bound_option ∷ []) proof to-covered_proof

        pub no-bound_word : (number : ℕ) → number ≡ 5 → LacksPart words 4 (ThisWord (codes "--bound")) → IsBadFormWord cover_form words number
        no-bound_word number e h = record { place = 4; is = e; bad = by (slice_get words 4) refl h }
          where
            by : (next : Option (List ℕ)) → slice_get words 4 ≡ next → IfSome next (λ w. is_word w (codes "--bound") ≡ false)
                → IsFirstBad (FitsForm cover_form) words 4
            by None q h = bad-end (FitsForm cover_form) words 4 (bound_option ∷ []) q refl can-bound to-bound_word
            by (Some w) q h = bad-option (FitsForm cover_form) words 4 (bound_option ∷ []) w q (ap (λ b. b || false) h) can-bound to-bound_word

        module _ (bound_word : HasPart words 4 (ThisWord (codes "--bound"))) where
          to-number : Leads (FitsForm cover_form) (FitsParts (NumberFrom 0 greatest_bound ∷ []) []) words 5
          to-number = leads-option (FitsForm cover_form) words 4 (refl, tt) (here refl) (this-word words 4 (codes "--bound") bound_word) to-bound_word

          pub no-number : (number : ℕ) → number ≡ 6 → LacksPart words 5 (NumberFrom 0 greatest_bound) → IsBadFormWord cover_form words number
          no-number number e h = record {
            place = 5;
            is = e;
            bad =
                bad-part (FitsForm cover_form) words 5 (NumberFrom 0 greatest_bound) [] [] h can-number to-number;
          }

          module _ (value : ℕ) (bound : IsSomeAnd (slice_get words 5) (λ w. number_from 0 greatest_bound w ≡ Some value)) where
            to-cover_end : Leads (FitsForm cover_form) (FitsParts [] []) words 6
            to-cover_end = leads-part (FitsForm cover_form) words 5 (NumberFrom 0 greatest_bound) [] [] (number-there words 5 0 greatest_bound value bound)
                to-number

            pub one-more_covered : 6 < length words → IsBadFormWord cover_form words 7
            one-more_covered l =
                record {
                  place = 6;
                  is = refl;
                  bad = bad-option (FitsForm cover_form) words 6 [] (get_or words 6 []) (slice_get-get_or words 6 [] l) refl
                      can-end to-cover_end;
                }

            pub whole-cover : (check : CheckWords) → check.bound ≡ Some value → slice_get words 1 ≡ Some check.program → slice_get words 2 ≡ Some check.query
                → slice_get words 3 ≡ Some check.proof → length words ≤ 6
                → IsCheck words check
            whole-cover check e p q r l =
                let form = to-cover_end.good (subst (FitsParts [] []) (sym (drop-end words 6 (slice_get_past words 6 l))) (done refl)) in
                record { form = subst (IsCheckForm words) (sym e) (form, number-value words 5 0 greatest_bound value bound); program = p; query = q; proof = r }

-- ---- the words of a conversion

can-version : Begins (FitsParts [] (version_option ∷ [])) []
can-version = (codes "--to" ∷ codes "1" ∷ [], option (here refl) refl (part refl (done refl)))

can-version_number : Begins (FitsParts (NumberFrom 1 2 ∷ []) []) []
can-version_number = (codes "1" ∷ [], part refl (done refl))

can-converted : Begins (FitsParts (AnyName ∷ []) (version_option ∷ [])) []
can-converted = (codes "p" ∷ can-version.0, part refl can-version.1)

module _ (words : List (List ℕ)) (convert : HasPart words 0 (ThisWord (codes "convert"))) where
  to-converted : Leads (FitsForm convert_form) (FitsParts (AnyName ∷ []) (version_option ∷ [])) words 1
  to-converted = leads-part (FitsForm convert_form) words 0 (ThisWord (codes "convert")) (AnyName ∷ []) (version_option ∷ []) convert
      (leads-start (FitsForm convert_form) words)

  pub no-converted : (number : ℕ) → number ≡ 2 → LacksPart words 1 AnyName → IsBadFormWord convert_form words number
  no-converted number e h = record {
    place = 1;
    is = e;
    bad =
        bad-part (FitsForm convert_form) words 1 AnyName [] (version_option ∷ []) h can-converted to-converted;
  }

  module _ (proof : HasPart words 1 AnyName) where
    to-version_word : Leads (FitsForm convert_form) (FitsParts [] (version_option ∷ [])) words 2
    to-version_word = leads-part (FitsForm convert_form) words 1 AnyName [] (version_option ∷ []) proof to-converted

    pub no-version_word : (number : ℕ) → number ≡ 3 → LacksPart words 2 (ThisWord (codes "--to")) → IsBadFormWord convert_form words number
    no-version_word number e h = record { place = 2; is = e; bad = by (slice_get words 2) refl h }
      where
        by : (next : Option (List ℕ)) → slice_get words 2 ≡ next → IfSome next (λ w. is_word w (codes "--to") ≡ false)
            → IsFirstBad (FitsForm convert_form) words 2
        by None q h = bad-end (FitsForm convert_form) words 2 (version_option ∷ []) q refl can-version to-version_word
        by (Some w) q h = bad-option (FitsForm convert_form) words 2 (version_option ∷ []) w q (ap (λ b. b || false) h) can-version to-version_word

    module _ (version_word : HasPart words 2 (ThisWord (codes "--to"))) where
      to-version : Leads (FitsForm convert_form) (FitsParts (NumberFrom 1 2 ∷ []) []) words 3
      to-version = leads-option (FitsForm convert_form) words 2 (refl, tt) (here refl) (this-word words 2 (codes "--to") version_word) to-version_word

      pub no-version : (number : ℕ) → number ≡ 4 → LacksPart words 3 (NumberFrom 1 2) → IsBadFormWord convert_form words number
      no-version number e h = record {
        place = 3;
        is = e;
        bad =
            bad-part (FitsForm convert_form) words 3 (NumberFrom 1 2) [] [] h can-version_number to-version;
      }

      module _ (value : ℕ) (version : IsSomeAnd (slice_get words 3) (λ w. number_from 1 2 w ≡ Some value)) where
        there : HasNumber words 3 1 2 value
        there = number-word-at words 3 1 2 value version

        to-convert_end : Leads (FitsForm convert_form) (FitsParts [] []) words 4
        to-convert_end = leads-part (FitsForm convert_form) words 3 (NumberFrom 1 2) [] [] (number-there words 3 1 2 value version) to-version

        pub one-more_converted : 4 < length words → IsBadFormWord convert_form words 5
        one-more_converted l =
            record {
              place = 4;
              is = refl;
              bad = bad-option (FitsForm convert_form) words 4 [] (get_or words 4 []) (slice_get-get_or words 4 [] l) refl can-end
                  to-convert_end;
            }

        pub version-small : value ≤ 2
        version-small = value-small 1 2 there.word value there.number

        pub version-is : IsVersion value
        version-is = by value (value-least 1 2 there.word value there.number) version-small
          where
            by : (v : ℕ) → 1 ≤ v → v ≤ 2 → IsVersion v
            by zero l g = absurd (omega arith)
            by (suc zero) l g = inl refl
            by (suc (suc zero)) l g = inr refl
            by (suc (suc (suc v))) l g = absurd (omega arith)

        pub whole-convert : (asked : ConvertWords) → asked.version ≡ value → slice_get words 1 ≡ Some asked.proof → length words ≤ 4 → IsConvert words asked
        whole-convert asked e p l = record {
          form = to-convert_end.good (subst (FitsParts [] []) (sym (drop-end words 4 (slice_get_past words 4 l))) (done refl));
          proof = p;
          version = found-behind (codes "--to") words 2 there.word none (this-word words 2 (codes "--to") version_word) there.is
              ∙ ap (λ n. let o : Option ℕ = Some n in o) (value-of 1 2 there.word value there.number ∙ sym e);
        }
          where
            first-other : (next : Option (List ℕ)) → slice_get words 0 ≡ next → IsSomeAnd next (λ w. is_word w (codes "convert") ≡ true)
                → All (λ u. is_word u (codes "--to") ≡ false) (take 1 words)
            first-other None q h = absurd h
            first-other (Some w) q h =
                none-more (codes "--to") words 0 w q (let s = words-same w (codes "convert") h in
                ap (λ v. is_word v (codes "--to")) s) (λ k d l. absurd (none-of words k l))
              where
                none-of : (xs : List (List ℕ)) (k : ℕ) → k < length (take 0 xs) → ⊥
                none-of [] k l = omega arith
                none-of (x ∷ xs) k l = omega arith

            second-other : (next : Option (List ℕ)) → slice_get words 1 ≡ next → IsSomeAnd next (λ w. is_name_word w ≡ true)
                → All (λ u. is_word u (codes "--to") ≡ false) (take 2 words)
            second-other None q h = absurd h
            second-other (Some w) q h = none-more (codes "--to") words 1 w q (other-word is_name_word (codes "--to") w refl h)
                (first-other (slice_get words 0) refl convert)

            none : All (λ u. is_word u (codes "--to") ≡ false) (take 2 words)
            none = second-other (slice_get words 1) refl proof
