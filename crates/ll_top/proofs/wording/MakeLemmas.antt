-- The words of a make, read from its kind to its options.
use Rattle.std.proofs.Common.{◌≡◌, ℕ, ◌+◌, ◌<◌, ◌≤◌, Bool, true, false, ◌||◌, List, [], ◌∷◌, ◌++◌, length, take, drop, slice_get, get_or, Option, Some, None}
use Rattle.std.proofs.Common.{refl, ap, sym, subst, ◌∙◌, suc, inl, inr, arith}
use Rattle.std.specs.Prelude.{IfSome, IsSomeAnd, All, codes, is_some}
use Rattle.std.proofs.lemmas.Option.{slice_get_past, slice_get-get_or}
use Rattle.ll_make.specs.declared.kind.MakeKind.{MakeKind}
use Rattle.ll_make.specs.declared.kind.MakeKind.TheVariants.{Perm, Choice, Chain}
use Rattle.ll_make.specs.Kinds.{least_number, greatest_number}
use Rattle.std.specs.Borrow.{Bor}
use Rattle.ll_top.specs.forms.Words.{word_texts}
use Rattle.ll_top.specs.forms.Begins.{Begins, IsFirstBad, Leads}
use Rattle.ll_top.specs.forms.Making.{kind_word}
use Rattle.ll_top.specs.forms.Words.{Part, ThisWord, NumberFrom, is_part, is_word, is_number_word, OptionForm}
use Rattle.ll_top.specs.forms.Words.{TakesOption, here, behind, FitsParts, part, option, done}
use Rattle.ll_top.specs.forms.Words.{number_from, number_behind, greatest_bound, greatest_workers, bound_option, workers_option, make_parts}
use Rattle.ll_top.specs.forms.Words.{made_options, IsMake}
use Rattle.ll_top.specs.forms.Words.{IsMadeRun}
use Rattle.ll_top.specs.forms.FormWords.{HasPart, LacksPart}
use Rattle.ll_top.specs.forms.MakeForm.{FitsEither, IsMakeForm, IsBadMakeWord, IsNoKind, LacksKind, IsAtOptions, HasOptions}
use Rattle.ll_top.proofs.wording.FirstBad.{drop-none, drop-next, drop-end, leads-start, leads-next, leads-bad, IsStuck}
use Rattle.ll_top.proofs.wording.Forms.{same-word, words-same, part-first, part-lacks, no-option, leads-part, bad-part, leads-option, bad-option, bad-end}
use Rattle.ll_top.proofs.wording.WordValues.{word-inside, value-of, number-word, other-word, found-behind, none-more, HasNumber, number-there, number-value}
use Rattle.ll_top.proofs.wording.WordValues.{number-word-at, this-word}
use Rattle.ll_top.proofs.wording.CommandWords.{can-end}

-- what stands behind the word of a kind
abbrev number_part : MakeKind → Part
number_part kind = NumberFrom (least_number kind) (greatest_number kind)

-- what follows the word `make`
abbrev IsKinded : List (List ℕ) → Type 0
IsKinded words = (kind : MakeKind) × FitsEither (ThisWord (kind_word kind) ∷ number_part kind ∷ []) words

can-kind : Begins IsKinded []
can-kind = (codes "chain" ∷ codes "1" ∷ [], (Chain, inl (part refl (part refl (done refl)))))

can-number : (kind : MakeKind) → Begins (FitsEither (number_part kind ∷ [])) []
can-number Perm = (codes "1" ∷ [], inl (part refl (done refl)))
can-number Choice = (codes "1" ∷ [], inl (part refl (done refl)))
can-number Chain = (codes "1" ∷ [], inl (part refl (done refl)))

-- ---- forms with options or without

either-part : {p : Part} {ps : List Part} {w : List ℕ} {ws : List (List ℕ)} → is_part p w ≡ true → FitsEither ps ws → FitsEither (p ∷ ps) (w ∷ ws)
either-part h (inl f) = inl (part h f)
either-part h (inr f) = inr (part h f)

either-first : {p : Part} {ps : List Part} {w : List ℕ} {ws : List (List ℕ)} → FitsEither (p ∷ ps) (w ∷ ws) → (is_part p w ≡ true) × FitsEither ps ws
either-first (inl f) = let h = part-first f in (h.0, inl h.1)
either-first (inr f) = let h = part-first f in (h.0, inr h.1)

either-lacks : {p : Part} {ps : List Part} → FitsEither (p ∷ ps) [] → ⊥
either-lacks (inl f) = part-lacks f
either-lacks (inr f) = part-lacks f

-- where a word stands, the options do
only-options : (w : List ℕ) (ws : List (List ℕ)) → FitsEither [] (w ∷ ws) → FitsParts [] made_options (w ∷ ws)
only-options w ws (inl f) = absurd (no-option f)
only-options w ws (inr f) = f

options-bad : (w : List ℕ) (ws : List (List ℕ)) (k : ℕ) → IsFirstBad (FitsParts [] made_options) (w ∷ ws) k → IsFirstBad (FitsEither []) (w ∷ ws) k
options-bad w ws k b = record {
  within = b.within;
  before = (b.before.0, inr b.before.1);
  here = λ l m. b.here l (
    m.0,
    subst (λ n. FitsParts [] made_options (take n (w ∷ ws) ++ m.0)) (let e : suc k ≡ k + 1 = omega arith in e)
        (only-options w (take k ws ++ m.0) (subst (λ n. FitsEither [] (take n (w ∷ ws) ++ m.0)) (let e : k + 1 ≡ suc k = omega arith in e) m.1)),
  );
  at_end = λ e m. b.at_end e (only-options w ws m);
}

leads-options : (words : List (List ℕ)) (n : ℕ) (w : List ℕ) → slice_get words n ≡ Some w → Leads IsMakeForm (FitsEither []) words n
    → Leads IsMakeForm (FitsParts [] made_options) words n
leads-options words n w e l = record {
  within = l.within;
  good = λ g. l.good (inr g);
  bad = λ k b. l.bad k (subst (λ ws. IsFirstBad (FitsEither []) ws k) (sym (drop-next words n w e))
      (options-bad w (drop (n + 1) words) k (subst (λ ws. IsFirstBad (FitsParts [] made_options) ws k) (drop-next words n w e) b)));
}

-- ---- kinds

-- each kind has its word
one-kind : (kind other : MakeKind) → is_word (kind_word kind) (kind_word other) ≡ true → other ≡ kind
one-kind Perm Perm h = refl
one-kind Perm Choice h = cc
one-kind Perm Chain h = cc
one-kind Choice Perm h = cc
one-kind Choice Choice h = refl
one-kind Choice Chain h = cc
one-kind Chain Perm h = cc
one-kind Chain Choice h = cc
one-kind Chain Chain h = refl

-- words are in the form of one kind
pub same-kind : (words : List (List ℕ)) (kind other : MakeKind) → FitsEither (make_parts kind) words → FitsEither (make_parts other) words → kind ≡ other
same-kind [] kind other f g = absurd (either-lacks f)
same-kind (w ∷ []) kind other f g = absurd (either-lacks (either-first f).1)
same-kind (w ∷ v ∷ ws) kind other f g =
    let h = (either-first (either-first f).1).0 in
    let k = (either-first (either-first g).1).0 in
    sym (one-kind kind other (ap (λ x. is_word x (kind_word other)) (sym (words-same v (kind_word kind) h)) ∙ k))

-- words of a make, put together
built : (words : List (List ℕ)) (kind : MakeKind) (os : List OptionForm) → HasPart words 0 (ThisWord (codes "make")) → slice_get words 1 ≡ Some (kind_word kind)
    → HasPart words 2 (number_part kind)
    → FitsParts [] os (drop 3 words) → FitsParts (make_parts kind) os words
built [] kind os m e n f = absurd m
built (w ∷ []) kind os m e n f = cc
built (w ∷ v ∷ []) kind os m e n f = absurd n
built (w ∷ v ∷ u ∷ ws) kind os m e n f =
    let same : v ≡ kind_word kind = cc in
    part m (part (ap (λ x. is_word x (kind_word kind)) same ∙ same-word (kind_word kind)) (part n (subst (FitsParts [] os) (drop-none ws) f)))

-- ---- from word to word

module _ (words : List (List ℕ)) (make : HasPart words 0 (ThisWord (codes "make"))) where
  to-kind : Leads IsMakeForm IsKinded words 1
  to-kind =
      leads-next IsMakeForm IsMakeForm IsKinded words 0 (codes "make") (λ ys f. (f.0, either-part {p = ThisWord (codes "make")} refl f.1))
      (λ ys f. (f.0, (either-first f.1).1)) (leads-start IsMakeForm words)
      (this-word words 0 (codes "make") make)

  pub no-kind : (number : ℕ) → number ≡ 2 → LacksKind words 1 → IsBadMakeWord words number
  no-kind number e h = record { place = 1; is = e; bad = leads-bad IsMakeForm IsKinded words 1 to-kind can-kind (stuck (slice_get words 1) h) }
    where
      stuck : (next : Option (List ℕ)) → IfSome next IsNoKind → IsStuck IsKinded next
      stuck None h = λ f. either-lacks f.1
      stuck (Some w) h = λ ys f. let t = (either-first f.1).0 in let n = h f.0 in cc

  module _ (kind : MakeKind) (is_kind : slice_get words 1 ≡ Some (kind_word kind)) where
    to-number : Leads IsMakeForm (FitsEither (number_part kind ∷ [])) words 2
    to-number =
        leads-next IsMakeForm IsKinded (FitsEither (number_part kind ∷ [])) words 1 (kind_word kind)
        (λ ys f. (kind, either-part {p = ThisWord (kind_word kind)} (same-word (kind_word kind)) f)) from to-kind is_kind
      where
        from : (ys : List (List ℕ)) → IsKinded (kind_word kind ∷ ys) → FitsEither (number_part kind ∷ []) ys
        from ys f = let h = either-first f.1 in subst (λ k. FitsEither (number_part k ∷ []) ys) (one-kind kind f.0 h.0) h.1

    pub no-number : (number : ℕ) → number ≡ 3 → LacksPart words 2 (number_part kind) → IsBadMakeWord words number
    no-number number e h = record {
      place = 2;
      is = e;
      bad =
          leads-bad IsMakeForm (FitsEither (number_part kind ∷ [])) words 2 to-number (can-number kind) (stuck (slice_get words 2) h);
    }
      where
        stuck : (next : Option (List ℕ)) → IfSome next (λ w. is_part (number_part kind) w ≡ false) → IsStuck (FitsEither (number_part kind ∷ [])) next
        stuck None h = λ f. either-lacks f
        stuck (Some w) h = λ ys f. let t = (either-first f).0 in cc

    module _ (value : ℕ) (number : IsSomeAnd (slice_get words 2) (λ w. number_from (least_number kind) (greatest_number kind) w ≡ Some value)) where
      there : HasNumber words 2 (least_number kind) (greatest_number kind) value
      there = number-word-at words 2 (least_number kind) (greatest_number kind) value number

      to-end : Leads IsMakeForm (FitsEither []) words 3
      to-end =
          leads-next IsMakeForm (FitsEither (number_part kind ∷ [])) (FitsEither []) words 2 there.word
          (λ ys f. either-part {p = number_part kind} (ap is_some there.number) f) (λ ys f. (either-first f).1) to-number there.is

      -- no word of the first three is this text
      clear : (text : List ℕ) → is_word (codes "make") text ≡ false → is_word (kind_word kind) text ≡ false → is_number_word text ≡ false
          → All (λ w. is_word w text ≡ false) (take 3 words)
      clear text m k n =
          none-more text words 2 there.word there.is (other-word is_number_word text there.word n
          (number-word (least_number kind) (greatest_number kind) there.word value there.number))
          (none-more text words 1 (kind_word kind) is_kind k (none-more text words 0 (codes "make") (this-word words 0 (codes "make") make) m none))
        where
          none : All (λ w. is_word w text ≡ false) (take 0 words)
          none = by words
            where
              by : (ws : List (List ℕ)) → All (λ w. is_word w text ≡ false) (take 0 ws)
              by [] = λ i d l. absurd (omega arith)
              by (w ∷ ws) = λ i d l. absurd (omega arith)

      pub at-options : 3 < length words → IsAtOptions words
      at-options l = record {
        leads = leads-options words 3 (get_or words 3 []) (slice_get-get_or words 3 [] l) to-end;
        no_bound = clear (codes "--bound") refl (no-bound kind) refl;
        no_workers = clear (codes "--workers") refl (no-workers kind) refl;
      }
        where
          no-bound : (k : MakeKind) → is_word (kind_word k) (codes "--bound") ≡ false
          no-bound Perm = refl
          no-bound Choice = refl
          no-bound Chain = refl

          no-workers : (k : MakeKind) → is_word (kind_word k) (codes "--workers") ≡ false
          no-workers Perm = refl
          no-workers Choice = refl
          no-workers Chain = refl

      pub whole-make : length words ≤ 3 → IsMake words (record { kind = kind; number = value })
      whole-make l = record {
        form = built words kind [] make is_kind (number-there words 2 (least_number kind) (greatest_number kind) value number)
            (subst (FitsParts [] []) (sym (drop-end words 3 (slice_get_past words 3 l))) (done refl));
        number = number-value words 2 (least_number kind) (greatest_number kind) value number;
      }

      pub whole-run : (bound workers : ℕ) → HasOptions words bound workers
          → IsMadeRun words (record { make = record { kind = kind; number = value }; bound = bound; workers = workers })
      whole-run bound workers h = record {
        form = built words kind made_options make is_kind (number-there words 2 (least_number kind) (greatest_number kind) value number) h.form;
        number = number-value words 2 (least_number kind) (greatest_number kind) value number;
        bound = h.bound_is;
        workers = h.workers_is;
      }

-- ---- the options

can-options : Begins (FitsParts [] made_options) []
can-options = (
  codes "--bound" ∷ codes "0" ∷ codes "--workers" ∷ codes "1" ∷ [],
  option (here refl) refl (part refl (option (here refl) refl (part refl (done refl)))),
)

-- a word of no option
pub no-options : (words : List (List ℕ)) → IsAtOptions words → (number : ℕ) → number ≡ 4 → LacksPart words 3 (ThisWord (codes "--bound"))
    → LacksPart words 3 (ThisWord (codes "--workers")) → IsBadMakeWord words number
no-options words front number e h k = record { place = 3; is = e; bad = by (slice_get words 3) refl h k }
  where
    by : (next : Option (List ℕ)) → slice_get words 3 ≡ next → IfSome next (λ w. is_word w (codes "--bound") ≡ false)
        → IfSome next (λ w. is_word w (codes "--workers") ≡ false) → IsFirstBad IsMakeForm words 3
    by None q h k = bad-end IsMakeForm words 3 made_options q refl can-options front.leads
    by (Some w) q h k = bad-option IsMakeForm words 3 made_options w q (none (is_word w (codes "--bound")) (is_word w (codes "--workers")) h k) can-options
        front.leads
      where
        none : (a b : Bool) → a ≡ false → b ≡ false → a || (b || false) ≡ false
        none a b h k = cc

-- an option with a number
abbrev number_option : List ℕ → ℕ → ℕ → OptionForm
number_option text least greatest = record { word = text; values = NumberFrom least greatest ∷ []; may_lack = false }

-- the two options of a make, in an order
pub record Order : Type 0 where
  pub first : List ℕ
  pub second : List ℕ
  pub least : ℕ
  pub greatest : ℕ
  pub second_least : ℕ
  pub second_greatest : ℕ
  pub takes : TakesOption (number_option first least greatest) made_options (number_option second second_least second_greatest ∷ [])
  pub can_value : Begins (FitsParts (NumberFrom least greatest ∷ []) (number_option second second_least second_greatest ∷ [])) []
  pub can_second : Begins (FitsParts [] (number_option second second_least second_greatest ∷ [])) []
  pub can_last : Begins (FitsParts (NumberFrom second_least second_greatest ∷ []) []) []

module _ (words : List (List ℕ)) (front : IsAtOptions words) (o : Order) (is_first : slice_get words 3 ≡ Some o.first) where
  to-value : Leads IsMakeForm (FitsParts (NumberFrom o.least o.greatest ∷ []) (number_option o.second o.second_least o.second_greatest ∷ [])) words 4
  to-value = leads-option IsMakeForm words 3 {o = number_option o.first o.least o.greatest} {os = made_options} {others =
      number_option o.second o.second_least o.second_greatest ∷ []} (refl, (refl, tt)) o.takes is_first front.leads

  pub no-value : (number : ℕ) → number ≡ 5 → LacksPart words 4 (NumberFrom o.least o.greatest) → IsBadMakeWord words number
  no-value number e h = record {
    place = 4;
    is = e;
    bad = bad-part IsMakeForm words 4 (NumberFrom o.least o.greatest) []
        (number_option o.second o.second_least o.second_greatest ∷ []) h o.can_value to-value;
  }

  module _ (one : ℕ) (first_number : IsSomeAnd (slice_get words 4) (λ w. number_from o.least o.greatest w ≡ Some one)) where
    to-second : Leads IsMakeForm (FitsParts [] (number_option o.second o.second_least o.second_greatest ∷ [])) words 5
    to-second = leads-part IsMakeForm words 4 (NumberFrom o.least o.greatest) [] (number_option o.second o.second_least o.second_greatest ∷ [])
        (number-there words 4 o.least o.greatest one first_number) to-value

    pub no-second : (number : ℕ) → number ≡ 6 → LacksPart words 5 (ThisWord o.second) → IsBadMakeWord words number
    no-second number e h = record { place = 5; is = e; bad = by (slice_get words 5) refl h }
      where
        by : (next : Option (List ℕ)) → slice_get words 5 ≡ next → IfSome next (λ w. is_word w o.second ≡ false) → IsFirstBad IsMakeForm words 5
        by None q h = bad-end IsMakeForm words 5 (number_option o.second o.second_least o.second_greatest ∷ []) q refl o.can_second to-second
        by (Some w) q h = bad-option IsMakeForm words 5 (number_option o.second o.second_least o.second_greatest ∷ []) w q (ap (λ x. x || false) h) o.can_second
            to-second

    module _ (is_second : HasPart words 5 (ThisWord o.second)) where
      to-last : Leads IsMakeForm (FitsParts (NumberFrom o.second_least o.second_greatest ∷ []) []) words 6
      to-last = leads-option IsMakeForm words 5 {o = number_option o.second o.second_least o.second_greatest} {os =
          number_option o.second o.second_least o.second_greatest ∷ []} {others = []} (refl, tt) (here refl) (this-word words 5 o.second is_second) to-second

      pub no-last : (number : ℕ) → number ≡ 7 → LacksPart words 6 (NumberFrom o.second_least o.second_greatest) → IsBadMakeWord words number
      no-last number e h = record {
        place = 6;
        is = e;
        bad =
            bad-part IsMakeForm words 6 (NumberFrom o.second_least o.second_greatest) [] [] h o.can_last to-last;
      }

      module _ (two : ℕ) (last_number : IsSomeAnd (slice_get words 6) (λ w. number_from o.second_least o.second_greatest w ≡ Some two)) where
        pub one-more : 7 < length words → IsBadMakeWord words 8
        one-more l = record {
          place = 7;
          is = refl;
          bad = bad-option IsMakeForm words 7 [] (get_or words 7 []) (slice_get-get_or words 7 [] l) refl can-end
              (leads-part IsMakeForm words 6 (NumberFrom o.second_least o.second_greatest) [] []
              (number-there words 6 o.second_least o.second_greatest two last_number) to-last);
        }

        pub options-built : length words ≤ 7 → FitsParts [] made_options (drop 3 words)
        options-built l =
            let v = number-word-at words 4 o.least o.greatest one first_number in
            let z = number-word-at words 6 o.second_least o.second_greatest two last_number in
            let u = this-word words 5 o.second is_second in
            let end = drop-end words 7 (slice_get_past words 7 l) in
            let all : drop 3 words ≡ o.first ∷ v.word ∷ o.second ∷ z.word ∷ [] =
            drop-next words 3 o.first is_first ∙ ap (λ ws. o.first ∷ ws)
            (drop-next words 4 v.word v.is ∙ ap (λ ws. v.word ∷ ws)
            (drop-next words 5 o.second u ∙ ap (λ ws. o.second ∷ ws) (drop-next words 6 z.word z.is ∙ ap (λ ws. z.word ∷ ws) end))) in
            subst (FitsParts [] made_options) (sym all) (option o.takes refl
            (part (ap is_some v.number) (option (here refl) refl (part (ap is_some z.number) (done refl)))))

        pub first-is : All (λ w. is_word w o.first ≡ false) (take 3 words) → number_behind o.first words ≡ Some one
        first-is none =
            let v = number-word-at words 4 o.least o.greatest one first_number in
            found-behind o.first words 3 v.word none is_first v.is ∙ ap (λ n. let o : Option ℕ = Some n in o) (value-of o.least o.greatest v.word one v.number)

        pub second-is : is_word o.first o.second ≡ false → is_number_word o.second ≡ false → All (λ w. is_word w o.second ≡ false) (take 3 words)
            → number_behind o.second words ≡ Some two
        second-is differ no_number none =
            let v = number-word-at words 4 o.least o.greatest one first_number in
            let z = number-word-at words 6 o.second_least o.second_greatest two last_number in
            found-behind o.second words 5 z.word
            (none-more o.second words 4 v.word v.is (other-word is_number_word o.second v.word no_number (number-word o.least o.greatest v.word one v.number))
            (none-more o.second words 3 o.first is_first differ none))
            (this-word words 5 o.second is_second) z.is ∙ ap (λ n. let o : Option ℕ = Some n in
            o) (value-of o.second_least o.second_greatest z.word two z.number)

-- ---- the two orders

pub can-last_bound : Begins (FitsParts (NumberFrom 0 greatest_bound ∷ []) []) []
can-last_bound = (codes "0" ∷ [], part refl (done refl))

pub can-last_workers : Begins (FitsParts (NumberFrom 1 greatest_workers ∷ []) []) []
can-last_workers = (codes "1" ∷ [], part refl (done refl))

pub can-bound_alone : Begins (FitsParts [] (bound_option ∷ [])) []
can-bound_alone = (codes "--bound" ∷ can-last_bound.0, option (here refl) refl can-last_bound.1)

pub can-workers_alone : Begins (FitsParts [] (workers_option ∷ [])) []
can-workers_alone = (codes "--workers" ∷ can-last_workers.0, option (here refl) refl can-last_workers.1)

pub can-bound_value : Begins (FitsParts (NumberFrom 0 greatest_bound ∷ []) (workers_option ∷ [])) []
can-bound_value = (codes "0" ∷ can-workers_alone.0, part refl can-workers_alone.1)

pub can-workers_value : Begins (FitsParts (NumberFrom 1 greatest_workers ∷ []) (bound_option ∷ [])) []
can-workers_value = (codes "1" ∷ can-bound_alone.0, part refl can-bound_alone.1)

abbrev pub bound_first : Order
bound_first = record {
  first = codes "--bound";
  second = codes "--workers";
  least = 0;
  greatest = greatest_bound;
  second_least = 1;
  second_greatest = greatest_workers;
  takes = here refl;
  can_value = can-bound_value;
  can_second = can-workers_alone;
  can_last = can-last_workers;
}

abbrev pub bound_last : Order
bound_last = record {
  first = codes "--workers";
  second = codes "--bound";
  least = 1;
  greatest = greatest_workers;
  second_least = 0;
  second_greatest = greatest_bound;
  takes = behind (here refl);
  can_value = can-workers_value;
  can_second = can-bound_alone;
  can_last = can-last_bound;
}

module _ (words : List (List ℕ)) (front : IsAtOptions words) (bound workers : ℕ) (few : length words ≤ 7) where
  pub whole-bound_first : slice_get words 3 ≡ Some (codes "--bound") → IsSomeAnd (slice_get words 4) (λ w. number_from 0 greatest_bound w ≡ Some bound)
      → HasPart words 5 (ThisWord (codes "--workers"))
      → IsSomeAnd (slice_get words 6) (λ w. number_from 1 greatest_workers w ≡ Some workers) → HasOptions words bound workers
  whole-bound_first e b w n = record {
    form = options-built words front bound_first e bound b w workers n few;
    bound_is = first-is words front bound_first e bound b w workers n front.no_bound;
    workers_is = second-is words front bound_first e bound b w workers n refl refl front.no_workers;
  }

  pub whole-bound_last : slice_get words 3 ≡ Some (codes "--workers") → IsSomeAnd (slice_get words 4) (λ w. number_from 1 greatest_workers w ≡ Some workers)
      → HasPart words 5 (ThisWord (codes "--bound"))
      → IsSomeAnd (slice_get words 6) (λ w. number_from 0 greatest_bound w ≡ Some bound) → HasOptions words bound workers
  whole-bound_last e n w b = record {
    form = options-built words front bound_last e workers n w bound b few;
    bound_is = second-is words front bound_last e workers n w bound b refl refl front.no_bound;
    workers_is = first-is words front bound_last e workers n w bound b front.no_workers;
  }

-- ---- words behind a word that stands

pub number-inside : (words : List (Bor (List ℕ))) (at least greatest value : ℕ)
    → IsSomeAnd (slice_get (word_texts words) at) (λ w. number_from least greatest w ≡ Some value) → at < length words
number-inside words at least greatest value h = let v = number-word-at (word_texts words) at least greatest value h in word-inside words at v.word v.is

pub text-inside : (words : List (Bor (List ℕ))) (at : ℕ) (text : List ℕ) → HasPart (word_texts words) at (ThisWord text) → at < length words
text-inside words at text h = word-inside words at text (this-word (word_texts words) at text h)
