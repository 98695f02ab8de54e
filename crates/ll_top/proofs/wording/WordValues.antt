-- What stands at a word, and what its number is.
use Rattle.std.proofs.Common.{◌≡◌, ℕ, zero, suc, ◌+◌, ◌<◌, ◌≤◌, Bool, true, false, ◌&&◌, ◌||◌, List, [], ◌∷◌, ◌++◌, length, take, slice_get, get_or, Option}
use Rattle.std.proofs.Common.{Some, None, refl, ap, sym, subst, ◌∙◌, arith, if◌then◌else◌}
use Rattle.std.specs.Prelude.{All, IsSomeAnd, is_some, nat_le, option_map, Result, Ok, Err, IsErrAnd, MatchResult}
use Rattle.std.specs.Str.Parse.{digits_value}
use Rattle.std.proofs.lemmas.Bool.{leb-true, le-leb, and_from, or_right}
use Rattle.std.proofs.lemmas.List.{take_more, length-map}
use Rattle.std.proofs.lemmas.List.Elements.{All-append, All-head, All-tail, All-cons}
use Rattle.std.proofs.lemmas.Option.{slice_get_within, get_or_from_slice_get, slice_get-map, slice_get-get_or}
use Rattle.std.specs.Borrow.{Bor}
use Rattle.ll_top.specs.forms.Words.{word_texts}
use Rattle.ll_top.specs.forms.Words.{ThisWord, AnyName, NumberFrom, is_word, is_name_word, is_number_word, number_from, value_within, number_behind, has_word}
use Rattle.ll_top.specs.forms.FormWords.{HasPart}
use Rattle.ll_top.proofs.wording.Forms.{same-word, words-same}

-- ---- the word at a place

pub word-at : (words : List (Bor (List ℕ))) (at : ℕ) (d : Bor (List ℕ)) → at < length words → slice_get (word_texts words) at ≡ Some (get_or words at d).now
word-at words at d h = slice_get-map (λ w. w.now) words at ∙ ap (λ o. option_map (λ w. w.now) o) (slice_get-get_or words at d h)

pub text-at : (words : List (Bor (List ℕ))) (at : ℕ) (d : Bor (List ℕ)) (text : List ℕ) → at < length words → (get_or words at d).now ≡ text
    → slice_get (word_texts words) at ≡ Some text
text-at words at d text h e = word-at words at d h ∙ ap (λ w. let o : Option (List ℕ) = Some w in o) e

pub word-inside : (words : List (Bor (List ℕ))) (at : ℕ) (w : List ℕ) → slice_get (word_texts words) at ≡ Some w → at < length words
word-inside words at w e = let h = slice_get_within (word_texts words) at w e in let l = length-map words (λ (b : Bor (List ℕ)). b.now) in omega arith

-- the name at a word
pub has-name : (words : List (List ℕ)) (at : ℕ) (w : List ℕ) → slice_get words at ≡ Some w → is_name_word w ≡ true → HasPart words at AnyName
has-name words at w e h = subst (λ o. IsSomeAnd o (λ v. is_name_word v ≡ true)) (sym e) h

-- the number of a word is handed on
pub bad-answer : {A : Type 0} (Good : A → Type 0) (Bad : ℕ → Type 0) (r : Result A ℕ) (n : ℕ) → IsErrAnd r (λ x. x ≡ n) → Bad n → MatchResult r Good Bad
bad-answer Good Bad (Ok x) n e b = absurd e
bad-answer Good Bad (Err x) n e b = subst Bad (sym e) b

-- ---- values

pub value-of : (least greatest : ℕ) (w : List ℕ) (v : ℕ) → number_from least greatest w ≡ Some v → digits_value 10 w ≡ v
value-of least greatest w v e = by (is_number_word w) refl e
  where
    inner : (b : Bool) → nat_le least (digits_value 10 w) && nat_le (digits_value 10 w) greatest ≡ b → (if b then Some (digits_value 10 w) else None) ≡ Some v
        → digits_value 10 w ≡ v
    inner true h k = cc
    inner false h k = cc

    by : (b : Bool) → is_number_word w ≡ b → (if b then value_within least greatest (digits_value 10 w) else None) ≡ Some v → digits_value 10 w ≡ v
    by true h k = inner (nat_le least (digits_value 10 w) && nat_le (digits_value 10 w) greatest) refl k
    by false h k = cc

-- and it is small enough
pub value-small : (least greatest : ℕ) (w : List ℕ) (v : ℕ) → number_from least greatest w ≡ Some v → v ≤ greatest
value-small least greatest w v e = by (is_number_word w) refl e
  where
    inner : (a b : Bool) → nat_le least (digits_value 10 w) ≡ a → nat_le (digits_value 10 w) greatest ≡ b
        → (if a && b then Some (digits_value 10 w) else None) ≡ Some v → v ≤ greatest
    inner true true h l k = let f = leb-true (digits_value 10 w) greatest l in let g : digits_value 10 w ≡ v = cc in omega arith
    inner true false h l k = cc
    inner false b h l k = cc

    by : (b : Bool) → is_number_word w ≡ b → (if b then value_within least greatest (digits_value 10 w) else None) ≡ Some v → v ≤ greatest
    by true h k = inner (nat_le least (digits_value 10 w)) (nat_le (digits_value 10 w) greatest) refl refl k
    by false h k = cc

-- nor is it too small
pub value-least : (least greatest : ℕ) (w : List ℕ) (v : ℕ) → number_from least greatest w ≡ Some v → least ≤ v
value-least least greatest w v e = by (is_number_word w) refl e
  where
    inner : (a b : Bool) → nat_le least (digits_value 10 w) ≡ a → nat_le (digits_value 10 w) greatest ≡ b
        → (if a && b then Some (digits_value 10 w) else None) ≡ Some v → least ≤ v
    inner true true h l k = let f = leb-true least (digits_value 10 w) h in let g : digits_value 10 w ≡ v = cc in omega arith
    inner true false h l k = cc
    inner false b h l k = cc

    by : (b : Bool) → is_number_word w ≡ b → (if b then value_within least greatest (digits_value 10 w) else None) ≡ Some v → least ≤ v
    by true h k = inner (nat_le least (digits_value 10 w)) (nat_le (digits_value 10 w) greatest) refl refl k
    by false h k = cc

pub number-word : (least greatest : ℕ) (w : List ℕ) (v : ℕ) → number_from least greatest w ≡ Some v → is_number_word w ≡ true
number-word least greatest w v e = by (is_number_word w) refl e
  where
    by : (b : Bool) → is_number_word w ≡ b → (if b then value_within least greatest (digits_value 10 w) else None) ≡ Some v → is_number_word w ≡ true
    by true h k = h
    by false h k = cc

-- a word with a test that this text fails is not this text
pub other-word : (test : List ℕ → Bool) (text w : List ℕ) → test text ≡ false → test w ≡ true → is_word w text ≡ false
other-word test text w fails holds = by (is_word w text) refl
  where
    by : (b : Bool) → is_word w text ≡ b → is_word w text ≡ false
    by true h = let e = ap test (words-same w text h) in cc
    by false h = h

pub found-behind : (text : List ℕ) (words : List (List ℕ)) (at : ℕ) (v : List ℕ) → All (λ w. is_word w text ≡ false) (take at words)
    → slice_get words at ≡ Some text → slice_get words (at + 1) ≡ Some v
    → number_behind text words ≡ Some (digits_value 10 v)
found-behind text [] at v h e f = cc
found-behind text (w ∷ []) zero v h e f = cc
found-behind text (w ∷ []) (suc at) v h e f = cc
found-behind text (w ∷ x ∷ ws) zero v h e f =
    let same : w ≡ text = cc in
    let value : x ≡ v = cc in
    ap (λ b. if b then Some (digits_value 10 x) else number_behind text (x ∷ ws)) (ap (λ u. is_word u text) same ∙ same-word text)
    ∙ (ap (λ y. let o : Option ℕ = Some (digits_value 10 y) in o) value)
found-behind text (w ∷ x ∷ ws) (suc at) v h e f =
    ap (λ b. if b then Some (digits_value 10 x) else number_behind text (x ∷ ws)) (All-head (λ u. is_word u text ≡ false) w (take at (x ∷ ws)) h)
    ∙ found-behind text (x ∷ ws) at v (All-tail (λ u. is_word u text ≡ false) w (take at (x ∷ ws)) h) e
    (subst (λ m. slice_get (w ∷ x ∷ ws) m ≡ Some v) (let s : suc at + 1 ≡ suc (at + 1) = omega arith in s) f)

taken-one : (words : List (List ℕ)) (at : ℕ) (w : List ℕ) → slice_get words at ≡ Some w → take (at + 1) words ≡ take at words ++ w ∷ []
taken-one words at w e =
    take_more words at [] (slice_get_within words at w e) ∙ ap (λ x. take at words ++ x ∷ []) (get_or_from_slice_get words at w [] e)

-- one word more that is not this text
pub none-more : (text : List ℕ) (words : List (List ℕ)) (at : ℕ) (w : List ℕ) → slice_get words at ≡ Some w → is_word w text ≡ false
    → All (λ u. is_word u text ≡ false) (take at words) → All (λ u. is_word u text ≡ false) (take (at + 1) words)
none-more text words at w e n h =
    subst (All (λ u. is_word u text ≡ false)) (sym (taken-one words at w e))
    (All-append (λ u. is_word u text ≡ false) (take at words) (w ∷ []) h (All-cons (λ u. is_word u text ≡ false) w [] n (λ k d l. absurd (omega arith))))

-- ---- a word that may stand among words

pub has-none : (text : List ℕ) (words : List (List ℕ)) → All (λ w. is_word w text ≡ false) words → has_word text words ≡ false
has-none text [] h = refl
has-none text (w ∷ words) h =
    ap (λ b. b || has_word text words) (All-head (λ u. is_word u text ≡ false) w words h)
    ∙ has-none text words (All-tail (λ u. is_word u text ≡ false) w words h)

pub has-at : (text : List ℕ) (words : List (List ℕ)) (at : ℕ) → slice_get words at ≡ Some text → has_word text words ≡ true
has-at text [] at e = cc
has-at text (w ∷ words) zero e = ap (λ b. b || has_word text words) (let f : w ≡ text = cc in ap (λ u. is_word u text) f ∙ same-word text)
has-at text (w ∷ words) (suc at) e = or_right (is_word w text) (has_word text words) (has-at text words at e)

-- a text with a number behind it stands among the words
pub word-behind : (text : List ℕ) (words : List (List ℕ)) (v : ℕ) → number_behind text words ≡ Some v → has_word text words ≡ true
word-behind text [] v e = cc
word-behind text (w ∷ []) v e = cc
word-behind text (w ∷ x ∷ ws) v e = by (is_word w text) refl e (word-behind text (x ∷ ws) v)
  where
    by : (b : Bool) → is_word w text ≡ b → (if b then Some (digits_value 10 x) else number_behind text (x ∷ ws)) ≡ Some v
        → (number_behind text (x ∷ ws) ≡ Some v → has_word text (x ∷ ws) ≡ true) → has_word text (w ∷ x ∷ ws) ≡ true
    by true h k r = ap (λ c. c || has_word text (x ∷ ws)) h
    by false h k r = or_right (is_word w text) (has_word text (x ∷ ws)) (r k)

-- ---- a number that is a part

-- what a number that may stand at a word is
pub record IsNumber (least greatest : ℕ) (w : List ℕ) : Type 0 where
  pub number : is_number_word w ≡ true
  pub least_is : least ≤ digits_value 10 w
  pub greatest_is : digits_value 10 w ≤ greatest

some-value : (o : Option ℕ) → is_some o ≡ true → (v : ℕ) × (o ≡ Some v)
some-value None h = cc
some-value (Some v) h = (v, refl)

pub part-number : (least greatest : ℕ) (w : List ℕ) → is_some (number_from least greatest w) ≡ true → IsNumber least greatest w
part-number least greatest w h =
    let s = some-value (number_from least greatest w) h in
    let v = value-of least greatest w s.0 s.1 in
    record {
      number = number-word least greatest w s.0 s.1;
      least_is = let l = value-least least greatest w s.0 s.1 in omega arith;
      greatest_is = let l = value-small least greatest w s.0 s.1 in omega arith;
    }

pub number-part : (least greatest : ℕ) (w : List ℕ) → IsNumber least greatest w → is_some (number_from least greatest w) ≡ true
number-part least greatest w n =
    ap (λ b. is_some (if b then value_within least greatest (digits_value 10 w) else None)) n.number
    ∙ ap (λ b. is_some (if b then Some (digits_value 10 w) else None))
    (and_from (nat_le least (digits_value 10 w)) (nat_le (digits_value 10 w) greatest) (le-leb least (digits_value 10 w) n.least_is)
    (le-leb (digits_value 10 w) greatest n.greatest_is))

-- ---- a number at a word

-- the number at a word
pub number-there : (words : List (List ℕ)) (at least greatest value : ℕ) → IsSomeAnd (slice_get words at) (λ w. number_from least greatest w ≡ Some value)
    → HasPart words at (NumberFrom least greatest)
number-there words at least greatest value h = by (slice_get words at) h
  where
    by : (o : Option (List ℕ)) → IsSomeAnd o (λ w. number_from least greatest w ≡ Some value) → IsSomeAnd o (λ w. is_some (number_from least greatest w) ≡ true)
    by None h = absurd h
    by (Some w) h = ap is_some h

pub number-value : (words : List (List ℕ)) (at least greatest value : ℕ) → IsSomeAnd (slice_get words at) (λ w. number_from least greatest w ≡ Some value)
    → option_map (digits_value 10) (slice_get words at) ≡ Some value
number-value words at least greatest value h = by (slice_get words at) h
  where
    by : (o : Option (List ℕ)) → IsSomeAnd o (λ w. number_from least greatest w ≡ Some value) → option_map (digits_value 10) o ≡ Some value
    by None h = absurd h
    by (Some w) h = let e = value-of least greatest w value h in cc

-- the word of a number
pub record HasNumber (words : List (List ℕ)) (at least greatest value : ℕ) : Type 0 where
  pub word : List ℕ
  pub is : slice_get words at ≡ Some word
  pub number : number_from least greatest word ≡ Some value

pub number-word-at : (words : List (List ℕ)) (at least greatest value : ℕ) → IsSomeAnd (slice_get words at) (λ w. number_from least greatest w ≡ Some value)
    → HasNumber words at least greatest value
number-word-at words at least greatest value h = by (slice_get words at) refl h
  where
    by : (o : Option (List ℕ)) → slice_get words at ≡ o → IsSomeAnd o (λ w. number_from least greatest w ≡ Some value) → HasNumber words at least greatest value
    by None e h = absurd h
    by (Some w) e h = record { word = w; is = e; number = h }

-- the text at a word
pub this-word : (words : List (List ℕ)) (at : ℕ) (text : List ℕ) → HasPart words at (ThisWord text) → slice_get words at ≡ Some text
this-word words at text h = by (slice_get words at) h
  where
    by : (next : Option (List ℕ)) → IsSomeAnd next (λ w. is_word w text ≡ true) → next ≡ Some text
    by None h = absurd h
    by (Some w) h = let e = words-same w text h in cc
