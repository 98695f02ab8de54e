-- How the words of terms are spelled.
use Rattle.std.proofs.Common.{◌≡◌, ℕ, zero, suc, ◌<◌, ◌^◌, Bool, true, false, List, [], ◌∷◌, ◌++◌, length, refl, ap, sym, subst, ◌∙◌, arith, decimal, codes}
use Rattle.std.proofs.Common.{IsTrue, ℤ, pos, negsuc, FitsSigned}
use Rattle.std.specs.Prelude.{◌&&◌, ◌||◌, not, ◌==◌}
use Rattle.std.specs.Fmt.{signed_decimal}
use Rattle.std.specs.Int.{w64}
use Rattle.std.specs.List.{list_all, list_any}
use Rattle.std.specs.Str.{bytes_eq, IsAscii, IsUtf8}
use Rattle.std.proofs.lemmas.Str.{IsUtf8-from_ascii}
use Rattle.std.proofs.lemmas.Slice.Eq.{bytes_eq-Decides}
use Rattle.std.proofs.lemmas.Bool.{ne_eqb, or_right, or_left, or_parts as parts_false, false_from_ne_true}
use Rattle.std.proofs.lemmas.Bool.Decides.{nat_tests}
use Rattle.ll_lexer.specs.declared.TokenKind.{TokenKind}
use Rattle.ll_lexer.specs.declared.TokenKind.TheVariants.{Name}
use Rattle.ll_lexer.specs.Spelling.{is_name, is_word_start, is_lower, is_word_byte, kind_of, fixed_spellings, Spells}
use Rattle.ll_lexer.proofs.CallerLemmas.{kind-passes, lower-start, NoKeyword, name-spelled, lower-ascii, word-ascii}
use Rattle.ll_prooftext.specs.Admitted.{IsPlainName}
use Rattle.ll_prooftext.specs.Reading.{IsNumber, IsDecimal, IsInteger}
use Rattle.ll_prooftext.specs.Words.{is_not, Stops}
use Rattle.ll_prooftext.specs.Terms.{is_part, IsHeadWord, name, eigen, IsLeafWord, variable, number, Shape, Wanted, Bare, Applied, Closed, IsWord, HasNoWord}
use Rattle.ll_prooftext.specs.Terms.{small_keywords}
use Rattle.ll_prooftext.proofs.spelling.Cuts.{one_cut}
use Rattle.std.proofs.lemmas.Fmt.{decimal_nonempty}
use Rattle.ll_list_laws.proofs.CallerLemmas.{and_true_both as both}
use Rattle.ll_prooftext.proofs.spelling.Numerals.{mag_small}
use Rattle.ll_prooftext.proofs.reading.Labels.{is_figure, decimal_figures}

-- ---- names

abbrev name_test : List ℕ → TokenKind → Bool
name_test w Name = is_name w
name_test w _ = true

-- a name has the shape of one
pub name_shaped : (w : List ℕ) → Spells Name w → is_name w ≡ true
unfolding fixed_spellings
name_shaped w h = kind-passes name_test w Name refl (record { names = λ v e. e; variables = λ v e. refl; numbers = λ v e. refl }) h

pub apart : (s w : List ℕ) → (s ≡ w → ⊥) → bytes_eq s w ≡ false
apart s w h = false_from_ne_true (bytes_eq s w) (λ e. h ((bytes_eq-Decides s w).0 e))

same : (s w : List ℕ) → s ≡ w → bytes_eq s w ≡ true
same s w e = (bytes_eq-Decides s w).1 e

-- a word that begins with no small letter is no name
not_named : (s w : List ℕ) → is_name s ≡ false → is_name w ≡ true → bytes_eq s w ≡ false
not_named s w f t = apart s w (λ e. let x : is_name s ≡ true = ap is_name e ∙ t in let y : ⊥ = cc in y)

turned : (s w : List ℕ) → bytes_eq w s ≡ false → bytes_eq s w ≡ false
turned s w f = apart s w (λ e. let x : bytes_eq w s ≡ true = same w s (sym e) in let y : ⊥ = cc in y)

-- each of these words is another one
abbrev AreApart : List (List ℕ) → List ℕ → Type 0
AreApart [] w = Unit {0}
AreApart (s ∷ ss) w = (bytes_eq s w ≡ false) × AreApart ss w

all_apart : (ss : List (List ℕ)) (w : List ℕ) → list_any (bytes_eq w) ss ≡ false → AreApart ss w
all_apart [] w k = tt
all_apart (s ∷ ss) w k = let p = parts_false (bytes_eq w s) (list_any (bytes_eq w) ss) k in (turned s w p.0, all_apart ss w p.1)

no_keyword : (w : List ℕ) → is_name w ≡ true → list_any (bytes_eq w) small_keywords ≡ false → NoKeyword w
unfolding is_lower
no_keyword w s k =
    let a = all_apart small_keywords w k in
    record {
      true_word = a.0;
      erase_word = a.1.0;
      forall_word = a.1.1.0;
      exists_word = a.1.1.1.0;
      is_word = a.1.1.1.1.0;
      module_word = not_named (codes "MODULE") w refl s;
      local_word = not_named (codes "LOCAL") w refl s;
      linear_word = not_named (codes "LINEAR") w refl s;
      bar = not_named (codes "_") w refl s;
    }

spelled_name : (w : List ℕ) → is_name w ≡ true → list_any (bytes_eq w) small_keywords ≡ false → Spells Name w
spelled_name [] s k = absurd cc
spelled_name (b ∷ bs) s k =
    let p = both (is_lower b) (list_all is_word_byte bs) s in
    let t : is_word_start b ≡ true = lower-start b p.0 in
    name-spelled (b ∷ bs) (rw (t, p.1) refl) p.0 (no_keyword (b ∷ bs) s k)

-- none of these words is a name
abbrev AreNoNames : List (List ℕ) → Type 0
AreNoNames [] = Unit {0}
AreNoNames (s ∷ ss) = (Spells Name s → ⊥) × AreNoNames ss

none_named : (ss : List (List ℕ)) (w : List ℕ) → AreNoNames ss → list_any (bytes_eq w) ss ≡ true → Spells Name w → ⊥
none_named [] w n k h = cc
none_named (s ∷ ss) w n k h = by_test (bytes_eq w s) refl k (λ q. none_named ss w n.1 q h)
  where
    by_test : (v : Bool) → bytes_eq w s ≡ v → (v || list_any (bytes_eq w) ss) ≡ true → (list_any (bytes_eq w) ss ≡ true → ⊥) → ⊥
    by_test true e q others = n.0 (subst (Spells Name) ((bytes_eq-Decides w s).0 e) h)
    by_test false e q others = others q

-- a keyword is no name
keyword_is : (w : List ℕ) → list_any (bytes_eq w) small_keywords ≡ true → Spells Name w → ⊥
unfolding kind_of fixed_spellings
keyword_is w k h = none_named small_keywords w ((λ q. cc), ((λ q. cc), ((λ q. cc), ((λ q. cc), ((λ q. cc), tt))))) k h

-- what the code tests
pub name_iff : (w : List ℕ) (k : Bool) → is_name w ≡ true → k ≡ list_any (bytes_eq w) small_keywords
    → (IsTrue (not k) → Spells Name w) × (Spells Name w → IsTrue (not k))
name_iff w false s e = (λ t. spelled_name w s (sym e), λ h. refl)
name_iff w true s e = (λ t. let x : ⊥ = cc in absurd x, λ h. absurd (keyword_is w (sym e) h))

pub no_name : (w : List ℕ) → is_name w ≡ false → (IsTrue false → Spells Name w) × (Spells Name w → IsTrue false)
no_name w f = (λ t. let x : ⊥ = cc in absurd x, λ h. let s = name_shaped w h in let x : ⊥ = cc in absurd x)

-- ---- first bytes

-- some bytes, of which the first passes a test
pub record Starts (p : ℕ → Bool) (w : List ℕ) : Type 0 where
  pub byte : ℕ
  pub others : List ℕ
  pub is : w ≡ byte ∷ others
  pub passes : p byte ≡ true

pub shaped_starts : (w : List ℕ) → is_name w ≡ true → Starts is_lower w
shaped_starts [] h = absurd cc
shaped_starts (b ∷ bs) h = record { byte = b; others = bs; is = refl; passes = (both (is_lower b) (list_all is_word_byte bs) h).0 }

figures_start : (w : List ℕ) → list_all is_figure w ≡ true → 0 < length w → Starts is_figure w
figures_start [] h l = absurd (omega arith)
figures_start (b ∷ bs) h l = record { byte = b; others = bs; is = refl; passes = (both (is_figure b) (list_all is_figure bs) h).0 }

-- the first byte of a whole number
abbrev pub begins_number : ℕ → Bool
begins_number b = is_figure b || b == 45

figure_begins : (b : ℕ) → is_figure b ≡ true → begins_number b ≡ true
figure_begins b h = rw h refl

decimal_starts : (n : ℕ) → n < 2 ^ 64 → Starts begins_number (decimal n)
decimal_starts n h =
    let s = figures_start (decimal n) (decimal_figures n h) (decimal_nonempty n h) in
    record { byte = s.byte; others = s.others; is = s.is; passes = figure_begins s.byte s.passes }

pub signed_starts : (z : ℤ) → FitsSigned w64 z → Starts begins_number (signed_decimal z)
signed_starts (pos n) f = let l : n < 2 ^ 63 = mag_small (pos n) f in decimal_starts n (omega arith)
signed_starts (negsuc n) f = record { byte = 45; others = decimal (suc n); is = refl; passes = refl }

moved : (p : ℕ → Bool) (v w : List ℕ) → w ≡ v → Starts p v → Starts p w
moved p v w e s = record { byte = s.byte; others = s.others; is = e ∙ s.is; passes = s.passes }

pub weaker : (p q : ℕ → Bool) (w : List ℕ) → ((b : ℕ) → p b ≡ true → q b ≡ true) → Starts p w → Starts q w
weaker p q w f s = record { byte = s.byte; others = s.others; is = s.is; passes = f s.byte s.passes }

-- the first bytes of heads and of terms that take no arguments
abbrev pub head_start : ℕ → Bool
head_start b = is_lower b || b == 35

abbrev pub leaf_start : ℕ → Bool
leaf_start b = b == 63 || begins_number b

pub head_first : (w : List ℕ) → IsHeadWord w → Starts head_start w
head_first w (name p) = weaker is_lower head_start w (λ b h. or_left (is_lower b) (b == 35) h) (shaped_starts w (name_shaped w p.spelled))
head_first w (eigen n e i) = record { byte = 35; others = n; is = e; passes = or_right (is_lower 35) true refl }

pub leaf_first : (w : List ℕ) → IsLeafWord w → Starts leaf_start w
leaf_first w (variable n e i) = record { byte = 63; others = n; is = e; passes = refl }
leaf_first w (number i) = weaker begins_number leaf_start w (λ b h. or_right (b == 63) (begins_number b) h)
    (moved begins_number (signed_decimal i.value) w i.is (signed_starts i.value i.fits))

-- no byte begins both
apart_starts : (b : ℕ) → head_start b ≡ true → leaf_start b ≡ true → ⊥
unfolding is_lower
apart_starts b h l = grind (arith, nat_tests)

same_first : (p q : ℕ → Bool) (w : List ℕ) → ((b : ℕ) → p b ≡ true → q b ≡ true → ⊥) → Starts p w → Starts q w → ⊥
same_first p q w f s t =
    let e : s.byte ∷ s.others ≡ t.byte ∷ t.others = sym s.is ∙ t.is in
    let b : s.byte ≡ t.byte = cc in
    f s.byte s.passes (ap q b ∙ t.passes)

-- a word has one shape
pub one_shape : (w : List ℕ) (p q : Shape) → IsWord w p → IsWord w q → p ≡ q
one_shape w Wanted q a b = absurd a
one_shape w Applied q a b = absurd a
one_shape w p Wanted a b = absurd b
one_shape w p Applied a b = absurd b
one_shape w Bare Bare a b = refl
one_shape w Closed Closed a b = refl
one_shape w Bare Closed a b = absurd (same_first head_start leaf_start w apart_starts (head_first w a) (leaf_first w b))
one_shape w Closed Bare a b = absurd (same_first head_start leaf_start w apart_starts (head_first w b) (leaf_first w a))

-- ---- no word

pub first_is : (p : ℕ → Bool) (w : List ℕ) (c : ℕ) (cs : List ℕ) → w ≡ c ∷ cs → Starts p w → p c ≡ true
first_is p w c cs e s = let f : s.byte ∷ s.others ≡ c ∷ cs = sym s.is ∙ e in let b : s.byte ≡ c = cc in ap p (sym b) ∙ s.passes

pub no_variable : (w rest : List ℕ) → w ≡ 63 ∷ rest → (IsDecimal 64 rest → ⊥) → (p : Shape) → IsWord w p → ⊥
unfolding is_lower
no_variable w rest e none Wanted a = a
no_variable w rest e none Applied a = a
no_variable w rest e none Bare a = let x : false ≡ true = first_is head_start w 63 rest e (head_first w a) in let y : ⊥ = cc in y
no_variable w rest e none Closed (variable n f i) = let g : 63 ∷ n ≡ 63 ∷ rest = sym f ∙ e in let q : n ≡ rest = cc in none (subst (IsDecimal 64) q i)
no_variable w rest e none Closed (number i) = let x : false ≡ true =
    first_is begins_number w 63 rest e (moved begins_number (signed_decimal i.value) w i.is (signed_starts i.value i.fits)) in let y : ⊥ = cc in y

pub no_eigen : (w rest : List ℕ) → w ≡ 35 ∷ rest → (IsNumber rest → ⊥) → (p : Shape) → IsWord w p → ⊥
unfolding is_lower
no_eigen w rest e none Wanted a = a
no_eigen w rest e none Applied a = a
no_eigen w rest e none Closed a = let x : false ≡ true = first_is leaf_start w 35 rest e (leaf_first w a) in let y : ⊥ = cc in y
no_eigen w rest e none Bare (eigen n f i) = let g : 35 ∷ n ≡ 35 ∷ rest = sym f ∙ e in let q : n ≡ rest = cc in none (subst IsNumber q i)
no_eigen w rest e none Bare (name i) = let x : false ≡ true = first_is is_lower w 35 rest e (shaped_starts w (name_shaped w i.spelled)) in let y : ⊥ = cc in y

pub no_word : (w : List ℕ) → ((r : List ℕ) → w ≡ 63 ∷ r → ⊥) → ((r : List ℕ) → w ≡ 35 ∷ r → ⊥) → (IsInteger w → ⊥) → (IsPlainName w → ⊥) → (p : Shape)
    → IsWord w p → ⊥
no_word w v h i n Wanted a = a
no_word w v h i n Applied a = a
no_word w v h i n Bare (name p) = n p
no_word w v h i n Bare (eigen m e p) = h m e
no_word w v h i n Closed (variable m e p) = v m e
no_word w v h i n Closed (number p) = i p

-- ---- the bytes of words

pub other : (p : ℕ → Bool) (x b : ℕ) → p x ≡ false → p b ≡ true → is_not x b ≡ true
other p x b f t =
    let ne : b ≡ x → ⊥ = λ e. let y : p b ≡ false = ap p e ∙ f in let z : ⊥ = cc in z in
    let q : (b == x) ≡ false = ne_eqb b x ne in
    rw q refl

part_of : (p : ℕ → Bool) → p 32 ≡ false → p 40 ≡ false → p 41 ≡ false → p 58 ≡ false → (b : ℕ) → p b ≡ true → is_part b ≡ true
part_of p f g h i b t =
    let u = other p 32 b f t in let v = other p 40 b g t in let w = other p 41 b h t in let x = other p 58 b i t in
    all_four (is_not 32 b) (is_not 40 b) (is_not 41 b) (is_not 58 b) u v w x
  where
    all_four : (j k l m : Bool) → j ≡ true → k ≡ true → l ≡ true → m ≡ true → (((j && k) && l) && m) ≡ true
    all_four true true true true a b c d = refl
    all_four false k l m a b c d = absurd cc
    all_four true false l m a b c d = absurd cc
    all_four true true false m a b c d = absurd cc
    all_four true true true false a b c d = absurd cc

pub all_weaker : (p q : ℕ → Bool) → ((b : ℕ) → p b ≡ true → q b ≡ true) → (w : List ℕ) → list_all p w ≡ true → list_all q w ≡ true
all_weaker p q f [] h = refl
all_weaker p q f (b ∷ w) h = let k = both (p b) (list_all p w) h in let a = f b k.0 in let t = all_weaker p q f w k.1 in rw (a, t) refl

decimal_parts : (n : ℕ) → n < 2 ^ 64 → list_all is_part (decimal n) ≡ true
decimal_parts n h = all_weaker is_figure is_part (part_of is_figure refl refl refl refl) (decimal n) (decimal_figures n h)

behind_part : (b : ℕ) (bs : List ℕ) → is_part b ≡ true → list_all is_part bs ≡ true → list_all is_part (b ∷ bs) ≡ true
behind_part b bs h t = rw (h, t) refl

signed_parts : (z : ℤ) → FitsSigned w64 z → list_all is_part (signed_decimal z) ≡ true
signed_parts (pos n) f = let l : n < 2 ^ 63 = mag_small (pos n) f in decimal_parts n (omega arith)
signed_parts (negsuc n) f = let l : n < 2 ^ 63 = mag_small (negsuc n) f in behind_part 45 (decimal (suc n)) refl (decimal_parts (suc n) (omega arith))

name_parts : (w : List ℕ) → is_name w ≡ true → list_all is_part w ≡ true
unfolding is_lower is_word_byte
name_parts [] h = refl
name_parts (b ∷ bs) h = let k = both (is_lower b) (list_all is_word_byte bs) h in
    behind_part b bs (part_of is_lower refl refl refl refl b k.0) (all_weaker is_word_byte is_part (part_of is_word_byte refl refl refl refl) bs k.1)

pub word_parts : (w : List ℕ) (p : Shape) → IsWord w p → list_all is_part w ≡ true
word_parts w Wanted a = absurd a
word_parts w Applied a = absurd a
word_parts w Bare (name p) = name_parts w (name_shaped w p.spelled)
word_parts w Bare (eigen n e i) = ap (list_all is_part) (e ∙ ap (λ z. 35 ∷ z) i.is)
    ∙ behind_part 35 (decimal i.number) refl (decimal_parts i.number (let l = i.small in omega arith))
word_parts w Closed (variable n e i) = ap (list_all is_part) (e ∙ ap (λ z. 63 ∷ z) i.is)
    ∙ behind_part 63 (decimal i.number) refl (decimal_parts i.number i.small)
word_parts w Closed (number i) = ap (list_all is_part) i.is ∙ signed_parts i.value i.fits

-- the word at the front is the one up to its end
pub one_word : (w rest v others : List ℕ) (p : Shape) → list_all is_part w ≡ true → Stops is_part rest → IsWord v p → Stops is_part others
    → w ++ rest ≡ v ++ others → (w ≡ v) × (rest ≡ others)
one_word w rest v others p h s a t e = one_cut is_part w v rest others h (word_parts v p a) s t e

pub no_word_at : (bytes w rest : List ℕ) → bytes ≡ w ++ rest → list_all is_part w ≡ true → Stops is_part rest → ((p : Shape) → IsWord w p → ⊥) → HasNoWord bytes
no_word_at bytes w rest e h s none v others p a f t =
    let k = one_word w rest v others p h s a t (sym e ∙ f) in
    none p (subst (λ z. IsWord z p) (sym k.0) a)

-- ---- names are text

bytes_low : (w : List ℕ) → list_all is_word_byte w ≡ true → IsAscii w
bytes_low [] h i = omega arith
bytes_low (b ∷ w) h zero = word-ascii b (both (is_word_byte b) (list_all is_word_byte w) h).0
bytes_low (b ∷ w) h (suc i) = bytes_low w (both (is_word_byte b) (list_all is_word_byte w) h).1 i

shaped_low : (w : List ℕ) → is_name w ≡ true → IsAscii w
shaped_low [] h i = absurd cc
shaped_low (b ∷ w) h zero = lower-ascii b (both (is_lower b) (list_all is_word_byte w) h).0
shaped_low (b ∷ w) h (suc i) = bytes_low w (both (is_lower b) (list_all is_word_byte w) h).1 i

pub name_utf8 : (w : List ℕ) → Spells Name w → IsUtf8 w
name_utf8 w h = IsUtf8-from_ascii w (shaped_low w (name_shaped w h))

pub name_full : (w : List ℕ) → IsPlainName w → 0 < length w
name_full [] p = let s = name_shaped [] p.spelled in absurd cc
name_full (b ∷ w) p = omega arith

starts_full : (p : ℕ → Bool) (w : List ℕ) → Starts p w → 0 < length w
starts_full p w s = let l = ap length s.is in omega arith

pub word_full : (w : List ℕ) (p : Shape) → IsWord w p → 0 < length w
word_full w Wanted i = absurd i
word_full w Applied i = absurd i
word_full w Bare i = starts_full head_start w (head_first w i)
word_full w Closed i = starts_full leaf_start w (leaf_first w i)
