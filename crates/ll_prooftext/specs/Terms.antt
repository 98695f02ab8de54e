-- Terms in the form of arguments, word by word and bracket by bracket.
use Rattle.std.specs.Prelude.{◌≡◌, ℕ, ◌+◌, ◌≤◌, length, Bool, true, false, ◌&&◌, ◌||◌, List, [], ◌∷◌, ◌++◌, IsTrue, codes}
use Rattle.ll_bank.specs.declared.Head.{Head}
use Rattle.ll_bank.specs.Names.{with_names}
use Rattle.ll_bank.specs.Term.{is_closed}
use Rattle.ll_bank.specs.Nodes.{Nodes, term_tree, HasTerm, Extends}
use Rattle.ll_laws.specs.Output.{head_text, has_arguments, term_text, argument_text}
use Rattle.ll_prooftext.specs.declared.words.Word.{Word}
use Rattle.ll_prooftext.specs.declared.words.Word.TheVariants.{Head as HeadWord, Term as LeafWord}
use Rattle.ll_prooftext.specs.Admitted.{IsPlainName, IsPlainHead, IsSpelledTerm}
use Rattle.ll_prooftext.specs.Reading.{IsNumber, IsDecimal, IsInteger}
use Rattle.ll_prooftext.specs.Words.{is_not, Stops}
use Rattle.ll_prooftext.specs.Mentions.{Outside, mentions, line_names}

-- ---- names and places

-- names were added
pub record Grows (old new : List (List ℕ)) : Type 0 where
  pub more : List (List ℕ)
  pub is : new ≡ old ++ more

-- Names and terms were added while bytes were read up to those that are left: the names that the bytes mention, in their order, and at most
-- one for each byte.
pub record Moves (names : List (List ℕ)) (bank : Nodes) (bytes : List ℕ) (new : List (List ℕ)) (over : Nodes) (left : List ℕ) : Type 0 where
  pub grows : Grows names new
  pub keeps : Extends bank over
  pub few : length new + length left ≤ length names + length bytes
  pub names_on : with_names names (mentions Outside bytes) ≡ with_names new (mentions Outside left)

-- the same of a whole line, whose first word mentions none
pub record MovesLine (names : List (List ℕ)) (bank : Nodes) (line : List ℕ) (new : List (List ℕ)) (over : Nodes) : Type 0 where
  pub grows : Grows names new
  pub keeps : Extends bank over
  pub few : length new ≤ length names + length line
  pub names_on : with_names names (line_names line) ≡ new

-- the place of a term that a text can spell
pub record IsSpelledAt (names : List (List ℕ)) (bank : Nodes) (at : ℕ) : Type 0 where
  pub inside : HasTerm bank at
  pub spelled : IsSpelledTerm names (term_tree bank at)
  pub closed : IsTrue (is_closed (term_tree bank at))

-- the text of the term at a place, and as an argument
abbrev pub text_at : List (List ℕ) → Nodes → ℕ → List ℕ
text_at names bank at = term_text names (term_tree bank at)

abbrev pub argument_at : List (List ℕ) → Nodes → ℕ → List ℕ
argument_at names bank at = argument_text (term_tree bank at) (text_at names bank at)

-- ---- words

-- no space, no bracket and no `:`
abbrev pub is_part : ℕ → Bool
is_part b = ((is_not 32 b && is_not 40 b) && is_not 41 b) && is_not 58 b

-- what stands behind the items of an open bracket: nothing yet, a head, a head with arguments, or a term that takes none
pub data Shape : Type 0 where
  Wanted Bare Applied Closed : Shape

-- a name or an eigenvariable
pub data IsHeadWord (w : List ℕ) : Type 0 where
  name : IsPlainName w → IsHeadWord w
  eigen : (n : List ℕ) → w ≡ 35 ∷ n → IsNumber n → IsHeadWord w

-- a variable or a whole number
pub data IsLeafWord (w : List ℕ) : Type 0 where
  variable : (n : List ℕ) → w ≡ 63 ∷ n → IsDecimal 64 n → IsLeafWord w
  number : IsInteger w → IsLeafWord w

-- a word after which this stands in a bracket
abbrev pub IsWord : List ℕ → Shape → Type 0
IsWord w Bare = IsHeadWord w
IsWord w Closed = IsLeafWord w
IsWord w _ = ⊥

-- a head that is spelled so
pub record IsHeadOf (names : List (List ℕ)) (bytes : List ℕ) (h : Head) : Type 0 where
  pub word : IsHeadWord bytes
  pub plain : IsPlainHead names h
  pub is : head_text names h ≡ bytes

-- the place of a term without arguments that is spelled so
pub record IsLeafOf (names : List (List ℕ)) (bank : Nodes) (bytes : List ℕ) (at : ℕ) : Type 0 where
  pub word : IsLeafWord bytes
  pub good : IsSpelledAt names bank at
  pub is : text_at names bank at ≡ bytes
  pub bare : has_arguments (term_tree bank at) ≡ false

-- the word that is spelled so
abbrev pub IsWordOf : List (List ℕ) → Nodes → List ℕ → Word → Type 0
IsWordOf names bank bytes (HeadWord h) = IsHeadOf names bytes h
IsWordOf names bank bytes (LeafWord at) = IsLeafOf names bank bytes at.0

-- the keywords of small letters
abbrev pub small_keywords : List (List ℕ)
small_keywords = codes "true" ∷ codes "erase" ∷ codes "forall" ∷ codes "exists" ∷ codes "is" ∷ []

-- no word begins these bytes
abbrev pub HasNoWord : List ℕ → Type 0
HasNoWord bytes = (w rest : List ℕ) (p : Shape) → IsWord w p → bytes ≡ w ++ rest → Stops is_part rest → ⊥

-- a word at the front of the bytes, and what stands behind it
pub record IsWordAt (names : List (List ℕ)) (bank : Nodes) (bytes : List ℕ) (x : Word) (rest : List ℕ) : Type 0 where
  pub spelling : List ℕ
  pub is : bytes ≡ spelling ++ rest
  pub end : Stops is_part rest
  pub word : IsWordOf names bank spelling x

-- ---- open brackets

-- an open bracket: whether terms with `::` behind them stand in it, and what stands behind those
pub data Frame : Type 0 where
  frame : Bool → Shape → Frame

-- an argument may follow
abbrev pub takes : Shape → Bool
takes Bare = true
takes Applied = true
takes _ = false

abbrev pub is_applied : Shape → Bool
is_applied Applied = true
is_applied _ = false

-- the bracket stands round a term with arguments
abbrev pub closes : Bool → Shape → Bool
closes chain p = chain || is_applied p

-- a bracket with nothing in it
abbrev pub fresh : Frame
fresh = frame false Wanted

-- where a part is wanted: a bracket in front of a `::`, or a word
pub data FirstWay (c : Bool) (fs : List Frame) (bytes : List ℕ) (gs : List Frame) (left : List ℕ) : Type 0 where
  first_bracket : bytes ≡ 40 ∷ left → gs ≡ fresh ∷ frame c Wanted ∷ fs → FirstWay c fs bytes gs left
  first_word : (w : List ℕ) (p : Shape) → IsWord w p → Stops is_part left → bytes ≡ w ++ left → gs ≡ frame c p ∷ fs → FirstWay c fs bytes gs left

-- behind a part: an argument, a `::`, or the end of the bracket
pub data PartWay (c : Bool) (p : Shape) (fs : List Frame) (bytes : List ℕ) (gs : List Frame) (left : List ℕ) : Type 0 where
  bracket : takes p ≡ true → bytes ≡ 32 ∷ 40 ∷ left → gs ≡ fresh ∷ frame c p ∷ fs → PartWay c p fs bytes gs left
  word : takes p ≡ true → (w : List ℕ) (q : Shape) → IsWord w q → Stops is_part left → bytes ≡ 32 ∷ (w ++ left) → gs ≡ frame c Applied ∷ fs
      → PartWay c p fs bytes gs left
  sign : bytes ≡ 58 ∷ 58 ∷ left → gs ≡ frame true Wanted ∷ fs → PartWay c p fs bytes gs left
  whole : closes c p ≡ true → fs ≡ [] → bytes ≡ 41 ∷ left → gs ≡ [] → PartWay c p fs bytes gs left
  argument : closes c p ≡ true → (d : Bool) (q : Shape) (hs : List Frame) → fs ≡ frame d q ∷ hs → takes q ≡ true → bytes ≡ 41 ∷ left → gs ≡ frame d Applied ∷ hs
      → PartWay c p fs bytes gs left
  item : c ≡ true → (d : Bool) (hs : List Frame) → fs ≡ frame d Wanted ∷ hs → bytes ≡ 41 ∷ 58 ∷ 58 ∷ left → gs ≡ frame true Wanted ∷ hs
      → PartWay c p fs bytes gs left

-- from brackets and the bytes behind them to those after one step
abbrev pub WaysOn : List Frame → List ℕ → List Frame → List ℕ → Type 0
WaysOn [] bytes gs left = ⊥
WaysOn (frame c Wanted ∷ fs) bytes gs left = FirstWay c fs bytes gs left
WaysOn (frame c Bare ∷ fs) bytes gs left = PartWay c Bare fs bytes gs left
WaysOn (frame c Applied ∷ fs) bytes gs left = PartWay c Applied fs bytes gs left
WaysOn (frame c Closed ∷ fs) bytes gs left = PartWay c Closed fs bytes gs left

-- the brackets are closed in the bytes, and these stand behind the last one
pub data Accepts (end : List ℕ) : List Frame → List ℕ → Type 0 where
  closed : {fs : List Frame} {bytes : List ℕ} → fs ≡ [] → bytes ≡ end → Accepts end fs bytes
  goes : {fs : List Frame} {bytes : List ℕ} → (gs : List Frame) (left : List ℕ) → WaysOn fs bytes gs left → Accepts end gs left → Accepts end fs bytes
