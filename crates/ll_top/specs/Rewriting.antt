-- The laws of texts that are written anew: a program that is laid out in another way or printed, and a derivation that is converted.
use Rattle.std.specs.Prelude.{◌≡◌, ◌≤◌, ◌⊎◌, ◌↔◌, ℕ, List, [], ◌∷◌, ◌++◌, length, None, Some, codes}
use Rattle.std.specs.List.{IsDistinct}
use Rattle.std.specs.Str.{bytes_eq}
use Rattle.ll_bank.specs.Names.{with_names}
use Rattle.ll_edge.specs.Texts.{Texts, text_of}
use Rattle.ll_laws.specs.Line.{DerivationLines}
use Rattle.ll_parser.specs.Raw.{ProgramTree}
use Rattle.ll_parser.specs.Bare.{bare_program}
use Rattle.ll_prooftext.specs.Admitted.{IsSpelled}
use Rattle.ll_prooftext.specs.Mentions.{text_names}
use Rattle.ll_prooftext.specs.Reading.{HasNoVersion, text_lines}
use Rattle.ll_prooftext.specs.Sizes.{text_in}
use Rattle.ll_prooftext.specs.Versions.{HasVersion, IsProofText}
use Rattle.ll_top.specs.forms.Words.{RunWords, SessionWords, DeepenWords, CheckWords, ConvertWords, IsRun, IsSession, IsDeepen, IsPrint, IsCheck, IsConvert}
use Rattle.ll_top.specs.texts.Judging.{IsProgramText, IsFaultless}
use Rattle.ll_top.specs.texts.Outcome.{AnyName, NoName, longest_text, IsRead}
use Rattle.ll_top.specs.Calls.{ComesTo}

-- ---- programs

-- two texts are read as one program, places aside, and it has no fault of scope or sorting
pub record AreOfOneProgram (text other : List ℕ) : Type 0 where
  pub tree : ProgramTree
  pub other_tree : ProgramTree
  pub is_faultless : IsFaultless text tree
  pub is_other : IsProgramText other other_tree
  pub same : bare_program other_tree ≡ bare_program tree

-- two shelves have the same texts, but of this name perhaps
abbrev pub AreSameButAt : List ℕ → Texts → Texts → Type 0
AreSameButAt name old new = (other : List ℕ) → (other ≡ name → ⊥) → text_of old other ≡ text_of new other

-- two shelves have the same texts, but of this name, and there those of one program
pub record IsLaidOutAnew (name : List ℕ) (old new : Texts) : Type 0 where
  pub text : List ℕ
  pub other : List ℕ
  pub old_read : IsRead (Some old) name text
  pub new_read : IsRead (Some new) name other
  pub one : AreOfOneProgram text other
  pub others : AreSameButAt name old new

-- the words use the name for a program alone, and for no query and no derivation
pub record NamesPrograms (words : List (List ℕ)) (name : List ℕ) : Type 0 where
  pub run : (run : RunWords) → IsRun words run → run.query ≡ name → ⊥
  pub session : (session : SessionWords) → IsSession words session → session.queries ≡ name → ⊥
  pub deepen : (deepen : DeepenWords) → IsDeepen words deepen → deepen.query ≡ name → ⊥
  pub query : (check : CheckWords) → IsCheck words check → check.query ≡ name → ⊥
  pub proof : (check : CheckWords) → IsCheck words check → check.proof ≡ name → ⊥
  pub convert : (convert : ConvertWords) → IsConvert words convert → convert.proof ≡ name → ⊥

-- a call comes to the same over both shelves
abbrev pub ComesToSame : List (List ℕ) → Texts → Texts → Type 0
ComesToSame words old new =
    (status : ℕ) (text : List ℕ) → ComesTo words (Some old) AnyName NoName status text ↔ ComesTo words (Some new) AnyName NoName status text

-- How a program is laid out does not matter: where two shelves have the same texts, but for one name those of one program, each call that uses
-- the name for a program alone comes to the same status and the same text over both.
abbrev pub LayoutIsAside : Type 0
LayoutIsAside = (words : List (List ℕ)) (name : List ℕ) (old new : Texts) → IsLaidOutAnew name old new → NamesPrograms words name → ComesToSame words old new

-- A print comes to a text, which another shelf has under any name. A print of that comes to this text again.
abbrev pub PrintedIsPrinted : Type 0
PrintedIsPrinted =
    (words other : List (List ℕ)) (name again text : List ℕ) (texts later : Texts) → IsPrint words name → ComesTo words (Some texts) AnyName NoName 0 text
    → IsPrint other again → IsRead (Some later) again text → ComesTo other (Some later) AnyName NoName 0 text

-- A print comes to a text, and a later shelf has it in place of the program's text, which has no fault of scope or sorting. Each call that uses the
-- name for a program alone comes to the same status and the same text as before.
abbrev pub PrintedIsAside : Type 0
PrintedIsAside =
    (words other : List (List ℕ)) (name source text : List ℕ) (tree : ProgramTree) (old new : Texts) → IsPrint words name
    → ComesTo words (Some old) AnyName NoName 0 text → IsRead (Some old) name source → IsFaultless source tree
    → IsRead (Some new) name text → AreSameButAt name old new → NamesPrograms other name → ComesToSame other old new

-- ---- derivations

-- the version that the first line of a text tells
pub data TellsVersion (text : List ℕ) (version : ℕ) : Type 0 where
  tells_first : version ≡ 1 → HasNoVersion (codes "proof 2") (text_lines text) → TellsVersion text version
  tells_second : version ≡ 2 → HasVersion (codes "proof 2") (text_lines text) → TellsVersion text version

-- a call comes to a text, with its last LF, where this is no longer than a text may be
pub record ComesBackTo (words : List (List ℕ)) (texts : Texts) (text : List ℕ) : Type 0 where
  pub again : List ℕ
  pub is : (text ≡ again) ⊎ (text ++ 10 ∷ [] ≡ again)
  pub comes : length again ≤ longest_text → ComesTo words (Some texts) AnyName NoName 0 again

-- A conversion of a text comes to another text, in either version. A conversion of that one to the version of the first one comes to the first one
-- again, byte for byte, but that it has its last LF.
abbrev pub ConvertedComesBack : Type 0
ConvertedComesBack =
    (words other : List (List ℕ)) (there back : ConvertWords) (texts later : Texts) (proof text : List ℕ) → IsConvert words there → IsConvert other back
    → IsRead (Some texts) there.proof proof → ComesTo words (Some texts) AnyName NoName 0 text → IsRead (Some later) back.proof text
    → TellsVersion proof back.version → ComesBackTo other later proof

-- A derivation that can be spelled over names that all differ is read of the text that is written of it in either version, over these names and
-- behind them those that the text mentions.
abbrev pub WrittenIsReadBack : Type 0
WrittenIsReadBack =
    (names : List (List ℕ)) (d : DerivationLines) (version : ℕ) → IsDistinct bytes_eq names → IsSpelled names d
    → length (text_in version names d) ≤ longest_text
    → IsProofText (with_names names (text_names (text_in version names d))) (text_in version names d) d

-- A conversion of a derivation's text comes to another text, and a later shelf has both. Checks of the two, with the same program and the same query,
-- come to the same status and the same text.
abbrev pub ConvertedIsJudgedAlike : Type 0
ConvertedIsJudgedAlike =
    (words one two : List (List ℕ)) (convert : ConvertWords) (first second : CheckWords) (texts later : Texts) (proof text : List ℕ)
    → IsConvert words convert → IsRead (Some texts) convert.proof proof → ComesTo words (Some texts) AnyName NoName 0 text
    → IsCheck one first → IsCheck two second → first.bound ≡ None → second.bound ≡ None → second.program ≡ first.program → second.query ≡ first.query
    → IsRead (Some later) first.proof proof → IsRead (Some later) second.proof text
    → (status : ℕ) (answer : List ℕ) → ComesTo one (Some later) AnyName NoName status answer ↔ ComesTo two (Some later) AnyName NoName status answer
