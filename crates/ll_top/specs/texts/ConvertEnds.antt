-- How the parts of a conversion end, in the program's own types.
use Rattle.std.specs.Prelude.{◌≤◌, ◌<◌, ℕ, List, length, Option, Result, Ok, Err}
use Rattle.ll_edge.specs.Texts.{Texts}
use Rattle.ll_top.specs.declared.texts.converting.NewText.{NewText}
use Rattle.ll_top.specs.declared.texts.converting.NewText.TheVariants.{Whole, TooLong}
use Rattle.ll_top.specs.declared.texts.refusing.Refusal.{Refusal}
use Rattle.ll_top.specs.declared.texts.refusing.Refusal.TheVariants.{Text, Unwritable, OutOfMemory}
use Rattle.ll_top.specs.forms.Words.{ConvertWords}
use Rattle.ll_top.specs.texts.Faults.{OversizedAs}
use Rattle.ll_top.specs.texts.Outcome.{longest_text}
use Rattle.ll_top.specs.texts.Converting.{IsConverted, ConvertFails, ConvertComesTo}
use Rattle.ll_top.specs.texts.Endings.{cause_of, IsNoDerivation}

-- what the text of a derivation comes to in a version: a text, or one that is too long; or why it is no such text
abbrev pub IsConversionOf : List ℕ → ℕ → Result NewText Refusal → Type 0
IsConversionOf proof version (Ok (Whole text)) = IsConverted proof version text.items × (length text.items ≤ longest_text)
IsConversionOf proof version (Ok TooLong) = (text : List ℕ) × IsConverted proof version text × (longest_text < length text)
IsConversionOf proof version (Err e) = IsNoDerivation proof e

-- what the text of the name in a conversion comes to, or a cause why there is none
abbrev pub Converts : Option Texts → (List ℕ → Type 0) → (List ℕ → Type 0) → ConvertWords → Result NewText Refusal → Type 0
Converts told absence read_failed convert (Ok (Whole text)) = ConvertComesTo told absence read_failed convert 0 text.items
Converts told absence read_failed convert (Ok TooLong) = ConvertFails told absence read_failed convert (OversizedAs convert.proof convert.version)
Converts told absence read_failed convert (Err (Text role refusal)) = ConvertFails told absence read_failed convert (cause_of convert.proof refusal)
Converts told absence read_failed convert (Err Unwritable) = ⊥
Converts told absence read_failed convert (Err OutOfMemory) = Unit {0}
