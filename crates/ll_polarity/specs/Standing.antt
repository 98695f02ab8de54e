-- What the code has of a part of a formula while it is put together, as the trees that are read.
use Rattle.std.specs.Prelude.{◌≡◌, ℕ, ◌+◌, ◌^◌, ◌<◌, ◌≤◌, List, length, Option, unwrap_or}
use Rattle.std.specs.List.{IsDistinct}
use Rattle.std.specs.Str.{bytes_eq}
use Rattle.ll_bank.specs.Term.{Term, Var, Con}
use Rattle.ll_polarity.specs.declared.front.Met as code
use Rattle.ll_polarity.specs.declared.front.Place.{Place}
use Rattle.ll_polarity.specs.declared.front.Front.{Front}
use Rattle.ll_polarity.specs.declared.front.Front.TheVariants as front
use Rattle.ll_polarity.specs.Scope.{Scope, Scoped}
use Rattle.ll_polarity.specs.Reading.{Met}
use Rattle.ll_polarity.specs.Numbered.{variables_of}
use Rattle.ll_polarity.specs.Built.{Around}

-- what was met, over the texts of the names of the text
abbrev pub met_of : List (List ℕ) → code.Met → Met
met_of texts met = record { names = met.names; variables = variables_of texts met.variables }

-- what stands in front of arguments, without these
abbrev pub front_term : Front → Term
front_term (front.Variable x) = Var x
front_term (front.Head h) = Con h

-- what was met is numbered by 32 bits
pub record HasRoom (met : Met) : Type 0 where
  pub names : length met.names < 2 ^ 32
  pub variables : length met.variables < 2 ^ 32

-- the place of a part among the names of a text, no two of which are equal, and its binders, which are numbered by 32 bits with the
-- quantifiers that are put round the formula
pub record StandsIn (texts : List (List ℕ)) (binders : Scoped) (place : Place) : Type 0 where
  pub distinct : IsDistinct bytes_eq texts
  pub same : binders.texts ≡ texts
  pub depth : place.depth ≤ length binders.scope
  pub room : length binders.scope + unwrap_or place.quantified 0 < 2 ^ 32

-- where a part stands
abbrev pub around : Place → Scope → Around
around place scope = record { quantified = place.quantified; depth = place.depth; scope = scope }

-- where a whole formula stands
abbrev pub outermost : Option ℕ → Scope → Around
outermost quantified scope = record { quantified = quantified; depth = 0; scope = scope }
