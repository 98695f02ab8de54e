-- What a machine was made of, and the way back to it.
use Rattle.std.specs.Prelude.{◌≡◌, List, All, Option, Some, None}
use Rattle.std.specs.Arc.{arc_value}
use Rattle.ll_freeze.specs.declared.machine.Machine.{Machine}
use Rattle.ll_freeze.specs.declared.mark.ChoiceMark.{ChoiceMark}
use Rattle.ll_freeze.specs.Parts.{parts_at, base_of, IsGood, IsBefore}
use Rattle.ll_engine.specs.declared.choices.ChoicePoint.{ChoicePoint}
use Rattle.ll_engine.specs.declared.ancestor.Ancestor.{Ancestor}

-- the machine can go back to the mark, and no choice point lies before it
pub record IsFloor (f : ChoiceMark) (m : Machine) (ps : List ChoicePoint) : Type 0 where
  pub good : IsGood f m
  pub before : All (λ k. IsBefore f k.mark) ps

-- each such mark is one with other choice points too
abbrev pub KeepsFloors : Machine → List ChoicePoint → List ChoicePoint → Type 0
KeepsFloors m ps qs = (f : ChoiceMark) → IsFloor f m ps → IsFloor f m qs

-- where the machine was made of a batch, it can go back to what its terms were read in then
abbrev pub IsBased : Machine → List ChoicePoint → Option Ancestor → Type 0
IsBased m ps None = Unit {0}
IsBased m ps (Some a) = IsFloor a.base m ps × (base_of (parts_at a.base m) ≡ (arc_value a.batch).base)
