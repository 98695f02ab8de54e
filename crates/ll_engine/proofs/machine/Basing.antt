-- The way back to what a machine was made of.
use Rattle.std.proofs.Common.{◌≡◌, ap, sym, ◌∙◌, Bool, subst, arith, List, [], ◌∷◌, ◌++◌}
use Rattle.std.specs.Prelude.{Option, Some, None, All}
use Rattle.std.proofs.lemmas.List.Elements.{All-push, All-pop, All-head, All-tail}
use Rattle.std.specs.Arc.{arc_value}
use Rattle.ll_freeze.specs.declared.machine.Machine.{Machine}
use Rattle.ll_freeze.specs.declared.mark.ChoiceMark.{ChoiceMark}
use Rattle.ll_freeze.specs.Parts.{parts_of, parts_at, base_of, IsGood, IsBefore, KeepsMarks, KeepsMarksTo}
use Rattle.ll_engine.specs.declared.choices.ChoicePoint.{ChoicePoint}
use Rattle.ll_engine.specs.declared.ancestor.Ancestor.{Ancestor}
use Rattle.ll_laws.specs.Problem.{ProblemTree}
use Rattle.ll_engine.specs.Pointed.{helds, IsRunning, IsSoundAt, AreMarks}
use Rattle.ll_engine.specs.Based.{KeepsFloors, IsBased}

-- a machine that keeps its marks keeps this one
pub based_kept : (old new : Machine) (ps : List ChoicePoint) (a : Option Ancestor) → KeepsMarks old new → IsBased old ps a → IsBased new ps a
based_kept old new ps None h b = tt
based_kept old new ps (Some a) h b = let s = h a.base b.0.good in (record { good = s.good; before = b.0.before }, ap base_of s.parts ∙ b.1)

-- so does the way back to the newest choice point
pub based_undone : (old new : Machine) (ps qs : List ChoicePoint) (k : ChoicePoint) (a : Option Ancestor)
    → KeepsMarksTo k.mark old new → ps ≡ qs ++ k ∷ [] → IsBased old ps a
    → IsBased new qs a
based_undone old new ps qs k None h e b = tt
based_undone old new ps qs k (Some a) h e b =
    let both = All-pop (λ (j : ChoicePoint). IsBefore a.base j.mark) ps qs (Some k) e b.0.before in
    let s = h a.base both.1 b.0.good in
    (record { good = s.good; before = both.0 }, ap base_of s.parts ∙ b.1)

-- a new choice point lies behind it
pub floor_push : (m : Machine) (ps : List ChoicePoint) (k : ChoicePoint) → ((j : ChoiceMark) → IsGood j m → IsBefore j k.mark) → KeepsFloors m ps (ps ++ k ∷ [])
floor_push m ps k last f h = record { good = h.good; before = All-push (λ (j : ChoicePoint). IsBefore f j.mark) ps k h.before (last f h.good) }

pub based_more : (m : Machine) (ps qs : List ChoicePoint) (a : Option Ancestor) → KeepsFloors m ps qs → IsBased m ps a → IsBased m qs a
based_more m ps qs None h b = tt
based_more m ps qs (Some a) h b = (h a.base b.0, b.1)

-- without choice points
pub based_alone : (m : Machine) (ps : List ChoicePoint) (a : Option Ancestor) → IsBased m ps a → IsBased m [] a
based_alone m ps None b = tt
based_alone m ps (Some a) b = (record { good = b.0.good; before = λ i d l. absurd (omega arith) }, b.1)

-- the oldest choice point lies behind it, and so do those after it
pub based_first : (m : Machine) (ps qs : List ChoicePoint) (k : ChoicePoint) (a : Option Ancestor) → ps ≡ k ∷ qs → IsBased m ps a → IsBased m (k ∷ []) a
based_first m ps qs k None e b = tt
based_first m ps qs k (Some a) e b =
    let all : All (λ (j : ChoicePoint). IsBefore a.base j.mark) (k ∷ qs) = subst (All (λ (j : ChoicePoint). IsBefore a.base j.mark)) e b.0.before in (
      record {
        good = b.0.good;
        before = All-push (λ (j : ChoicePoint). IsBefore a.base j.mark) [] k (λ i d l. absurd (omega arith))
            (All-head (λ (j : ChoicePoint). IsBefore a.base j.mark) k qs all);
      },
      b.1,
    )

pub based_rest : (m : Machine) (ps qs : List ChoicePoint) (k : ChoicePoint) (a : Option Ancestor) → ps ≡ k ∷ qs → IsBased m ps a → IsBased m qs a
based_rest m ps qs k None e b = tt
based_rest m ps qs k (Some a) e b =
    let all : All (λ (j : ChoicePoint). IsBefore a.base j.mark) (k ∷ qs) = subst (All (λ (j : ChoicePoint). IsBefore a.base j.mark)) e b.0.before in
    (record { good = b.0.good; before = All-tail (λ (j : ChoicePoint). IsBefore a.base j.mark) k qs all }, b.1)

-- where there is one
pub based_some : (m : Machine) (ps : List ChoicePoint) (o : Option Ancestor) (a : Ancestor) → o ≡ Some a → IsBased m ps o → IsBased m ps (Some a)
based_some m ps o a e b = subst (λ (x : Option Ancestor). IsBased m ps x) e b

-- a machine that begins without choice points
pub begun_sound : (p : ProblemTree) (m : Machine) (ps : List ChoicePoint) (began : Bool) (a : Ancestor) → ps ≡ []
    → IsRunning began p (parts_of m) → IsGood a.base m
    → base_of (parts_at a.base m) ≡ (arc_value a.batch).base
    → IsSoundAt began p (parts_of m) (helds m ps) × (AreMarks m ps × IsBased m ps (Some a))
begun_sound p m ps began a e r g b =
    subst (λ (qs : List ChoicePoint). IsSoundAt began p (parts_of m) (helds m qs) × (AreMarks m qs × IsBased m qs (Some a))) (sym e) (
      record { points = λ i d l. absurd (omega arith); machine = r },
      (record { good = λ i d l. absurd (omega arith); rise = tt }, (record { good = g; before = λ i d l. absurd (omega arith) }, b)),
    )

-- and without a batch
pub begun_alone : (p : ProblemTree) (m : Machine) (ps : List ChoicePoint) (began : Bool) → ps ≡ [] → IsRunning began p (parts_of m)
    → IsSoundAt began p (parts_of m) (helds m ps) × AreMarks m ps
begun_alone p m ps began e r =
    subst (λ (qs : List ChoicePoint). IsSoundAt began p (parts_of m) (helds m qs) × AreMarks m qs) (sym e) (
      record { points = λ i d l. absurd (omega arith); machine = r },
      record { good = λ i d l. absurd (omega arith); rise = tt },
    )
