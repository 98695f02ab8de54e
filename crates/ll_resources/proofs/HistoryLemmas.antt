-- Good marks over many calls, for callers.
use Rattle.std.proofs.Common.{refl, ◌∙◌, arith}
use Rattle.ll_resources.specs.declared.context.ContextMark.{ContextMark}
use Rattle.ll_resources.specs.Resources.{Resources}
use Rattle.ll_resources.specs.History.{History, state_at, StandsFor, KeepsMarks, IsNotPast, KeepsMarksTo}

-- no mark is past itself
pub IsNotPast-refl : (mark : ContextMark) → IsNotPast mark mark
IsNotPast-refl mark = omega arith

-- marks that are not past one another are in order
pub IsNotPast-trans : (a b c : ContextMark) → IsNotPast a b → IsNotPast b c → IsNotPast a c
IsNotPast-trans a b c h k = omega arith

module _ {C : Type 0} where
  -- a context keeps its own marks
  pub KeepsMarks-refl : (h : History C) → KeepsMarks h h
  KeepsMarks-refl h = λ mark good. record { good = good; state = refl }

  -- what a mark stands for, it goes on standing for
  pub StandsFor-kept : (old new : History C) (mark : ContextMark) (r : Resources C) → StandsFor mark r old → KeepsMarks old new → StandsFor mark r new
  StandsFor-kept old new mark r s k = let n = k mark s.good in record { good = n.good; state = n.state ∙ s.state }

  -- marks that are kept twice are kept
  pub KeepsMarks-trans : (old middle new : History C) → KeepsMarks old middle → KeepsMarks middle new → KeepsMarks old new
  KeepsMarks-trans old middle new h k = λ mark good. StandsFor-kept middle new mark (state_at mark old) (h mark good) k

  -- so are they up to a mark to which a later context goes back
  pub KeepsMarksTo-undone : (old middle new : History C) (mark : ContextMark) → KeepsMarks old middle → KeepsMarksTo mark middle new → KeepsMarksTo mark old new
  KeepsMarksTo-undone old middle new mark h k = λ m within good.
      let s = h m good in let n = k m within s.good in record { good = n.good; state = n.state ∙ s.state }

-- for callers whose context goes on
pub ruleset history_laws = (IsNotPast-refl, IsNotPast-trans, KeepsMarks-refl, StandsFor-kept, KeepsMarks-trans, KeepsMarksTo-undone)
