use Rattle.std.proofs.lemmas.Result.{IfOk-from_err}
use Rattle.std.proofs.Common.{arith, subst, false, ◌+◌, refl, sym, ap, ◌∙◌}
use Rattle.std.proofs.lemmas.Bool.{false≢true}
use Rattle.ll_list_laws.proofs.CallerLemmas.{OnErr-always}
use Rattle.ll_engine.specs.Seen.{Owing}
use Rattle.ll_engine.specs.Owed.{owing}
use Rattle.ll_engine.specs.Pointed.{choices_of}
use Rattle.ll_engine.specs.Splits.{SplitsTo}
use Rattle.ll_engine.proofs.turns.Splitting.{healthy_split, splits_to}
use Rattle.ll_engine.proofs.turns.Stepping.{seen}
use Rattle.ll_engine.proofs.engine.Engine.split_oldest.Goals as goal

pub invariant_of-self-2 : goal.invariant_of-self-2
invariant_of-self-2 c =
    let i = c.self.inside in
    λ _. let both = c.self.invariant c.if-self.false in (
      c.in_ok-batch.ensures.sound i.running both.0,
      healthy_split (choices_of i.choices) (choices_of c.split.new.self) c.in_ok-batch.batch i.splits (i.splits + 1) i.running c.in_ok-batch.ensures.takes
          (omega arith) both.1,
    )

pub returns-clause-split : goal.returns-clause-split
returns-clause-split c =
    let i = c.self.inside in let b = c.in_ok-batch.batch in
    subst (λ (x : Owing). SplitsTo x b (owing (choices_of c.split.new.self) i.running i.made (i.splits + 1) false))
    (seen (choices_of i.choices) i.running i.made i.splits i.spent c.args.self.now c.self.view_is c.if-self.false)
    (splits_to (choices_of i.choices) (choices_of c.split.new.self) b i.running i.made i.splits (i.splits + 1) c.in_ok-batch.ensures.takes (omega arith))

pub returns-then-self-clause-split : goal.returns-then-self-clause-split
returns-then-self-clause-split c = _

pub returns-then-is_over-clause-refused : goal.returns-then-is_over-clause-refused
returns-then-is_over-clause-refused c = _

pub returns-then-self-2-clause-split : goal.returns-then-self-2-clause-split
returns-then-self-2-clause-split c = _

pub returns-in_err-batch-clause-split : goal.returns-in_err-batch-clause-split
returns-in_err-batch-clause-split c = IfOk-from_err c.from_residual.result _ c.from_residual.ensures.0

pub returns-clause-refused : goal.returns-clause-refused
returns-clause-refused c = _

pub same-self : goal.same-self
same-self c = refl

pub same-self-then-is_over : goal.same-self-then-is_over
same-self-then-is_over c = refl

pub returns-then-self-clause-spent : goal.returns-then-self-clause-spent
returns-then-self-clause-spent c = λ e. refl

pub returns-then-self-clause-refused : goal.returns-then-self-clause-refused
returns-then-self-clause-refused c = sym (ap (λ v. v.spent) c.self.view_is) ∙ c.if-self.true

pub returns-then-is_over-clause-spent : goal.returns-then-is_over-clause-spent
returns-then-is_over-clause-spent c = λ e. sym c.if-self.false ∙ (ap (λ v. v.spent) c.self.view_is ∙ e)

pub invariant_of-self : goal.invariant_of-self
invariant_of-self c = λ e. absurd (false≢true (sym e))

pub returns-then-self-2-clause-spent : goal.returns-then-self-2-clause-spent
returns-then-self-2-clause-spent c = λ e. refl

pub returns-then-self-2-clause-refused : goal.returns-then-self-2-clause-refused
returns-then-self-2-clause-refused c = refl

pub split-requires-clause-index : goal.split-requires-clause-index
split-requires-clause-index c = (c.self.invariant c.if-self.false).0.index

pub split-requires-clause-kept : goal.split-requires-clause-kept
split-requires-clause-kept c = (c.self.invariant c.if-self.false).0.sound.points

pub split-requires-clause-marks : goal.split-requires-clause-marks
split-requires-clause-marks c = (c.self.invariant c.if-self.false).0.marks

pub split-requires-clause-based : goal.split-requires-clause-based
split-requires-clause-based c = (c.self.invariant c.if-self.false).0.based

pub split-requires-clause-points : goal.split-requires-clause-points
split-requires-clause-points c = sym c.is_over.ensures ∙ c.if-is_over.false

pub invariant_of-self-in_err-batch : goal.invariant_of-self-in_err-batch
invariant_of-self-in_err-batch c = λ e. absurd (false≢true (sym e))

pub returns-in_err-batch-clause-spent : goal.returns-in_err-batch-clause-spent
returns-in_err-batch-clause-spent c = λ e. absurd (false≢true (sym c.if-self.false ∙ (ap (λ v. v.spent) c.self.view_is ∙ e)))

pub returns-in_err-batch-clause-refused : goal.returns-in_err-batch-clause-refused
returns-in_err-batch-clause-refused c = OnErr-always c.from_residual.result refl

pub returns-clause-spent : goal.returns-clause-spent
returns-clause-spent c = λ e. sym c.if-self.false ∙ (ap (λ v. v.spent) c.self.view_is ∙ e)
