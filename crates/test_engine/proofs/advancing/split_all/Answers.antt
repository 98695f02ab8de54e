use Rattle.std.proofs.Common.{◌≡◌, ◌∙◌, sym, subst, ap, All}
use Rattle.std.proofs.lemmas.List.Elements.{All-push}
use Rattle.ll_engine.specs.Splits.{Splits, SplitsTo}
use Rattle.test_engine.specs.Batches.{IsSharedOf}
use Rattle.test_engine.proofs.advancing.split_all.Goals as goal

pub points-preserved : goal.points-preserved
points-preserved c =
    let split : SplitsTo c.points.engine c.in-Some.batch c.split_oldest.new.self =
    subst (λ o. Splits c.points.engine o c.split_oldest.new.self) c.in-Some.is c.in_ok-batch.ensures.split in
    let of = ap (λ b. b.problem) c.in_ok-new.ensures.ok ∙ (split.of ∙ c.points.invariant.0) in (
      split.problem ∙ c.points.invariant.0,
      subst (All (IsSharedOf c.args.engine.now.problem)) (sym c.in_ok-push.ensures.items)
          (All-push (IsSharedOf c.args.engine.now.problem) c.points.batches.items c.in_ok-new.field-0 c.points.invariant.1 of),
    )
