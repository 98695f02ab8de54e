use Rattle.std.proofs.lemmas.Result.{IfOk-from_err}
use Rattle.std.proofs.Common.{sym, subst, arith}
use Rattle.ll_engine.specs.Splits.{SplitsTo}
use Rattle.ll_crew.specs.Seats.{IsSeat}
use Rattle.ll_crew.proofs.Calms.{calm_itself}
use Rattle.ll_crew.proofs.Arms.{taken_of, back_of}
use Rattle.ll_crew.proofs.SharingLemmas.{split_some, ends_for, shared_after, back_after, nothing_after}
use Rattle.ll_crew.proofs.piece.share_oldest.Goals as goal
use Rattle.ll_crew.proofs.piece.share_oldest.Goals.{In-Some}

-- the batch that is published was split off the engine
splits : (g : _) (c : In-Some g) → SplitsTo c.args.engine.now c.in-Some.batch c.split_oldest.new.self
splits g c = split_some c.args.engine.now c.split_oldest.new.self c.in_ok-batch.field-0 c.in-Some.batch c.in-Some.is c.in_ok-batch.ensures.split

pub publish-requires-clause-seat : goal.publish-requires-clause-seat
publish-requires-clause-seat g c κs within =
    let s = splits g (goal.at.publish-requires-clause-seat g c).In-Some in
    subst (λ problem. IsSeat c.args.job.now.pool.now problem c.args.seat.now) (sym s.of) c.requires.seat

pub publish-requires-clause-some : goal.publish-requires-clause-some
publish-requires-clause-some g c κs within = let s = splits g (goal.at.publish-requires-clause-some g c).In-Some in s.some

pub publish-requires-clause-ends : goal.publish-requires-clause-ends
publish-requires-clause-ends g c κs within =
    ends_for c.requires.owes.0 c.args.engine.now c.split_oldest.new.self c.in-Some.batch
    (splits g (goal.at.publish-requires-clause-ends g c).In-Some) c.args.seat.now.mine.piece c.requires.owes.1

pub returns-in-Taken-clause-owes : goal.returns-in-Taken-clause-owes
returns-in-Taken-clause-owes g c = λ found owes.
    let split = splits g (goal.at.returns-in-Taken-clause-owes g c).In-Some in
    let fewer = split.points in (
      shared_after found c.args.engine.now c.split_oldest.new.self c.in-Some.batch split
          c.args.seat.now.mine.piece c.publish.new.seat.mine.piece owes
          (taken_of _ c.in_ok-publish.field-0 c.in-Taken.field-0 c.in-Taken.is c.in_ok-publish.ensures.rest),
      omega arith,
    )

pub returns-in-Back-clause-owes : goal.returns-in-Back-clause-owes
returns-in-Back-clause-owes g c = λ found owes.
    let back = back_of _ c.in_ok-publish.field-0 c.in-Back.batch c.in-Back.is c.in_ok-publish.ensures.back in
    back_after found c.args.engine.now c.split_oldest.new.self c.in-Some.batch
    (splits g (goal.at.returns-in-Back-clause-owes g c).In-Some) c.args.seat.now.mine.piece c.publish.new.seat.mine.piece c.in-Back.batch
    owes back.1 back.0

pub returns-in_default-clause-owes : goal.returns-in_default-clause-owes
returns-in_default-clause-owes g c = λ found owes.
    nothing_after c.args.seat.now.mine.piece found c.args.engine.now c.split_oldest.new.self c.in_ok-batch.field-0 c.in_default.is
    c.in_ok-batch.ensures.split owes

pub returns-in_err-batch-clause-calm : goal.returns-in_err-batch-clause-calm
returns-in_err-batch-clause-calm g c = calm_itself c.args.seat.now

pub returns-in_default-clause-calm : goal.returns-in_default-clause-calm
returns-in_default-clause-calm g c = calm_itself c.args.seat.now

pub returns-in_err-batch-clause-owes : goal.returns-in_err-batch-clause-owes
returns-in_err-batch-clause-owes g c = IfOk-from_err c.from_residual.result _ c.from_residual.ensures.0

pub returns-in_err-publish-clause-owes : goal.returns-in_err-publish-clause-owes
returns-in_err-publish-clause-owes g c = IfOk-from_err c.from_residual-in_err-publish.result _ c.from_residual-in_err-publish.ensures.0
