use Rattle.std.proofs.lemmas.Result.{IfOk-from_err}
use Rattle.ll_crew.proofs.Calms.{calm_itself}
use Rattle.std.proofs.Common.{refl, subst, inl, inr, IsSomeAnd, sym, length, ◌<◌, ◌∙◌}
use Rattle.ll_pool.specs.declared.data.OpenPiece.{OpenPiece}
use Rattle.ll_freeze.specs.Frozen.{FrozenSight, alternatives_in}
use Rattle.ll_crew.specs.Seats.{HasNoPlace}
use Rattle.ll_pool.specs.Turns.{EndsWith}
use Rattle.ll_crew.specs.Seats.{IsSeat}
use Rattle.ll_crew.specs.Offers.{LeavesRest}
use Rattle.ll_crew.proofs.sharing.publish.Goals as goal

pub returns-then-gives_back-clause-calm : goal.returns-then-gives_back-clause-calm
returns-then-gives_back-clause-calm g c = calm_itself c.args.seat.now

pub returns-in_err-choice-clause-calm : goal.returns-in_err-choice-clause-calm
returns-in_err-choice-clause-calm g c = calm_itself c.args.seat.now

pub returns-in_err-choice-clause-rest : goal.returns-in_err-choice-clause-rest
returns-in_err-choice-clause-rest g c = IfOk-from_err c.from_residual.result _ c.from_residual.ensures.0

pub returns-in_err-choice-clause-back : goal.returns-in_err-choice-clause-back
returns-in_err-choice-clause-back g c = IfOk-from_err c.from_residual.result _ c.from_residual.ensures.0

pub returns-in_err-choice-clause-back_only : goal.returns-in_err-choice-clause-back_only
returns-in_err-choice-clause-back_only g c = IfOk-from_err c.from_residual.result _ c.from_residual.ensures.0

pub returns-then-gives_back-clause-rest : goal.returns-then-gives_back-clause-rest
returns-then-gives_back-clause-rest g c = _

pub returns-then-gives_back-clause-back : goal.returns-then-gives_back-clause-back
returns-then-gives_back-clause-back g c = (c.in_ok-choice.ensures, refl)

pub returns-then-gives_back-clause-back_only : goal.returns-then-gives_back-clause-back_only
returns-then-gives_back-clause-back_only g c = inl (c.gives_back.ensures c.if-gives_back.true)

pub returns-in-Ok-true : goal.returns-in-Ok-true
returns-in-Ok-true g c = record {
  calm = c.offer.ensures.calm;
  rest = subst (λ (b : FrozenSight). LeavesRest (alternatives_in b) c.args.seat.now.mine.piece c.offer.new.seat.mine.piece)
      c.in_ok-choice.ensures (c.in-Ok-true.ensures.rest c.in-Ok-true.field-0-test);
  woken = c.ring.ensures ∙ (c.len-alternatives.ensures);
  back = tt;
  back_only = tt;
}

pub returns-in-Ok-false : goal.returns-in-Ok-false
returns-in-Ok-false g c =
    let full = c.in-Ok-false.ensures.full c.in-Ok-false.field-0-test in
    record {
      calm = c.offer.ensures.calm;
      rest = tt;
      woken = tt;
      back = (c.in_ok-choice.ensures, full.1);
      back_only = inr (subst (λ (b : FrozenSight). HasNoPlace b c.offer.new.seat) c.in_ok-choice.ensures full.0);
    }

pub returns : goal.returns
returns g c = record { calm = c.offer.ensures.calm; rest = tt; woken = tt; back = tt; back_only = tt }

pub offer-requires-clause-seat : goal.offer-requires-clause-seat
offer-requires-clause-seat g c κs within =
    subst (λ (b : FrozenSight). IsSeat c.args.job.now.pool.now b.problem c.args.seat.now) (sym c.in_ok-choice.ensures) c.requires.seat

pub offer-requires-clause-some : goal.offer-requires-clause-some
offer-requires-clause-some g c κs within = subst (λ (b : FrozenSight). 0 < length (alternatives_in b)) (sym c.in_ok-choice.ensures) c.requires.some

pub offer-requires-clause-ends : goal.offer-requires-clause-ends
offer-requires-clause-ends g c κs within =
    subst (λ (b : FrozenSight). IsSomeAnd c.args.seat.now.mine.piece (λ (piece : OpenPiece). EndsWith piece.owes (alternatives_in b)))
    (sym c.in_ok-choice.ensures) c.requires.ends
