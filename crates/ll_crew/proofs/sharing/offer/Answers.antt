use Rattle.std.proofs.Common.{◌≡◌, ◌∙◌, sym, subst, true, false, IfOk, IsSomeAnd}
use Rattle.std.proofs.lemmas.Result.{IfOk-from_err}
use Rattle.std.specs.Arc.{arc_value}
use Rattle.ll_pool.specs.declared.data.OpenPiece.{OpenPiece}
use Rattle.ll_pool.specs.Turns.{EndsWith}
use Rattle.ll_freeze.specs.Frozen.{FrozenSight, alternatives_in}
use Rattle.ll_crew.specs.Seats.{HasNoPlace}
use Rattle.ll_crew.specs.Offers.{LeavesRest}
use Rattle.ll_crew.proofs.Calms.{calm_itself, calm_publish}
use Rattle.ll_crew.proofs.sharing.offer.Goals as goal
use Rattle.ll_crew.proofs.sharing.offer.Goals.{In_ok-offer}

-- what is offered shows the choice point
offers : (g : _) (c : In_ok-offer g) → arc_value c.in_ok-offer.offer ≡ arc_value c.args.choice.now
offers g c = c.in_ok-offer.ensures ∙ c.in_ok-point.ensures

pub put-requires-clause-ends : goal.put-requires-clause-ends
put-requires-clause-ends g c κs within =
    subst (λ (b : FrozenSight). IsSomeAnd c.args.seat.now.mine.piece (λ (piece : OpenPiece). EndsWith piece.owes (alternatives_in b)))
    (sym (offers g (goal.at.put-requires-clause-ends g c).In_ok-offer)) c.requires.ends

pub returns-clause-calm : goal.returns-clause-calm
returns-clause-calm g c =
    let turn = c.put.ensures.turn in
    calm_publish (arc_value c.in_ok-offer.offer) turn.0 c.args.seat.now c.put.new.seat turn.1

pub returns-in_err-point-clause-calm : goal.returns-in_err-point-clause-calm
returns-in_err-point-clause-calm g c = calm_itself c.args.seat.now

pub returns-in_err-offer-clause-calm : goal.returns-in_err-offer-clause-calm
returns-in_err-offer-clause-calm g c = calm_itself c.args.seat.now

pub returns-clause-rest : goal.returns-clause-rest
returns-clause-rest g c =
    subst (λ (b : FrozenSight). IfOk c.put.result (λ done. done ≡ true
    → LeavesRest (alternatives_in b) c.args.seat.now.mine.piece c.put.new.seat.mine.piece))
    (offers g (goal.at.returns-clause-rest g c).In_ok-offer) c.put.ensures.rest

pub returns-clause-full : goal.returns-clause-full
returns-clause-full g c =
    subst (λ (b : FrozenSight). IfOk c.put.result (λ done. done ≡ false → HasNoPlace b c.put.new.seat
    × (c.put.new.seat.mine.piece ≡ c.args.seat.now.mine.piece)))
    (offers g (goal.at.returns-clause-full g c).In_ok-offer) c.put.ensures.full

pub returns-in_err-point-clause-rest : goal.returns-in_err-point-clause-rest
returns-in_err-point-clause-rest g c = IfOk-from_err c.from_residual.result _ c.from_residual.ensures.0

pub returns-in_err-point-clause-full : goal.returns-in_err-point-clause-full
returns-in_err-point-clause-full g c = IfOk-from_err c.from_residual.result _ c.from_residual.ensures.0

pub returns-in_err-offer-clause-rest : goal.returns-in_err-offer-clause-rest
returns-in_err-offer-clause-rest g c = IfOk-from_err c.from_residual-in_err-offer.result _ c.from_residual-in_err-offer.ensures.0

pub returns-in_err-offer-clause-full : goal.returns-in_err-offer-clause-full
returns-in_err-offer-clause-full g c = IfOk-from_err c.from_residual-in_err-offer.result _ c.from_residual-in_err-offer.ensures.0
