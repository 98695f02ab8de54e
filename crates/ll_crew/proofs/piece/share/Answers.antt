use Rattle.std.proofs.Common.{◌∙◌, List, [], refl, sym, subst, le_refl, le_trans, Some, None}
use Rattle.std.proofs.lemmas.Result.{IfOk-from_err}
use Rattle.ll_laws.specs.declared.Event.{Event}
use Rattle.ll_crew.specs.Seats.{IsSeat}
use Rattle.ll_crew.specs.Pieces.{OwesAll, OwesAfter}
use Rattle.ll_crew.specs.declared.piece.Shared.TheVariants as shared
use Rattle.ll_crew.proofs.Calms.{calm_itself, calm_on, seat_on}
use Rattle.ll_crew.proofs.SharingLemmas.{published, shares_as, after_on}
use Rattle.ll_crew.proofs.piece.share.Goals as goal

pub points-init : goal.points-init
points-init g c = (calm_itself c.args.seat.now, refl, le_refl _, λ found owes. owes)

pub returns-in_err-share_oldest-clause-calm : goal.returns-in_err-share_oldest-clause-calm
returns-in_err-share_oldest-clause-calm g c = let i = c.points.invariant in
    calm_on c.args.seat.now c.points.seat c.share_oldest.new.seat i.0 c.share_oldest.ensures.calm

pub returns-in-Nothing-clause-calm : goal.returns-in-Nothing-clause-calm
returns-in-Nothing-clause-calm g c = let i = c.points.invariant in calm_on c.args.seat.now c.points.seat c.share_oldest.new.seat i.0 c.share_oldest.ensures.calm

pub returns-then-not-all-clause-calm : goal.returns-then-not-all-clause-calm
returns-then-not-all-clause-calm g c = let i = c.points.invariant in
    calm_on c.args.seat.now c.points.seat c.share_oldest.new.seat i.0 c.share_oldest.ensures.calm

pub returns-in-Back-clause-calm : goal.returns-in-Back-clause-calm
returns-in-Back-clause-calm g c = let i = c.points.invariant in calm_on c.args.seat.now c.points.seat c.share_oldest.new.seat i.0 c.share_oldest.ensures.calm

pub points-preserved : goal.points-preserved
points-preserved g c =
    let i = c.points.invariant in
    let after : (found : List Event) → OwesAll c.args.seat.now.mine.piece found c.args.engine.now []
    → OwesAfter c.share_oldest.new.seat.mine.piece found c.points.engine c.share_oldest.new.engine None =
    λ found owes. (published c.share_oldest.new.seat.mine.piece found c.points.engine c.share_oldest.new.engine
    c.in_ok-share_oldest.field-0 c.in-Published.is (c.in_ok-share_oldest.ensures.owes found (i.3 found owes))).0 in
    let one = after c.requires.owes.0 c.requires.owes.1 in (
      calm_on c.args.seat.now c.points.seat c.share_oldest.new.seat i.0 c.share_oldest.ensures.calm,
      one.problem ∙ i.1,
      le_trans one.work i.2,
      λ found owes. let o = after found owes in o.owes,
    )

pub points-smaller : goal.points-smaller
points-smaller g c =
    let i = c.points.invariant in
    let found = c.requires.owes.0 in
    let after = published c.share_oldest.new.seat.mine.piece found c.points.engine c.share_oldest.new.engine
    c.in_ok-share_oldest.field-0 c.in-Published.is (c.in_ok-share_oldest.ensures.owes found (i.3 found c.requires.owes.1)) in
    after.1

pub returns-in_err-share_oldest-clause-owes : goal.returns-in_err-share_oldest-clause-owes
returns-in_err-share_oldest-clause-owes g c = IfOk-from_err c.from_residual.result _ c.from_residual.ensures.0

pub share_oldest-requires-clause-seat : goal.share_oldest-requires-clause-seat
share_oldest-requires-clause-seat g c κs within =
    let i = c.points.invariant in let calm = i.0 in
    subst (λ problem. IsSeat c.args.job.now.pool.now problem c.points.seat) (sym i.1)
    (seat_on c.args.job.now.pool.now c.args.engine.now.problem c.args.seat.now c.points.seat calm.same c.requires.seat)

pub share_oldest-requires-clause-owes : goal.share_oldest-requires-clause-owes
share_oldest-requires-clause-owes g c κs within = let i = c.points.invariant in (c.requires.owes.0, i.3 c.requires.owes.0 c.requires.owes.1)

pub returns-in-Nothing-clause-owes : goal.returns-in-Nothing-clause-owes
returns-in-Nothing-clause-owes g c = λ found owes.
    let i = c.points.invariant in
    let shares = shares_as c.share_oldest.new.seat.mine.piece found c.points.engine c.share_oldest.new.engine
    c.in_ok-share_oldest.field-0 shared.Nothing c.in-Nothing.is (c.in_ok-share_oldest.ensures.owes found (i.3 found owes)) in
    after_on c.share_oldest.new.seat.mine.piece found c.args.engine.now c.points.engine c.share_oldest.new.engine
    None i.1 i.2 shares

pub returns-then-not-all-clause-owes : goal.returns-then-not-all-clause-owes
returns-then-not-all-clause-owes g c = λ found owes.
    let i = c.points.invariant in
    let shares = shares_as c.share_oldest.new.seat.mine.piece found c.points.engine c.share_oldest.new.engine
    c.in_ok-share_oldest.field-0 shared.Published c.in-Published.is (c.in_ok-share_oldest.ensures.owes found (i.3 found owes)) in
    after_on c.share_oldest.new.seat.mine.piece found c.args.engine.now c.points.engine c.share_oldest.new.engine
    None i.1 i.2 shares.0

pub returns-in-Back-clause-owes : goal.returns-in-Back-clause-owes
returns-in-Back-clause-owes g c = λ found owes.
    let i = c.points.invariant in
    let shares = shares_as c.share_oldest.new.seat.mine.piece found c.points.engine c.share_oldest.new.engine
    c.in_ok-share_oldest.field-0 (shared.Back c.in-Back.batch) c.in-Back.is (c.in_ok-share_oldest.ensures.owes found (i.3 found owes)) in
    after_on c.share_oldest.new.seat.mine.piece found c.args.engine.now c.points.engine c.share_oldest.new.engine
    (Some c.in-Back.batch) i.1 i.2 shares
