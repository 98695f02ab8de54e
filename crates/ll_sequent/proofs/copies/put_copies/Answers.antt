use Rattle.std.proofs.lemmas.Result.{IfOk-from_err}
use Rattle.std.proofs.Common.{◌∷◌, [], ◌++◌, ◌∙◌, ap, sym, get_or, take_all}
use Rattle.ll_bank.specs.declared.At.{At}
use Rattle.ll_sequent.specs.Copied.{copied_places}
use Rattle.ll_sequent.proofs.PlaceLemmas.{map_more}
use Rattle.ll_sequent.proofs.copies.put_copies.Goals as goal

pub loop-place-preserved : goal.loop-place-preserved
loop-place-preserved c =
    c.in_ok-push.ensures.items
    ∙ ((λ i. c.loop-place.invariant i ++ c.copy_at.ensures i ∷ [])
    ∙ sym (map_more (λ (a : At). get_or c.args.copies.now a.0 a) c.args.places.now c.loop-place.place-index (record { 0 = 0 }) c.loop-place-test.true))

pub returns : goal.returns
returns c =
    c.loop-place.invariant ∙ ap (copied_places c.args.copies.now) (take_all c.loop-place.place-index c.args.places.now c.loop-place-test.false)

pub returns-in_err-push : goal.returns-in_err-push
returns-in_err-push c = IfOk-from_err c.from_residual.result _ c.from_residual.ensures.0
