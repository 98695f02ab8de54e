use Rattle.std.proofs.Common.{◌≡◌, [], length, take, map, subst, ◌∙◌, arith, length-take}
use Rattle.std.proofs.lemmas.Result.{IfOk-from_err}
use Rattle.std.proofs.lemmas.List.{length-map, take_all}
use Rattle.std.proofs.lemmas.Option.{get_or_from_slice_get}
use Rattle.ll_polarity.specs.Numbered.{text_of}
use Rattle.ll_polarity.specs.Places.{FindsFirst}
use Rattle.ll_polarity.proofs.putting.Placing.{places_more}
use Rattle.ll_polarity.proofs.modules.places_of.Goals as goal

pub loop-place-preserved : goal.loop-place-preserved
loop-place-preserved c =
    let n : length (take c.loop-place.place c.args.modules.now) ≡ c.loop-place.place = grind (arith, length-take) in
    places_more (FindsFirst c.add.new.self.places) (λ m. text_of c.args.names.now m.name.name) c.args.modules.now c.loop-place.place
    c.index-modules-place.result c.text.result.now c.loop-place-test.true c.index-modules-place.is
    (get_or_from_slice_get c.args.names.now c.index-modules-place.result.name.name c.text.result.now [] c.text.ensures)
    (c.in_ok-add.ensures _ (length-map (take c.loop-place.place c.args.modules.now) (λ m. text_of c.args.names.now m.name.name) ∙ n) c.loop-place.invariant)

pub returns : goal.returns
returns c =
    let e : take c.loop-place.place c.args.modules.now ≡ c.args.modules.now = take_all c.loop-place.place c.args.modules.now c.loop-place-test.false in
    subst (λ ms. FindsFirst c.loop-place.found.places (map (λ m. text_of c.args.names.now m.name.name) ms)) e c.loop-place.invariant

pub returns-in_err-add : goal.returns-in_err-add
returns-in_err-add c = IfOk-from_err c.from_residual.result _ c.from_residual.ensures.0
