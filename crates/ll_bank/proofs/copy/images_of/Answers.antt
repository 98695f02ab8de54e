use Rattle.std.proofs.lemmas.Result.{IfOk-from_err}
use Rattle.std.proofs.Common.{arith}
use Rattle.std.specs.Ordering.{nat_cmp}
use Rattle.std.specs.BTreeMap.{get}
use Rattle.ll_list_laws.proofs.CallerLemmas.{fewer_left}
use Rattle.ll_bank.proofs.ImageLemmas.{found_more}
use Rattle.std.proofs.Common.{refl, ap, map, ◌∙◌}
use Rattle.std.proofs.lemmas.List.{take_all}
use Rattle.ll_bank.specs.declared.At.{At}
use Rattle.ll_bank.proofs.copy.images_of.Goals as goal

pub loop-place-preserved : goal.loop-place-preserved
loop-place-preserved c =
    found_more (get nat_cmp c.args.images.now) c.args.places.now c.loop-place.found.items c.push.new.self.items c.loop-place.place-index (record { 0 = 0 })
    c.image_of.result (omega arith)
    c.image_of.ensures c.loop-place.invariant c.in_ok-push.ensures.items

pub returns-in_err-push : goal.returns-in_err-push
returns-in_err-push c = IfOk-from_err c.from_residual.result _ c.from_residual.ensures.0

pub loop-place-init : goal.loop-place-init
loop-place-init c = rw c.new-found.ensures.items refl

pub image_of-requires : goal.image_of-requires
image_of-requires c = c.requires c.loop-place.place-index (record { 0 = 0 }) c.loop-place-test.true

pub loop-place-smaller : goal.loop-place-smaller
loop-place-smaller c = fewer_left _ _ c.loop-place-test.true

pub returns : goal.returns
returns c =
    c.loop-place.invariant
    ∙ ap (map (λ (a : At). get nat_cmp c.args.images.now a.0)) (take_all c.loop-place.place-index c.args.places.now c.loop-place-test.false)
