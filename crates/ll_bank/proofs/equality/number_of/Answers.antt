use Rattle.std.proofs.lemmas.Result.{IfOk-from_err}
use Rattle.std.proofs.Common.{sym, subst, arith}
use Rattle.std.specs.Ordering.{nat_cmp}
use Rattle.std.specs.List.{Contains}
use Rattle.std.specs.BTreeMap.{get}
use Rattle.ll_bank.specs.Nodes.{term_tree}
use Rattle.ll_bank.specs.Signs.{HasNumber}
use Rattle.ll_bank.specs.Walk.{IsInOrder}
use Rattle.ll_bank.proofs.ImageLemmas.{argument_images, root_image, images_more, image_found, image_shows}
use Rattle.ll_bank.proofs.SignLemmas.{Grows-trans, HasNumber-grows}
use Rattle.ll_bank.proofs.equality.number_of.Goals as goal

pub number_at-requires-clause-numbers : goal.number_at-requires-clause-numbers
number_at-requires-clause-numbers c =
    argument_images c.args.bank.now (HasNumber c.loop-place.signs.keys) (get nat_cmp c.loop-place.numbers) (term_tree c.args.bank.now)
    c.deref-place-items.result.now c.loop-place.place-index
    (subst (IsInOrder c.args.bank.now) (sym c.deref-place-items.ensures.value) c.in_ok-places.ensures.order) (omega arith) c.loop-place.invariant.1

pub loop-place-preserved : goal.loop-place-preserved
loop-place-preserved c = (
  Grows-trans c.loop-place.invariant.0 c.in_ok-number.ensures.grows,
  images_more (get nat_cmp c.loop-place.numbers) (term_tree c.args.bank.now) c.deref-place-items.result.now c.loop-place.place-index
      (HasNumber c.loop-place.signs.keys)
      (HasNumber c.number_at.new.signs.keys) (HasNumber-grows c.in_ok-number.ensures.grows) (get nat_cmp c.insert.new.self) (omega arith)
      c.loop-place.invariant.1 c.in_ok-number.number
      c.in_ok-number.ensures.number c.in_ok-insert.ensures.updates.0,
)

pub found-requires : goal.found-requires
found-requires c =
    image_found (HasNumber c.loop-place.signs.keys) (get nat_cmp c.loop-place.numbers) c.args.at.0 (term_tree c.args.bank.now c.args.at.0)
    (root_image (get nat_cmp c.loop-place.numbers) (term_tree c.args.bank.now) c.deref-place-items.result.now c.loop-place.place-index
    (HasNumber c.loop-place.signs.keys) c.args.at.0 (omega arith)
    c.loop-place.invariant.1 (subst (λ xs. Contains xs c.args.at.0) (sym c.deref-place-items.ensures.value)
    (c.in_ok-places.ensures.roots 0 c.args.at (omega arith))))

pub returns-clause-number : goal.returns-clause-number
returns-clause-number c =
    image_shows (HasNumber c.loop-place.signs.keys) (get nat_cmp c.loop-place.numbers) c.args.at.0 (term_tree c.args.bank.now c.args.at.0) c.found.result
    (root_image (get nat_cmp c.loop-place.numbers) (term_tree c.args.bank.now) c.deref-place-items.result.now c.loop-place.place-index
    (HasNumber c.loop-place.signs.keys) c.args.at.0 (omega arith)
    c.loop-place.invariant.1 (subst (λ xs. Contains xs c.args.at.0) (sym c.deref-place-items.ensures.value)
    (c.in_ok-places.ensures.roots 0 c.args.at (omega arith)))) c.found.ensures

pub returns-in_err-places-clause-grows : goal.returns-in_err-places-clause-grows
returns-in_err-places-clause-grows c = IfOk-from_err c.from_residual.result _ c.from_residual.ensures.0

pub returns-in_err-places-clause-number : goal.returns-in_err-places-clause-number
returns-in_err-places-clause-number c = IfOk-from_err c.from_residual.result _ c.from_residual.ensures.0

pub returns-in_err-number-clause-grows : goal.returns-in_err-number-clause-grows
returns-in_err-number-clause-grows c = IfOk-from_err c.from_residual-in_err-number.result _ c.from_residual-in_err-number.ensures.0

pub returns-in_err-number-clause-number : goal.returns-in_err-number-clause-number
returns-in_err-number-clause-number c = IfOk-from_err c.from_residual-in_err-number.result _ c.from_residual-in_err-number.ensures.0

pub returns-in_err-insert-clause-grows : goal.returns-in_err-insert-clause-grows
returns-in_err-insert-clause-grows c = IfOk-from_err c.from_residual-in_err-insert.result _ c.from_residual-in_err-insert.ensures.0

pub returns-in_err-insert-clause-number : goal.returns-in_err-insert-clause-number
returns-in_err-insert-clause-number c = IfOk-from_err c.from_residual-in_err-insert.result _ c.from_residual-in_err-insert.ensures.0
