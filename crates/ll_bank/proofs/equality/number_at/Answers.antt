use Rattle.std.proofs.lemmas.Result.{IfOk-from_err}
use Rattle.std.proofs.Common.{arith, get_or}
use Rattle.std.specs.Ordering.{nat_cmp}
use Rattle.std.specs.BTreeMap.{get}
use Rattle.ll_bank.specs.Nodes.{term_tree}
use Rattle.ll_bank.specs.Signs.{HasNumber}
use Rattle.ll_bank.proofs.ImageLemmas.{each_image, some_images, image_shows}
use Rattle.ll_bank.proofs.SignLemmas.{HasNumber-grows, number_more}
use Rattle.ll_bank.proofs.equality.number_at.Goals as goal

pub found-requires : goal.found-requires
found-requires c =
    some_images c.args.bank.now (HasNumber c.args.signs.now.keys) (get nat_cmp c.args.numbers.now) (term_tree c.args.bank.now) c.args.at.0 c.in-App.head
    c.in-App.args.now c.in-App.ensures.node
    c.requires.numbers c.loop-arg.arg-index (record { 0 = 0 }) (omega arith)

pub number_of_sign-requires-in-loop-arg-clause-below : goal.number_of_sign-requires-in-loop-arg-clause-below
number_of_sign-requires-in-loop-arg-clause-below c =
    let here = image_shows (HasNumber c.args.signs.now.keys) (get nat_cmp c.args.numbers.now)
    (get_or c.in-App.args.now c.loop-arg.arg-index (record { 0 = 0 })).0
    (term_tree c.args.bank.now (get_or c.in-App.args.now c.loop-arg.arg-index (record { 0 = 0 })).0) c.found.result
    (each_image c.args.bank.now (HasNumber c.args.signs.now.keys) (get nat_cmp c.args.numbers.now) (term_tree c.args.bank.now) c.args.at.0 c.in-App.head
    c.in-App.args.now c.in-App.ensures.node
    c.requires.numbers c.loop-arg.arg-index (record { 0 = 0 }) (omega arith)) c.found.ensures in (
      c.loop-arg.invariant.number.inside,
      (HasNumber-grows c.loop-arg.invariant.grows c.found.result
          (term_tree c.args.bank.now (get_or c.in-App.args.now c.loop-arg.arg-index (record { 0 = 0 })).0) here).inside,
    )

pub loop-arg-preserved : goal.loop-arg-preserved
loop-arg-preserved c =
    let here = image_shows (HasNumber c.args.signs.now.keys) (get nat_cmp c.args.numbers.now)
    (get_or c.in-App.args.now c.loop-arg.arg-index (record { 0 = 0 })).0
    (term_tree c.args.bank.now (get_or c.in-App.args.now c.loop-arg.arg-index (record { 0 = 0 })).0) c.found.result
    (each_image c.args.bank.now (HasNumber c.args.signs.now.keys) (get nat_cmp c.args.numbers.now) (term_tree c.args.bank.now) c.args.at.0 c.in-App.head
    c.in-App.args.now c.in-App.ensures.node
    c.requires.numbers c.loop-arg.arg-index (record { 0 = 0 }) (omega arith)) c.found.ensures in
    number_more c.args.bank.now c.args.at.0 c.in-App.args.now c.loop-arg.arg-index c.args.signs.now.keys c.loop-arg.signs.keys
    c.number_of_sign-in-loop-arg.new.signs.keys c.loop-arg.number
    c.in_ok-number-in-App-2.number c.found.result c.loop-arg.invariant c.in_ok-number-in-App-2.ensures.grows (record { 0 = 0 }) (omega arith)
    (HasNumber-grows c.loop-arg.invariant.grows c.found.result (term_tree c.args.bank.now (get_or c.in-App.args.now c.loop-arg.arg-index (record { 0 = 0 })).0)
    here)
    c.in_ok-number-in-App-2.ensures.number

pub returns-in_err-number-in-App-clause-grows : goal.returns-in_err-number-in-App-clause-grows
returns-in_err-number-in-App-clause-grows c = IfOk-from_err c.from_residual.result _ c.from_residual.ensures.0

pub returns-in_err-number-in-App-clause-number : goal.returns-in_err-number-in-App-clause-number
returns-in_err-number-in-App-clause-number c = IfOk-from_err c.from_residual.result _ c.from_residual.ensures.0

pub returns-in_err-number-in-App-2-clause-grows : goal.returns-in_err-number-in-App-2-clause-grows
returns-in_err-number-in-App-2-clause-grows c = IfOk-from_err c.from_residual-in_err-number-in-App-2.result _ c.from_residual-in_err-number-in-App-2.ensures.0

pub returns-in_err-number-in-App-2-clause-number : goal.returns-in_err-number-in-App-2-clause-number
returns-in_err-number-in-App-2-clause-number c = IfOk-from_err c.from_residual-in_err-number-in-App-2.result _ c.from_residual-in_err-number-in-App-2.ensures.0
