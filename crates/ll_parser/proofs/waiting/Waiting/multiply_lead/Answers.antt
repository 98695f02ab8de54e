use Rattle.std.proofs.Common.{Some, ap}
use Rattle.std.proofs.lemmas.Result.{IfOk-from_err, IfOk-weaker}
use Rattle.ll_parser.specs.declared.waiting.Frame.TheVariants as frame
use Rattle.ll_parser.specs.Flat.{lead_want, multiply, take_product}
use Rattle.ll_parser.specs.Waiting.{tree, waiting, pushed}
use Rattle.ll_parser.proofs.machines.Dropped.{same-gives}
use Rattle.ll_parser.proofs.waiting.Waiting.multiply_lead.Goals as goal

pub take_product-requires-clause-fits : goal.take_product-requires-clause-fits
take_product-requires-clause-fits c = c.requires.fits

pub take_product-requires-clause-unit : goal.take_product-requires-clause-unit
take_product-requires-clause-unit c = c.requires.unit

pub returns-in_err-left-clause-gives : goal.returns-in_err-left-clause-gives
returns-in_err-left-clause-gives c = IfOk-from_err c.from_residual.result _ c.from_residual.ensures.0

pub returns-in_err-left-clause-grows : goal.returns-in_err-left-clause-grows
returns-in_err-left-clause-grows c = IfOk-from_err c.from_residual.result _ c.from_residual.ensures.0

pub want_lead_unit-requires : goal.want_lead_unit-requires
want_lead_unit-requires c = record { fits = c.in_ok-left.ensures.gives.fits; frame = c.in_ok-left.ensures.gives.inside }

pub returns-clause-gives : goal.returns-clause-gives
returns-clause-gives c =
    let old = c.args.self.now in
    let mid = c.take_product.new.self in
    IfOk-weaker c.want_lead_unit.result _ _
    (same-gives c.want_lead_unit.new.self (λ texts. Some (lead_want (pushed texts mid (frame.Product c.args.at c.in_ok-left.left))))
    (λ texts. multiply lead_want c.args.at (take_product (tree texts old c.args.unit) (waiting texts old)))
    (λ texts. ap (multiply lead_want c.args.at) (c.in_ok-left.ensures.gives.takes texts)))
    c.want_lead_unit.ensures.gives

pub returns-clause-grows : goal.returns-clause-grows
returns-clause-grows c = IfOk-weaker c.want_lead_unit.result _ _ (λ o g later e. c.in_ok-left.ensures.grows later (g later e)) c.want_lead_unit.ensures.grows
