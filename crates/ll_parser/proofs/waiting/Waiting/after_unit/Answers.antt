use Rattle.std.proofs.Common.{List, ap, ◌∙◌}
use Rattle.std.proofs.lemmas.Result.{IfOk-from_err, IfOk-weaker}
use Rattle.ll_parser.specs.Raw.{Raw}
use Rattle.ll_parser.specs.Flat.{Pending, after_item, end_expression}
use Rattle.ll_parser.specs.Symbols.{symbol_tok}
use Rattle.ll_parser.specs.Waiting.{known, tree, waiting}
use Rattle.ll_parser.proofs.machines.Dropped.{same-gives}
use Rattle.ll_parser.proofs.machines.Handing.{unit-ends}
use Rattle.ll_parser.proofs.waiting.Waiting.after_unit.Goals as goal

pub returns-in-Star-clause-gives : goal.returns-in-Star-clause-gives
returns-in-Star-clause-gives c = rw c.in-Star.is c.multiply_unit.ensures.gives

pub returns-in-Star-clause-grows : goal.returns-in-Star-clause-grows
returns-in-Star-clause-grows c = c.multiply_unit.ensures.grows

pub returns-in-Plus-clause-gives : goal.returns-in-Plus-clause-gives
returns-in-Plus-clause-gives c = rw c.in-Plus.is c.add_unit.ensures.gives

pub returns-in-Plus-clause-grows : goal.returns-in-Plus-clause-grows
returns-in-Plus-clause-grows c = c.add_unit.ensures.grows

pub multiply_unit-requires-clause-fits : goal.multiply_unit-requires-clause-fits
multiply_unit-requires-clause-fits c = c.requires.fits

pub multiply_unit-requires-clause-unit : goal.multiply_unit-requires-clause-unit
multiply_unit-requires-clause-unit c = c.requires.unit

pub add_unit-requires-clause-fits : goal.add_unit-requires-clause-fits
add_unit-requires-clause-fits c = c.requires.fits

pub add_unit-requires-clause-unit : goal.add_unit-requires-clause-unit
add_unit-requires-clause-unit c = c.requires.unit

pub take_both-requires : goal.take_both-requires
take_both-requires c = record { fits = c.requires.fits; unit = c.requires.unit }

pub returns-in_err-expression-in_default : goal.returns-in_err-expression-in_default
returns-in_err-expression-in_default c = record {
  gives = IfOk-from_err c.from_residual.result _ c.from_residual.ensures.0;
  grows = IfOk-from_err c.from_residual.result _ c.from_residual.ensures.0;
}

pub end_expression-requires : goal.end_expression-requires
end_expression-requires c = record {
  fits = c.in_ok-expression-in_default.ensures.gives.fits;
  expression = c.in_ok-expression-in_default.ensures.gives.inside;
}

pub returns-in_ok-expression-in_default : goal.returns-in_ok-expression-in_default
returns-in_ok-expression-in_default c =
    let old = c.args.self.now in
    let mid = c.take_both.new.self in
    record {
      gives = IfOk-weaker c.end_expression.result _ _
          (same-gives c.end_expression.new.self (λ texts. end_expression (tree texts mid c.in_ok-expression-in_default.expression) (waiting texts mid)
          (symbol_tok texts c.args.symbol))
          (λ texts. after_item (tree texts old c.args.unit) (waiting texts old) (symbol_tok texts c.args.symbol))
          (λ texts. unit-ends c.args.symbol c.in_default.not-Star c.in_default.not-Plus c.in_default.not-Minus (known texts)
          (tree (known texts) old c.args.unit) (waiting (known texts) old)
          ∙ ap (λ (q : Raw × List Pending). end_expression q.0 q.1 (symbol_tok (known texts) c.args.symbol))
          (c.in_ok-expression-in_default.ensures.gives.takes texts)))
          c.end_expression.ensures.gives;
      grows = IfOk-weaker c.end_expression.result _ _ (λ o g later e. c.in_ok-expression-in_default.ensures.grows later (g later e))
          c.end_expression.ensures.grows;
    }
