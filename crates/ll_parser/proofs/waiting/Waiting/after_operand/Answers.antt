use Rattle.std.proofs.lemmas.Result.{IfOk-from_err}
use Rattle.std.proofs.Common.{List, ap}
use Rattle.std.proofs.lemmas.Result.{IfOk-weaker}
use Rattle.ll_parser.specs.Raw.{Raw}
use Rattle.ll_parser.specs.Flat.{Pending, operate, close_bracket, close_brace}
use Rattle.ll_parser.specs.Symbols.{symbol_tok}
use Rattle.ll_parser.specs.Waiting.{known, tree, waiting}
use Rattle.ll_parser.proofs.machines.Dropped.{same-gives}
use Rattle.ll_parser.proofs.machines.Handing.{no-operator}
use Rattle.ll_parser.proofs.waiting.Waiting.after_operand.Goals as goal

pub returns-in-Semicolon-clause-gives : goal.returns-in-Semicolon-clause-gives
returns-in-Semicolon-clause-gives c = rw c.in-Semicolon.is c.extend-in-Semicolon.ensures.gives

pub returns-in-Semicolon-clause-grows : goal.returns-in-Semicolon-clause-grows
returns-in-Semicolon-clause-grows c = c.extend-in-Semicolon.ensures.grows

pub returns-in-Lolli-clause-gives : goal.returns-in-Lolli-clause-gives
returns-in-Lolli-clause-gives c = rw c.in-Lolli.is c.extend-in-Lolli.ensures.gives

pub returns-in-Lolli-clause-grows : goal.returns-in-Lolli-clause-grows
returns-in-Lolli-clause-grows c = c.extend-in-Lolli.ensures.grows

pub returns-in-RightArrow-clause-gives : goal.returns-in-RightArrow-clause-gives
returns-in-RightArrow-clause-gives c = rw c.in-RightArrow.is c.extend-in-RightArrow.ensures.gives

pub returns-in-RightArrow-clause-grows : goal.returns-in-RightArrow-clause-grows
returns-in-RightArrow-clause-grows c = c.extend-in-RightArrow.ensures.grows

pub returns-in-ColonDash-clause-gives : goal.returns-in-ColonDash-clause-gives
returns-in-ColonDash-clause-gives c = rw c.in-ColonDash.is c.extend-in-ColonDash.ensures.gives

pub returns-in-ColonDash-clause-grows : goal.returns-in-ColonDash-clause-grows
returns-in-ColonDash-clause-grows c = c.extend-in-ColonDash.ensures.grows

pub returns-in-LeftArrow-clause-gives : goal.returns-in-LeftArrow-clause-gives
returns-in-LeftArrow-clause-gives c = rw c.in-LeftArrow.is c.extend-in-LeftArrow.ensures.gives

pub returns-in-LeftArrow-clause-grows : goal.returns-in-LeftArrow-clause-grows
returns-in-LeftArrow-clause-grows c = c.extend-in-LeftArrow.ensures.grows

pub extend-requires-clause-fits : goal.extend-requires-clause-fits
extend-requires-clause-fits c = c.requires.fits

pub extend-requires-clause-operand : goal.extend-requires-clause-operand
extend-requires-clause-operand c = c.requires.operand

pub extend-requires-in-Semicolon-clause-fits : goal.extend-requires-in-Semicolon-clause-fits
extend-requires-in-Semicolon-clause-fits c = c.requires.fits

pub extend-requires-in-Semicolon-clause-operand : goal.extend-requires-in-Semicolon-clause-operand
extend-requires-in-Semicolon-clause-operand c = c.requires.operand

pub extend-requires-in-Lolli-clause-fits : goal.extend-requires-in-Lolli-clause-fits
extend-requires-in-Lolli-clause-fits c = c.requires.fits

pub extend-requires-in-Lolli-clause-operand : goal.extend-requires-in-Lolli-clause-operand
extend-requires-in-Lolli-clause-operand c = c.requires.operand

pub extend-requires-in-RightArrow-clause-fits : goal.extend-requires-in-RightArrow-clause-fits
extend-requires-in-RightArrow-clause-fits c = c.requires.fits

pub extend-requires-in-RightArrow-clause-operand : goal.extend-requires-in-RightArrow-clause-operand
extend-requires-in-RightArrow-clause-operand c = c.requires.operand

pub extend-requires-in-ColonDash-clause-fits : goal.extend-requires-in-ColonDash-clause-fits
extend-requires-in-ColonDash-clause-fits c = c.requires.fits

pub extend-requires-in-ColonDash-clause-operand : goal.extend-requires-in-ColonDash-clause-operand
extend-requires-in-ColonDash-clause-operand c = c.requires.operand

pub extend-requires-in-LeftArrow-clause-fits : goal.extend-requires-in-LeftArrow-clause-fits
extend-requires-in-LeftArrow-clause-fits c = c.requires.fits

pub extend-requires-in-LeftArrow-clause-operand : goal.extend-requires-in-LeftArrow-clause-operand
extend-requires-in-LeftArrow-clause-operand c = c.requires.operand

pub reduce-requires-clause-fits : goal.reduce-requires-clause-fits
reduce-requires-clause-fits c = c.requires.fits

pub reduce-requires-clause-operand : goal.reduce-requires-clause-operand
reduce-requires-clause-operand c = c.requires.operand

pub reduce-requires-in-BraceRight-clause-fits : goal.reduce-requires-in-BraceRight-clause-fits
reduce-requires-in-BraceRight-clause-fits c = c.requires.fits

pub reduce-requires-in-BraceRight-clause-operand : goal.reduce-requires-in-BraceRight-clause-operand
reduce-requires-in-BraceRight-clause-operand c = c.requires.operand

pub returns-in_err-formula-in-ParenRight-clause-gives : goal.returns-in_err-formula-in-ParenRight-clause-gives
returns-in_err-formula-in-ParenRight-clause-gives c = IfOk-from_err c.from_residual.result _ c.from_residual.ensures.0

pub returns-in_err-formula-in-ParenRight-clause-grows : goal.returns-in_err-formula-in-ParenRight-clause-grows
returns-in_err-formula-in-ParenRight-clause-grows c = IfOk-from_err c.from_residual.result _ c.from_residual.ensures.0

pub returns-in_err-formula-in-BraceRight-clause-gives : goal.returns-in_err-formula-in-BraceRight-clause-gives
returns-in_err-formula-in-BraceRight-clause-gives c =
    IfOk-from_err c.from_residual-in_err-formula-in-BraceRight.result _ c.from_residual-in_err-formula-in-BraceRight.ensures.0

pub returns-in_err-formula-in-BraceRight-clause-grows : goal.returns-in_err-formula-in-BraceRight-clause-grows
returns-in_err-formula-in-BraceRight-clause-grows c =
    IfOk-from_err c.from_residual-in_err-formula-in-BraceRight.result _ c.from_residual-in_err-formula-in-BraceRight.ensures.0

pub close_bracket-requires-clause-fits : goal.close_bracket-requires-clause-fits
close_bracket-requires-clause-fits c = c.in_ok-formula-in-ParenRight.ensures.gives.fits

pub close_bracket-requires-clause-formula : goal.close_bracket-requires-clause-formula
close_bracket-requires-clause-formula c = c.in_ok-formula-in-ParenRight.ensures.gives.inside

pub close_brace-requires-clause-fits : goal.close_brace-requires-clause-fits
close_brace-requires-clause-fits c = c.in_ok-formula-in-BraceRight.ensures.gives.fits

pub close_brace-requires-clause-formula : goal.close_brace-requires-clause-formula
close_brace-requires-clause-formula c = c.in_ok-formula-in-BraceRight.ensures.gives.inside

pub returns-in_ok-formula-in-ParenRight-clause-gives : goal.returns-in_ok-formula-in-ParenRight-clause-gives
returns-in_ok-formula-in-ParenRight-clause-gives c =
    let old = c.args.self.now in
    let mid = c.reduce.new.self in
    same-gives c.close_bracket.new.self (λ texts. close_bracket (tree texts mid c.in_ok-formula-in-ParenRight.formula) (waiting texts mid))
    (λ texts. operate (tree texts old c.args.operand) (waiting texts old) (symbol_tok texts c.args.symbol))
    (λ texts. rw c.in-ParenRight.is
    (ap (λ (q : Raw × List Pending). close_bracket q.0 q.1) (c.in_ok-formula-in-ParenRight.ensures.gives.reduces texts)))
    c.close_bracket.result c.close_bracket.ensures.gives

pub returns-in_ok-formula-in-ParenRight-clause-grows : goal.returns-in_ok-formula-in-ParenRight-clause-grows
returns-in_ok-formula-in-ParenRight-clause-grows c = λ later e.
    c.in_ok-formula-in-ParenRight.ensures.grows later (c.close_bracket.ensures.grows later e)

pub returns-in_ok-formula-in-BraceRight-clause-gives : goal.returns-in_ok-formula-in-BraceRight-clause-gives
returns-in_ok-formula-in-BraceRight-clause-gives c =
    let old = c.args.self.now in
    let mid = c.reduce-in-BraceRight.new.self in
    IfOk-weaker c.close_brace.result _ _
    (same-gives c.close_brace.new.self (λ texts. close_brace (tree texts mid c.in_ok-formula-in-BraceRight.formula) (waiting texts mid))
    (λ texts. operate (tree texts old c.args.operand) (waiting texts old) (symbol_tok texts c.args.symbol))
    (λ texts. rw c.in-BraceRight.is
    (ap (λ (q : Raw × List Pending). close_brace q.0 q.1) (c.in_ok-formula-in-BraceRight.ensures.gives.reduces texts))))
    c.close_brace.ensures.gives

pub returns-in_ok-formula-in-BraceRight-clause-grows : goal.returns-in_ok-formula-in-BraceRight-clause-grows
returns-in_ok-formula-in-BraceRight-clause-grows c = IfOk-weaker c.close_brace.result _ _
    (λ o g later e. c.in_ok-formula-in-BraceRight.ensures.grows later (g later e)) c.close_brace.ensures.grows

pub returns-in_default : goal.returns-in_default
returns-in_default c = record {
  gives = λ texts. no-operator c.args.symbol c.in_default.not-Comma c.in_default.not-Ampersand c.in_default.not-Semicolon c.in_default.not-Lolli
      c.in_default.not-RightArrow c.in_default.not-ColonDash c.in_default.not-LeftArrow c.in_default.not-ParenRight c.in_default.not-BraceRight
      (known texts) (tree (known texts) c.args.self.now c.args.operand) (waiting (known texts) c.args.self.now);
  grows = λ later e. e;
}
