use Rattle.std.proofs.lemmas.Result.{IfOk-from_err}
use Rattle.std.proofs.Common.{◌∷◌}
use Rattle.ll_prooftext.proofs.spelling.Kept.{grows_none}
use Rattle.std.proofs.Common.{ap, codes}
use Rattle.std.specs.Str.{bytes_eq}
use Rattle.ll_prooftext.proofs.spelling.Found.{grows_name, text_is}
use Rattle.ll_prooftext.proofs.terms.sign_at.Goals as goal

pub returns-in_ok-add-in-Some-behind-clause-sign : goal.returns-in_ok-add-in-Some-behind-clause-sign
returns-in_ok-add-in-Some-behind-clause-sign c = record {
  grows = grows_name c.args.names.now c.add.new.self (codes "::") c.in_ok-add-in-Some-behind.ensures.added;
  added = c.in_ok-add-in-Some-behind.ensures.added;
  sign = ap (λ w. bytes_eq w (codes "::")) (text_is c.add.new.self c.in_ok-add-in-Some-behind.field-0 (codes "::") c.in_ok-add-in-Some-behind.ensures.text);
}

pub returns-in_err-add-in-Some-behind-clause-found : goal.returns-in_err-add-in-Some-behind-clause-found
returns-in_err-add-in-Some-behind-clause-found c = IfOk-from_err c.from_residual.result _ c.from_residual.ensures.0

pub returns-in_err-add-in-Some-behind-clause-sign : goal.returns-in_err-add-in-Some-behind-clause-sign
returns-in_err-add-in-Some-behind-clause-sign c = IfOk-from_err c.from_residual.result _ c.from_residual.ensures.0

pub returns-in_default-clause-found : goal.returns-in_default-clause-found
returns-in_default-clause-found c = λ rest e. c.in_default.ensures (58 ∷ rest) e

pub returns-in_default-clause-grows : goal.returns-in_default-clause-grows
returns-in_default-clause-grows c = grows_none c.args.names.now

pub returns-in-None-clause-grows : goal.returns-in-None-clause-grows
returns-in-None-clause-grows c = grows_none c.args.names.now

pub returns-in_default-clause-sign : goal.returns-in_default-clause-sign
returns-in_default-clause-sign c = _

pub returns-in-None-clause-sign : goal.returns-in-None-clause-sign
returns-in-None-clause-sign c = _
