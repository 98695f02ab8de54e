use Rattle.std.proofs.lemmas.Result.{IfOk-from_err}
use Rattle.ll_parser.proofs.waiting.Waiting.cons.Goals as goal

pub returns-in_err-list-clause-gives : goal.returns-in_err-list-clause-gives
returns-in_err-list-clause-gives c = IfOk-from_err c.from_residual.result _ c.from_residual.ensures.0

pub returns-in_err-list-clause-grows : goal.returns-in_err-list-clause-grows
returns-in_err-list-clause-grows c = IfOk-from_err c.from_residual.result _ c.from_residual.ensures.0

pub returns-clause-gives : goal.returns-clause-gives
returns-clause-gives c =
    let a = c.in_ok-list.ensures.gives in
    record {
      leaves = record { fits = a.fits c.requires.fits; inside = a.inside; is = a.is; waits = λ texts. a.waits texts c.requires.fits };
      frames = a.frames;
    }

pub returns-clause-grows : goal.returns-clause-grows
returns-clause-grows c = c.in_ok-list.ensures.grows
