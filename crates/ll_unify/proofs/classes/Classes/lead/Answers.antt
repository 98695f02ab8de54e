use Rattle.std.proofs.lemmas.Result.{IfOk-from_err}
use Rattle.ll_unify.proofs.Pairs.{class-joined, classes-set}
use Rattle.ll_unify.proofs.classes.Classes.lead.Goals as goal

pub returns : goal.returns
returns c =
    λ nodes t h j. classes-set nodes t c.grow.new.list.items c.args.high c.args.low c.in_ok-grow.ensures.inside (c.in_ok-grow.ensures.classes nodes t h)
    (class-joined nodes t c.args.low c.args.high c.requires j)

pub returns-in_err-grow : goal.returns-in_err-grow
returns-in_err-grow c = IfOk-from_err c.from_residual.result _ c.from_residual.ensures.0
