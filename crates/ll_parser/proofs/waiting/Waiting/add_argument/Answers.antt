use Rattle.std.proofs.lemmas.Result.{IfOk-from_err}
use Rattle.ll_parser.proofs.stored.Shown.{more-after}
use Rattle.ll_parser.proofs.waiting.Waiting.add_argument.Goals as goal

pub returns-clause-gives : goal.returns-clause-gives
returns-clause-gives c = more-after c.args.self.now c.add.new.self c.push_argument.new.self c.in_ok-arg.arg _ c.in_ok-arg.ensures.gives
    c.in_ok-push_argument.ensures.gives

pub returns-in_err-arg-clause-gives : goal.returns-in_err-arg-clause-gives
returns-in_err-arg-clause-gives c = IfOk-from_err c.from_residual.result _ c.from_residual.ensures.0

pub returns-in_err-arg-clause-grows : goal.returns-in_err-arg-clause-grows
returns-in_err-arg-clause-grows c = IfOk-from_err c.from_residual.result _ c.from_residual.ensures.0

pub returns-in_err-push_argument-clause-gives : goal.returns-in_err-push_argument-clause-gives
returns-in_err-push_argument-clause-gives c = IfOk-from_err c.from_residual-in_err-push_argument.result _ c.from_residual-in_err-push_argument.ensures.0

pub returns-in_err-push_argument-clause-grows : goal.returns-in_err-push_argument-clause-grows
returns-in_err-push_argument-clause-grows c = IfOk-from_err c.from_residual-in_err-push_argument.result _ c.from_residual-in_err-push_argument.ensures.0

pub add-requires : goal.add-requires
add-requires c = c.requires

pub push_argument-requires : goal.push_argument-requires
push_argument-requires c = c.in_ok-arg.ensures.gives.inside

pub returns-clause-grows : goal.returns-clause-grows
returns-clause-grows c = λ later e. c.in_ok-arg.ensures.grows later (c.in_ok-push_argument.ensures.grows later e)
