use Rattle.std.proofs.lemmas.Result.{IfOk-from_err}
use Rattle.std.proofs.Common.{arith}
use Rattle.ll_unify.proofs.NovelLemmas.{settles-new, leaves-new}
use Rattle.ll_unify.proofs.bind.bind_new.Goals as goal

pub set-requires-clause-below : goal.set-requires-clause-below
set-requires-clause-below g c = let l = c.requires.below in let e = c.requires.table.bound in omega (arith, l, e)

pub returns-clause-settles : goal.returns-clause-settles
returns-clause-settles g c =
    settles-new c.args.bank.now (g.T.Bindings.table c.args.table.now) (g.T.Bindings.table c.set.new.self) c.args.var c.args.end c.requires.table
    c.requires.below c.requires.new.free c.requires.end c.requires.new.before (c.requires.fresh c.args.var c.requires.new.is c.requires.below)
    c.in_ok-set.ensures.set

pub returns-clause-fresh : goal.returns-clause-fresh
returns-clause-fresh g c =
    leaves-new c.args.bank.now (g.T.Bindings.table c.args.table.now) (g.T.Bindings.table c.set.new.self) c.args.var c.args.end c.requires.table
    c.requires.below c.requires.new.free c.requires.end c.requires.new.before (c.requires.fresh c.args.var c.requires.new.is c.requires.below)
    c.in_ok-set.ensures.set c.args.fresh.now c.meet.new.self c.meet.ensures

pub returns-in_err-set-clause-settles : goal.returns-in_err-set-clause-settles
returns-in_err-set-clause-settles g c = IfOk-from_err c.from_residual.result _ c.from_residual.ensures.0

pub returns-in_err-set-clause-fresh : goal.returns-in_err-set-clause-fresh
returns-in_err-set-clause-fresh g c = IfOk-from_err c.from_residual.result _ c.from_residual.ensures.0
