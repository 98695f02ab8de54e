use Rattle.std.proofs.lemmas.Result.{IfOk-from_err, IfOk-weaker}
use Rattle.std.proofs.Common.{[]}
use Rattle.ll_unify.proofs.FreshLemmas.{binds-fresh}
use Rattle.std.proofs.Common.{◌<◌, sym, subst}
use Rattle.ll_unify.proofs.bind.bind_right.Goals as goal

pub returns-clause-binds : goal.returns-clause-binds
returns-clause-binds g c =
    binds-fresh c.args.bank.now (g.T.Bindings.table c.args.table.now) (g.T.Bindings.table c.set.new.self) c.args.var c.args.to [] c.requires.table
    c.requires.below c.requires.free c.requires.to c.requires.no_var
    (c.requires.fresh c.args.var (c.has.ensures.0 c.if-not-has.false) c.requires.below) c.in_ok-set.ensures.set

pub returns-in_err-set-clause-binds : goal.returns-in_err-set-clause-binds
returns-in_err-set-clause-binds g c = IfOk-from_err c.from_residual.result _ c.from_residual.ensures.0

pub returns-in_err-set-clause-other : goal.returns-in_err-set-clause-other
returns-in_err-set-clause-other g c = IfOk-from_err c.from_residual.result _ c.from_residual.ensures.0

pub bind_term-requires-clause-table : goal.bind_term-requires-clause-table
bind_term-requires-clause-table g c = c.requires.table

pub bind_term-requires-clause-below : goal.bind_term-requires-clause-below
bind_term-requires-clause-below g c = c.requires.below

pub bind_term-requires-clause-free : goal.bind_term-requires-clause-free
bind_term-requires-clause-free g c = c.requires.free

pub bind_term-requires-clause-to : goal.bind_term-requires-clause-to
bind_term-requires-clause-to g c = c.requires.to

pub bind_term-requires-clause-no_var : goal.bind_term-requires-clause-no_var
bind_term-requires-clause-no_var g c = c.requires.no_var

pub returns-then-not-has-clause-grows : goal.returns-then-not-has-clause-grows
returns-then-not-has-clause-grows g c = c.bind_term.ensures.grows

pub returns-then-not-has-clause-binds : goal.returns-then-not-has-clause-binds
returns-then-not-has-clause-binds g c = c.bind_term.ensures.binds

pub set-requires-clause-below : goal.set-requires-clause-below
set-requires-clause-below g c = subst (λ n. c.args.var < n) (sym c.requires.table.bound) c.requires.below

pub set-requires-clause-free : goal.set-requires-clause-free
set-requires-clause-free g c = c.requires.free

pub returns-in_err-set-clause-grows : goal.returns-in_err-set-clause-grows
returns-in_err-set-clause-grows g c = c.set.ensures.grows

pub returns-clause-grows : goal.returns-clause-grows
returns-clause-grows g c = c.set.ensures.grows

pub returns-then-not-has-clause-other : goal.returns-then-not-has-clause-other
returns-then-not-has-clause-other g c = IfOk-weaker c.bind_term.result _ _
    (λ b l e x h. let k = l e x h in record { was = k.was; other = k.other }) c.bind_term.ensures.left

pub returns-clause-other : goal.returns-clause-other
returns-clause-other g c = λ e. c.meet.ensures
