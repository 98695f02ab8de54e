use Rattle.std.proofs.Common.{arith, refl}
use Rattle.ll_unify.proofs.Spines.{seen_argument, no_argument}
use Rattle.ll_unify.proofs.table.argument.Goals as goal

pub returns-then-number-args-clause-argument : goal.returns-then-number-args-clause-argument
returns-then-number-args-clause-argument c =
    seen_argument c.args.bank.now c.args.at.0 c.in-App.field-0 c.in-App.args.now c.args.number _ c.in-App.ensures.shown.0 c.in-App.ensures.shown.1 (omega arith)
    refl

pub returns-else-number-args-clause-argument : goal.returns-else-number-args-clause-argument
returns-else-number-args-clause-argument c =
    no_argument c.args.bank.now c.args.at.0 c.in-App.field-0 c.in-App.args.now c.args.number c.in-App.ensures.shown.0 (omega arith)
