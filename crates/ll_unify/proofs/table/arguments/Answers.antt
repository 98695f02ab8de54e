use Rattle.ll_unify.proofs.Spines.{all_arguments}
use Rattle.ll_unify.proofs.table.arguments.Goals as goal

pub returns-in-App : goal.returns-in-App
returns-in-App c = all_arguments c.args.bank.now c.args.at.0 c.in-App.field-0 c.in-App.args.now c.in-App.ensures.shown.0 c.in-App.ensures.shown.1
