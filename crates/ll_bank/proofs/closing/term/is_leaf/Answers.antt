use Rattle.std.proofs.Common.{sym, ◌∙◌, length}
use Rattle.std.proofs.lemmas.Bool.{eqb-true}
use Rattle.ll_bank.proofs.closes.Parts.{no_arguments}
use Rattle.ll_bank.proofs.closing.term.is_leaf.Goals as goal

pub returns-in-App : goal.returns-in-App
returns-in-App c = λ h.
    no_arguments c.args.bank.now c.args.task.place c.args.task.level c.in-App.field-0 c.in-App.args.now c.in-App.ensures.node
    (eqb-true (length c.in-App.args.now) 0 (sym c.is_empty.ensures ∙ h))
