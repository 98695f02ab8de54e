use Rattle.std.proofs.Common.{sym, subst, refl}
use Rattle.ll_list_laws.proofs.CallerLemmas.{OnOk-weaker as on_ok}
use Rattle.ll_prooftext.specs.Tables.{Taken}
use Rattle.ll_prooftext.proofs.table.Table.take.Goals as goal

pub returns-in-Enter : goal.returns-in-Enter
returns-in-Enter c =
    on_ok c.enter.result (λ e. subst (λ x. Taken c.args.bank.now c.args.self.now c.args.tasks.now.items x c.args.self.now c.enter.new.tasks.items)
    (sym c.in-Enter.is) (e, refl)) c.enter.ensures

pub returns-in-Leave : goal.returns-in-Leave
returns-in-Leave c =
    on_ok c.leave.result (λ e. subst (λ x. Taken c.args.bank.now c.args.self.now c.args.tasks.now.items x c.leave.new.self c.args.tasks.now.items)
    (sym c.in-Leave.is) (e, refl)) c.leave.ensures
