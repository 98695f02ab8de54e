use Rattle.ll_list_laws.proofs.CallerLemmas.{false_from_not}
use Rattle.ll_unify.proofs.NovelLemmas.{meeting-left}
use Rattle.ll_unify.proofs.bind.is_met.Goals as goal

pub returns-then-is_variable : goal.returns-then-is_variable
returns-then-is_variable g c = λ e.
    meeting-left c.args.bank.now (g.T.Bindings.table c.args.table.now) c.args.left.0 c.args.right.0 c.requires.left c.requires.right
    (c.is_variable.ensures.var c.if-is_variable.true)
    (c.is_variable-then-is_variable.ensures.no_var (false_from_not c.is_variable-then-is_variable.result e))
