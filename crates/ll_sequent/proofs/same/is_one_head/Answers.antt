use Rattle.std.proofs.Common.{sym, ◌∙◌}
use Rattle.ll_bank.proofs.CallerLemmas.{same_heads}
use Rattle.ll_sequent.proofs.same.is_one_head.Goals as goal

pub returns : goal.returns
returns c = λ e. same_heads c.args.head c.args.other (sym c.eq.ensures ∙ e)
