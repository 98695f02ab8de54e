use Rattle.std.proofs.Common.{sym, ◌∙◌}
use Rattle.ll_bank.proofs.SameLemmas.{same_size}
use Rattle.ll_bank.proofs.tail.is_same_size.Goals as goal

pub returns : goal.returns
returns c = λ e. same_size c.args.size c.args.other (sym c.eq.ensures ∙ e)
