use Rattle.std.proofs.Common.{sym, ◌∙◌}
use Rattle.ll_sequent.proofs.SameLemmas.{same_seen}
use Rattle.ll_sequent.proofs.same.is_one_node.Goals as goal

pub returns : goal.returns
returns c = λ e. same_seen c.args.bank.now c.args.pair.left.0 c.args.pair.right.0 c.term_at.result c.term_at-2.result c.term_at.ensures.shown
    c.term_at-2.ensures.shown (sym c.eq.ensures ∙ e)
