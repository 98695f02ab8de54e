use Rattle.std.proofs.lemmas.Result.{IfOk-from_err}
use Rattle.std.proofs.Common.{arith}
use Rattle.ll_bank.specs.Nodes.{node_of_term}
use Rattle.ll_bank.proofs.TailLemmas.{more_terms_copied}
use Rattle.ll_bank.proofs.tail.copy_terms.Goals as goal

pub loop-at-preserved : goal.loop-at-preserved
loop-at-preserved c =
    more_terms_copied c.args.bank.now c.args.flat.now.nodes c.loop-at.flat.nodes c.push_term.new.self.nodes c.args.from c.loop-at.at
    (node_of_term c.term_at.result) c.loop-at.invariant c.in_ok-push_term.ensures.added
    (omega arith) (omega arith) c.term_at.ensures.node

pub returns-in_err-push_term : goal.returns-in_err-push_term
returns-in_err-push_term c = IfOk-from_err c.from_residual.result _ c.from_residual.ensures.0
