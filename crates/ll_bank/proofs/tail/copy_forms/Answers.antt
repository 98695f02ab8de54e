use Rattle.std.proofs.lemmas.Result.{IfOk-from_err}
use Rattle.std.proofs.Common.{arith, ap}
use Rattle.ll_bank.specs.Nodes.{node_of}
use Rattle.ll_bank.proofs.TailLemmas.{more_forms_copied}
use Rattle.ll_bank.proofs.tail.copy_forms.Goals as goal

pub loop-at-preserved : goal.loop-at-preserved
loop-at-preserved c =
    more_forms_copied c.args.bank.now c.args.flat.now.nodes c.loop-at.flat.nodes c.push_form.new.self.nodes c.args.from c.loop-at.at (node_of c.form_at.result)
    c.loop-at.invariant (ap (λ f. f.nodes) c.in_ok-push_form.ensures.added)
    (omega arith) (omega arith) c.form_at.ensures.node

pub returns-in_err-push_form : goal.returns-in_err-push_form
returns-in_err-push_form c = IfOk-from_err c.from_residual.result _ c.from_residual.ensures.0
