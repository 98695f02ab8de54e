use Rattle.std.proofs.Common.{◌≡◌, subst, slice_get, Some}
use Rattle.ll_bank.specs.Nodes.{IsWellFounded, node_of}
use Rattle.ll_bank.proofs.BankLemmas.{views_form}
use Rattle.ll_bank.proofs.bank.Bank.form_at.Goals as goal

pub returns-clause-shown : goal.returns-clause-shown
returns-clause-shown c =
    views_form c.args.self.now (subst IsWellFounded c.self.view_is c.self.invariant.lower) c.args.at.0 c.form.result c.requires
    (subst (λ n. slice_get n.forms c.args.at.0 ≡ Some (node_of c.form.result)) c.self.view_is c.form.ensures)
