use Rattle.std.proofs.Common.{◌≡◌, subst, slice_get, Some}
use Rattle.ll_bank.specs.Nodes.{IsWellFounded, node_of_term}
use Rattle.ll_bank.proofs.BankLemmas.{views_term}
use Rattle.ll_bank.proofs.bank.Bank.term_at.Goals as goal

pub returns-clause-shown : goal.returns-clause-shown
returns-clause-shown c =
    views_term c.args.self.now (subst IsWellFounded c.self.view_is c.self.invariant.lower) c.args.at.0 c.term.result c.requires
    (subst (λ n. slice_get n.terms c.args.at.0 ≡ Some (node_of_term c.term.result)) c.self.view_is c.term.ensures)
