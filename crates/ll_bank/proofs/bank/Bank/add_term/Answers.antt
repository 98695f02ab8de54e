use Rattle.std.proofs.lemmas.Result.{IfOk-from_err}
use Rattle.std.proofs.Common.{subst, length}
use Rattle.ll_bank.specs.Nodes.{IsTermBelow, node_of_term}
use Rattle.ll_bank.proofs.BankLemmas.{places_below}
use Rattle.ll_bank.proofs.bank.Bank.add_term.Goals as goal

pub app-requires : goal.app-requires
app-requires c = places_below (length c.args.self.now.terms) c.in-App.args.now
    (subst (λ v. IsTermBelow (length c.args.self.now.terms) (node_of_term v)) c.in-App.is c.requires)

pub returns-in_err-var-in-Var-clause-added : goal.returns-in_err-var-in-Var-clause-added
returns-in_err-var-in-Var-clause-added c = IfOk-from_err c.from_residual.result _ c.from_residual.ensures.0

pub returns-in_err-int-in-Int-clause-added : goal.returns-in_err-int-in-Int-clause-added
returns-in_err-int-in-Int-clause-added c = IfOk-from_err c.from_residual-in_err-int-in-Int.result _ c.from_residual-in_err-int-in-Int.ensures.0

pub returns-in_err-app-in-App-clause-added : goal.returns-in_err-app-in-App-clause-added
returns-in_err-app-in-App-clause-added c = IfOk-from_err c.from_residual-in_err-app-in-App.result _ c.from_residual-in_err-app-in-App.ensures.0

pub returns-in_ok-var-in-Var-clause-refused : goal.returns-in_ok-var-in-Var-clause-refused
returns-in_ok-var-in-Var-clause-refused c = _

pub returns-in_ok-int-in-Int-clause-refused : goal.returns-in_ok-int-in-Int-clause-refused
returns-in_ok-int-in-Int-clause-refused c = _

pub returns-in_ok-app-in-App-clause-refused : goal.returns-in_ok-app-in-App-clause-refused
returns-in_ok-app-in-App-clause-refused c = _
