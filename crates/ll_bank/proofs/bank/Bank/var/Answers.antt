use Rattle.std.proofs.lemmas.Result.{IfOk-from_err}
use Rattle.std.proofs.Common.{refl, ap, ◌∙◌}
use Rattle.ll_bank.specs.Nodes.{VarNode}
use Rattle.ll_bank.proofs.Trees.{Extends-same}
use Rattle.ll_bank.proofs.BankLemmas.{kept_more, term_extends, term_shown}
use Rattle.ll_bank.proofs.bank.Bank.var.Goals as goal

pub returns-in_err-push_var-clause-keeps : goal.returns-in_err-push_var-clause-keeps
returns-in_err-push_var-clause-keeps c = Extends-same _ _ (ap (λ f. f.nodes) c.in_err-push_var.ensures.refused ∙ c.self.view_is)

pub invariant_of-self-2 : goal.invariant_of-self-2
invariant_of-self-2 c =
    kept_more c.self.inside.flat.nodes c.args.self.now c.self.view_is c.self.inside.flat.depths c.self.invariant c.push_var.new.self.nodes
    (VarNode c.args.number)
    (ap (λ f. f.nodes) c.in_ok-push_var.ensures.added) 0 c.push_var.new.self.depths (ap (λ f. f.depths) c.in_ok-push_var.ensures.added) tt refl

pub returns-clause-shows : goal.returns-clause-shows
returns-clause-shows c =
    term_shown c.self.inside.flat.nodes c.args.self.now c.self.view_is c.self.inside.flat.depths c.self.invariant c.push_var.new.self.nodes
    (VarNode c.args.number)
    (ap (λ f. f.nodes) c.in_ok-push_var.ensures.added) c.count.result _ c.count.ensures refl

pub returns-clause-keeps : goal.returns-clause-keeps
returns-clause-keeps c =
    term_extends c.self.inside.flat.nodes c.args.self.now c.self.view_is c.self.inside.flat.depths c.self.invariant c.push_var.new.self.nodes
    (VarNode c.args.number)
    (ap (λ f. f.nodes) c.in_ok-push_var.ensures.added)

pub returns-in_err-push_var-clause-shows : goal.returns-in_err-push_var-clause-shows
returns-in_err-push_var-clause-shows c = IfOk-from_err c.from_residual.result _ c.from_residual.ensures.0

pub returns-in_err-push_var-clause-added : goal.returns-in_err-push_var-clause-added
returns-in_err-push_var-clause-added c = IfOk-from_err c.from_residual.result _ c.from_residual.ensures.0

pub returns-clause-refused : goal.returns-clause-refused
returns-clause-refused c = _
