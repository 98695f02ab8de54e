use Rattle.std.proofs.lemmas.Result.{IfOk-from_err}
use Rattle.std.proofs.Common.{◌∙◌, ap}
use Rattle.ll_bank.specs.Nodes.{node_of}
use Rattle.ll_bank.proofs.Trees.{Extends-same}
use Rattle.ll_bank.proofs.BankLemmas.{kept_more_forms, form_extends, form_shown, below_parts, build_parts}
use Rattle.ll_bank.proofs.bank.Bank.form.Goals as goal

pub returns-in_err-push_form-clause-keeps : goal.returns-in_err-push_form-clause-keeps
returns-in_err-push_form-clause-keeps c = Extends-same _ _ (ap (λ f. f.nodes) c.in_err-push_form.ensures.refused ∙ c.self.view_is)

pub invariant_of-self-2 : goal.invariant_of-self-2
invariant_of-self-2 c =
    kept_more_forms c.self.inside.flat.nodes c.args.self.now c.self.view_is c.self.inside.flat.depths c.self.invariant c.push_form.new.self.nodes
    (node_of c.args.node) (ap (λ f. f.nodes) c.in_ok-push_form.ensures.added)
    c.push_form.new.self.depths (ap (λ f. f.depths) c.in_ok-push_form.ensures.added) (below_parts _ _ c.args.node c.requires)

pub returns-clause-shows : goal.returns-clause-shows
returns-clause-shows c =
    form_shown c.self.inside.flat.nodes c.args.self.now c.self.view_is c.self.inside.flat.depths c.self.invariant c.push_form.new.self.nodes
    (node_of c.args.node) (ap (λ f. f.nodes) c.in_ok-push_form.ensures.added)
    c.size.result.forms _ (ap (λ s. s.forms) c.size.ensures) (build_parts c.args.self.now c.args.node)

pub returns-clause-keeps : goal.returns-clause-keeps
returns-clause-keeps c =
    form_extends c.self.inside.flat.nodes c.args.self.now c.self.view_is c.self.inside.flat.depths c.self.invariant c.push_form.new.self.nodes
    (node_of c.args.node) (ap (λ f. f.nodes) c.in_ok-push_form.ensures.added)

pub returns-in_err-push_form-clause-shows : goal.returns-in_err-push_form-clause-shows
returns-in_err-push_form-clause-shows c = IfOk-from_err c.from_residual.result _ c.from_residual.ensures.0

pub returns-in_err-push_form-clause-added : goal.returns-in_err-push_form-clause-added
returns-in_err-push_form-clause-added c = IfOk-from_err c.from_residual.result _ c.from_residual.ensures.0

pub returns-clause-refused : goal.returns-clause-refused
returns-clause-refused c = _
