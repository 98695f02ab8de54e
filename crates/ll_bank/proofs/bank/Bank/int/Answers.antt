use Rattle.std.proofs.lemmas.Result.{IfOk-from_err}
use Rattle.std.proofs.Common.{rules, refl, ap, ◌∙◌}
use Rattle.ll_bank.specs.Nodes.{IntNode}
use Rattle.ll_bank.proofs.Trees.{Extends-same}
use Rattle.ll_bank.proofs.BankLemmas.{kept_more, term_extends, term_shown, exact_int}
use Rattle.ll_bank.proofs.bank.Bank.int.Goals as goal

pub returns-in_err-push_int-clause-keeps : goal.returns-in_err-push_int-clause-keeps
returns-in_err-push_int-clause-keeps c = Extends-same _ _ (ap (λ f. f.nodes) c.in_err-push_int.ensures.refused ∙ c.self.view_is)

pub invariant_of-self-2 : goal.invariant_of-self-2
invariant_of-self-2 c =
    kept_more c.self.inside.flat.nodes c.args.self.now c.self.view_is c.self.inside.flat.depths c.self.invariant c.push_int.new.self.nodes
    (IntNode c.args.value)
    (exact_int c.self.inside.flat.nodes c.push_int.new.self.nodes c.args.value (search rules) (ap (λ f. f.nodes) c.in_ok-push_int.ensures.added))
    0 c.push_int.new.self.depths (ap (λ f. f.depths) c.in_ok-push_int.ensures.added) tt refl

pub returns-clause-shows : goal.returns-clause-shows
returns-clause-shows c =
    term_shown c.self.inside.flat.nodes c.args.self.now c.self.view_is c.self.inside.flat.depths c.self.invariant c.push_int.new.self.nodes
    (IntNode c.args.value)
    (exact_int c.self.inside.flat.nodes c.push_int.new.self.nodes c.args.value (search rules) (ap (λ f. f.nodes) c.in_ok-push_int.ensures.added)) c.count.result
    _ c.count.ensures refl

pub returns-clause-keeps : goal.returns-clause-keeps
returns-clause-keeps c =
    term_extends c.self.inside.flat.nodes c.args.self.now c.self.view_is c.self.inside.flat.depths c.self.invariant c.push_int.new.self.nodes
    (IntNode c.args.value)
    (exact_int c.self.inside.flat.nodes c.push_int.new.self.nodes c.args.value (search rules) (ap (λ f. f.nodes) c.in_ok-push_int.ensures.added))

pub returns-in_err-push_int-clause-shows : goal.returns-in_err-push_int-clause-shows
returns-in_err-push_int-clause-shows c = IfOk-from_err c.from_residual.result _ c.from_residual.ensures.0

pub returns-in_err-push_int-clause-added : goal.returns-in_err-push_int-clause-added
returns-in_err-push_int-clause-added c = IfOk-from_err c.from_residual.result _ c.from_residual.ensures.0

pub returns-clause-refused : goal.returns-clause-refused
returns-clause-refused c = _
