use Rattle.std.proofs.Common.{ap, refl, ◌∙◌, ◌++◌, true}
use Rattle.std.specs.Prelude.{reverse}
use Rattle.std.proofs.lemmas.Result.{on_ok_weaker, IfOk-from_err}
use Rattle.ll_bank.specs.declared.TermView.TheVariants.{Var as VarView, Int as IntView, App as AppView}
use Rattle.ll_bank.specs.Nodes.{node_of_term}
use Rattle.ll_bank.specs.Opened.{term_parts, term_parts_at, ArePartsOf, term_size_at}
use Rattle.ll_bank.specs.Closing.{IsGoodTerm}
use Rattle.ll_bank.specs.Stacks.{visit}
use Rattle.ll_bank.proofs.PartLemmas.{node_seen, spots_of_args}
use Rattle.ll_bank.proofs.closes.Stacks.{pushed}
use Rattle.ll_bank.proofs.closes.Parts.{term_parts_small}
use Rattle.ll_bank.proofs.closing.term.push_term.Goals as goal

pub returns-in_err-push-clause-parts : goal.returns-in_err-push-clause-parts
returns-in_err-push-clause-parts c =
    IfOk-from_err c.from_residual.result (λ _. ArePartsOf (term_size_at c.args.bank.now) (IsGoodTerm c.args.bank.now) (c.args.task.place, c.args.task.level)
    (term_parts_at c.args.bank.now (c.args.task.place, c.args.task.level))) c.from_residual.ensures.0

pub returns-in-Var-clause-pushed : goal.returns-in-Var-clause-pushed
returns-in-Var-clause-pushed c =
    pushed (term_parts_at c.args.bank.now (c.args.task.place, c.args.task.level)) (term_parts (node_of_term (VarView c.in-Var.field-0)) c.args.task.level)
    c.args.tasks.now.items c.push.new.self.items c.push.new.self.items (record { place = c.args.task.place; level = c.args.task.level; ready = true })
    (ap (λ node. term_parts node c.args.task.level) (node_seen c.args.bank.now c.args.task.place (node_of_term (VarView c.in-Var.field-0))
    c.in-Var.ensures.node)) c.in_ok-push.ensures.items refl

pub returns-in-Var-clause-parts : goal.returns-in-Var-clause-parts
returns-in-Var-clause-parts c =
    term_parts_small c.args.bank.now c.args.task.place c.args.task.level (VarView c.in-Var.field-0) c.in-Var.ensures.node c.in-Var.ensures.shown

pub returns-in-Int-clause-pushed : goal.returns-in-Int-clause-pushed
returns-in-Int-clause-pushed c =
    pushed (term_parts_at c.args.bank.now (c.args.task.place, c.args.task.level)) (term_parts (node_of_term (IntView c.in-Int.field-0)) c.args.task.level)
    c.args.tasks.now.items c.push.new.self.items c.push.new.self.items (record { place = c.args.task.place; level = c.args.task.level; ready = true })
    (ap (λ node. term_parts node c.args.task.level) (node_seen c.args.bank.now c.args.task.place (node_of_term (IntView c.in-Int.field-0))
    c.in-Int.ensures.node)) c.in_ok-push.ensures.items refl

pub returns-in-Int-clause-parts : goal.returns-in-Int-clause-parts
returns-in-Int-clause-parts c =
    term_parts_small c.args.bank.now c.args.task.place c.args.task.level (IntView c.in-Int.field-0) c.in-Int.ensures.node c.in-Int.ensures.shown

pub returns-in-App-clause-pushed : goal.returns-in-App-clause-pushed
returns-in-App-clause-pushed c =
    on_ok_weaker c.push_arguments.result (λ e. pushed (term_parts_at c.args.bank.now (c.args.task.place, c.args.task.level))
    (term_parts (node_of_term (AppView c.in-App.field-0 c.in-App.args)) c.args.task.level) c.args.tasks.now.items c.push.new.self.items
    c.push_arguments.new.tasks.items (record { place = c.args.task.place; level = c.args.task.level; ready = true })
    (ap (λ node. term_parts node c.args.task.level) (node_seen c.args.bank.now c.args.task.place (node_of_term (AppView c.in-App.field-0 c.in-App.args))
    c.in-App.ensures.node)) c.in_ok-push.ensures.items (e
    ∙ ap (λ xs. xs ++ reverse c.push.new.self.items) (spots_of_args visit c.args.task.level c.in-App.args.now))) c.push_arguments.ensures

pub returns-in-App-clause-parts : goal.returns-in-App-clause-parts
returns-in-App-clause-parts c =
    on_ok_weaker c.push_arguments.result (λ _. term_parts_small c.args.bank.now c.args.task.place c.args.task.level (AppView c.in-App.field-0 c.in-App.args)
    c.in-App.ensures.node c.in-App.ensures.shown) c.push_arguments.ensures

pub returns-in_err-push-clause-pushed : goal.returns-in_err-push-clause-pushed
returns-in_err-push-clause-pushed c = IfOk-from_err c.from_residual.result _ c.from_residual.ensures.0
