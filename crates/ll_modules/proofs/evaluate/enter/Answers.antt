use Rattle.std.proofs.lemmas.Result.{IfOk-from_err}
use Rattle.std.specs.Prelude.{FitsSigned}
use Rattle.std.specs.Int.{w64}
use Rattle.std.proofs.Common.{ap, sym, ◌∙◌, rules}
use Rattle.std.proofs.lemmas.Int.{to_z-of_z}
use Rattle.ll_bank.specs.Nodes.{term_tree}
use Rattle.ll_laws.specs.Number.{operators_of, value_of}
use Rattle.ll_modules.specs.Values.{seen_operator}
use Rattle.ll_modules.proofs.Evaluating.{other_none, two_none, starts_nothing, starts_known, starts_operator, arguments_inside}
use Rattle.ll_modules.proofs.evaluate.enter.Goals as goal

pub returns-then-args-ne2 : goal.returns-then-args-ne2
returns-then-args-ne2 c =
    starts_nothing (operators_of c.args.names.now) c.args.bank.now c.args.frames.now.items (term_tree c.args.bank.now c.args.at.0)
    (ap (value_of (operators_of c.args.names.now)) c.in-App.ensures.shown.0
    ∙ other_none (operators_of c.args.names.now) c.in-App.head c.args.bank.now c.in-App.args.now c.if-args-ne2.true) c.requires.frames

pub returns-in-Some : goal.returns-in-Some
returns-in-Some c =
    let f : FitsSigned w64 c.in-Some.value = search rules in
    let there = sym c.get.ensures.value ∙ (sym c.copied.ensures ∙ c.in-Some.is) in
    rw (to_z-of_z w64 c.in-Some.value f)
    (starts_known (operators_of c.args.names.now) c.args.bank.now c.args.frames.now.items (term_tree c.args.bank.now c.args.at.0) c.in-Some.value
    (c.requires.known c.args.at.0 c.in-Some.value there) c.requires.frames)

pub returns-in_ok-push-in-Some-operator_at : goal.returns-in_ok-push-in-Some-operator_at
returns-in_ok-push-in-Some-operator_at c =
    starts_operator (operators_of c.args.names.now) c.args.bank.now c.args.frames.now.items c.note.new.frames.items c.push.new.self.items c.args.at
    c.in-App.head c.in-App.args.now _ c.in-Some-operator_at.operator
    c.in-App.ensures.shown.0 c.if-args-ne2.false (sym c.operator_at.ensures ∙ ap seen_operator c.in-Some-operator_at.is)
    c.in_ok-note-in-Some-operator_at.ensures c.in_ok-push-in-Some-operator_at.ensures.items
    c.requires.frames (arguments_inside c.args.bank.now c.args.at.0 c.in-App.args.now c.requires.place c.in-App.ensures.shown.1)

pub returns-in-None : goal.returns-in-None
returns-in-None c =
    starts_nothing (operators_of c.args.names.now) c.args.bank.now c.args.frames.now.items (term_tree c.args.bank.now c.args.at.0)
    (ap (value_of (operators_of c.args.names.now)) c.in-App.ensures.shown.0
    ∙ two_none (operators_of c.args.names.now) c.in-App.head c.args.bank.now c.in-App.args.now c.if-args-ne2.false
    (sym c.operator_at.ensures ∙ ap seen_operator c.in-None.is)) c.requires.frames

pub returns-in_err-note-in-Some-operator_at : goal.returns-in_err-note-in-Some-operator_at
returns-in_err-note-in-Some-operator_at c = IfOk-from_err c.from_residual.result _ c.from_residual.ensures.0

pub returns-in_err-push-in-Some-operator_at : goal.returns-in_err-push-in-Some-operator_at
returns-in_err-push-in-Some-operator_at c =
    IfOk-from_err c.from_residual-in_err-push-in-Some-operator_at.result _ c.from_residual-in_err-push-in-Some-operator_at.ensures.0
