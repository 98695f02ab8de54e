use Rattle.std.proofs.Common.{rules, sym, subst, ◌∙◌}
use Rattle.std.proofs.lemmas.Result.{IfOk-from_err}
use Rattle.ll_engine.specs.Pointed.{choices_of, IsSound}
use Rattle.ll_engine.proofs.turns.Turns.{turned_fails, turned_over, turned_answer, turned_reached, turned_expand}
use Rattle.ll_engine.proofs.engine.search.Goals as goal

pub returns-then-not-branch-clause-turned : goal.returns-then-not-branch-clause-turned
returns-then-not-branch-clause-turned c =
    turned_fails (choices_of c.args.choices.now) (choices_of c.settle.new.self) c.in_ok-settle.field-0 c.if-not-branch.true c.in_ok-settle.ensures.settles

pub returns-then-is_empty-clause-turned : goal.returns-then-is_empty-clause-turned
returns-then-is_empty-clause-turned c =
    turned_over (choices_of c.args.choices.now) (choices_of c.settle.new.self) c.in_ok-settle.field-0 c.if-not-branch.false c.in_ok-settle.ensures.settles
    (search rules) (search rules)

pub returns-then-left-eq0-clause-turned : goal.returns-then-left-eq0-clause-turned
returns-then-left-eq0-clause-turned c =
    turned_reached (choices_of c.args.choices.now) (choices_of c.settle.new.self) c.in_ok-settle.field-0 c.if-not-branch.false c.in_ok-settle.ensures.settles
    (search rules) (search rules)

pub returns-then-answers-clause-turned : goal.returns-then-answers-clause-turned
returns-then-answers-clause-turned c =
    turned_answer (choices_of c.args.choices.now) (choices_of c.settle.new.self) c.in_ok-settle.field-0 c.if-not-branch.false c.in_ok-settle.ensures.settles
    (search rules) (search rules)

pub returns-clause-turned : goal.returns-clause-turned
returns-clause-turned c =
    turned_expand (choices_of c.args.choices.now) (choices_of c.settle.new.self) (choices_of c.expand.new.self) c.in_ok-running.running c.in_ok-settle.field-0
    c.if-not-branch.false c.in_ok-settle.ensures.settles (sym c.is_empty.ensures ∙ c.if-is_empty.false)
    c.in_ok-running.ensures.expands

pub settle-requires : goal.settle-requires
settle-requires c = record { sound = c.requires.sound }

pub returns-in_err-settle-clause-sound : goal.returns-in_err-settle-clause-sound
returns-in_err-settle-clause-sound c = IfOk-from_err c.from_residual.result _ c.from_residual.ensures.0

pub returns-in_err-settle-clause-turned : goal.returns-in_err-settle-clause-turned
returns-in_err-settle-clause-turned c = IfOk-from_err c.from_residual.result _ c.from_residual.ensures.0

pub returns-in_err-running-clause-sound : goal.returns-in_err-running-clause-sound
returns-in_err-running-clause-sound c = IfOk-from_err c.from_residual-in_err-running.result _ c.from_residual-in_err-running.ensures.0

pub returns-in_err-running-clause-turned : goal.returns-in_err-running-clause-turned
returns-in_err-running-clause-turned c = IfOk-from_err c.from_residual-in_err-running.result _ c.from_residual-in_err-running.ensures.0

pub returns-then-not-branch-clause-sound : goal.returns-then-not-branch-clause-sound
returns-then-not-branch-clause-sound c = subst (λ b. IsSound b c.settle.new.self) c.if-not-branch.true c.in_ok-settle.ensures.sound

pub is_empty-requires : goal.is_empty-requires
is_empty-requires c = record { sound = subst (λ b. IsSound b c.settle.new.self) c.if-not-branch.false c.in_ok-settle.ensures.sound }

pub answers-requires : goal.answers-requires
answers-requires c = record { sound = subst (λ b. IsSound b c.settle.new.self) c.if-not-branch.false c.in_ok-settle.ensures.sound }

pub returns-then-answers-clause-shown : goal.returns-then-answers-clause-shown
returns-then-answers-clause-shown c = λ e. subst (λ b. IsSound b c.settle.new.self) c.if-not-branch.false c.in_ok-settle.ensures.sound

pub returns-then-left-eq0-clause-shown : goal.returns-then-left-eq0-clause-shown
returns-then-left-eq0-clause-shown c = λ e. subst (λ b. IsSound b c.settle.new.self) c.if-not-branch.false c.in_ok-settle.ensures.sound

pub expand-requires-clause-sound : goal.expand-requires-clause-sound
expand-requires-clause-sound c = subst (λ b. IsSound b c.settle.new.self) c.if-not-branch.false c.in_ok-settle.ensures.sound

pub expand-requires-clause-goal : goal.expand-requires-clause-goal
expand-requires-clause-goal c = sym c.is_empty.ensures ∙ c.if-is_empty.false

pub returns-clause-sound : goal.returns-clause-sound
returns-clause-sound c = c.in_ok-running.ensures.sound

pub returns-then-is_empty-clause-sound : goal.returns-then-is_empty-clause-sound
returns-then-is_empty-clause-sound c = search rules

pub returns-then-left-eq0-clause-sound : goal.returns-then-left-eq0-clause-sound
returns-then-left-eq0-clause-sound c = search rules
