use Rattle.std.proofs.lemmas.Result.{IfOk-from_err}
use Rattle.ll_prooftext.specs.Brackets.{Turns}
use Rattle.ll_prooftext.proofs.spelling.Arguments.{reading_begins, reading_on, reading_stuck, reading_ends, reading_other, not_ended}
use Rattle.ll_prooftext.proofs.spelling.Kept.{below, grows_on}
use Rattle.ll_prooftext.proofs.terms.Open.finish.Goals as goal

pub steps-init : goal.steps-init
steps-init c = reading_begins c.args.names.now c.args.bank.now c.args.inside.now c.args.self.now c.requires.outer c.requires.items c.requires.part
    c.requires.args

pub step-requires-clause-good : goal.step-requires-clause-good
step-requires-clause-good c = c.steps.invariant.good

pub step-requires-clause-room : goal.step-requires-clause-room
step-requires-clause-room c = below _ _ _ c.steps.invariant.moves.few c.requires.room

pub steps-preserved : goal.steps-preserved
steps-preserved c =
    reading_on c.args.names.now c.args.bank.now c.args.inside.now c.steps.names c.steps.bank c.steps.self c.steps.rest.now c.step.new.names
    c.step.new.bank c.step.new.self c.in-More.next.now c.steps.invariant (rw c.in-More.is at c.in_ok-step.ensures.step)

pub returns-in-Stuck-clause-found : goal.returns-in-Stuck-clause-found
returns-in-Stuck-clause-found c =
    reading_stuck c.args.names.now c.args.bank.now c.args.inside.now c.steps.names c.steps.bank c.steps.self c.steps.rest.now
    c.steps.invariant (rw c.in-Stuck.is at c.in_ok-step.ensures.step)

pub steps-smaller : goal.steps-smaller
steps-smaller c =
    let t : Turns c.steps.names c.steps.bank c.steps.self c.steps.rest.now c.step.new.names c.step.new.bank c.step.new.self c.in-More.next.now =
    rw c.in-More.is at c.in_ok-step.ensures.step in
    t.shorter

pub returns-then-not-is_at_end-clause-found : goal.returns-then-not-is_at_end-clause-found
returns-then-not-is_at_end-clause-found c =
    reading_other c.args.names.now c.args.bank.now c.args.inside.now c.steps.names c.steps.bank c.steps.self c.steps.rest.now c.step.new.names
    c.step.new.bank c.in-Whole.at.0 c.in-Whole.next.now c.steps.invariant (rw c.in-Whole.is at c.in_ok-step.ensures.step)
    (not_ended c.is_at_end.ensures c.if-not-is_at_end.true)

pub returns-in-Whole-clause-found : goal.returns-in-Whole-clause-found
returns-in-Whole-clause-found c =
    reading_ends c.args.names.now c.args.bank.now c.args.inside.now c.steps.names c.steps.bank c.steps.self c.steps.rest.now c.step.new.names
    c.step.new.bank c.in-Whole.at.0 c.in-Whole.next.now c.steps.invariant (rw c.in-Whole.is at c.in_ok-step.ensures.step)
    (c.is_at_end.ensures.0 c.if-not-is_at_end.false)

pub returns-in_err-step-clause-grows : goal.returns-in_err-step-clause-grows
returns-in_err-step-clause-grows c = grows_on c.args.names.now c.steps.names c.step.new.names c.steps.invariant.moves.grows c.step.ensures.grows

pub returns-in-Stuck-clause-grows : goal.returns-in-Stuck-clause-grows
returns-in-Stuck-clause-grows c = grows_on c.args.names.now c.steps.names c.step.new.names c.steps.invariant.moves.grows c.step.ensures.grows

pub returns-then-not-is_at_end-clause-grows : goal.returns-then-not-is_at_end-clause-grows
returns-then-not-is_at_end-clause-grows c = grows_on c.args.names.now c.steps.names c.step.new.names c.steps.invariant.moves.grows c.step.ensures.grows

pub returns-in-Whole-clause-grows : goal.returns-in-Whole-clause-grows
returns-in-Whole-clause-grows c = grows_on c.args.names.now c.steps.names c.step.new.names c.steps.invariant.moves.grows c.step.ensures.grows

pub returns-in_err-step-clause-found : goal.returns-in_err-step-clause-found
returns-in_err-step-clause-found c = IfOk-from_err c.from_residual.result _ c.from_residual.ensures.0
