use Rattle.std.proofs.Common.{refl}
use Rattle.std.proofs.lemmas.Result.{IfOk-from_err}
use Rattle.ll_list_laws.proofs.CallerLemmas.{IfOk-each}
use Rattle.ll_bank.specs.Nodes.{term_tree}
use Rattle.ll_bank.proofs.CallerLemmas.{Extends-refl}
use Rattle.ll_sequent.specs.declared.sequents.Step.TheVariants.{Refused}
use Rattle.ll_sequent.proofs.OpeningLemmas.{exists_heads, exists_steps, exists_refused}
use Rattle.ll_sequent.proofs.opening.exists.Goals as goal

pub instantiate-requires-clause-heads : goal.instantiate-requires-clause-heads
instantiate-requires-clause-heads c =
    exists_heads c.args.bank.now c.args.sequent.goal.0 c.in-Exists.body (term_tree c.args.bank.now c.args.value.0) c.in-Exists.ensures.shown c.requires.heads
    c.requires.closed

pub returns-in_ok-goal-in-Exists-clause-is : goal.returns-in_ok-goal-in-Exists-clause-is
returns-in_ok-goal-in-Exists-clause-is c =
    IfOk-each c.leave_one.result _ _ (λ step leaving. exists_steps c.args.bank.now c.instantiate.new.self c.args.sequent
    (record { free = c.args.sequent.free; bounded = c.args.sequent.bounded; goal = c.in_ok-goal-in-Exists.goal })
    c.in-Exists.body (term_tree c.args.bank.now c.args.value.0) step c.in-Exists.ensures.shown c.requires.closed
    c.in_ok-goal-in-Exists.ensures.keeps c.in_ok-goal-in-Exists.ensures.shows refl refl leaving) c.leave_one.ensures

pub returns-in_default : goal.returns-in_default
returns-in_default c = record {
  is = exists_refused c.args.bank.now c.args.sequent (term_tree c.args.bank.now c.args.value.0) c.form_at.result (Refused 1) c.form_at.ensures.shown
      c.in_default.not-Exists refl;
  keeps = Extends-refl c.args.bank.now;
}

pub returns-in_err-goal-in-Exists-clause-is : goal.returns-in_err-goal-in-Exists-clause-is
returns-in_err-goal-in-Exists-clause-is c = IfOk-from_err c.from_residual.result _ c.from_residual.ensures.0

pub returns-in_err-goal-in-Exists-clause-keeps : goal.returns-in_err-goal-in-Exists-clause-keeps
returns-in_err-goal-in-Exists-clause-keeps c = c.in_err-goal-in-Exists.ensures.keeps

pub returns-in_ok-goal-in-Exists-clause-keeps : goal.returns-in_ok-goal-in-Exists-clause-keeps
returns-in_ok-goal-in-Exists-clause-keeps c = c.in_ok-goal-in-Exists.ensures.keeps
