use Rattle.std.proofs.Common.{refl, arith, get_or, ap, ◌∙◌, map, take_all, ◌<◌, ℕ}
use Rattle.std.proofs.lemmas.Result.{IfOk-from_err}
use Rattle.ll_bank.proofs.CallerLemmas.{Extends-refl, Extends-trans, HasForm-extends}
use Rattle.ll_laws.specs.Leaf.{premise_goal}
use Rattle.ll_sequent.specs.Opened.{needed_at, needed_in}
use Rattle.ll_sequent.specs.declared.leaves.Needed.TheVariants.{Bounded}
use Rattle.ll_sequent.proofs.PlaceLemmas.{forms_grow}
use Rattle.ll_sequent.proofs.DealLemmas.{goals_more}
use Rattle.ll_sequent.proofs.premises.goals_of.Goals as goal

not_below_none : (k : ℕ) → k < 0 → ⊥
not_below_none k h = omega arith

pub loop-premise-init : goal.loop-premise-init
loop-premise-init c = record {
  keeps = Extends-refl c.args.bank.now;
  inside = rw c.new-goals.ensures.items (λ k d l. absurd (not_below_none k l));
  shows =
      rw c.new-goals.ensures.items refl;
}

pub goal_of-requires : goal.goal_of-requires
goal_of-requires c =
    HasForm-extends c.loop-premise.invariant.keeps (needed_at (get_or c.args.premises.now c.loop-premise.premise-index (Bounded (record { 0 = 0 })))).0
    (c.requires c.loop-premise.premise-index (Bounded (record { 0 = 0 })) c.loop-premise-test.true)

pub returns-in_err-goal-clause-keeps : goal.returns-in_err-goal-clause-keeps
returns-in_err-goal-clause-keeps c = Extends-trans c.loop-premise.invariant.keeps c.goal_of.ensures.keeps

pub loop-premise-preserved : goal.loop-premise-preserved
loop-premise-preserved c = record {
  keeps = Extends-trans c.loop-premise.invariant.keeps c.goal_of.ensures.keeps;
  inside = forms_grow c.goal_of.ensures.keeps c.loop-premise.goals.items c.push.new.self.items c.in_ok-goal.goal c.in_ok-push.ensures.items
      c.loop-premise.invariant.inside c.in_ok-goal.ensures.shows.inside;
  shows = goals_more c.args.bank.now c.loop-premise.bank c.goal_of.new.bank c.loop-premise.invariant.keeps c.goal_of.ensures.keeps c.args.premises.now
      c.loop-premise.premise-index (Bounded (record { 0 = 0 })) c.loop-premise.goals.items
      c.push.new.self.items c.in_ok-goal.goal c.loop-premise-test.true c.requires c.in_ok-push.ensures.items c.loop-premise.invariant.inside
      c.in_ok-goal.ensures.shows
      c.loop-premise.invariant.shows;
}

pub returns-in_err-push-clause-keeps : goal.returns-in_err-push-clause-keeps
returns-in_err-push-clause-keeps c = Extends-trans c.loop-premise.invariant.keeps c.goal_of.ensures.keeps

pub returns-clause-inside : goal.returns-clause-inside
returns-clause-inside c = c.loop-premise.invariant.inside

pub returns-clause-shows : goal.returns-clause-shows
returns-clause-shows c =
    c.loop-premise.invariant.shows
    ∙ ap (λ ps. map premise_goal (map (needed_in c.args.bank.now) ps))
    (take_all c.loop-premise.premise-index c.args.premises.now c.loop-premise-test.false)

pub returns-clause-keeps : goal.returns-clause-keeps
returns-clause-keeps c = c.loop-premise.invariant.keeps

pub returns-in_err-goal-clause-inside : goal.returns-in_err-goal-clause-inside
returns-in_err-goal-clause-inside c = IfOk-from_err c.from_residual.result _ c.from_residual.ensures.0

pub returns-in_err-goal-clause-shows : goal.returns-in_err-goal-clause-shows
returns-in_err-goal-clause-shows c = IfOk-from_err c.from_residual.result _ c.from_residual.ensures.0

pub returns-in_err-push-clause-inside : goal.returns-in_err-push-clause-inside
returns-in_err-push-clause-inside c = IfOk-from_err c.from_residual-in_err-push.result _ c.from_residual-in_err-push.ensures.0

pub returns-in_err-push-clause-shows : goal.returns-in_err-push-clause-shows
returns-in_err-push-clause-shows c = IfOk-from_err c.from_residual-in_err-push.result _ c.from_residual-in_err-push.ensures.0
