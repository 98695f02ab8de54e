use Rattle.std.proofs.Common.{◌≡◌, [], ap, subst, sym, ◌∙◌}
use Rattle.std.proofs.lemmas.Result.{IfOk-from_err}
use Rattle.ll_parser.specs.Nodes.{raw_at}
use Rattle.ll_parser.specs.Reads.{IsWhole}
use Rattle.ll_parser.specs.Text.{queries}
use Rattle.ll_polarity.specs.Faults.{query_faults}
use Rattle.ll_polarity.proofs.putting.Shown.{room_asked, asked_shown}
use Rattle.ll_polarity.proofs.asking.added_over.Goals as goal

pub goal_of-requires-clause-whole : goal.goal_of-requires-clause-whole
goal_of-requires-clause-whole c = subst (IsWhole queries) (sym c.query.view_is) c.requires.whole

pub goal_of-requires-clause-goal : goal.goal_of-requires-clause-goal
goal_of-requires-clause-goal c = c.query.invariant

pub asked-requires : goal.asked-requires
asked-requires c = record {
  room =
      room_asked c.query.inside.names c.args.met.now.names c.goal_of.new.met.names c.goal_of.new.met.variables c.order.result.now
      (raw_at c.query.inside.names c.query.inside.forms c.query.inside.goal.0) (subst (IsWhole queries) (sym c.query.view_is) c.requires.whole)
      c.requires.few (c.in_ok-goal.ensures.met []) c.order.ensures;
}

pub returns-clause-asked : goal.returns-clause-asked
returns-clause-asked c = λ ms.
    rw (← c.query.view_is)
    (c.in_ok-asked.ensures.asked
    ∙ ap (λ r. r.it) (asked_shown c.query.inside.names c.args.met.now.names c.goal_of.new.met.names c.goal_of.new.met.variables c.order.result.now
    (raw_at c.query.inside.names c.query.inside.forms c.query.inside.goal.0) c.in_ok-goal.ensures.met c.order.ensures ms))

pub returns-clause-names : goal.returns-clause-names
returns-clause-names c = λ ms.
    rw (← c.query.view_is)
    (c.in_ok-asked.ensures.names
    ∙ ap (λ r. r.names) (asked_shown c.query.inside.names c.args.met.now.names c.goal_of.new.met.names c.goal_of.new.met.variables c.order.result.now
    (raw_at c.query.inside.names c.query.inside.forms c.query.inside.goal.0) c.in_ok-goal.ensures.met c.order.ensures ms))

pub returns-clause-shows : goal.returns-clause-shows
returns-clause-shows c = λ ms heads first h.
    rw (← c.query.view_is) (c.in_ok-goal.ensures.shows ms heads first (subst (λ raw. query_faults heads raw ≡ []) (sym c.query.view_is) h))

pub returns-in_err-asked-clause-asked : goal.returns-in_err-asked-clause-asked
returns-in_err-asked-clause-asked c = IfOk-from_err c.from_residual-in_err-asked.result _ c.from_residual-in_err-asked.ensures.0

pub returns-in_err-asked-clause-inside : goal.returns-in_err-asked-clause-inside
returns-in_err-asked-clause-inside c = IfOk-from_err c.from_residual-in_err-asked.result _ c.from_residual-in_err-asked.ensures.0

pub returns-in_err-asked-clause-names : goal.returns-in_err-asked-clause-names
returns-in_err-asked-clause-names c = IfOk-from_err c.from_residual-in_err-asked.result _ c.from_residual-in_err-asked.ensures.0

pub returns-in_err-asked-clause-shows : goal.returns-in_err-asked-clause-shows
returns-in_err-asked-clause-shows c = IfOk-from_err c.from_residual-in_err-asked.result _ c.from_residual-in_err-asked.ensures.0

pub returns-in_err-goal-clause-asked : goal.returns-in_err-goal-clause-asked
returns-in_err-goal-clause-asked c = IfOk-from_err c.from_residual.result _ c.from_residual.ensures.0

pub returns-in_err-goal-clause-inside : goal.returns-in_err-goal-clause-inside
returns-in_err-goal-clause-inside c = IfOk-from_err c.from_residual.result _ c.from_residual.ensures.0

pub returns-in_err-goal-clause-names : goal.returns-in_err-goal-clause-names
returns-in_err-goal-clause-names c = IfOk-from_err c.from_residual.result _ c.from_residual.ensures.0

pub returns-in_err-goal-clause-shows : goal.returns-in_err-goal-clause-shows
returns-in_err-goal-clause-shows c = IfOk-from_err c.from_residual.result _ c.from_residual.ensures.0

pub goal_of-requires-clause-few : goal.goal_of-requires-clause-few
goal_of-requires-clause-few c = c.requires.few

pub goal_of-requires-clause-first : goal.goal_of-requires-clause-first
goal_of-requires-clause-first c = c.requires.first

pub returns-in_err-goal-clause-keeps : goal.returns-in_err-goal-clause-keeps
returns-in_err-goal-clause-keeps c = c.goal_of.ensures.keeps

pub returns-in_err-asked-clause-keeps : goal.returns-in_err-asked-clause-keeps
returns-in_err-asked-clause-keeps c = c.goal_of.ensures.keeps

pub returns-clause-inside : goal.returns-clause-inside
returns-clause-inside c = c.in_ok-goal.ensures.inside

pub returns-clause-keeps : goal.returns-clause-keeps
returns-clause-keeps c = c.goal_of.ensures.keeps
