use Rattle.std.proofs.lemmas.Result.{IfOk-from_err}
use Rattle.std.proofs.Common.{refl}
use Rattle.ll_list_laws.proofs.CallerLemmas.{OnErr-always}
use Rattle.ll_parser.proofs.stored.StoredLemmas.{still_kept, same_view, added, added_kept, parts_below}
use Rattle.ll_parser.proofs.raws.Raws.add.Goals as goal

-- the arguments grew, and no node was pushed
pub invariant_of-self : goal.invariant_of-self
invariant_of-self c = still_kept c.self.inside.args.items c.kept_row.new.args.items c.in_err-row.ensures.behind c.self.inside.rows.items
    c.self.inside.rows.items c.self.invariant refl

pub returns-in_err-row-clause-refused : goal.returns-in_err-row-clause-refused
returns-in_err-row-clause-refused c =
    OnErr-always _ (same_view c.self.inside.args.items c.kept_row.new.args.items c.in_err-row.ensures.behind c.self.inside.rows.items c.self.inside.rows.items
    c.self.invariant refl c.args.self.now c.self.view_is)

pub invariant_of-self-in_err-push : goal.invariant_of-self-in_err-push
invariant_of-self-in_err-push c = still_kept c.self.inside.args.items c.kept_row.new.args.items c.in_ok-row.ensures.behind c.self.inside.rows.items
    c.push.new.self.items c.self.invariant c.in_err-push.ensures.items

pub returns-in_err-push-clause-refused : goal.returns-in_err-push-clause-refused
returns-in_err-push-clause-refused c =
    OnErr-always _ (same_view c.self.inside.args.items c.kept_row.new.args.items c.in_ok-row.ensures.behind c.self.inside.rows.items c.push.new.self.items
    c.self.invariant c.in_err-push.ensures.items c.args.self.now c.self.view_is)

-- a node was pushed
pub invariant_of-self-2 : goal.invariant_of-self-2
invariant_of-self-2 c =
    added_kept c.self.inside.args.items c.kept_row.new.args.items c.in_ok-row.ensures.behind c.self.inside.rows.items c.push.new.self.items c.self.invariant
    c.args.self.now c.self.view_is c.in_ok-row.row c.in_ok-push.ensures.items _ c.in_ok-row.ensures.node
    c.in_ok-row.ensures.kept (parts_below _ _ c.args.node c.requires)

pub returns-clause-added : goal.returns-clause-added
returns-clause-added c =
    added c.self.inside.args.items c.kept_row.new.args.items c.in_ok-row.ensures.behind c.self.inside.rows.items c.push.new.self.items c.self.invariant
    c.args.self.now c.self.view_is c.in_ok-row.row c.in_ok-push.ensures.items _ c.in_ok-row.ensures.node

pub returns-in_err-row-clause-place : goal.returns-in_err-row-clause-place
returns-in_err-row-clause-place c = IfOk-from_err c.from_residual.result _ c.from_residual.ensures.0

pub returns-in_err-row-clause-added : goal.returns-in_err-row-clause-added
returns-in_err-row-clause-added c = IfOk-from_err c.from_residual.result _ c.from_residual.ensures.0

pub returns-in_err-push-clause-place : goal.returns-in_err-push-clause-place
returns-in_err-push-clause-place c = IfOk-from_err c.from_residual-in_err-push.result _ c.from_residual-in_err-push.ensures.0

pub returns-in_err-push-clause-added : goal.returns-in_err-push-clause-added
returns-in_err-push-clause-added c = IfOk-from_err c.from_residual-in_err-push.result _ c.from_residual-in_err-push.ensures.0

pub returns-clause-refused : goal.returns-clause-refused
returns-clause-refused c = _
