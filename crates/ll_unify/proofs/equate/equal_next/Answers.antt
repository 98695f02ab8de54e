use Rattle.std.proofs.Common.{[], ◌∷◌, ◌++◌}
use Rattle.std.proofs.lemmas.Result.{IfOk-weaker}
use Rattle.ll_bank.specs.Nodes.{term_tree}
use Rattle.ll_unify.specs.Pairs.{lefts}
use Rattle.ll_unify.proofs.Settling.{settled-same, settles-clash, settles-meet, settles-open}
use Rattle.ll_unify.proofs.FreshLemmas.{fresh-same, fresh-open, fresh-without, leaves-front, leaves-same, leaves-open}
use Rattle.ll_unify.proofs.equate.equal_next.Goals as goal

pub returns-in-Same-clause-settles : goal.returns-in-Same-clause-settles
returns-in-Same-clause-settles g c =
    settled-same c.args.bank.now (g.T.Bindings.table c.args.table.now) (term_tree c.args.bank.now c.args.left.0) (term_tree c.args.bank.now c.args.right.0)
    c.requires.table c.in-Same.ensures.compared

pub returns-in-Clash-clause-settles : goal.returns-in-Clash-clause-settles
returns-in-Clash-clause-settles g c =
    settles-clash c.args.bank.now (g.T.Bindings.table c.args.table.now) (term_tree c.args.bank.now c.args.left.0) (term_tree c.args.bank.now c.args.right.0)
    c.requires.table c.in-Clash.ensures.compared

pub returns-in-Meet-clause-settles : goal.returns-in-Meet-clause-settles
returns-in-Meet-clause-settles g c =
    IfOk-weaker c.bind.result _ _
    (λ good h. settles-meet c.args.bank.now (g.T.Bindings.table c.args.table.now) (g.T.Bindings.table c.bind.new.table)
    (term_tree c.args.bank.now c.args.left.0) (term_tree c.args.bank.now c.args.right.0) c.in-Meet.a c.in-Meet.b good
    c.requires.table c.in-Meet.ensures.compared h)
    c.bind.ensures.meets

pub returns-in-Open-clause-settles : goal.returns-in-Open-clause-settles
returns-in-Open-clause-settles g c =
    IfOk-weaker c.open_next.result _ _
    (λ good h. settles-open c.args.bank.now (g.T.Bindings.table c.args.table.now) (g.T.Bindings.table c.open_next.new.table)
    (term_tree c.args.bank.now c.args.left.0) (term_tree c.args.bank.now c.args.right.0) c.in-Open.a c.in-Open.b good
    c.requires.table c.in-Open.ensures.compared h)
    c.open_next.ensures.settles

pub bind-requires-clause-fresh : goal.bind-requires-clause-fresh
bind-requires-clause-fresh g c = fresh-same c.args.bank.now (g.T.Bindings.table c.args.table.now) c.args.fresh.now (term_tree c.args.bank.now c.args.left.0)
    (term_tree c.args.bank.now c.in-Meet.a.0) [] c.in-Meet.ensures.compared.left c.requires.table c.requires.fresh

pub open_next-requires-clause-fresh : goal.open_next-requires-clause-fresh
open_next-requires-clause-fresh g c =
    fresh-without c.args.bank.now (g.T.Bindings.table c.args.table.now) c.args.fresh.now
    (lefts c.args.bank.now ([] ++ (record { left = c.in-Open.a; right = c.in-Open.b; next = 0 }) ∷ []))
    (fresh-open c.args.bank.now (g.T.Bindings.table c.args.table.now) c.args.fresh.now (term_tree c.args.bank.now c.args.left.0) c.in-Open.a c.in-Open.b []
    c.in-Open.ensures.compared.left c.requires.table c.requires.fresh)

pub returns-in-Same-clause-fresh : goal.returns-in-Same-clause-fresh
returns-in-Same-clause-fresh g c = λ e. leaves-front c.args.bank.now (g.T.Bindings.table c.args.table.now) c.args.fresh.now
    (term_tree c.args.bank.now c.args.left.0)

pub returns-in-Meet-clause-fresh : goal.returns-in-Meet-clause-fresh
returns-in-Meet-clause-fresh g c =
    IfOk-weaker c.bind.result _ _
    (λ good h e. leaves-same c.args.bank.now (g.T.Bindings.table c.args.table.now) (g.T.Bindings.table c.bind.new.table) c.args.fresh.now c.bind.new.fresh
    (term_tree c.args.bank.now c.args.left.0) (term_tree c.args.bank.now c.in-Meet.a.0) c.in-Meet.ensures.compared.left c.requires.table (h e))
    c.bind.ensures.fresh

pub returns-in-Open-clause-fresh : goal.returns-in-Open-clause-fresh
returns-in-Open-clause-fresh g c =
    IfOk-weaker c.open_next.result _ _
    (λ good h e. leaves-open c.args.bank.now (g.T.Bindings.table c.args.table.now) (g.T.Bindings.table c.open_next.new.table) c.args.fresh.now
    c.open_next.new.fresh (term_tree c.args.bank.now c.args.left.0) c.in-Open.a c.in-Open.b c.in-Open.ensures.compared.left c.requires.table (h e))
    c.open_next.ensures.fresh

pub compare-requires-clause-table : goal.compare-requires-clause-table
compare-requires-clause-table g c = c.requires.table

pub compare-requires-clause-left : goal.compare-requires-clause-left
compare-requires-clause-left g c = c.requires.left

pub compare-requires-clause-right : goal.compare-requires-clause-right
compare-requires-clause-right g c = c.requires.right

pub bind-requires-clause-table : goal.bind-requires-clause-table
bind-requires-clause-table g c = c.requires.table

pub open_next-requires-clause-table : goal.open_next-requires-clause-table
open_next-requires-clause-table g c = c.requires.table
