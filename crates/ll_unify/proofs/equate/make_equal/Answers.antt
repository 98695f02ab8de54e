use Rattle.std.proofs.Common.{subst, [], ◌∷◌, ◌++◌}
use Rattle.std.proofs.lemmas.Result.{IfOk-weaker}
use Rattle.ll_bank.specs.Nodes.{term_tree}
use Rattle.ll_unify.specs.Bindings.{Meets}
use Rattle.ll_unify.specs.Pairs.{lefts}
use Rattle.ll_unify.proofs.Settling.{settled-same, settles-clash, settles-meet, settles-open, classes-meet}
use Rattle.ll_unify.proofs.FreshLemmas.{fresh-same, fresh-open, fresh-without, leaves-front, leaves-same, leaves-open}
use Rattle.std.proofs.Common.{sym, true≢false}
use Rattle.ll_unify.proofs.equate.make_equal.Goals as goal

pub returns-in-Same-clause-settles : goal.returns-in-Same-clause-settles
returns-in-Same-clause-settles g c =
    settled-same c.args.bank.now (g.T.Bindings.table c.args.table.now) (term_tree c.args.bank.now c.args.left.0) (term_tree c.args.bank.now c.args.right.0)
    c.requires.table c.in-Same.ensures.compared

pub returns-in-Clash-clause-settles : goal.returns-in-Clash-clause-settles
returns-in-Clash-clause-settles g c =
    settles-clash c.args.bank.now (g.T.Bindings.table c.args.table.now) (term_tree c.args.bank.now c.args.left.0) (term_tree c.args.bank.now c.args.right.0)
    c.requires.table c.in-Clash.ensures.compared

pub returns-in-Meet-clause-classes : goal.returns-in-Meet-clause-classes
returns-in-Meet-clause-classes g c =
    IfOk-weaker c.bind.result _ _
    (λ good h e. classes-meet c.args.bank.now (g.T.Bindings.table c.args.table.now) (g.T.Bindings.table c.bind.new.table)
    (term_tree c.args.bank.now c.in-Meet.a.0) (term_tree c.args.bank.now c.in-Meet.b.0) c.compare.new.classes.up.items
    (subst (Meets c.args.bank.now (g.T.Bindings.table c.args.table.now) (g.T.Bindings.table c.bind.new.table) (term_tree c.args.bank.now c.in-Meet.a.0)
    (term_tree c.args.bank.now c.in-Meet.b.0)) e h) c.in-Meet.ensures.classes)
    c.bind.ensures.meets

pub returns-in-Meet-clause-settles : goal.returns-in-Meet-clause-settles
returns-in-Meet-clause-settles g c =
    IfOk-weaker c.bind.result _ _
    (λ good h. settles-meet c.args.bank.now (g.T.Bindings.table c.args.table.now) (g.T.Bindings.table c.bind.new.table)
    (term_tree c.args.bank.now c.args.left.0) (term_tree c.args.bank.now c.args.right.0) c.in-Meet.a c.in-Meet.b good
    c.requires.table c.in-Meet.ensures.compared h)
    c.bind.ensures.meets

pub returns-in-Open-clause-settles : goal.returns-in-Open-clause-settles
returns-in-Open-clause-settles g c =
    IfOk-weaker c.open.result _ _
    (λ good h. settles-open c.args.bank.now (g.T.Bindings.table c.args.table.now) (g.T.Bindings.table c.open.new.table)
    (term_tree c.args.bank.now c.args.left.0) (term_tree c.args.bank.now c.args.right.0) c.in-Open.a c.in-Open.b good
    c.requires.table c.in-Open.ensures.compared h)
    c.open.ensures.settles

pub bind-requires-clause-fresh : goal.bind-requires-clause-fresh
bind-requires-clause-fresh g c = fresh-same c.args.bank.now (g.T.Bindings.table c.args.table.now) c.args.work.now.fresh
    (term_tree c.args.bank.now c.args.left.0) (term_tree c.args.bank.now c.in-Meet.a.0) [] c.in-Meet.ensures.compared.left c.requires.table c.requires.fresh

pub open-requires-clause-fresh : goal.open-requires-clause-fresh
open-requires-clause-fresh g c =
    fresh-without c.args.bank.now (g.T.Bindings.table c.args.table.now) c.args.work.now.fresh
    (lefts c.args.bank.now ([] ++ (record { left = c.in-Open.a; right = c.in-Open.b; next = 0 }) ∷ []))
    (fresh-open c.args.bank.now (g.T.Bindings.table c.args.table.now) c.args.work.now.fresh (term_tree c.args.bank.now c.args.left.0) c.in-Open.a c.in-Open.b []
    c.in-Open.ensures.compared.left c.requires.table c.requires.fresh)

pub returns-in-Same-clause-fresh : goal.returns-in-Same-clause-fresh
returns-in-Same-clause-fresh g c = λ e. leaves-front c.args.bank.now (g.T.Bindings.table c.args.table.now) c.args.work.now.fresh
    (term_tree c.args.bank.now c.args.left.0)

pub returns-in-Meet-clause-fresh : goal.returns-in-Meet-clause-fresh
returns-in-Meet-clause-fresh g c =
    IfOk-weaker c.bind.result _ _
    (λ good h e. leaves-same c.args.bank.now (g.T.Bindings.table c.args.table.now) (g.T.Bindings.table c.bind.new.table) c.args.work.now.fresh c.bind.new.fresh
    (term_tree c.args.bank.now c.args.left.0) (term_tree c.args.bank.now c.in-Meet.a.0) c.in-Meet.ensures.compared.left c.requires.table (h e))
    c.bind.ensures.fresh

pub returns-in-Open-clause-fresh : goal.returns-in-Open-clause-fresh
returns-in-Open-clause-fresh g c =
    IfOk-weaker c.open.result _ _
    (λ good h e. leaves-open c.args.bank.now (g.T.Bindings.table c.args.table.now) (g.T.Bindings.table c.open.new.table) c.args.work.now.fresh
    c.open.new.work.fresh (term_tree c.args.bank.now c.args.left.0) c.in-Open.a c.in-Open.b c.in-Open.ensures.compared.left c.requires.table (h e))
    c.open.ensures.fresh

pub compare-requires-clause-table : goal.compare-requires-clause-table
compare-requires-clause-table g c = c.requires.table

pub compare-requires-clause-classes : goal.compare-requires-clause-classes
compare-requires-clause-classes g c = c.requires.classes

pub compare-requires-clause-left : goal.compare-requires-clause-left
compare-requires-clause-left g c = c.requires.left

pub compare-requires-clause-right : goal.compare-requires-clause-right
compare-requires-clause-right g c = c.requires.right

pub bind-requires-clause-table : goal.bind-requires-clause-table
bind-requires-clause-table g c = c.requires.table

pub bind-requires-clause-meet : goal.bind-requires-clause-meet
bind-requires-clause-meet g c = c.in-Meet.ensures.compared.meeting

pub open-requires-clause-table : goal.open-requires-clause-table
open-requires-clause-table g c = c.requires.table

pub open-requires-clause-classes : goal.open-requires-clause-classes
open-requires-clause-classes g c = c.in-Open.ensures.classes

pub open-requires-clause-pair : goal.open-requires-clause-pair
open-requires-clause-pair g c =
    let o = c.in-Open.ensures.compared in record { left_place = o.left_place; right_place = o.right_place; shape = o.shape }

pub returns-in-Same-clause-grows : goal.returns-in-Same-clause-grows
returns-in-Same-clause-grows g c = g.met.T.Bindings.stays c.args.table.now

pub returns-in-Same-clause-classes : goal.returns-in-Same-clause-classes
returns-in-Same-clause-classes g c = λ e. c.in-Same.ensures.classes

pub returns-in-Clash-clause-grows : goal.returns-in-Clash-clause-grows
returns-in-Clash-clause-grows g c = g.met.T.Bindings.stays c.args.table.now

pub returns-in-Clash-clause-classes : goal.returns-in-Clash-clause-classes
returns-in-Clash-clause-classes g c = λ e. absurd (true≢false (sym e))

pub returns-in-Clash-clause-fresh : goal.returns-in-Clash-clause-fresh
returns-in-Clash-clause-fresh g c = λ e. absurd (true≢false (sym e))

pub returns-in-Meet-clause-grows : goal.returns-in-Meet-clause-grows
returns-in-Meet-clause-grows g c = c.bind.ensures.grows

pub returns-in-Open-clause-grows : goal.returns-in-Open-clause-grows
returns-in-Open-clause-grows g c = c.open.ensures.grows

pub returns-in-Open-clause-classes : goal.returns-in-Open-clause-classes
returns-in-Open-clause-classes g c = c.open.ensures.classes
