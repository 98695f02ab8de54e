use Rattle.std.proofs.Common.{refl}
use Rattle.std.proofs.lemmas.Result.{IfOk-weaker}
use Rattle.ll_bank.specs.Nodes.{term_tree}
use Rattle.ll_unify.proofs.Settling.{settles-meet}
use Rattle.ll_unify.proofs.equate.unify_end.Goals as goal

pub returns-then-is_met-clause-settles : goal.returns-then-is_met-clause-settles
returns-then-is_met-clause-settles g c =
    IfOk-weaker c.bind.result _ _
    (λ good h. settles-meet c.args.bank.now (g.T.Bindings.table c.args.table.now) (g.T.Bindings.table c.bind.new.table)
    (term_tree c.args.bank.now c.args.left.0) (term_tree c.args.bank.now c.args.right.0) c.args.left c.args.right good
    c.requires.table (record { meeting = c.is_met.ensures c.if-is_met.true; left = λ s o. refl; right = λ s o. refl }) h)
    c.bind.ensures.meets

pub is_met-requires-clause-left : goal.is_met-requires-clause-left
is_met-requires-clause-left g c = c.requires.left

pub is_met-requires-clause-right : goal.is_met-requires-clause-right
is_met-requires-clause-right g c = c.requires.right

pub bind-requires-clause-table : goal.bind-requires-clause-table
bind-requires-clause-table g c = c.requires.table

pub bind-requires-clause-fresh : goal.bind-requires-clause-fresh
bind-requires-clause-fresh g c = c.requires.fresh

pub equal_next-requires-clause-table : goal.equal_next-requires-clause-table
equal_next-requires-clause-table g c = c.requires.table

pub equal_next-requires-clause-right : goal.equal_next-requires-clause-right
equal_next-requires-clause-right g c = c.requires.right

pub equal_next-requires-clause-fresh : goal.equal_next-requires-clause-fresh
equal_next-requires-clause-fresh g c = c.requires.fresh
