use Rattle.std.proofs.Common.{refl}
use Rattle.ll_bank.specs.Term.{Var, Int}
use Rattle.ll_bank.specs.Nodes.{term_trees}
use Rattle.ll_unify.proofs.Copies.{changed-leaf, changed-same, changed-head}
use Rattle.ll_unify.proofs.read.changed_head.Goals as goal

pub returns-then-are_same : goal.returns-then-are_same
returns-then-are_same c = changed-same c.args.bank.now c.args.at.0 c.in-App.head c.in-App.args.now c.args.copied.now c.in-App.ensures.shown.0
    (c.are_same.ensures c.if-are_same.true)

pub returns-else-are_same : goal.returns-else-are_same
returns-else-are_same c = changed-head c.args.bank.now c.args.at.0 c.in-App.head (term_trees c.args.bank.now c.in-App.args.now) c.in-App.ensures.shown.0

pub returns-in-Var : goal.returns-in-Var
returns-in-Var c = changed-leaf c.args.bank.now c.args.at.0 c.args.copied.now (Var c.in-Var.field-0) c.in-Var.ensures.shown refl

pub returns-in-Int : goal.returns-in-Int
returns-in-Int c = changed-leaf c.args.bank.now c.args.at.0 c.args.copied.now (Int c.in-Int.field-0) c.in-Int.ensures.shown refl
