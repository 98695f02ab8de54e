use Rattle.ll_bank.specs.declared.Head.TheVariants.{Name, Eigen, Bound}
use Rattle.ll_bank.specs.Nodes.{term_tree, term_trees}
use Rattle.ll_unify.proofs.Scans.{look-app}
use Rattle.ll_unify.proofs.scan.Seen.look.Goals as goal

pub returns-in-App-Eigen-default-clause-look : goal.returns-in-App-Eigen-default-clause-look
returns-in-App-Eigen-default-clause-look c =
    look-app (term_tree c.args.bank.now c.args.at.0) (Eigen c.in-App-Eigen-default.eigen) (term_trees c.args.bank.now c.in-App-Eigen-default.field-1.now)
    c.args.var c.args.level c.args.self.now.vars.items
    (rw c.in-App-Eigen-default.field-0-is at c.in-App-Eigen-default.ensures.shown.0)

pub returns-in-App-Name-default-clause-look : goal.returns-in-App-Name-default-clause-look
returns-in-App-Name-default-clause-look c =
    look-app (term_tree c.args.bank.now c.args.at.0) (Name c.in-App-Name-default.field-0-0) (term_trees c.args.bank.now c.in-App-Name-default.field-1.now)
    c.args.var c.args.level c.args.self.now.vars.items
    (rw c.in-App-Name-default.field-0-is at c.in-App-Name-default.ensures.shown.0)

pub returns-in-App-Bound-default-clause-look : goal.returns-in-App-Bound-default-clause-look
returns-in-App-Bound-default-clause-look c =
    look-app (term_tree c.args.bank.now c.args.at.0) (Bound c.in-App-Bound-default.field-0-0) (term_trees c.args.bank.now c.in-App-Bound-default.field-1.now)
    c.args.var c.args.level c.args.self.now.vars.items
    (rw c.in-App-Bound-default.field-0-is at c.in-App-Bound-default.ensures.shown.0)
