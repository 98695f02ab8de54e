use Rattle.std.proofs.Common.{reverse, ◌∙◌}
use Rattle.ll_polarity.proofs.naming.Binders.{has-shown}
use Rattle.ll_polarity.proofs.scope.Binders.has.Goals as goal

pub returns : goal.returns
returns c =
    c.is_some.ensures ∙ has-shown c.self.inside.names.now c.self.inside.innermost.items (reverse c.self.inside.rows.items) c.self.invariant c.args.self.now
    c.self.view_is c.args.name c.index.result.now c.requires c.index.ensures
