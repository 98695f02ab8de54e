use Rattle.std.proofs.Common.{◌≡◌, length, rules}
use Rattle.std.proofs.lemmas.Result.{IfOk-from_err}
use Rattle.ll_polarity.proofs.naming.Binders.{opened-kept}
use Rattle.ll_polarity.proofs.scope.Binders.open.Goals as goal

pub invariant_of-self-2 : goal.invariant_of-self-2
invariant_of-self-2 c =
    let n : c.len.result ≡ length c.push.new.self.items = search rules in
    opened-kept c.self.inside.names.now c.self.inside.innermost.items c.self.inside.rows.items c.push.new.self.items
    (record { name = c.args.name; local = c.args.local; hidden = c.index.result.now }) c.len.result c.self.invariant
    c.args.self.now c.self.view_is c.requires c.index.ensures c.in_ok-push.ensures.items n

pub returns-in_err-push-clause-opened : goal.returns-in_err-push-clause-opened
returns-in_err-push-clause-opened c = IfOk-from_err c.from_residual.result _ c.from_residual.ensures.0

pub returns-clause-refused : goal.returns-clause-refused
returns-clause-refused c = _
