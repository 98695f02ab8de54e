use Rattle.std.proofs.Common.{rules}
use Rattle.ll_bank.proofs.FlatLemmas.{stored_size}
use Rattle.ll_bank.proofs.flat.Flat.size.Goals as goal

pub returns : goal.returns
returns c =
    stored_size c.self.inside.arguments.items c.self.inside.load_arguments.items c.self.inside.terms.items c.self.inside.forms.items c.self.invariant
    c.args.self.now c.self.view_is
    _ (search rules) (search rules) (search rules) (search rules)
