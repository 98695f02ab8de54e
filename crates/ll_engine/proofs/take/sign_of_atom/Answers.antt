use Rattle.std.proofs.Common.{ap, sym, ◌∙◌}
use Rattle.ll_bank.specs.Term.{app}
use Rattle.ll_bank.specs.Nodes.{term_trees}
use Rattle.ll_unify.specs.Spines.{args_in}
use Rattle.ll_unify.proofs.CallerLemmas.{args_in-app}
use Rattle.ll_engine.proofs.take.sign_of_atom.Goals as goal

pub returns : goal.returns
returns c =
    let bank = c.args.bank.now in let e = c.in-App.ensures.shown.0 in let ts = term_trees bank c.in-App.field-1.now in
    e ∙ ap (app c.in-App.head) (sym (ap args_in e ∙ args_in-app c.in-App.head ts))
