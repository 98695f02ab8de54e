use Rattle.std.proofs.Common.{ap, ◌∙◌}
use Rattle.ll_bank.specs.Nodes.{term_tree, term_trees}
use Rattle.ll_unify.specs.Spines.{args_in}
use Rattle.ll_unify.proofs.CallerLemmas.{args_in-app}
use Rattle.ll_bind.proofs.Shapes.{trees-put}
use Rattle.ll_bind.proofs.build.put_args.Goals as goal

pub returns-in-App-clause-trees : goal.returns-in-App-clause-trees
returns-in-App-clause-trees c =
    let bank = c.args.bank.now in
    trees-put c.extend_from_slice.result bank c.extend_from_slice.new.self.items c.clear.new.self.items c.in-App.places.now
    (args_in (term_tree bank c.args.at.0)) c.clear.ensures.items c.extend_from_slice.ensures.items
    (ap args_in c.in-App.ensures.shown.0 ∙ args_in-app c.in-App.field-0 (term_trees bank c.in-App.places.now))
