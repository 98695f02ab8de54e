use Rattle.std.proofs.Common.{refl}
use Rattle.ll_bank.proofs.FlatLemmas.{stored_app, app_view, stored_same, on_either, on_ok}
use Rattle.ll_bank.proofs.flat.Flat.push_app.Goals as goal

pub invariant_of-self : goal.invariant_of-self
invariant_of-self c =
    let f = c.self.inside in let g = c.store_app.new in
    on_either c.store_app.result c.store_app.ensures.stored c.store_app.ensures.behind c.store_app.ensures.refused_terms c.store_app.ensures.refused_arguments
    (stored_app f.arguments.items f.load_arguments.items f.terms.items f.forms.items c.self.invariant c.args.head c.args.args.now c.args.depth g.arguments.items
    g.terms.items)
    (λ e a. stored_same f.arguments.items f.load_arguments.items g.arguments.items f.load_arguments.items f.terms.items g.terms.items f.forms.items
    f.forms.items c.self.invariant a refl e refl)

pub returns-clause-added : goal.returns-clause-added
returns-clause-added c =
    let f = c.self.inside in let g = c.store_app.new in
    on_ok c.store_app.result c.store_app.ensures.stored c.store_app.ensures.behind
    (λ e a. app_view f.arguments.items f.load_arguments.items f.terms.items f.forms.items c.self.invariant c.args.head c.args.args.now c.args.depth
    g.arguments.items g.terms.items e a c.args.self.now c.self.view_is)
