use Rattle.std.proofs.Common.{refl}
use Rattle.ll_bank.proofs.FlatLemmas.{stored_formula, form_view, stored_same, on_either, on_ok}
use Rattle.ll_bank.proofs.flat.Flat.push_form.Goals as goal

pub invariant_of-self : goal.invariant_of-self
invariant_of-self c =
    let f = c.self.inside in let g = c.store_form.new in
    on_either c.store_form.result c.store_form.ensures.stored c.store_form.ensures.behind c.store_form.ensures.refused_forms
    c.store_form.ensures.refused_arguments
    (stored_formula f.arguments.items f.load_arguments.items f.terms.items f.forms.items c.self.invariant c.args.node g.arguments.items g.forms.items)
    (λ e a. stored_same f.arguments.items f.load_arguments.items f.arguments.items g.arguments.items f.terms.items f.terms.items f.forms.items g.forms.items
    c.self.invariant refl a refl e)

pub returns-clause-added : goal.returns-clause-added
returns-clause-added c =
    let f = c.self.inside in let g = c.store_form.new in
    on_ok c.store_form.result c.store_form.ensures.stored c.store_form.ensures.behind
    (λ e a. form_view f.arguments.items f.load_arguments.items f.terms.items f.forms.items c.self.invariant c.args.node g.arguments.items g.forms.items e a
    c.args.self.now c.self.view_is)
