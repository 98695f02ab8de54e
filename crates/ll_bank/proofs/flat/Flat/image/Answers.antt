use Rattle.std.proofs.lemmas.Result.{IfOk-from_err}
use Rattle.std.proofs.Common.{ap, sym, ◌∙◌, take, length}
use Rattle.std.proofs.lemmas.List.{length-take-le}
use Rattle.ll_bank.specs.Kept.{deep_front}
use Rattle.ll_bank.proofs.FlatLemmas.{stored_cut, cut_nodes, front_of, arguments_le, load_arguments_le}
use Rattle.ll_bank.proofs.flat.Flat.image.Goals as goal

pub slice_bounds-from_slice-end-3 : goal.slice_bounds-from_slice-end-3
slice_bounds-from_slice-end-3 c =
    let f = c.self.inside in
    sym (ap (λ xs. length (take c.args.size.arguments xs)) c.deref-3.ensures.value
    ∙ length-take-le c.args.size.arguments f.arguments.items
    (arguments_le f.arguments.items f.load_arguments.items f.terms.items f.forms.items c.self.invariant c.args.size
    (front_of _ c.args.self.now c.self.view_is c.args.size c.requires)))

pub slice_bounds-from_slice-end-4 : goal.slice_bounds-from_slice-end-4
slice_bounds-from_slice-end-4 c =
    let f = c.self.inside in
    sym (ap (λ xs. length (take c.args.size.load_arguments xs)) c.deref-4.ensures.value
    ∙ length-take-le c.args.size.load_arguments f.load_arguments.items
    (load_arguments_le f.arguments.items f.load_arguments.items f.terms.items f.forms.items c.self.invariant c.args.size
    (front_of _ c.args.self.now c.self.view_is c.args.size c.requires)))

pub invariant_of-result : goal.invariant_of-result
invariant_of-result c =
    let f = c.self.inside in
    stored_cut f.arguments.items f.load_arguments.items f.terms.items f.forms.items c.self.invariant c.args.size
    (front_of _ c.args.self.now c.self.view_is c.args.size c.requires)
    c.in_ok-arguments.arguments.items c.in_ok-load_arguments.load_arguments.items c.in_ok-terms.terms.items c.in_ok-forms.forms.items
    (c.in_ok-arguments.ensures.items ∙ ap (take c.args.size.arguments) c.deref-3.ensures.value)
    (c.in_ok-load_arguments.ensures.items ∙ ap (take c.args.size.load_arguments) c.deref-4.ensures.value)
    (c.in_ok-terms.ensures.items ∙ ap (take c.args.size.terms) c.deref.ensures.value)
    (c.in_ok-forms.ensures.items ∙ ap (take c.args.size.forms) c.deref-2.ensures.value)

pub returns : goal.returns
returns c =
    let f = c.self.inside in
    cut_nodes f.arguments.items f.load_arguments.items f.terms.items f.forms.items c.self.invariant c.args.size
    (front_of _ c.args.self.now c.self.view_is c.args.size c.requires)
    c.in_ok-arguments.arguments.items c.in_ok-load_arguments.load_arguments.items c.in_ok-terms.terms.items c.in_ok-forms.forms.items
    (c.in_ok-arguments.ensures.items ∙ ap (take c.args.size.arguments) c.deref-3.ensures.value)
    (c.in_ok-load_arguments.ensures.items ∙ ap (take c.args.size.load_arguments) c.deref-4.ensures.value)
    (c.in_ok-terms.ensures.items ∙ ap (take c.args.size.terms) c.deref.ensures.value)
    (c.in_ok-forms.ensures.items ∙ ap (take c.args.size.forms) c.deref-2.ensures.value)
    ∙ ap (λ n. deep_front n c.args.size) c.self.view_is

pub returns-in_err-terms : goal.returns-in_err-terms
returns-in_err-terms c = IfOk-from_err c.from_residual.result _ c.from_residual.ensures.0

pub returns-in_err-forms : goal.returns-in_err-forms
returns-in_err-forms c = IfOk-from_err c.from_residual-in_err-forms.result _ c.from_residual-in_err-forms.ensures.0

pub returns-in_err-arguments : goal.returns-in_err-arguments
returns-in_err-arguments c = IfOk-from_err c.from_residual-in_err-arguments.result _ c.from_residual-in_err-arguments.ensures.0

pub returns-in_err-load_arguments : goal.returns-in_err-load_arguments
returns-in_err-load_arguments c = IfOk-from_err c.from_residual-in_err-load_arguments.result _ c.from_residual-in_err-load_arguments.ensures.0
