use Rattle.std.proofs.lemmas.Result.{IfOk-from_err}
use Rattle.std.proofs.Common.{◌<◌, length, arith, ap, ◌∙◌}
use Rattle.std.proofs.lemmas.List.{take_all}
use Rattle.ll_bank.specs.Nodes.{node_of}
use Rattle.ll_bank.specs.Tail.{with_forms}
use Rattle.ll_bank.proofs.TailLemmas.{none_added_forms, form_added, form_fits}
use Rattle.ll_bank.proofs.tail.add_forms.Goals as goal

pub loop-i-init : goal.loop-i-init
loop-i-init c = none_added_forms c.args.bank.now

pub form-requires-in-loop-i : goal.form-requires-in-loop-i
form-requires-in-loop-i c =
    let s = ap (λ s. s.forms) c.size-i-end.ensures in let l : c.loop-i.i < length c.args.flat.now.nodes.forms = omega arith in
    form_fits c.args.bank.now c.loop-i.bank c.args.flat.now.nodes c.loop-i.i c.form.result c.loop-i.invariant.is l c.form.ensures
    (c.requires c.loop-i.i (node_of c.form.result) l)

pub loop-i-preserved : goal.loop-i-preserved
loop-i-preserved c =
    let s = ap (λ s. s.forms) c.size-i-end.ensures in
    form_added c.args.bank.now c.loop-i.bank c.form-in-loop-i.new.self c.args.flat.now.nodes c.loop-i.i (node_of c.form.result) c.loop-i.invariant
    c.in_ok-form.ensures.added
    c.in_ok-form.ensures.keeps (omega arith) c.form.ensures

pub returns-clause-added : goal.returns-clause-added
returns-clause-added c =
    let s = ap (λ s. s.forms) c.size-i-end.ensures in
    c.loop-i.invariant.is ∙ ap (with_forms c.args.bank.now) (take_all c.loop-i.i c.args.flat.now.nodes.forms (omega arith))

pub returns-in_err-form-clause-added : goal.returns-in_err-form-clause-added
returns-in_err-form-clause-added c = IfOk-from_err c.from_residual.result _ c.from_residual.ensures.0
