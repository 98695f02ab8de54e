use Rattle.std.proofs.Common.{◌∙◌, ap, sym, List}
use Rattle.std.proofs.lemmas.Result.{IfOk-from_err}
use Rattle.ll_laws.specs.declared.Clause.{Clause}
use Rattle.ll_trace.specs.Start.{linear_labels}
use Rattle.ll_trace.proofs.Answers.{walked}
use Rattle.ll_trace.proofs.ExplainLemmas.{explaining, used_is, told_count, inside_is, asked_there, asked_is, asked_in, nodes_in, explained, is_shown}
use Rattle.ll_trace.proofs.explain.Goals as goal

pub nodes-requires-clause-inside : goal.nodes-requires-clause-inside
nodes-requires-clause-inside c =
    let h = explaining c.problem.inside c.branch.inside (walked c.answers_are_shown.ensures _ _ c.requires.valid c.requires.answer) c.problem.view_is
    c.branch.view_is c.problem.invariant c.branch.invariant c.deref-3.ensures.value c.deref-2.ensures.value c.deref-4.ensures.value c.deref-5.ensures.value
    c.len-count.ensures c.in_ok-walker.ensures in
    inside_is h _

pub nodes-requires-clause-used : goal.nodes-requires-clause-used
nodes-requires-clause-used c =
    let h = explaining c.problem.inside c.branch.inside (walked c.answers_are_shown.ensures _ _ c.requires.valid c.requires.answer) c.problem.view_is
    c.branch.view_is c.problem.invariant c.branch.invariant c.deref-3.ensures.value c.deref-2.ensures.value c.deref-4.ensures.value c.deref-5.ensures.value
    c.len-count.ensures c.in_ok-walker.ensures in
    used_is h

pub nodes-requires-clause-told : goal.nodes-requires-clause-told
nodes-requires-clause-told c =
    let h = explaining c.problem.inside c.branch.inside (walked c.answers_are_shown.ensures _ _ c.requires.valid c.requires.answer) c.problem.view_is
    c.branch.view_is c.problem.invariant c.branch.invariant c.deref-3.ensures.value c.deref-2.ensures.value c.deref-4.ensures.value c.deref-5.ensures.value
    c.len-count.ensures c.in_ok-walker.ensures in
    told_count h

pub slice_bounds-from_slice-end : goal.slice_bounds-from_slice-end
slice_bounds-from_slice-end c =
    let h = explaining c.problem.inside c.branch.inside (walked c.answers_are_shown.ensures _ _ c.requires.valid c.requires.answer) c.problem.view_is
    c.branch.view_is c.problem.invariant c.branch.invariant c.deref-3.ensures.value c.deref-2.ensures.value c.deref-4.ensures.value c.deref-5.ensures.value
    c.len-count.ensures c.in_ok-walker.ensures in
    asked_there h (c.deref-6.ensures.value ∙ sym c.deref-4.ensures.value)

pub invariant_of-result : goal.invariant_of-result
invariant_of-result c =
    let h = explaining c.problem.inside c.branch.inside (walked c.answers_are_shown.ensures _ _ c.requires.valid c.requires.answer) c.problem.view_is
    c.branch.view_is c.problem.invariant c.branch.invariant c.deref-3.ensures.value c.deref-2.ensures.value c.deref-4.ensures.value c.deref-5.ensures.value
    c.len-count.ensures c.in_ok-walker.ensures in
    let asked = asked_is h (c.deref-6.ensures.value ∙ sym c.deref-4.ensures.value) c.in_ok-asked.ensures.items in (
      asked_in h c.in_ok-bank.ensures c.size.ensures.is c.in_ok-asked.asked.items asked,
      nodes_in h c.in_ok-bank.ensures c.size.ensures.is c.in_ok-nodes.nodes.items c.deal.new.rules.items c.in_ok-nodes.ensures
          (c.in_ok-deal.ensures.places c.in_ok-bank.bank),
    )

pub returns-clause-dealt : goal.returns-clause-dealt
returns-clause-dealt c =
    let h = explaining c.problem.inside c.branch.inside (walked c.answers_are_shown.ensures _ _ c.requires.valid c.requires.answer) c.problem.view_is
    c.branch.view_is c.problem.invariant c.branch.invariant c.deref-3.ensures.value c.deref-2.ensures.value c.deref-4.ensures.value c.deref-5.ensures.value
    c.len-count.ensures c.in_ok-walker.ensures in
    let asked = asked_is h (c.deref-6.ensures.value ∙ sym c.deref-4.ensures.value) c.in_ok-asked.ensures.items in
    explained h c.in_ok-bank.ensures c.size.ensures.is c.in_ok-nodes.nodes.items c.deal.new.rules.items c.in_ok-labels.labels.items
    c.in_ok-asked.asked.items c.in_ok-nodes.ensures
    (c.in_ok-labels.ensures ∙ ap (λ (xs : List Clause). linear_labels 0 xs) (c.deref.ensures.value ∙ sym c.deref-2.ensures.value))
    (c.in_ok-deal.ensures.dealt c.in_ok-bank.bank) asked

pub returns-clause-whole : goal.returns-clause-whole
returns-clause-whole c = (is_shown c.answers_are_shown.ensures c.args.problem.now c.args.branch.now c.requires.valid c.requires.answer _
    (returns-clause-dealt c)).whole

pub returns-clause-shows : goal.returns-clause-shows
returns-clause-shows c = (is_shown c.answers_are_shown.ensures c.args.problem.now c.args.branch.now c.requires.valid c.requires.answer _
    (returns-clause-dealt c)).shows

pub returns-clause-count : goal.returns-clause-count
returns-clause-count c = (is_shown c.answers_are_shown.ensures c.args.problem.now c.args.branch.now c.requires.valid c.requires.answer _
    (returns-clause-dealt c)).count

pub returns-in_err-labels-clause-dealt : goal.returns-in_err-labels-clause-dealt
returns-in_err-labels-clause-dealt c = IfOk-from_err c.from_residual.result _ c.from_residual.ensures.0

pub returns-in_err-labels-clause-whole : goal.returns-in_err-labels-clause-whole
returns-in_err-labels-clause-whole c = IfOk-from_err c.from_residual.result _ c.from_residual.ensures.0

pub returns-in_err-labels-clause-shows : goal.returns-in_err-labels-clause-shows
returns-in_err-labels-clause-shows c = IfOk-from_err c.from_residual.result _ c.from_residual.ensures.0

pub returns-in_err-labels-clause-count : goal.returns-in_err-labels-clause-count
returns-in_err-labels-clause-count c = IfOk-from_err c.from_residual.result _ c.from_residual.ensures.0

pub returns-in_err-walker-clause-dealt : goal.returns-in_err-walker-clause-dealt
returns-in_err-walker-clause-dealt c = IfOk-from_err c.from_residual-in_err-walker.result _ c.from_residual-in_err-walker.ensures.0

pub returns-in_err-walker-clause-whole : goal.returns-in_err-walker-clause-whole
returns-in_err-walker-clause-whole c = IfOk-from_err c.from_residual-in_err-walker.result _ c.from_residual-in_err-walker.ensures.0

pub returns-in_err-walker-clause-shows : goal.returns-in_err-walker-clause-shows
returns-in_err-walker-clause-shows c = IfOk-from_err c.from_residual-in_err-walker.result _ c.from_residual-in_err-walker.ensures.0

pub returns-in_err-walker-clause-count : goal.returns-in_err-walker-clause-count
returns-in_err-walker-clause-count c = IfOk-from_err c.from_residual-in_err-walker.result _ c.from_residual-in_err-walker.ensures.0

pub returns-in_err-nodes-clause-dealt : goal.returns-in_err-nodes-clause-dealt
returns-in_err-nodes-clause-dealt c = IfOk-from_err c.from_residual-in_err-nodes.result _ c.from_residual-in_err-nodes.ensures.0

pub returns-in_err-nodes-clause-whole : goal.returns-in_err-nodes-clause-whole
returns-in_err-nodes-clause-whole c = IfOk-from_err c.from_residual-in_err-nodes.result _ c.from_residual-in_err-nodes.ensures.0

pub returns-in_err-nodes-clause-shows : goal.returns-in_err-nodes-clause-shows
returns-in_err-nodes-clause-shows c = IfOk-from_err c.from_residual-in_err-nodes.result _ c.from_residual-in_err-nodes.ensures.0

pub returns-in_err-nodes-clause-count : goal.returns-in_err-nodes-clause-count
returns-in_err-nodes-clause-count c = IfOk-from_err c.from_residual-in_err-nodes.result _ c.from_residual-in_err-nodes.ensures.0

pub returns-in_err-deal-clause-dealt : goal.returns-in_err-deal-clause-dealt
returns-in_err-deal-clause-dealt c = IfOk-from_err c.from_residual-in_err-deal.result _ c.from_residual-in_err-deal.ensures.0

pub returns-in_err-deal-clause-whole : goal.returns-in_err-deal-clause-whole
returns-in_err-deal-clause-whole c = IfOk-from_err c.from_residual-in_err-deal.result _ c.from_residual-in_err-deal.ensures.0

pub returns-in_err-deal-clause-shows : goal.returns-in_err-deal-clause-shows
returns-in_err-deal-clause-shows c = IfOk-from_err c.from_residual-in_err-deal.result _ c.from_residual-in_err-deal.ensures.0

pub returns-in_err-deal-clause-count : goal.returns-in_err-deal-clause-count
returns-in_err-deal-clause-count c = IfOk-from_err c.from_residual-in_err-deal.result _ c.from_residual-in_err-deal.ensures.0

pub returns-in_err-asked-clause-dealt : goal.returns-in_err-asked-clause-dealt
returns-in_err-asked-clause-dealt c = IfOk-from_err c.from_residual-in_err-asked.result _ c.from_residual-in_err-asked.ensures.0

pub returns-in_err-asked-clause-whole : goal.returns-in_err-asked-clause-whole
returns-in_err-asked-clause-whole c = IfOk-from_err c.from_residual-in_err-asked.result _ c.from_residual-in_err-asked.ensures.0

pub returns-in_err-asked-clause-shows : goal.returns-in_err-asked-clause-shows
returns-in_err-asked-clause-shows c = IfOk-from_err c.from_residual-in_err-asked.result _ c.from_residual-in_err-asked.ensures.0

pub returns-in_err-asked-clause-count : goal.returns-in_err-asked-clause-count
returns-in_err-asked-clause-count c = IfOk-from_err c.from_residual-in_err-asked.result _ c.from_residual-in_err-asked.ensures.0

pub returns-in_err-bank-clause-dealt : goal.returns-in_err-bank-clause-dealt
returns-in_err-bank-clause-dealt c = IfOk-from_err c.from_residual-in_err-bank.result _ c.from_residual-in_err-bank.ensures.0

pub returns-in_err-bank-clause-whole : goal.returns-in_err-bank-clause-whole
returns-in_err-bank-clause-whole c = IfOk-from_err c.from_residual-in_err-bank.result _ c.from_residual-in_err-bank.ensures.0

pub returns-in_err-bank-clause-shows : goal.returns-in_err-bank-clause-shows
returns-in_err-bank-clause-shows c = IfOk-from_err c.from_residual-in_err-bank.result _ c.from_residual-in_err-bank.ensures.0

pub returns-in_err-bank-clause-count : goal.returns-in_err-bank-clause-count
returns-in_err-bank-clause-count c = IfOk-from_err c.from_residual-in_err-bank.result _ c.from_residual-in_err-bank.ensures.0
