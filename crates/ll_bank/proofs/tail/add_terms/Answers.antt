use Rattle.std.proofs.lemmas.Result.{IfOk-from_err}
use Rattle.std.proofs.Common.{◌<◌, length, arith, ap, ◌∙◌}
use Rattle.std.proofs.lemmas.List.{take_all}
use Rattle.ll_bank.specs.Nodes.{node_of_term}
use Rattle.ll_bank.specs.Tail.{with_terms}
use Rattle.ll_bank.proofs.TailLemmas.{none_added, term_added, term_fits}
use Rattle.ll_bank.proofs.tail.add_terms.Goals as goal

pub loop-i-init : goal.loop-i-init
loop-i-init c = none_added c.args.bank.now

pub add_term-requires : goal.add_term-requires
add_term-requires c =
    let s = ap (λ s. s.terms) c.size-i-end.ensures in let l : c.loop-i.i < length c.args.flat.now.nodes.terms = omega arith in
    term_fits c.args.bank.now c.loop-i.bank c.args.flat.now.nodes c.loop-i.i (node_of_term c.term.result) c.loop-i.invariant.is l c.term.ensures
    (c.requires c.loop-i.i (node_of_term c.term.result) l)

pub loop-i-preserved : goal.loop-i-preserved
loop-i-preserved c =
    let s = ap (λ s. s.terms) c.size-i-end.ensures in
    term_added c.args.bank.now c.loop-i.bank c.add_term.new.self c.args.flat.now.nodes c.loop-i.i (node_of_term c.term.result) c.loop-i.invariant
    c.in_ok-add_term.ensures.added
    c.in_ok-add_term.ensures.keeps (omega arith) c.term.ensures

pub returns-clause-added : goal.returns-clause-added
returns-clause-added c =
    let s = ap (λ s. s.terms) c.size-i-end.ensures in
    c.loop-i.invariant.is ∙ ap (with_terms c.args.bank.now) (take_all c.loop-i.i c.args.flat.now.nodes.terms (omega arith))

pub returns-in_err-add_term-clause-added : goal.returns-in_err-add_term-clause-added
returns-in_err-add_term-clause-added c = IfOk-from_err c.from_residual.result _ c.from_residual.ensures.0
