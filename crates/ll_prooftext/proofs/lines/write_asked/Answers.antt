use Rattle.std.proofs.lemmas.Result.{IfOk-from_err}
use Rattle.std.proofs.Common.{◌++◌, arith, ap, subst, ◌∙◌}
use Rattle.ll_bank.specs.declared.At.{At}
use Rattle.ll_bank.specs.Nodes.{term_tree}
use Rattle.ll_prooftext.specs.Rows.{let_text}
use Rattle.ll_printer.specs.Pieces.{BeginsText}
use Rattle.ll_prooftext.proofs.writing.Writing.{parts_on, parts_refused, parts_whole, parts_ended, flat_map-map}
use Rattle.ll_prooftext.proofs.lines.write_asked.Goals as goal

pub loop-i-preserved : goal.loop-i-preserved
loop-i-preserved c =
    parts_on (λ (a : At). let_text c.args.names.now (term_tree c.args.bank.now a.0)) c.args.terms.now c.loop-i.i (record { 0 = 0 }) c.args.out.now.items
    c.loop-i.out.items c.write_let.new.out.items c.loop-i.invariant (omega arith)
    c.in_ok-write_let.ensures.text

pub returns-in_err-write_let-clause-begun : goal.returns-in_err-write_let-clause-begun
returns-in_err-write_let-clause-begun c =
    subst (λ t. BeginsText t c.args.out.now.items c.write_let.new.out.items)
    (flat_map-map (λ (a : At). term_tree c.args.bank.now a.0) (let_text c.args.names.now) c.args.terms.now)
    (parts_refused (λ (a : At). let_text c.args.names.now (term_tree c.args.bank.now a.0)) c.args.terms.now c.loop-i.i (record { 0 = 0 }) c.args.out.now.items
    c.loop-i.out.items c.write_let.new.out.items c.loop-i.invariant (omega arith)
    c.write_let.ensures.begun)

pub returns-clause-text : goal.returns-clause-text
returns-clause-text c =
    parts_whole (λ (a : At). let_text c.args.names.now (term_tree c.args.bank.now a.0)) c.args.terms.now c.loop-i.i (record { 0 = 0 }) c.args.out.now.items
    c.loop-i.out.items c.loop-i.out.items c.loop-i.invariant (omega arith)
    ∙ ap (λ t. c.args.out.now.items ++ t) (flat_map-map (λ (a : At). term_tree c.args.bank.now a.0) (let_text c.args.names.now) c.args.terms.now)

pub returns-clause-begun : goal.returns-clause-begun
returns-clause-begun c =
    subst (λ t. BeginsText t c.args.out.now.items c.loop-i.out.items)
    (flat_map-map (λ (a : At). term_tree c.args.bank.now a.0) (let_text c.args.names.now) c.args.terms.now)
    (parts_ended (λ (a : At). let_text c.args.names.now (term_tree c.args.bank.now a.0)) c.args.terms.now c.loop-i.i (record { 0 = 0 }) c.args.out.now.items
    c.loop-i.out.items c.loop-i.out.items c.loop-i.invariant (omega arith))

pub returns-in_err-write_let-clause-text : goal.returns-in_err-write_let-clause-text
returns-in_err-write_let-clause-text c = IfOk-from_err c.from_residual.result _ c.from_residual.ensures.0
