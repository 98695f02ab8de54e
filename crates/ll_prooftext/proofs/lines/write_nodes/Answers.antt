use Rattle.std.proofs.lemmas.Result.{IfOk-from_err}
use Rattle.std.proofs.Common.{◌++◌, arith, ap, subst, ◌∙◌}
use Rattle.ll_laws.specs.declared.Rule.{Rule}
use Rattle.ll_laws.specs.declared.Rule.TheVariants.{One}
use Rattle.ll_printer.specs.Pieces.{BeginsText}
use Rattle.ll_prooftext.specs.Rows.{row_text}
use Rattle.ll_prooftext.proofs.writing.Writing.{parts_on, parts_refused, parts_whole, parts_ended, nodes_text}
use Rattle.ll_prooftext.proofs.lines.write_nodes.Goals as goal

pub loop-i-preserved : goal.loop-i-preserved
loop-i-preserved c =
    parts_on (row_text c.args.names.now c.args.bank.now) c.args.nodes.now c.loop-i.i c.index-nodes-i.result c.args.out.now.items c.loop-i.out.items
    c.write_node.new.out.items c.loop-i.invariant (omega arith)
    (c.in_ok-write_node.ensures.text ∙ ap (λ (r : Rule). c.loop-i.out.items ++ row_text c.args.names.now c.args.bank.now r) c.index-nodes-i.is)

pub returns-in_err-write_node-clause-begun : goal.returns-in_err-write_node-clause-begun
returns-in_err-write_node-clause-begun c =
    subst (λ t. BeginsText t c.args.out.now.items c.write_node.new.out.items) (nodes_text c.args.names.now c.args.bank.now c.args.nodes.now)
    (parts_refused (row_text c.args.names.now c.args.bank.now) c.args.nodes.now c.loop-i.i c.index-nodes-i.result c.args.out.now.items c.loop-i.out.items
    c.write_node.new.out.items c.loop-i.invariant (omega arith)
    (subst (λ (r : Rule). BeginsText (row_text c.args.names.now c.args.bank.now r) c.loop-i.out.items c.write_node.new.out.items) c.index-nodes-i.is
    c.write_node.ensures.begun))

pub returns-clause-text : goal.returns-clause-text
returns-clause-text c =
    parts_whole (row_text c.args.names.now c.args.bank.now) c.args.nodes.now c.loop-i.i One c.args.out.now.items c.loop-i.out.items c.loop-i.out.items
    c.loop-i.invariant (omega arith)
    ∙ ap (λ t. c.args.out.now.items ++ t) (nodes_text c.args.names.now c.args.bank.now c.args.nodes.now)

pub returns-clause-begun : goal.returns-clause-begun
returns-clause-begun c =
    subst (λ t. BeginsText t c.args.out.now.items c.loop-i.out.items) (nodes_text c.args.names.now c.args.bank.now c.args.nodes.now)
    (parts_ended (row_text c.args.names.now c.args.bank.now) c.args.nodes.now c.loop-i.i One c.args.out.now.items c.loop-i.out.items c.loop-i.out.items
    c.loop-i.invariant (omega arith))

pub returns-in_err-write_node-clause-text : goal.returns-in_err-write_node-clause-text
returns-in_err-write_node-clause-text c = IfOk-from_err c.from_residual.result _ c.from_residual.ensures.0
