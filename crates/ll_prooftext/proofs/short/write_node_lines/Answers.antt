use Rattle.std.proofs.lemmas.Result.{IfOk-from_err}
use Rattle.std.proofs.Common.{◌++◌, All, arith, ap, sym, subst, ◌∙◌}
use Rattle.ll_laws.specs.declared.Rule.{Rule}
use Rattle.ll_laws.specs.declared.Rule.TheVariants.{One}
use Rattle.ll_laws.specs.Output.{line}
use Rattle.ll_laws.specs.ShownLines.{line_of, HasLine}
use Rattle.ll_prooftext.specs.ProofText2.{node_text_by}
use Rattle.ll_prooftext.specs.Short.{shown, HasField, rule_places}
use Rattle.ll_prooftext.proofs.writing.Writing.{parts_on, parts_whole, flat_map-map}
use Rattle.ll_prooftext.proofs.short.write_node_lines.Goals as goal

pub loop-i-preserved : goal.loop-i-preserved
loop-i-preserved c =
    parts_on (λ (r : Rule). line (node_text_by (shown c.args.names.now c.args.bank.now c.args.fields) (line_of c.args.bank.now r))) c.args.nodes.now c.loop-i.i
    c.index-nodes-i.result c.args.out.now.items
    c.loop-i.out.items c.write_node_line.new.out.items c.loop-i.invariant (omega arith)
    (c.in_ok-write_node_line.ensures ∙ ap (λ (r : Rule). c.loop-i.out.items
    ++ line (node_text_by (shown c.args.names.now c.args.bank.now c.args.fields) (line_of c.args.bank.now r))) c.index-nodes-i.is)

pub returns : goal.returns
returns c =
    parts_whole (λ (r : Rule). line (node_text_by (shown c.args.names.now c.args.bank.now c.args.fields) (line_of c.args.bank.now r))) c.args.nodes.now
    c.loop-i.i One c.args.out.now.items
    c.loop-i.out.items c.loop-i.out.items c.loop-i.invariant (omega arith)
    ∙ ap (λ t. c.args.out.now.items ++ t) (flat_map-map (line_of c.args.bank.now)
    (λ n. line (node_text_by (shown c.args.names.now c.args.bank.now c.args.fields) n)) c.args.nodes.now)

pub write_node_line-requires : goal.write_node_line-requires
write_node_line-requires c = record {
  inside = subst (HasLine c.args.bank.now) (sym c.index-nodes-i.is) (c.requires.inside c.loop-i.i c.index-nodes-i.result (omega arith));
  rows = c.requires.rows;
  numbered = subst (λ (r : Rule). All (HasField c.args.fields) (rule_places r)) (sym c.index-nodes-i.is)
      (c.requires.numbered c.loop-i.i c.index-nodes-i.result (omega arith));
}

pub returns-in_err-write_node_line : goal.returns-in_err-write_node_line
returns-in_err-write_node_line c = IfOk-from_err c.from_residual.result _ c.from_residual.ensures.0
