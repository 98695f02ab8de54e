use Rattle.ll_list_laws.proofs.CallerLemmas.{OnOk-weaker as on_ok}
use Rattle.ll_prooftext.proofs.writing.Signs.{termless}
use Rattle.std.proofs.lemmas.Result.{IfOk-from_err}
use Rattle.std.proofs.Common.{List, ◌++◌, map, ap, sym, ◌∙◌}
use Rattle.std.specs.List.{flat_map}
use Rattle.ll_bank.specs.declared.At.{At}
use Rattle.ll_bank.specs.Nodes.{term_tree, term_trees}
use Rattle.ll_laws.specs.declared.Part.{Part}
use Rattle.ll_laws.specs.declared.Rule.{Rule}
use Rattle.ll_laws.specs.Output.{line}
use Rattle.ll_laws.specs.ProofText.{part_field}
use Rattle.ll_laws.specs.ShownLines.{line_of, part_line}
use Rattle.ll_prooftext.specs.ProofText2.{node_text_by}
use Rattle.ll_prooftext.specs.Short.{shown}
use Rattle.ll_prooftext.proofs.writing.ShortLines.{exists_written, clause_written}
use Rattle.ll_prooftext.proofs.short.write_node_line.Goals as goal
use Rattle.ll_prooftext.proofs.short.write_node_line.Goals.{in-Exists+in_ok-extend_from_slice-in-Exists+in_ok-write_field-in-Exists}
use Rattle.ll_prooftext.proofs.short.write_node_line.Goals.{}
use Rattle.ll_prooftext.proofs.short.write_node_line.Goals.{in-Clause+in_ok-extend_from_slice-in-Clause+in_ok-write_number_field-in-Clause+in_ok-write_number_field-in-Clause-2+in_ok-write_fields-in-Clause+in_ok-write_part_fields-in-Clause}

pub returns : goal.returns
returns c =
    let bank = c.args.bank.now in
    let show = shown c.args.names.now bank c.args.fields in
    let end = c.in_ok-push.ensures.items in
    elim c.match-node.branch [
      | in-Exists+in_ok-extend_from_slice-in-Exists+in_ok-write_field-in-Exists w ↦
          exists_written show (term_tree bank w.in-Exists.at.0) c.args.out.now.items w.extend_from_slice.new.self.items c.match-node.out.items
          c.push.new.self.items w.in_ok-extend_from_slice-in-Exists.ensures.items
          ((λ i. (w.out-is i).items) ∙ w.in_ok-write_field-in-Exists.ensures) end
          ∙ ap (λ (r : Rule). c.args.out.now.items ++ line (node_text_by show (line_of bank r))) (sym w.in-Exists.is)
      | in-Clause+in_ok-extend_from_slice-in-Clause+in_ok-write_number_field-in-Clause+in_ok-write_number_field-in-Clause-2+in_ok-write_fields-in-Clause+in_ok-write_part_fields-in-Clause w ↦
          clause_written show w.in-Clause.label w.in-Clause.leaf (term_trees bank w.in-Clause.terms.items) (map part_line w.in-Clause.parts.items)
          c.args.out.now.items w.extend_from_slice-in-Clause.new.self.items
          w.write_number_field.new.out.items w.write_number_field-in-Clause.new.out.items w.write_fields.new.out.items c.match-node.out.items
          c.push.new.self.items w.in_ok-extend_from_slice-in-Clause.ensures.items
          w.in_ok-write_number_field-in-Clause.ensures.text w.in_ok-write_number_field-in-Clause-2.ensures.text
          (w.in_ok-write_fields-in-Clause.ensures ∙ ap (λ (ps : List At). w.write_number_field-in-Clause.new.out.items ++ flat_map show (term_trees bank ps))
          w.deref.ensures.value)
          ((λ i. (w.out-is i).items) ∙ (w.in_ok-write_part_fields-in-Clause.ensures.text
          ∙ ap (λ (ps : List Part). w.write_fields.new.out.items ++ flat_map part_field (map part_line ps)) w.deref-in-Clause.ensures.value))
          end
          ∙ ap (λ (r : Rule). c.args.out.now.items ++ line (node_text_by show (line_of bank r))) (sym w.in-Clause.is)
    ]

pub returns-in_err-extend_from_slice-in-Exists : goal.returns-in_err-extend_from_slice-in-Exists
returns-in_err-extend_from_slice-in-Exists c = IfOk-from_err c.from_residual.result _ c.from_residual.ensures.0

pub returns-in_err-write_field-in-Exists : goal.returns-in_err-write_field-in-Exists
returns-in_err-write_field-in-Exists c =
    IfOk-from_err c.from_residual-in_err-write_field-in-Exists.result _ c.from_residual-in_err-write_field-in-Exists.ensures.0

pub returns-in_err-extend_from_slice-in-Clause : goal.returns-in_err-extend_from_slice-in-Clause
returns-in_err-extend_from_slice-in-Clause c =
    IfOk-from_err c.from_residual-in_err-extend_from_slice-in-Clause.result _ c.from_residual-in_err-extend_from_slice-in-Clause.ensures.0

pub returns-in_err-write_number_field-in-Clause : goal.returns-in_err-write_number_field-in-Clause
returns-in_err-write_number_field-in-Clause c =
    IfOk-from_err c.from_residual-in_err-write_number_field-in-Clause.result _ c.from_residual-in_err-write_number_field-in-Clause.ensures.0

pub returns-in_err-write_number_field-in-Clause-2 : goal.returns-in_err-write_number_field-in-Clause-2
returns-in_err-write_number_field-in-Clause-2 c =
    IfOk-from_err c.from_residual-in_err-write_number_field-in-Clause-2.result _ c.from_residual-in_err-write_number_field-in-Clause-2.ensures.0

pub returns-in_err-write_fields-in-Clause : goal.returns-in_err-write_fields-in-Clause
returns-in_err-write_fields-in-Clause c =
    IfOk-from_err c.from_residual-in_err-write_fields-in-Clause.result _ c.from_residual-in_err-write_fields-in-Clause.ensures.0

pub returns-in_err-write_part_fields-in-Clause : goal.returns-in_err-write_part_fields-in-Clause
returns-in_err-write_part_fields-in-Clause c =
    IfOk-from_err c.from_residual-in_err-write_part_fields-in-Clause.result _ c.from_residual-in_err-write_part_fields-in-Clause.ensures.0

pub returns-in_err-push : goal.returns-in_err-push
returns-in_err-push c = IfOk-from_err c.from_residual-in_err-push.result _ c.from_residual-in_err-push.ensures.0

pub returns-in_default : goal.returns-in_default
returns-in_default c =
    on_ok c.write_plain_node.result (λ e. e (shown c.args.names.now c.args.bank.now c.args.fields)) c.write_plain_node.ensures

pub write_plain_node-requires : goal.write_plain_node-requires
write_plain_node-requires c = record { inside = c.requires.inside; plain = termless c.args.node.now c.in_default.not-Exists c.in_default.not-Clause }

pub write_field-requires-clause-rows : goal.write_field-requires-clause-rows
write_field-requires-clause-rows c = c.requires.rows

pub write_fields-requires-clause-rows : goal.write_fields-requires-clause-rows
write_fields-requires-clause-rows c = c.requires.rows
