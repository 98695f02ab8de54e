use Rattle.std.proofs.lemmas.Result.{IfOk-from_err}
use Rattle.std.proofs.Common.{◌≡◌, List, ◌<◌, ◌++◌, length, map, All, ap, sym, subst, ◌∙◌, codes}
use Rattle.std.specs.List.{flat_map}
use Rattle.std.proofs.lemmas.List.Elements.{All-append}
use Rattle.ll_bank.specs.declared.At.{At}
use Rattle.ll_bank.specs.Nodes.{term_trees, AllInTerms}
use Rattle.ll_laws.specs.declared.Rule.{Rule}
use Rattle.ll_laws.specs.Line.{DerivationLines}
use Rattle.ll_laws.specs.Output.{line}
use Rattle.ll_laws.specs.ShownLines.{line_of, HasLines}
use Rattle.ll_prooftext.specs.ProofText2.{share_line, short_field, let_text_by, node_text_by, proof_text2}
use Rattle.ll_prooftext.specs.Short.{rule_places}
use Rattle.ll_prooftext.specs.Table.{completed, rows_in}
use Rattle.ll_prooftext.specs.Tables.{HasNumberAt, IsTableOf}
use Rattle.ll_prooftext.proofs.writing.ShortLines.{All-left, All-right, each_node, inside_nodes, four_parts, fields_of, text2_is}
use Rattle.ll_prooftext.proofs.text2.Goals as goal

-- all places, of what was asked and of the rules that were read
all_places : {read made asked asks : List At} {nodes rs : List Rule} → read ≡ made → made ≡ asks ++ flat_map rule_places rs → asks ≡ asked
    → rs ≡ nodes → read ≡ asked ++ flat_map rule_places nodes
all_places e is f g = e ∙ (is ∙ (λ i. f i ++ flat_map rule_places (g i)))

pub places_of-requires : goal.places_of-requires
places_of-requires c = tt

pub table_of-requires : goal.table_of-requires
table_of-requires c =
    let bank = c.derivation.inside.bank in
    let places = all_places c.deref-3.ensures.value c.in_ok-places.ensures c.deref.ensures.value c.deref-2.ensures.value in
    subst (AllInTerms bank) (sym places) (All-append (λ (a : At). a.0 < length bank.terms) c.derivation.inside.asked.items
    (flat_map rule_places c.derivation.inside.nodes.items) c.derivation.invariant.0
    (inside_nodes bank c.derivation.inside.nodes.items c.derivation.invariant.1))

pub write_shares-requires : goal.write_shares-requires
write_shares-requires c =
    let table = c.in_ok-table.ensures.table in
    subst (IsTableOf c.derivation.inside.bank c.in_ok-table.table) (sym table.terms) table

pub write_lets-requires : goal.write_lets-requires
write_lets-requires c =
    let bank = c.derivation.inside.bank in
    let table = c.in_ok-table.ensures.table in
    let P : At → Type 0 = λ a. HasNumberAt c.in_ok-table.table a.0 in
    let places = all_places c.deref-3.ensures.value c.in_ok-places.ensures c.deref.ensures.value c.deref-2.ensures.value in
    let reach = subst (λ (ps : List At). All P ps) places c.in_ok-table.ensures.reach in
    record {
      inside = subst (AllInTerms bank) (sym c.deref-4.ensures.value) c.derivation.invariant.0;
      rows = subst (IsTableOf bank c.in_ok-table.table) (sym table.terms) table;
      numbered = subst (λ (ps : List At). All P ps) (sym c.deref-4.ensures.value)
          (All-left P c.derivation.inside.asked.items (flat_map rule_places c.derivation.inside.nodes.items) reach);
    }

pub write_node_lines-requires : goal.write_node_lines-requires
write_node_lines-requires c =
    let bank = c.derivation.inside.bank in
    let table = c.in_ok-table.ensures.table in
    let P : At → Type 0 = λ a. HasNumberAt c.in_ok-table.table a.0 in
    let places = all_places c.deref-3.ensures.value c.in_ok-places.ensures c.deref.ensures.value c.deref-2.ensures.value in
    let reach = subst (λ (ps : List At). All P ps) places c.in_ok-table.ensures.reach in
    record {
      inside = subst (HasLines bank) (sym c.deref-5.ensures.value) c.derivation.invariant.1;
      rows = subst (IsTableOf bank c.in_ok-table.table) (sym table.terms) table;
      numbered = subst (λ (rs : List Rule). All (λ r. All P (rule_places r)) rs) (sym c.deref-5.ensures.value)
          (each_node P c.derivation.inside.nodes.items (All-right P c.derivation.inside.asked.items (flat_map rule_places c.derivation.inside.nodes.items)
          reach));
    }

pub returns : goal.returns
returns c =
    let names = c.args.names.now in
    let bank = c.derivation.inside.bank in
    let asked = c.derivation.inside.asked.items in
    let nodes = c.derivation.inside.nodes.items in
    let d : DerivationLines = record { asked = term_trees bank asked; nodes = map (line_of bank) nodes } in
    let rows = term_trees bank c.in_ok-table.table.rows.items in
    let places = all_places c.deref-3.ensures.value c.in_ok-places.ensures c.deref.ensures.value c.deref-2.ensures.value in
    four_parts (line (codes "proof 2")) (flat_map (share_line names rows) rows) (flat_map (λ t. line (let_text_by (short_field names rows) t)) d.asked)
    (flat_map (λ n. line (node_text_by (short_field names rows) n)) d.nodes) c.extend_from_slice.new.self.items c.write_shares.new.out.items
    c.write_lets.new.out.items c.write_node_lines.new.out.items
    (c.in_ok-extend_from_slice.ensures.items ∙ ap (λ t. t ++ codes "proof 2\n") c.new-text.ensures.items) c.in_ok-write_shares.ensures
    (c.in_ok-write_lets.ensures ∙ ap (λ (ps : List At). c.write_shares.new.out.items
    ++ flat_map (λ t. line (let_text_by (short_field names rows) t)) (term_trees bank ps)) c.deref-4.ensures.value)
    (c.in_ok-write_node_lines.ensures ∙ ap (λ (rs : List Rule). c.write_lets.new.out.items
    ++ flat_map (λ n. line (node_text_by (short_field names rows) n)) (map (line_of bank) rs)) c.deref-5.ensures.value)
    ∙ (text2_is names d rows (c.in_ok-table.ensures.table.terms
    ∙ ap (λ ts. rows_in (flat_map completed ts)) (ap (term_trees bank) places ∙ fields_of bank asked nodes))
    ∙ ap (proof_text2 names) c.derivation.view_is)

pub returns-in_err-places : goal.returns-in_err-places
returns-in_err-places c = IfOk-from_err c.from_residual.result _ c.from_residual.ensures.0

pub returns-in_err-table : goal.returns-in_err-table
returns-in_err-table c = IfOk-from_err c.from_residual-in_err-table.result _ c.from_residual-in_err-table.ensures.0

pub returns-in_err-extend_from_slice : goal.returns-in_err-extend_from_slice
returns-in_err-extend_from_slice c = IfOk-from_err c.from_residual-in_err-extend_from_slice.result _ c.from_residual-in_err-extend_from_slice.ensures.0

pub returns-in_err-write_shares : goal.returns-in_err-write_shares
returns-in_err-write_shares c = IfOk-from_err c.from_residual-in_err-write_shares.result _ c.from_residual-in_err-write_shares.ensures.0

pub returns-in_err-write_lets : goal.returns-in_err-write_lets
returns-in_err-write_lets c = IfOk-from_err c.from_residual-in_err-write_lets.result _ c.from_residual-in_err-write_lets.ensures.0

pub returns-in_err-write_node_lines : goal.returns-in_err-write_node_lines
returns-in_err-write_node_lines c = IfOk-from_err c.from_residual-in_err-write_node_lines.result _ c.from_residual-in_err-write_node_lines.ensures.0
