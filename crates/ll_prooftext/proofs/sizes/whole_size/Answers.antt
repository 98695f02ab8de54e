use Rattle.std.proofs.lemmas.Result.{IfOk-from_err}
use Rattle.std.proofs.Common.{List, ◌+◌, ◌<◌, ◌++◌, length, map, All, ap, sym, subst, ◌∙◌, append_assoc, codes}
use Rattle.std.specs.List.{flat_map}
use Rattle.std.proofs.lemmas.List.Elements.{All-append}
use Rattle.ll_bank.specs.declared.At.{At}
use Rattle.ll_bank.specs.Nodes.{term_trees, AllInTerms}
use Rattle.ll_laws.specs.declared.Rule.{Rule}
use Rattle.ll_laws.specs.Line.{DerivationLines}
use Rattle.ll_laws.specs.Output.{line}
use Rattle.ll_laws.specs.ProofText.{proof_text, term_field}
use Rattle.ll_laws.specs.Search.{cut_count}
use Rattle.ll_laws.specs.ShownLines.{line_of, HasLines}
use Rattle.ll_prooftext.specs.declared.sizes.Length.{Length}
use Rattle.ll_prooftext.specs.ProofText2.{let_text_by, node_text_by}
use Rattle.ll_prooftext.specs.Short.{rule_places}
use Rattle.ll_prooftext.specs.Lengths.{AreLengths}
use Rattle.ll_prooftext.proofs.writing.ShortLines.{inside_nodes, fields_of}
use Rattle.ll_prooftext.proofs.writing.Sizing.{nothing, whole_length}
use Rattle.ll_prooftext.proofs.sizes.whole_size.Goals as goal

pub term_lengths-requires : goal.term_lengths-requires
term_lengths-requires c =
    let bank = c.derivation.inside.bank in
    let places = c.deref-3.ensures.value ∙ (c.in_ok-places.ensures ∙ (λ i. c.deref.ensures.value i ++ flat_map rule_places (c.deref-2.ensures.value i))) in
    subst (AllInTerms bank) (sym places)
    (All-append (λ (a : At). a.0 < length bank.terms) c.derivation.inside.asked.items (flat_map rule_places c.derivation.inside.nodes.items)
    c.derivation.invariant.0
    (inside_nodes bank c.derivation.inside.nodes.items c.derivation.invariant.1))

pub write_lets-requires : goal.write_lets-requires
write_lets-requires c = record {
  inside = subst (AllInTerms c.derivation.inside.bank) (sym c.deref-4.ensures.value) c.derivation.invariant.0;
  rows = tt;
  numbered = λ k d l. tt;
}

pub write_node_lines-requires : goal.write_node_lines-requires
write_node_lines-requires c = record {
  inside = subst (HasLines c.derivation.inside.bank) (sym c.deref-5.ensures.value) c.derivation.invariant.1;
  rows = tt;
  numbered = λ k d l k' d' l'. tt;
}

pub fields_length-requires : goal.fields_length-requires
fields_length-requires c =
    let bank = c.derivation.inside.bank in
    let places = c.deref-6.ensures.value ∙ (c.in_ok-places.ensures ∙ (λ i. c.deref.ensures.value i ++ flat_map rule_places (c.deref-2.ensures.value i))) in
    record {
      inside = subst (AllInTerms bank) (sym places)
          (All-append (λ (a : At). a.0 < length bank.terms) c.derivation.inside.asked.items (flat_map rule_places c.derivation.inside.nodes.items)
          c.derivation.invariant.0
          (inside_nodes bank c.derivation.inside.nodes.items c.derivation.invariant.1));
      reach = subst (λ (ls : List Length). All (λ (a : At). a.0 < length ls) c.deref-6.result.now) (sym c.deref-7.ensures.value)
          (subst (λ (ps : List At). All (λ (a : At). a.0 < length c.in_ok-lengths.lengths.items) ps) (c.deref-3.ensures.value ∙ sym c.deref-6.ensures.value)
          c.in_ok-lengths.ensures.reach);
    }

pub returns : goal.returns
returns c =
    let names = c.args.names.now in
    let bank = c.derivation.inside.bank in
    let asked = c.derivation.inside.asked.items in
    let nodes = c.derivation.inside.nodes.items in
    let d : DerivationLines = record { asked = term_trees bank asked; nodes = map (line_of bank) nodes } in
    let first = line (codes "proof 1") in
    let lets = flat_map (λ t. line (let_text_by nothing t)) d.asked in
    let lines = flat_map (λ n. line (node_text_by nothing n)) d.nodes in
    let places = c.deref-6.ensures.value ∙ (c.in_ok-places.ensures ∙ (λ i. c.deref.ensures.value i ++ flat_map rule_places (c.deref-2.ensures.value i))) in
    let begun = c.in_ok-extend_from_slice.ensures.items ∙ ap (λ t. t ++ codes "proof 1\n") c.new-bare.ensures.items in
    let asked_lines =
    c.in_ok-write_lets.ensures ∙ (ap (λ (ps : List At). c.extend_from_slice.new.self.items
    ++ flat_map (λ t. line (let_text_by nothing t)) (term_trees bank ps)) c.deref-4.ensures.value ∙ ap (λ t. t ++ lets) begun) in
    let bare = c.in_ok-write_node_lines.ensures
    ∙ (ap (λ (rs : List Rule). c.write_lets.new.out.items ++ flat_map (λ n. line (node_text_by nothing n)) (map (line_of bank) rs)) c.deref-5.ensures.value
    ∙ (ap (λ t. t ++ lines) asked_lines ∙ append_assoc first lets lines)) in
    let start = c.len.ensures ∙ (c.write_node_lines.new.out.ok.0 ∙ ap length bare) in
    c.fields_length.ensures names (subst (AreLengths names bank) (sym c.deref-7.ensures.value) c.in_ok-lengths.ensures.lengths)
    ∙ ap cut_count
    ((λ i. start i + length (flat_map (term_field names) ((ap (term_trees bank) places ∙ fields_of bank asked nodes) i)))
    ∙ (whole_length names d ∙ ap (λ e. length (proof_text names e)) c.derivation.view_is))

pub returns-in_err-places : goal.returns-in_err-places
returns-in_err-places c = IfOk-from_err c.from_residual.result _ c.from_residual.ensures.0

pub returns-in_err-lengths : goal.returns-in_err-lengths
returns-in_err-lengths c = IfOk-from_err c.from_residual-in_err-lengths.result _ c.from_residual-in_err-lengths.ensures.0

pub returns-in_err-extend_from_slice : goal.returns-in_err-extend_from_slice
returns-in_err-extend_from_slice c = IfOk-from_err c.from_residual-in_err-extend_from_slice.result _ c.from_residual-in_err-extend_from_slice.ensures.0

pub returns-in_err-write_lets : goal.returns-in_err-write_lets
returns-in_err-write_lets c = IfOk-from_err c.from_residual-in_err-write_lets.result _ c.from_residual-in_err-write_lets.ensures.0

pub returns-in_err-write_node_lines : goal.returns-in_err-write_node_lines
returns-in_err-write_node_lines c = IfOk-from_err c.from_residual-in_err-write_node_lines.result _ c.from_residual-in_err-write_node_lines.ensures.0
