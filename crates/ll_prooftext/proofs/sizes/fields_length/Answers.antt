use Rattle.std.proofs.Common.{◌+◌, length, arith, ap, ◌∙◌}
use Rattle.std.specs.List.{flat_map}
use Rattle.std.proofs.lemmas.List.{take_all}
use Rattle.ll_bank.specs.declared.At.{At}
use Rattle.ll_bank.specs.Nodes.{term_tree}
use Rattle.ll_laws.specs.ProofText.{term_field}
use Rattle.ll_laws.specs.Search.{cut_count}
use Rattle.ll_prooftext.proofs.writing.Sizing.{total_more}
use Rattle.ll_prooftext.proofs.writing.Writing.{flat_map-map}
use Rattle.ll_prooftext.proofs.sizes.fields_length.Goals as goal

pub loop-i-init : goal.loop-i-init
loop-i-init c = λ names h. let r = c.ranges.start.fits in omega arith

pub loop-i-preserved : goal.loop-i-preserved
loop-i-preserved c = λ names h.
    total_more (λ (a : At). term_field names (term_tree c.args.bank.now a.0)) c.args.places.now c.loop-i.i (record { 0 = 0 }) c.args.start c.loop-i.total
    c.field_length.result c.saturating_add-total.result
    (omega arith) (c.loop-i.invariant names h) (c.field_length.ensures names h) c.saturating_add-total.ensures

pub returns : goal.returns
returns c = λ names h.
    c.loop-i.invariant names h
    ∙ ap (λ t. cut_count (c.args.start + length t))
    (ap (flat_map (λ (a : At). term_field names (term_tree c.args.bank.now a.0))) (take_all c.loop-i.i c.args.places.now (omega arith))
    ∙ flat_map-map (λ (a : At). term_tree c.args.bank.now a.0) (term_field names) c.args.places.now)

pub field_length-requires : goal.field_length-requires
field_length-requires c = record {
  inside = c.requires.inside c.loop-i.i (record { 0 = 0 }) (omega arith);
  reach = c.requires.reach c.loop-i.i (record { 0 = 0 }) (omega arith);
}
