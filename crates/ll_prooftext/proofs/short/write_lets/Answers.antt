use Rattle.std.proofs.lemmas.Result.{IfOk-from_err}
use Rattle.std.proofs.Common.{◌++◌, arith, ap, ◌∙◌}
use Rattle.ll_bank.specs.declared.At.{At}
use Rattle.ll_bank.specs.Nodes.{term_tree}
use Rattle.ll_laws.specs.Output.{line}
use Rattle.ll_prooftext.specs.ProofText2.{let_text_by}
use Rattle.ll_prooftext.specs.Short.{shown}
use Rattle.ll_prooftext.proofs.writing.Writing.{parts_on, parts_whole, flat_map-map}
use Rattle.ll_prooftext.proofs.short.write_lets.Goals as goal

pub loop-i-preserved : goal.loop-i-preserved
loop-i-preserved c =
    parts_on (λ (a : At). line (let_text_by (shown c.args.names.now c.args.bank.now c.args.fields) (term_tree c.args.bank.now a.0))) c.args.terms.now c.loop-i.i
    (record { 0 = 0 }) c.args.out.now.items
    c.loop-i.out.items c.write_let.new.out.items c.loop-i.invariant (omega arith) c.in_ok-write_let.ensures

pub returns : goal.returns
returns c =
    parts_whole (λ (a : At). line (let_text_by (shown c.args.names.now c.args.bank.now c.args.fields) (term_tree c.args.bank.now a.0))) c.args.terms.now
    c.loop-i.i (record { 0 = 0 }) c.args.out.now.items
    c.loop-i.out.items c.loop-i.out.items c.loop-i.invariant (omega arith)
    ∙ ap (λ t. c.args.out.now.items ++ t)
    (flat_map-map (λ (a : At). term_tree c.args.bank.now a.0) (λ t. line (let_text_by (shown c.args.names.now c.args.bank.now c.args.fields) t))
    c.args.terms.now)

pub write_let-requires : goal.write_let-requires
write_let-requires c = record {
  inside = c.requires.inside c.loop-i.i (record { 0 = 0 }) (omega arith);
  rows = c.requires.rows;
  numbered = c.requires.numbered c.loop-i.i (record { 0 = 0 }) (omega arith);
}

pub returns-in_err-write_let : goal.returns-in_err-write_let
returns-in_err-write_let c = IfOk-from_err c.from_residual.result _ c.from_residual.ensures.0
