use Rattle.std.proofs.lemmas.Result.{IfOk-from_err}
use Rattle.std.proofs.Common.{◌<◌, ◌++◌, ◌&&◌, eqb, All, false, ap, sym, subst, ◌∙◌, arith, length, codes}
use Rattle.std.specs.Str.{bytes_eq}
use Rattle.std.proofs.lemmas.List.{length-map}
use Rattle.ll_bank.specs.declared.At.{At}
use Rattle.ll_bank.specs.Term.{app}
use Rattle.ll_bank.specs.Nodes.{term_tree, term_trees}
use Rattle.ll_laws.specs.Output.{head_text, term_text}
use Rattle.ll_prooftext.proofs.writing.Sizing.{leaf_is, pair_is, spine_is, cons_head}
use Rattle.ll_prooftext.proofs.sizes.length_at.Goals as goal

pub returns-then-not-has_any_arguments : goal.returns-then-not-has_any_arguments
returns-then-not-has_any_arguments c =
    let names = c.args.names.now in
    let tree = term_tree c.args.bank.now c.args.at.0 in
    leaf_is names tree c.len.result c.term.new.out.items (sym c.has_any_arguments.ensures ∙ c.if-not-has_any_arguments.true)
    (c.in_ok-term.ensures.text ∙ ap (λ t. t ++ term_text names tree) c.clear.ensures.items)
    (c.len.ensures ∙ c.term.new.out.ok.0) c.len.type_inv

pub returns-in-Some : goal.returns-in-Some
returns-in-Some c =
    let names = c.args.names.now in
    let bank = c.args.bank.now in
    let args = c.spine_at-head.result.1.now in
    let head = c.spine_at-head.result.0 in
    let text = c.deref.ensures.value ∙ (c.in_ok-write_head.ensures ∙ ap (λ t. t ++ head_text names head) c.clear.ensures.items) in
    let low = subst (All (λ (a : At). a.0 < c.args.at.0)) c.in-Some.ensures.0 c.spine_at-head.ensures.lower in
    let first = low 0 (record { 0 = 0 }) (omega arith) in
    let rest = low 1 (record { 0 = 0 }) (omega arith) in
    pair_is names head (term_tree bank c.in-Some.first.0) (term_tree bank c.in-Some.rest.0) (term_tree bank c.args.at.0) c.cons_length.result
    (c.spine_at-head.ensures.tree ∙ ap (λ ps. app head (term_trees bank ps)) c.in-Some.ensures.0)
    (cons_head names head ∙ (ap (λ t. bytes_eq t (codes "::")) (sym text) ∙ c.in-Some.ensures.1))
    (c.cons_length.ensures names (term_tree bank c.in-Some.first.0) (term_tree bank c.in-Some.rest.0)
    (c.requires.lengths.each c.in-Some.first.0 (record { bytes = 0; is_cons = false }) (let n = c.requires.next in omega arith))
    (c.requires.lengths.each c.in-Some.rest.0 (record { bytes = 0; is_cons = false }) (let n = c.requires.next in omega arith)))

pub returns-in-None : goal.returns-in-None
returns-in-None c =
    let names = c.args.names.now in
    let bank = c.args.bank.now in
    let args = c.spine_at-head.result.1.now in
    let head = c.spine_at-head.result.0 in
    let out = c.in_ok-write_head.ensures ∙ ap (λ t. t ++ head_text names head) c.clear.ensures.items in
    spine_is names head (term_trees bank args) (term_tree bank c.args.at.0) c.len-in-None.result c.fields_length.result c.spine_at-head.ensures.tree
    ((λ i. eqb (length-map args (λ (a : At). term_tree bank a.0) i) 2
    && (cons_head names head ∙ ap (λ t. bytes_eq t (codes "::")) (sym (c.deref.ensures.value ∙ out))) i) ∙ c.in-None.ensures)
    (c.len-in-None.ensures ∙ (c.write_head.new.out.ok.0 ∙ ap length out)) (c.fields_length.ensures names c.requires.lengths)

pub fields_length-requires : goal.fields_length-requires
fields_length-requires c = record {
  inside = λ k d l. let low = c.spine_at-head.ensures.lower k d l in let i = c.requires.inside in omega arith;
  reach = λ k d l. let low = c.spine_at-head.ensures.lower k d l in let n = c.requires.next in omega arith;
}

pub returns-in_err-term : goal.returns-in_err-term
returns-in_err-term c = IfOk-from_err c.from_residual.result _ c.from_residual.ensures.0

pub returns-in_err-write_head : goal.returns-in_err-write_head
returns-in_err-write_head c = IfOk-from_err c.from_residual-in_err-write_head.result _ c.from_residual-in_err-write_head.ensures.0

pub spine_at-head-requires-clause-inside : goal.spine_at-head-requires-clause-inside
spine_at-head-requires-clause-inside c = c.requires.inside
