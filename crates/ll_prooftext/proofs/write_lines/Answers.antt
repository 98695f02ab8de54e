use Rattle.std.proofs.lemmas.Result.{IfOk-from_err}
use Rattle.std.proofs.Common.{List, ◌++◌, map, refl, ap, subst, ◌∙◌, codes}
use Rattle.std.specs.List.{flat_map}
use Rattle.ll_bank.specs.Term.{Term}
use Rattle.ll_bank.specs.Nodes.{term_trees}
use Rattle.ll_laws.specs.Line.{Line, DerivationLines}
use Rattle.ll_laws.specs.Output.{line}
use Rattle.ll_laws.specs.ProofText.{node_text, proof_text}
use Rattle.ll_laws.specs.ShownLines.{line_of}
use Rattle.ll_printer.specs.Pieces.{BeginsText}
use Rattle.ll_prooftext.specs.Rows.{let_text}
use Rattle.ll_printer.proofs.CallerLemmas.{begins_before}
use Rattle.ll_prooftext.proofs.writing.Writing.{both_stopped, both_whole, both_text}
use Rattle.ll_prooftext.proofs.write_lines.Goals as goal

pub returns-in_err-write_version-clause-begun : goal.returns-in_err-write_version-clause-begun
returns-in_err-write_version-clause-begun c =
    let d = c.args.derivation.now in
    begins_before (line (codes "proof 1")) (flat_map (let_text c.args.names.now) d.asked ++ flat_map (λ n. line (node_text c.args.names.now n)) d.nodes)
    (proof_text c.args.names.now d) c.args.out.now.items c.write_version.new.out.items refl
    c.write_version.ensures.begun

pub returns-in_err-write_asked-clause-begun : goal.returns-in_err-write_asked-clause-begun
returns-in_err-write_asked-clause-begun c =
    let d = c.args.derivation.now in
    let asked = flat_map (let_text c.args.names.now) d.asked in
    let nodes = flat_map (λ n. line (node_text c.args.names.now n)) d.nodes in
    both_stopped (line (codes "proof 1")) (asked ++ nodes) (proof_text c.args.names.now d) c.args.out.now.items c.write_version.new.out.items
    c.write_asked.new.out.items refl c.in_ok-write_version.ensures.text
    (begins_before asked nodes (asked ++ nodes) c.write_version.new.out.items c.write_asked.new.out.items refl
    (subst (λ (ts : List Term). BeginsText (flat_map (let_text c.args.names.now) ts) c.write_version.new.out.items c.write_asked.new.out.items)
    (ap (term_trees c.derivation.inside.bank) c.deref.ensures.value ∙ ap (λ (l : DerivationLines). l.asked) c.derivation.view_is) c.write_asked.ensures.begun))

pub returns-in_err-write_nodes-clause-begun : goal.returns-in_err-write_nodes-clause-begun
returns-in_err-write_nodes-clause-begun c =
    let d = c.args.derivation.now in
    let asked = flat_map (let_text c.args.names.now) d.asked in
    let nodes = flat_map (λ n. line (node_text c.args.names.now n)) d.nodes in
    both_stopped (line (codes "proof 1")) (asked ++ nodes) (proof_text c.args.names.now d) c.args.out.now.items c.write_version.new.out.items
    c.write_nodes.new.out.items refl c.in_ok-write_version.ensures.text
    (both_stopped asked nodes (asked ++ nodes) c.write_version.new.out.items c.write_asked.new.out.items c.write_nodes.new.out.items refl
    (c.in_ok-write_asked.ensures.text ∙ ap (λ (ts : List Term). c.write_version.new.out.items ++ flat_map (let_text c.args.names.now) ts)
    (ap (term_trees c.derivation.inside.bank) c.deref.ensures.value ∙ ap (λ (l : DerivationLines). l.asked) c.derivation.view_is))
    (subst (λ (ns : List Line). BeginsText (flat_map (λ n. line (node_text c.args.names.now n)) ns) c.write_asked.new.out.items c.write_nodes.new.out.items)
    (ap (map (line_of c.derivation.inside.bank)) c.deref-2.ensures.value ∙ ap (λ (l : DerivationLines). l.nodes) c.derivation.view_is)
    c.write_nodes.ensures.begun))

pub returns-clause-begun : goal.returns-clause-begun
returns-clause-begun c =
    let d = c.args.derivation.now in
    let asked = flat_map (let_text c.args.names.now) d.asked in
    let nodes = flat_map (λ n. line (node_text c.args.names.now n)) d.nodes in
    both_stopped (line (codes "proof 1")) (asked ++ nodes) (proof_text c.args.names.now d) c.args.out.now.items c.write_version.new.out.items
    c.write_nodes.new.out.items refl c.in_ok-write_version.ensures.text
    (both_whole asked nodes (asked ++ nodes) c.write_version.new.out.items c.write_asked.new.out.items c.write_nodes.new.out.items refl
    (c.in_ok-write_asked.ensures.text ∙ ap (λ (ts : List Term). c.write_version.new.out.items ++ flat_map (let_text c.args.names.now) ts)
    (ap (term_trees c.derivation.inside.bank) c.deref.ensures.value ∙ ap (λ (l : DerivationLines). l.asked) c.derivation.view_is))
    (c.in_ok-write_nodes.ensures.text ∙ ap (λ (ns : List Line). c.write_asked.new.out.items ++ flat_map (λ n. line (node_text c.args.names.now n)) ns)
    (ap (map (line_of c.derivation.inside.bank)) c.deref-2.ensures.value ∙ ap (λ (l : DerivationLines). l.nodes) c.derivation.view_is)))

pub returns-in_err-write_version-clause-text : goal.returns-in_err-write_version-clause-text
returns-in_err-write_version-clause-text c = IfOk-from_err c.from_residual.result _ c.from_residual.ensures.0

pub returns-in_err-write_asked-clause-text : goal.returns-in_err-write_asked-clause-text
returns-in_err-write_asked-clause-text c = IfOk-from_err c.from_residual-in_err-write_asked.result _ c.from_residual-in_err-write_asked.ensures.0

pub returns-in_err-write_nodes-clause-text : goal.returns-in_err-write_nodes-clause-text
returns-in_err-write_nodes-clause-text c = IfOk-from_err c.from_residual-in_err-write_nodes.result _ c.from_residual-in_err-write_nodes.ensures.0

pub returns-clause-text : goal.returns-clause-text
returns-clause-text c =
    let d = c.args.derivation.now in
    let asked = flat_map (let_text c.args.names.now) d.asked in
    let nodes = flat_map (λ n. line (node_text c.args.names.now n)) d.nodes in
    both_text (line (codes "proof 1")) (asked ++ nodes) (proof_text c.args.names.now d) c.args.out.now.items c.write_version.new.out.items
    c.write_nodes.new.out.items refl c.in_ok-write_version.ensures.text
    (both_text asked nodes (asked ++ nodes) c.write_version.new.out.items c.write_asked.new.out.items c.write_nodes.new.out.items refl
    (c.in_ok-write_asked.ensures.text ∙ ap (λ (ts : List Term). c.write_version.new.out.items ++ flat_map (let_text c.args.names.now) ts)
    (ap (term_trees c.derivation.inside.bank) c.deref.ensures.value ∙ ap (λ (l : DerivationLines). l.asked) c.derivation.view_is))
    (c.in_ok-write_nodes.ensures.text ∙ ap (λ (ns : List Line). c.write_asked.new.out.items ++ flat_map (λ n. line (node_text c.args.names.now n)) ns)
    (ap (map (line_of c.derivation.inside.bank)) c.deref-2.ensures.value ∙ ap (λ (l : DerivationLines). l.nodes) c.derivation.view_is)))
