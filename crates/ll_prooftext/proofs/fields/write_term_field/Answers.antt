use Rattle.std.proofs.lemmas.Result.{IfOk-from_err}
use Rattle.std.proofs.Common.{◌≡◌, ℕ, List, ◌++◌, Bool, true, false, refl, ap, sym, ◌∙◌, codes}
use Rattle.ll_bank.specs.Term.{Term}
use Rattle.ll_bank.specs.Nodes.{term_tree}
use Rattle.ll_laws.specs.Output.{bracket_if, has_arguments, term_text}
use Rattle.ll_laws.specs.ProofText.{field, term_field}
use Rattle.ll_printer.proofs.CallerLemmas.{begins_before, begins_same}
use Rattle.ll_prooftext.proofs.writing.Writing.{both_text, both_whole, both_stopped}
use Rattle.ll_prooftext.proofs.fields.write_term_field.Goals as goal

-- the field of a term with arguments
in_brackets : {b : Bool} (names : List (List ℕ)) (t : Term) → b ≡ has_arguments t → b ≡ true
    → term_field names t ≡ codes " (" ++ (term_text names t ++ codes ")")
in_brackets names t e h = ap (λ b. field (bracket_if b (term_text names t))) (sym e ∙ h)

-- and of one without
bare : {b : Bool} (names : List (List ℕ)) (t : Term) → b ≡ has_arguments t → b ≡ false → term_field names t ≡ codes " " ++ term_text names t
bare names t e h = ap (λ b. field (bracket_if b (term_text names t))) (sym e ∙ h)

pub returns-in_err-extend_from_slice-clause-begun : goal.returns-in_err-extend_from_slice-clause-begun
returns-in_err-extend_from_slice-clause-begun c =
    begins_same (term_field c.args.names.now (term_tree c.args.bank.now c.args.at.0)) c.args.out.now.items c.extend_from_slice.new.self.items
    c.in_err-extend_from_slice.ensures.items

pub returns-in_err-term-clause-begun : goal.returns-in_err-term-clause-begun
returns-in_err-term-clause-begun c =
    let t = term_tree c.args.bank.now c.args.at.0 in let text = term_text c.args.names.now t in
    both_stopped (codes " (") (text ++ codes ")") _ c.args.out.now.items c.extend_from_slice.new.self.items c.term.new.out.items
    (in_brackets c.args.names.now t c.has_any_arguments.ensures c.if-has_any_arguments.true) c.in_ok-extend_from_slice.ensures.items
    (begins_before text (codes ")") _ c.extend_from_slice.new.self.items c.term.new.out.items refl c.term.ensures.begun)

pub returns-in_err-push-clause-begun : goal.returns-in_err-push-clause-begun
returns-in_err-push-clause-begun c =
    let t = term_tree c.args.bank.now c.args.at.0 in let text = term_text c.args.names.now t in
    both_stopped (codes " (") (text ++ codes ")") _ c.args.out.now.items c.extend_from_slice.new.self.items c.push.new.self.items
    (in_brackets c.args.names.now t c.has_any_arguments.ensures c.if-has_any_arguments.true) c.in_ok-extend_from_slice.ensures.items
    (both_stopped text (codes ")") _ c.extend_from_slice.new.self.items c.term.new.out.items c.push.new.self.items refl c.in_ok-term.ensures.text
    (begins_same (codes ")") c.term.new.out.items c.push.new.self.items c.in_err-push.ensures.items))

pub returns-in_ok-push-clause-text : goal.returns-in_ok-push-clause-text
returns-in_ok-push-clause-text c =
    let t = term_tree c.args.bank.now c.args.at.0 in let text = term_text c.args.names.now t in
    both_text (codes " (") (text ++ codes ")") _ c.args.out.now.items c.extend_from_slice.new.self.items c.push.new.self.items
    (in_brackets c.args.names.now t c.has_any_arguments.ensures c.if-has_any_arguments.true) c.in_ok-extend_from_slice.ensures.items
    (both_text text (codes ")") _ c.extend_from_slice.new.self.items c.term.new.out.items c.push.new.self.items refl c.in_ok-term.ensures.text
    c.in_ok-push.ensures.items)

pub returns-in_ok-push-clause-begun : goal.returns-in_ok-push-clause-begun
returns-in_ok-push-clause-begun c =
    let t = term_tree c.args.bank.now c.args.at.0 in let text = term_text c.args.names.now t in
    both_whole (codes " (") (text ++ codes ")") _ c.args.out.now.items c.extend_from_slice.new.self.items c.push.new.self.items
    (in_brackets c.args.names.now t c.has_any_arguments.ensures c.if-has_any_arguments.true) c.in_ok-extend_from_slice.ensures.items
    (both_text text (codes ")") _ c.extend_from_slice.new.self.items c.term.new.out.items c.push.new.self.items refl c.in_ok-term.ensures.text
    c.in_ok-push.ensures.items)

pub returns-in_err-push-2-clause-begun : goal.returns-in_err-push-2-clause-begun
returns-in_err-push-2-clause-begun c =
    begins_same (term_field c.args.names.now (term_tree c.args.bank.now c.args.at.0)) c.args.out.now.items c.push-else-has_any_arguments.new.self.items
    c.in_err-push-2.ensures.items

pub returns-in_err-term-2-clause-begun : goal.returns-in_err-term-2-clause-begun
returns-in_err-term-2-clause-begun c =
    let t = term_tree c.args.bank.now c.args.at.0 in let text = term_text c.args.names.now t in
    both_stopped (codes " ") text _ c.args.out.now.items c.push-else-has_any_arguments.new.self.items c.term-else-has_any_arguments.new.out.items
    (bare c.args.names.now t c.has_any_arguments.ensures c.if-has_any_arguments.false) c.in_ok-push-2.ensures.items
    c.term-else-has_any_arguments.ensures.begun

pub returns-in_ok-term-2-clause-text : goal.returns-in_ok-term-2-clause-text
returns-in_ok-term-2-clause-text c =
    let t = term_tree c.args.bank.now c.args.at.0 in let text = term_text c.args.names.now t in
    both_text (codes " ") text _ c.args.out.now.items c.push-else-has_any_arguments.new.self.items c.term-else-has_any_arguments.new.out.items
    (bare c.args.names.now t c.has_any_arguments.ensures c.if-has_any_arguments.false) c.in_ok-push-2.ensures.items c.in_ok-term-2.ensures.text

pub returns-in_ok-term-2-clause-begun : goal.returns-in_ok-term-2-clause-begun
returns-in_ok-term-2-clause-begun c =
    let t = term_tree c.args.bank.now c.args.at.0 in let text = term_text c.args.names.now t in
    both_whole (codes " ") text _ c.args.out.now.items c.push-else-has_any_arguments.new.self.items c.term-else-has_any_arguments.new.out.items
    (bare c.args.names.now t c.has_any_arguments.ensures c.if-has_any_arguments.false) c.in_ok-push-2.ensures.items c.in_ok-term-2.ensures.text

pub returns-in_err-extend_from_slice-clause-text : goal.returns-in_err-extend_from_slice-clause-text
returns-in_err-extend_from_slice-clause-text c = IfOk-from_err c.from_residual.result _ c.from_residual.ensures.0

pub returns-in_err-term-clause-text : goal.returns-in_err-term-clause-text
returns-in_err-term-clause-text c = IfOk-from_err c.from_residual-in_err-term.result _ c.from_residual-in_err-term.ensures.0

pub returns-in_err-push-clause-text : goal.returns-in_err-push-clause-text
returns-in_err-push-clause-text c = IfOk-from_err c.from_residual-in_err-push.result _ c.from_residual-in_err-push.ensures.0

pub returns-in_err-push-2-clause-text : goal.returns-in_err-push-2-clause-text
returns-in_err-push-2-clause-text c = IfOk-from_err c.from_residual-in_err-push-2.result _ c.from_residual-in_err-push-2.ensures.0

pub returns-in_err-term-2-clause-text : goal.returns-in_err-term-2-clause-text
returns-in_err-term-2-clause-text c = IfOk-from_err c.from_residual-in_err-term-2.result _ c.from_residual-in_err-term-2.ensures.0
