use Rattle.std.proofs.Common.{◌++◌, ap, ◌∙◌, Some}
use Rattle.std.proofs.lemmas.Result.{IfOk-from_err}
use Rattle.ll_laws.specs.Output.{name_text, term_text}
use Rattle.ll_printer.specs.Answers.{one_line}
use Rattle.ll_printer.proofs.Parts.{writing-begins, writing-stops, writing-refused}
use Rattle.ll_printer.proofs.Printing.{begins_all}
use Rattle.ll_printer.proofs.LinePieces.{binding-1, binding-2, binding-3, binding-end}
use Rattle.ll_printer.proofs.answers.write_binding.Goals as goal

pub returns-in_err-extend_from_slice-in-Some-clause-begun : goal.returns-in_err-extend_from_slice-in-Some-clause-begun
returns-in_err-extend_from_slice-in-Some-clause-begun g c =
    rw c.in-Some.is (writing-stops (one_line c.args.names.now (Some c.in-Some.name) (g.T.Terms.tree c.args.terms.now c.args.at.0)) c.args.out.now.items
    c.args.out.now.items c.extend_from_slice.new.self.items (one_line c.args.names.now (Some c.in-Some.name) (g.T.Terms.tree c.args.terms.now c.args.at.0))
    (writing-begins (one_line c.args.names.now (Some c.in-Some.name) (g.T.Terms.tree c.args.terms.now c.args.at.0)) c.args.out.now.items)
    c.in_err-extend_from_slice-in-Some.ensures.items)

pub returns-in_err-extend_from_slice-in-Some-2-clause-begun : goal.returns-in_err-extend_from_slice-in-Some-2-clause-begun
returns-in_err-extend_from_slice-in-Some-2-clause-begun g c =
    rw c.in-Some.is (writing-stops (one_line c.args.names.now (Some c.in-Some.name) (g.T.Terms.tree c.args.terms.now c.args.at.0)) c.args.out.now.items
    c.extend_from_slice.new.self.items c.extend_from_slice-in-Some.new.self.items _
    (binding-1 (name_text c.args.names.now c.in-Some.name) (term_text c.args.names.now (g.T.Terms.tree c.args.terms.now c.args.at.0))
    c.args.out.now.items c.extend_from_slice.new.self.items (c.in_ok-extend_from_slice-in-Some.ensures.items ∙ ap (λ xs. c.args.out.now.items ++ xs)
    (c.as_bytes.ensures.value ∙ c.name_of.ensures)))
    c.in_err-extend_from_slice-in-Some-2.ensures.items)

pub returns-in_err-write_term-in-Some-clause-begun : goal.returns-in_err-write_term-in-Some-clause-begun
returns-in_err-write_term-in-Some-clause-begun g c =
    rw c.in-Some.is (writing-refused (one_line c.args.names.now (Some c.in-Some.name) (g.T.Terms.tree c.args.terms.now c.args.at.0)) c.args.out.now.items
    c.extend_from_slice-in-Some.new.self.items c.write_term.new.out.items _ (term_text c.args.names.now (g.T.Terms.tree c.args.terms.now c.args.at.0))
    (binding-2 (name_text c.args.names.now c.in-Some.name) (term_text c.args.names.now (g.T.Terms.tree c.args.terms.now c.args.at.0))
    c.args.out.now.items c.extend_from_slice.new.self.items (c.in_ok-extend_from_slice-in-Some.ensures.items ∙ ap (λ xs. c.args.out.now.items ++ xs)
    (c.as_bytes.ensures.value ∙ c.name_of.ensures))
    c.extend_from_slice-in-Some.new.self.items c.in_ok-extend_from_slice-in-Some-2.ensures.items)
    c.in_err-write_term-in-Some.ensures.begun)

pub returns-in_err-push-in-Some-clause-begun : goal.returns-in_err-push-in-Some-clause-begun
returns-in_err-push-in-Some-clause-begun g c =
    rw c.in-Some.is (writing-stops (one_line c.args.names.now (Some c.in-Some.name) (g.T.Terms.tree c.args.terms.now c.args.at.0)) c.args.out.now.items
    c.write_term.new.out.items c.push.new.self.items _
    (binding-3 (name_text c.args.names.now c.in-Some.name) (term_text c.args.names.now (g.T.Terms.tree c.args.terms.now c.args.at.0))
    c.args.out.now.items c.extend_from_slice.new.self.items (c.in_ok-extend_from_slice-in-Some.ensures.items ∙ ap (λ xs. c.args.out.now.items ++ xs)
    (c.as_bytes.ensures.value ∙ c.name_of.ensures))
    c.extend_from_slice-in-Some.new.self.items c.in_ok-extend_from_slice-in-Some-2.ensures.items c.write_term.new.out.items
    c.in_ok-write_term-in-Some.ensures.text)
    c.in_err-push-in-Some.ensures.items)

pub returns-in_ok-push-in-Some-clause-text : goal.returns-in_ok-push-in-Some-clause-text
returns-in_ok-push-in-Some-clause-text g c =
    rw c.in-Some.is (binding-end (name_text c.args.names.now c.in-Some.name) (term_text c.args.names.now (g.T.Terms.tree c.args.terms.now c.args.at.0))
    c.args.out.now.items c.extend_from_slice.new.self.items (c.in_ok-extend_from_slice-in-Some.ensures.items ∙ ap (λ xs. c.args.out.now.items ++ xs)
    (c.as_bytes.ensures.value ∙ c.name_of.ensures))
    c.extend_from_slice-in-Some.new.self.items c.in_ok-extend_from_slice-in-Some-2.ensures.items c.write_term.new.out.items
    c.in_ok-write_term-in-Some.ensures.text
    c.push.new.self.items c.in_ok-push-in-Some.ensures.items)

pub returns-in_ok-push-in-Some-clause-begun : goal.returns-in_ok-push-in-Some-clause-begun
returns-in_ok-push-in-Some-clause-begun g c =
    rw c.in-Some.is (begins_all (one_line c.args.names.now (Some c.in-Some.name) (g.T.Terms.tree c.args.terms.now c.args.at.0)) c.args.out.now.items
    c.push.new.self.items
    (binding-end (name_text c.args.names.now c.in-Some.name) (term_text c.args.names.now (g.T.Terms.tree c.args.terms.now c.args.at.0))
    c.args.out.now.items c.extend_from_slice.new.self.items (c.in_ok-extend_from_slice-in-Some.ensures.items ∙ ap (λ xs. c.args.out.now.items ++ xs)
    (c.as_bytes.ensures.value ∙ c.name_of.ensures))
    c.extend_from_slice-in-Some.new.self.items c.in_ok-extend_from_slice-in-Some-2.ensures.items c.write_term.new.out.items
    c.in_ok-write_term-in-Some.ensures.text
    c.push.new.self.items c.in_ok-push-in-Some.ensures.items))

pub returns-in_err-extend_from_slice-in-Some-2-clause-text : goal.returns-in_err-extend_from_slice-in-Some-2-clause-text
returns-in_err-extend_from_slice-in-Some-2-clause-text g c =
    IfOk-from_err c.from_residual-in_err-extend_from_slice-in-Some-2.result _ c.from_residual-in_err-extend_from_slice-in-Some-2.ensures.0

pub returns-in_err-extend_from_slice-in-Some-clause-text : goal.returns-in_err-extend_from_slice-in-Some-clause-text
returns-in_err-extend_from_slice-in-Some-clause-text g c = IfOk-from_err c.from_residual.result _ c.from_residual.ensures.0

pub returns-in_err-push-in-Some-clause-text : goal.returns-in_err-push-in-Some-clause-text
returns-in_err-push-in-Some-clause-text g c = IfOk-from_err c.from_residual-in_err-push-in-Some.result _ c.from_residual-in_err-push-in-Some.ensures.0

pub returns-in_err-write_term-in-Some-clause-text : goal.returns-in_err-write_term-in-Some-clause-text
returns-in_err-write_term-in-Some-clause-text g c =
    IfOk-from_err c.from_residual-in_err-write_term-in-Some.result _ c.from_residual-in_err-write_term-in-Some.ensures.0
