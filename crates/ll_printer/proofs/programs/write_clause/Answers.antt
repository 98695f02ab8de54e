use Rattle.std.proofs.Common.{◌++◌, false, ap, ◌∙◌}
use Rattle.std.proofs.lemmas.Result.{IfOk-from_err}
use Rattle.ll_list_laws.proofs.CallerLemmas.{OnErr-always as on_err}
use Rattle.ll_parser.specs.Nodes.{raw_at, shown_clause}
use Rattle.ll_parser.specs.Printed.{clauses, formula_text, line_end, clause_text}
use Rattle.ll_printer.specs.Parts.{IsWriting}
use Rattle.ll_printer.proofs.Parts.{writing-begins, writing-stops, writing-refused}
use Rattle.ll_printer.proofs.LinePieces.{clause-marked, clause-plain, clause-ends, clause-refused}
use Rattle.ll_printer.proofs.programs.write_clause.Goals.{then-clause+in_ok-extend_from_slice, else-clause}
use Rattle.ll_printer.proofs.programs.write_clause.Goals as goal

pub returns-in_err-extend_from_slice-clause-begun : goal.returns-in_err-extend_from_slice-clause-begun
returns-in_err-extend_from_slice-clause-begun c =
    on_err _ (writing-stops (clause_text (shown_clause c.args.source.now.names.now c.args.source.now.forms.now c.args.clause)) c.args.out.now.items
    c.args.out.now.items c.extend_from_slice.new.self.items (clause_text (shown_clause c.args.source.now.names.now c.args.source.now.forms.now c.args.clause))
    (writing-begins (clause_text (shown_clause c.args.source.now.names.now c.args.source.now.forms.now c.args.clause)) c.args.out.now.items)
    c.in_err-extend_from_slice.ensures.items)

pub returns-in_err-write_formula-clause-begun : goal.returns-in_err-write_formula-clause-begun
returns-in_err-write_formula-clause-begun c =
    let w = elim c.if-clause.branch as (λ _. IsWriting (clause_text (shown_clause c.args.source.now.names.now c.args.source.now.forms.now c.args.clause))
    c.args.out.now.items
    c.if-clause.out.items ((formula_text clauses false (raw_at c.args.source.now.names.now c.args.source.now.forms.now c.args.clause.form.0)) ++ line_end)) [
      | then-clause+in_ok-extend_from_slice v ↦ clause-marked (shown_clause c.args.source.now.names.now c.args.source.now.forms.now c.args.clause)
          c.args.out.now.items c.if-clause.out.items v.if-clause.true
          (ap (λ x. x.items) v.out-is ∙ v.in_ok-extend_from_slice.ensures.items)
      | else-clause v ↦ clause-plain (shown_clause c.args.source.now.names.now c.args.source.now.forms.now c.args.clause) c.args.out.now.items
          c.if-clause.out.items v.if-clause.false
          (ap (λ x. x.items) v.out-is)
    ] in
    on_err _ (writing-refused (clause_text (shown_clause c.args.source.now.names.now c.args.source.now.forms.now c.args.clause)) c.args.out.now.items
    c.if-clause.out.items c.write_formula.new.out.items line_end (formula_text clauses false
    (raw_at c.args.source.now.names.now c.args.source.now.forms.now c.args.clause.form.0)) w
    c.in_err-write_formula.ensures.begun)

pub returns-clause-text : goal.returns-clause-text
returns-clause-text c =
    let w = elim c.if-clause.branch as (λ _. IsWriting (clause_text (shown_clause c.args.source.now.names.now c.args.source.now.forms.now c.args.clause))
    c.args.out.now.items
    c.if-clause.out.items ((formula_text clauses false (raw_at c.args.source.now.names.now c.args.source.now.forms.now c.args.clause.form.0)) ++ line_end)) [
      | then-clause+in_ok-extend_from_slice v ↦ clause-marked (shown_clause c.args.source.now.names.now c.args.source.now.forms.now c.args.clause)
          c.args.out.now.items c.if-clause.out.items v.if-clause.true
          (ap (λ x. x.items) v.out-is ∙ v.in_ok-extend_from_slice.ensures.items)
      | else-clause v ↦ clause-plain (shown_clause c.args.source.now.names.now c.args.source.now.forms.now c.args.clause) c.args.out.now.items
          c.if-clause.out.items v.if-clause.false
          (ap (λ x. x.items) v.out-is)
    ] in
    clause-ends (shown_clause c.args.source.now.names.now c.args.source.now.forms.now c.args.clause) c.args.out.now.items c.if-clause.out.items
    c.write_formula.new.out.items c.extend_from_slice-2.new.self.items w c.in_ok-write_formula.ensures.text c.extend_from_slice-2.result
    c.extend_from_slice-2.ensures.items

pub returns-clause-begun : goal.returns-clause-begun
returns-clause-begun c =
    let w = elim c.if-clause.branch as (λ _. IsWriting (clause_text (shown_clause c.args.source.now.names.now c.args.source.now.forms.now c.args.clause))
    c.args.out.now.items
    c.if-clause.out.items ((formula_text clauses false (raw_at c.args.source.now.names.now c.args.source.now.forms.now c.args.clause.form.0)) ++ line_end)) [
      | then-clause+in_ok-extend_from_slice v ↦ clause-marked (shown_clause c.args.source.now.names.now c.args.source.now.forms.now c.args.clause)
          c.args.out.now.items c.if-clause.out.items v.if-clause.true
          (ap (λ x. x.items) v.out-is ∙ v.in_ok-extend_from_slice.ensures.items)
      | else-clause v ↦ clause-plain (shown_clause c.args.source.now.names.now c.args.source.now.forms.now c.args.clause) c.args.out.now.items
          c.if-clause.out.items v.if-clause.false
          (ap (λ x. x.items) v.out-is)
    ] in
    clause-refused (shown_clause c.args.source.now.names.now c.args.source.now.forms.now c.args.clause) c.args.out.now.items c.if-clause.out.items
    c.write_formula.new.out.items c.extend_from_slice-2.new.self.items w c.in_ok-write_formula.ensures.text c.extend_from_slice-2.result
    c.extend_from_slice-2.ensures.items

pub returns-in_err-extend_from_slice-clause-text : goal.returns-in_err-extend_from_slice-clause-text
returns-in_err-extend_from_slice-clause-text c = IfOk-from_err c.from_residual.result _ c.from_residual.ensures.0

pub returns-in_err-write_formula-clause-text : goal.returns-in_err-write_formula-clause-text
returns-in_err-write_formula-clause-text c = IfOk-from_err c.from_residual-in_err-write_formula.result _ c.from_residual-in_err-write_formula.ensures.0
