use Rattle.std.proofs.lemmas.Result.{IfOk-from_err}
use Rattle.std.proofs.Common.{◌++◌, ap, sym, subst, ◌∙◌, append_assoc, codes, decimal}
use Rattle.std.specs.Prelude.{unwrap_or}
use Rattle.std.proofs.lemmas.List.{length-map}
use Rattle.ll_list_laws.proofs.CallerLemmas.{OnOk-weaker as on_ok}
use Rattle.ll_bank.specs.declared.At.{At}
use Rattle.ll_bank.specs.Nodes.{term_tree, term_trees}
use Rattle.ll_laws.specs.Output.{term_text}
use Rattle.ll_prooftext.specs.declared.short.Fields.{Fields}
use Rattle.ll_prooftext.specs.Short.{HasRows, HasField, shown}
use Rattle.ll_prooftext.proofs.writing.ShortLines.{row_is, field_by_row, field_itself}
use Rattle.ll_prooftext.proofs.short.write_field.Goals as goal

pub returns-then-has_any_arguments : goal.returns-then-has_any_arguments
returns-then-has_any_arguments c =
    let bank = c.args.bank.now in
    let t = c.in-Rows.table.now in
    let tree = term_tree bank c.args.at.0 in
    let rows = term_trees bank t.rows.items in
    let whole = subst (HasRows bank) c.in-Rows.is c.requires.rows in
    let numbered = subst (λ (f : Fields). HasField f c.args.at) c.in-Rows.is c.requires.numbered in
    let count =
    c.unwrap_or.ensures
    ∙ ((λ i. unwrap_or (c.row.ensures i) ((c.len.ensures ∙ (t.rows.ok.0 ∙ sym (length-map t.rows.items (λ (a : At). term_tree bank a.0)))) i))
    ∙ row_is bank t rows whole c.args.at.0 numbered) in
    on_ok c.write_row.result
    (λ e. e ∙ ap (λ text. c.args.out.now.items ++ text)
    (ap (λ n. codes " @" ++ decimal n) count ∙ (field_by_row c.args.names.now rows tree (sym c.has_any_arguments.ensures ∙ c.if-has_any_arguments.true)
    ∙ ap (λ (f : Fields). shown c.args.names.now bank f tree) (sym c.in-Rows.is))))
    c.write_row.ensures

pub returns-in_ok-push-in-Rows : goal.returns-in_ok-push-in-Rows
returns-in_ok-push-in-Rows c =
    let bank = c.args.bank.now in
    let tree = term_tree bank c.args.at.0 in
    let rows = term_trees bank c.in-Rows.table.now.rows.items in
    on_ok c.term.result
    (λ e. e ∙ (ap (λ out. out ++ term_text c.args.names.now tree) c.in_ok-push-in-Rows.ensures.items
    ∙ (append_assoc c.args.out.now.items (codes " ") (term_text c.args.names.now tree)
    ∙ ap (λ text. c.args.out.now.items ++ text)
    (field_itself c.args.names.now rows tree (sym c.has_any_arguments.ensures ∙ c.if-has_any_arguments.false)
    ∙ ap (λ (f : Fields). shown c.args.names.now bank f tree) (sym c.in-Rows.is)))))
    c.term.ensures.text

pub returns-in_err-push-in-Rows : goal.returns-in_err-push-in-Rows
returns-in_err-push-in-Rows c = IfOk-from_err c.from_residual.result _ c.from_residual.ensures.0
