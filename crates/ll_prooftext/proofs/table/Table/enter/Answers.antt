use Rattle.std.proofs.lemmas.Result.{IfOk-from_err}
use Rattle.std.proofs.Common.{◌++◌, ap, sym, ◌∙◌, eqb, not, refl}
use Rattle.std.proofs.lemmas.List.{length-map}
use Rattle.ll_list_laws.proofs.CallerLemmas.{OnOk-weaker as on_ok}
use Rattle.ll_bank.specs.declared.At.{At}
use Rattle.ll_bank.specs.Nodes.{term_tree, term_trees}
use Rattle.ll_laws.specs.Output.{has_arguments}
use Rattle.ll_printer.proofs.CallerLemmas.{has_arguments-app}
use Rattle.ll_prooftext.specs.Tables.{row_at, bare, known, inside, entries}
use Rattle.ll_prooftext.proofs.tabling.TableSteps.{is_there}
use Rattle.ll_prooftext.proofs.table.Table.enter.Goals as goal
use Rattle.ll_prooftext.proofs.table.Table.enter.Goals.{then-is_empty-via-then-is_empty, then-is_empty-via-else-is_empty+then-is_some}

pub returns-then-is_empty : goal.returns-then-is_empty
returns-then-is_empty c =
    let has = ap has_arguments c.in-App.ensures.shown.0
    ∙ has_arguments-app c.in-App.field-0 (term_trees c.args.bank.now c.in-App.args.now) c.is_empty.result
    (c.is_empty.ensures ∙ ap (λ n. eqb n 0) (sym (length-map c.in-App.args.now (λ (a : At). term_tree c.args.bank.now a.0)))) in
    elim c.then-is_empty.branch [
      | then-is_empty-via-then-is_empty w ↦ bare (has ∙ ap not w.if-is_empty.true) refl
      | then-is_empty-via-else-is_empty+then-is_some w ↦
          let k = is_there (row_at c.args.self.now c.args.at.0) w.row.result w.is_some.result w.row.ensures w.is_some.ensures w.if-is_some.true in
          known k.0 k.1 refl
    ]

pub returns-in_ok-push-in-App : goal.returns-in_ok-push-in-App
returns-in_ok-push-in-App c =
    let has = ap has_arguments c.in-App.ensures.shown.0
    ∙ has_arguments-app c.in-App.field-0 (term_trees c.args.bank.now c.in-App.args.now) c.is_empty.result
    (c.is_empty.ensures ∙ ap (λ n. eqb n 0) (sym (length-map c.in-App.args.now (λ (a : At). term_tree c.args.bank.now a.0)))) in
    on_ok c.push_entries.result
    (λ e. inside c.in-App.field-0 c.in-App.args.now c.in-App.ensures.shown.0 (has ∙ ap not c.if-is_empty.false) c.in-App.ensures.shown.1
    (e ∙ ap (λ ts. ts ++ entries c.in-App.args.now) c.in_ok-push-in-App.ensures.items)) c.push_entries.ensures

pub returns-in_err-push-in-App : goal.returns-in_err-push-in-App
returns-in_err-push-in-App c = IfOk-from_err c.from_residual.result _ c.from_residual.ensures.0
