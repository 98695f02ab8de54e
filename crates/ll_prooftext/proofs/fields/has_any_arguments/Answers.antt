use Rattle.std.proofs.Common.{ap, sym, ◌∙◌, eqb}
use Rattle.std.proofs.lemmas.List.{length-map}
use Rattle.ll_bank.specs.declared.At.{At}
use Rattle.ll_bank.specs.Nodes.{term_tree, term_trees}
use Rattle.ll_laws.specs.Output.{has_arguments}
use Rattle.ll_printer.proofs.CallerLemmas.{has_arguments-app}
use Rattle.ll_prooftext.proofs.fields.has_any_arguments.Goals as goal

pub returns-in-App : goal.returns-in-App
returns-in-App c =
    sym (ap has_arguments c.in-App.ensures.shown.0
    ∙ has_arguments-app c.in-App.field-0 (term_trees c.args.bank.now c.in-App.args.now) c.is_empty.result
    (c.is_empty.ensures ∙ ap (λ n. eqb n 0) (sym (length-map c.in-App.args.now (λ (a : At). term_tree c.args.bank.now a.0)))))
