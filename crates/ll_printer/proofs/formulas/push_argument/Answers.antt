use Rattle.std.proofs.Common.{sym, ◌∙◌}
use Rattle.ll_list_laws.proofs.CallerLemmas.{OnOk-weaker as on_ok}
use Rattle.ll_printer.proofs.Parts.{argument-bracketed, argument-plain}
use Rattle.ll_printer.proofs.formulas.push_argument.Goals as goal

pub returns-then-has_any_arguments : goal.returns-then-has_any_arguments
returns-then-has_any_arguments c =
    on_ok c.push_all.result
    (argument-bracketed c.args.source.now.names.now c.args.source.now.forms.now c.args.at c.args.parts.now.items c.push_all.new.parts.items c.requires
    (sym c.has_any_arguments.ensures ∙ c.if-has_any_arguments.true))
    c.push_all.ensures

pub returns-else-has_any_arguments : goal.returns-else-has_any_arguments
returns-else-has_any_arguments c =
    on_ok c.push_all-else-has_any_arguments.result
    (argument-plain c.args.source.now.names.now c.args.source.now.forms.now c.args.at c.args.parts.now.items c.push_all-else-has_any_arguments.new.parts.items
    c.requires (sym c.has_any_arguments.ensures ∙ c.if-has_any_arguments.false))
    c.push_all-else-has_any_arguments.ensures
