use Rattle.std.proofs.Common.{sym, ◌∙◌}
use Rattle.ll_list_laws.proofs.CallerLemmas.{OnOk-weaker as on_ok}
use Rattle.ll_printer.proofs.Parts.{leaves-bracketed, leaves-plain}
use Rattle.ll_printer.proofs.formulas.push_formula.Goals as goal

pub returns-then-has_brackets : goal.returns-then-has_brackets
returns-then-has_brackets c =
    on_ok c.push_all.result
    (leaves-bracketed c.args.source.now.names.now c.args.source.now.forms.now c.args.at c.args.level c.args.followed c.args.parts.now.items
    c.push_all.new.parts.items c.requires (sym c.has_brackets.ensures ∙ c.if-has_brackets.true))
    c.push_all.ensures

pub returns-else-has_brackets : goal.returns-else-has_brackets
returns-else-has_brackets c =
    on_ok c.push_part.result
    (leaves-plain c.args.source.now.names.now c.args.source.now.forms.now c.args.at c.args.level c.args.followed c.args.parts.now.items
    c.push_part.new.parts.items c.requires (sym c.has_brackets.ensures ∙ c.if-has_brackets.false))
    c.push_part.ensures
