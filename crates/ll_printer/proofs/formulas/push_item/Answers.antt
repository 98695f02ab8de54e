use Rattle.std.proofs.Common.{sym, ◌∙◌}
use Rattle.ll_list_laws.proofs.CallerLemmas.{OnOk-weaker as on_ok}
use Rattle.ll_printer.proofs.Parts.{item-bracketed, item-plain}
use Rattle.ll_printer.proofs.formulas.push_item.Goals as goal

pub returns-then-is_pair_at : goal.returns-then-is_pair_at
returns-then-is_pair_at c =
    on_ok c.push_all.result
    (item-bracketed c.args.source.now.names.now c.args.source.now.forms.now c.args.at c.args.parts.now.items c.push_all.new.parts.items c.requires
    (sym c.is_pair_at.ensures ∙ c.if-is_pair_at.true))
    c.push_all.ensures

pub returns-else-is_pair_at : goal.returns-else-is_pair_at
returns-else-is_pair_at c =
    on_ok c.push_part.result
    (item-plain c.args.source.now.names.now c.args.source.now.forms.now c.args.at c.args.parts.now.items c.push_part.new.parts.items c.requires
    (sym c.is_pair_at.ensures ∙ c.if-is_pair_at.false))
    c.push_part.ensures
