use Rattle.std.proofs.Common.{refl, rules, w64}
use Rattle.std.specs.Prelude.{FitsSigned}
use Rattle.ll_list_laws.proofs.CallerLemmas.{OnOk-weaker as on_ok}
use Rattle.ll_printer.proofs.Parts.{word-expression, expression-number, expression-head-is}
use Rattle.ll_printer.proofs.Signs.{other-text}
use Rattle.ll_printer.proofs.expressions.push_expression.Goals as goal

pub returns-in-Head : goal.returns-in-Head
returns-in-Head c =
    on_ok c.push_head.result
    (expression-head-is c.args.source.now.names.now c.args.source.now.forms.now c.args.at c.in-Head.name c.in-Head.args.now c.args.parts.now.items
    c.push_head.new.parts.items c.requires (c.in-Head.ensures.tree c.args.source.now.names.now) c.in-Head.ensures.parts)
    c.push_head.ensures

pub returns-in-Int : goal.returns-in-Int
returns-in-Int c =
    let fits : FitsSigned w64 c.in-Int.value = search rules in
    on_ok c.push_part.result (expression-number c.args.source.now.names.now c.args.source.now.forms.now c.args.at c.in-Int.value _ c.args.parts.now.items
    c.push_part.new.parts.items fits (c.in-Int.ensures.tree c.args.source.now.names.now)) c.push_part.ensures

pub returns-in_default : goal.returns-in_default
returns-in_default c = on_ok c.push_part-in_default.result (λ e.
    word-expression c.args.source.now.names.now c.args.source.now.forms.now c.args.at c.args.parts.now.items
    c.push_part-in_default.new.parts.items _ refl e
    (other-text c.args.source.now.names.now c.args.source.now.forms.now c.args.at.0 c.node.result c.node.ensures c.in_default.not-Head
    c.in_default.not-Int).1) c.push_part-in_default.ensures
