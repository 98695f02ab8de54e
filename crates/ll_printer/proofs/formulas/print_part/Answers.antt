use Rattle.std.proofs.Common.{arith, rules, w64, refl}
use Rattle.std.specs.Prelude.{FitsSigned}
use Rattle.ll_list_laws.proofs.CallerLemmas.{OnOk-weaker as on_ok, OnErr-always as on_err}
use Rattle.ll_printer.proofs.Parts.{moves-left, moves-written, moves-number}
use Rattle.ll_printer.proofs.formulas.print_part.Goals as goal

pub returns-in-Formula-clause-moves : goal.returns-in-Formula-clause-moves
returns-in-Formula-clause-moves c = on_ok c.push_formula.result
    (moves-left c.args.source.now.names.now c.args.source.now.forms.now _ c.args.part c.args.parts.now.items c.push_formula.new.parts.items c.args.out.now.items
    c.in-Formula.is) c.push_formula.ensures

pub returns-in-Inside-clause-moves : goal.returns-in-Inside-clause-moves
returns-in-Inside-clause-moves c = on_ok c.push_inside.result
    (moves-left c.args.source.now.names.now c.args.source.now.forms.now _ c.args.part c.args.parts.now.items c.push_inside.new.parts.items c.args.out.now.items
    c.in-Inside.is) c.push_inside.ensures

pub returns-in-Term-clause-moves : goal.returns-in-Term-clause-moves
returns-in-Term-clause-moves c = on_ok c.push_term.result (moves-left c.args.source.now.names.now c.args.source.now.forms.now _ c.args.part
    c.args.parts.now.items c.push_term.new.parts.items c.args.out.now.items c.in-Term.is) c.push_term.ensures

pub returns-in-Argument-clause-moves : goal.returns-in-Argument-clause-moves
returns-in-Argument-clause-moves c = on_ok c.push_argument.result
    (moves-left c.args.source.now.names.now c.args.source.now.forms.now _ c.args.part c.args.parts.now.items c.push_argument.new.parts.items
    c.args.out.now.items c.in-Argument.is) c.push_argument.ensures

pub returns-in-Item-clause-moves : goal.returns-in-Item-clause-moves
returns-in-Item-clause-moves c = on_ok c.push_item.result (moves-left c.args.source.now.names.now c.args.source.now.forms.now _ c.args.part
    c.args.parts.now.items c.push_item.new.parts.items c.args.out.now.items c.in-Item.is) c.push_item.ensures

pub returns-in-Name-clause-moves : goal.returns-in-Name-clause-moves
returns-in-Name-clause-moves c = on_ok c.write_identifier.result
    (λ e. moves-written c.args.source.now.names.now c.args.source.now.forms.now _ c.args.part c.args.parts.now.items c.args.out.now.items
    c.write_identifier.new.out.items c.in-Name.is e (omega arith)) c.write_identifier.ensures.text

pub returns-in-Word-clause-moves : goal.returns-in-Word-clause-moves
returns-in-Word-clause-moves c = on_ok c.write_word.result (λ e.
    moves-written c.args.source.now.names.now c.args.source.now.forms.now _ c.args.part c.args.parts.now.items c.args.out.now.items c.write_word.new.out.items
    c.in-Word.is e (omega arith)) c.write_word.ensures.text

pub returns-in-Number-clause-moves : goal.returns-in-Number-clause-moves
returns-in-Number-clause-moves c =
    let fits : FitsSigned w64 c.in-Number.value = search rules in
    on_ok c.write_integer.result (λ e. moves-number c.args.source.now.names.now c.args.source.now.forms.now c.in-Number.value c.args.part c.args.parts.now.items
    c.args.out.now.items c.write_integer.new.out.items fits c.in-Number.is e) c.write_integer.ensures.text

pub returns-in-Expression-clause-moves : goal.returns-in-Expression-clause-moves
returns-in-Expression-clause-moves c = on_ok c.push_expression.result
    (moves-left c.args.source.now.names.now c.args.source.now.forms.now _ c.args.part c.args.parts.now.items c.push_expression.new.parts.items
    c.args.out.now.items c.in-Expression.is) c.push_expression.ensures

pub returns-in-Formula-clause-refused : goal.returns-in-Formula-clause-refused
returns-in-Formula-clause-refused c = on_err c.push_formula.result refl

pub returns-in-Inside-clause-refused : goal.returns-in-Inside-clause-refused
returns-in-Inside-clause-refused c = on_err c.push_inside.result refl

pub returns-in-Term-clause-refused : goal.returns-in-Term-clause-refused
returns-in-Term-clause-refused c = on_err c.push_term.result refl

pub returns-in-Argument-clause-refused : goal.returns-in-Argument-clause-refused
returns-in-Argument-clause-refused c = on_err c.push_argument.result refl

pub returns-in-Item-clause-refused : goal.returns-in-Item-clause-refused
returns-in-Item-clause-refused c = on_err c.push_item.result refl

pub returns-in-Expression-clause-refused : goal.returns-in-Expression-clause-refused
returns-in-Expression-clause-refused c = on_err c.push_expression.result refl

pub returns-in-Name-clause-refused : goal.returns-in-Name-clause-refused
returns-in-Name-clause-refused c = c.write_identifier.ensures.refused

pub returns-in-Number-clause-refused : goal.returns-in-Number-clause-refused
returns-in-Number-clause-refused c = c.write_integer.ensures.refused

pub returns-in-Word-clause-refused : goal.returns-in-Word-clause-refused
returns-in-Word-clause-refused c = c.write_word.ensures.refused

pub push_formula-requires : goal.push_formula-requires
push_formula-requires c = rw c.in-Formula.is at c.requires

pub push_inside-requires : goal.push_inside-requires
push_inside-requires c = rw c.in-Inside.is at c.requires

pub push_term-requires : goal.push_term-requires
push_term-requires c = rw c.in-Term.is at c.requires

pub push_argument-requires : goal.push_argument-requires
push_argument-requires c = rw c.in-Argument.is at c.requires

pub push_item-requires : goal.push_item-requires
push_item-requires c = rw c.in-Item.is at c.requires

pub push_expression-requires : goal.push_expression-requires
push_expression-requires c = rw c.in-Expression.is at c.requires
