use Rattle.std.proofs.Common.{sym, ◌∙◌}
use Rattle.ll_list_laws.proofs.CallerLemmas.{OnErr-always as on_err}
use Rattle.ll_printer.proofs.Printing.{argument_opens, opens_refused}
use Rattle.ll_printer.proofs.pieces.print_argument.Goals as goal

pub returns-in_err-open_bracket-clause-begun : goal.returns-in_err-open_bracket-clause-begun
returns-in_err-open_bracket-clause-begun g c =
    on_err _ (opens_refused c.args.names.now (g.T.Terms.has c.args.terms.now) (g.T.Terms.tree c.args.terms.now) c.args.at c.view-view.result
    c.view-view.ensures
    c.args.out.now.items c.open_bracket.new.out.items (sym c.has_arguments.ensures ∙ c.if-has_arguments.true) c.in_err-open_bracket.ensures.begun)

pub returns-then-has_arguments-clause-moves : goal.returns-then-has_arguments-clause-moves
returns-then-has_arguments-clause-moves g c =
    argument_opens c.args.names.now (g.T.Terms.has c.args.terms.now) (g.T.Terms.tree c.args.terms.now) c.args.at c.view-view.result c.view-view.ensures
    c.args.pieces.now.items c.open_bracket.new.pieces.items c.args.out.now.items c.open_bracket.new.out.items c.requires.pieces
    (sym c.has_arguments.ensures ∙ c.if-has_arguments.true) c.in_ok-open_bracket.ensures.pieces c.in_ok-open_bracket.ensures.text
