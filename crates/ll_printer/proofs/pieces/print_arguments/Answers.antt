use Rattle.std.proofs.Common.{◌+◌, ◌-◌, ◌++◌, length, take, drop, refl, ap, sym, ◌∙◌, arith, length-drop}
use Rattle.std.proofs.lemmas.List.{take_all}
use Rattle.ll_list_laws.proofs.CallerLemmas.{OnErr-always as on_err}
use Rattle.ll_printer.specs.Stack.{argument_pieces}
use Rattle.ll_printer.proofs.Printing.{arguments_on, arguments_stop, arguments_opens, arguments_opens_refused, arguments_short_refused}
use Rattle.ll_printer.proofs.pieces.print_arguments.Goals as goal

pub returns-in_err-push_arguments-clause-begun : goal.returns-in_err-push_arguments-clause-begun
returns-in_err-push_arguments-clause-begun g c =
    on_err _ (arguments_stop c.args.names.now (g.T.Terms.has c.args.terms.now) (g.T.Terms.tree c.args.terms.now) c.args.args.now c.loop-i.i (record { 0 = 0 })
    c.view-view.result c.args.out.now.items c.loop-i.out.items c.loop-i-test.true c.view-view.ensures c.loop-i.invariant.text
    c.loop-i.out.items refl)

pub returns-in_err-open_bracket-clause-begun : goal.returns-in_err-open_bracket-clause-begun
returns-in_err-open_bracket-clause-begun g c =
    on_err _ (arguments_opens_refused c.args.names.now (g.T.Terms.has c.args.terms.now) (g.T.Terms.tree c.args.terms.now) c.args.args.now c.loop-i.i
    (record { 0 = 0 })
    c.view-view.result c.args.out.now.items c.loop-i.out.items c.loop-i-test.true c.view-view.ensures c.loop-i.invariant.text
    c.open_bracket.new.out.items (sym c.has_arguments.ensures ∙ c.if-has_arguments.true) c.in_err-open_bracket.ensures.begun)

pub returns-then-has_arguments-clause-moves : goal.returns-then-has_arguments-clause-moves
returns-then-has_arguments-clause-moves g c =
    arguments_opens c.args.names.now (g.T.Terms.has c.args.terms.now) (g.T.Terms.tree c.args.terms.now) c.args.args.now c.loop-i.i (record { 0 = 0 })
    c.view-view.result c.args.out.now.items c.loop-i.out.items c.loop-i-test.true c.view-view.ensures c.loop-i.invariant.text
    c.args.pieces.now.items c.push_arguments.new.pieces.items c.open_bracket.new.pieces.items c.open_bracket.new.out.items c.requires.pieces c.requires.args
    (sym c.has_arguments.ensures ∙ c.if-has_arguments.true)
    (c.in_ok-push_arguments.ensures
    ∙ ((λ j. c.loop-i.invariant.same j ++ argument_pieces (take (length c.args.args.now - (c.loop-i.i + 1)) (drop (c.loop-i.i + 1) c.args.args.now)))
    ∙ ap (λ xs. c.args.pieces.now.items ++ argument_pieces xs)
    (take_all (length c.args.args.now - (c.loop-i.i + 1)) (drop (c.loop-i.i + 1) c.args.args.now)
    (let n = length-drop (c.loop-i.i + 1) c.args.args.now in omega (arith, n)))))
    c.in_ok-open_bracket.ensures.pieces c.in_ok-open_bracket.ensures.text

pub returns-in_err-write_short-clause-begun : goal.returns-in_err-write_short-clause-begun
returns-in_err-write_short-clause-begun g c =
    on_err _ (arguments_short_refused c.args.names.now (g.T.Terms.has c.args.terms.now) (g.T.Terms.tree c.args.terms.now) c.args.args.now c.loop-i.i
    (record { 0 = 0 })
    c.view-view.result c.args.out.now.items c.loop-i.out.items c.loop-i-test.true c.view-view.ensures c.loop-i.invariant.text
    c.write_short.new.out.items (sym c.has_arguments.ensures ∙ c.if-has_arguments.false) c.in_err-write_short.ensures.begun)

pub loop-i-preserved : goal.loop-i-preserved
loop-i-preserved g c = record {
  text = arguments_on c.args.names.now (g.T.Terms.has c.args.terms.now) (g.T.Terms.tree c.args.terms.now) c.args.args.now c.loop-i.i (record { 0 = 0 })
      c.view-view.result c.args.out.now.items c.loop-i.out.items c.loop-i-test.true c.view-view.ensures c.loop-i.invariant.text
      c.write_short.new.out.items (sym c.has_arguments.ensures ∙ c.if-has_arguments.false) c.in_ok-write_short.ensures.text;
  same = c.loop-i.invariant.same;
}
