use Rattle.std.proofs.Common.{sym, subst, ◌∙◌, map}
use Rattle.std.proofs.lemmas.Result.{IfOk-weaker, on_err_weaker}
use Rattle.ll_list_laws.proofs.CallerLemmas.{OnErr-always as on_err}
use Rattle.ll_bank.specs.declared.At.{At}
use Rattle.ll_laws.specs.Output.{head_text}
use Rattle.ll_printer.specs.Pieces.{BeginsText}
use Rattle.ll_printer.specs.Stack.{cell_text, arguments_text}
use Rattle.ll_printer.proofs.Printing.{moved_same, cell_is, applied_is, applied_moves, begins_first, begins_on}
use Rattle.ll_printer.proofs.pieces.print_view.Goals as goal

pub returns-then-is_cons_of-clause-moves : goal.returns-then-is_cons_of-clause-moves
returns-then-is_cons_of-clause-moves g c =
    let e = cell_is c.args.names.now (g.T.Terms.tree c.args.terms.now) c.in-App.head c.in-App.args.now (sym c.is_cons_of.ensures ∙ c.if-is_cons_of.true) in
    rw c.in-App.is (IfOk-weaker c.print_cons.result _ _ (λ next. λ m. moved_same c.args.names.now (g.T.Terms.has c.args.terms.now)
    (g.T.Terms.tree c.args.terms.now) _ _ _ _ c.args.pieces.now.items
    c.print_cons.new.pieces.items next c.args.out.now.items c.print_cons.new.out.items e.0 e.1 m) c.print_cons.ensures.moves)

pub returns-then-is_cons_of-clause-begun : goal.returns-then-is_cons_of-clause-begun
returns-then-is_cons_of-clause-begun g c =
    let e = cell_is c.args.names.now (g.T.Terms.tree c.args.terms.now) c.in-App.head c.in-App.args.now (sym c.is_cons_of.ensures ∙ c.if-is_cons_of.true) in
    rw c.in-App.is (on_err_weaker c.print_cons.result
    (λ (b : BeginsText (cell_text c.args.names.now (map (λ (a : At). g.T.Terms.tree c.args.terms.now a.0) c.in-App.args.now)) c.args.out.now.items
    c.print_cons.new.out.items). subst (λ t. BeginsText t c.args.out.now.items c.print_cons.new.out.items) (sym e.0) b) c.print_cons.ensures.begun)

pub returns-in_err-write_head-in-App-clause-begun : goal.returns-in_err-write_head-in-App-clause-begun
returns-in_err-write_head-in-App-clause-begun g c =
    rw c.in-App.is (on_err _ (begins_first _ c.args.out.now.items c.write_head.new.out.items (head_text c.args.names.now c.in-App.head)
    (arguments_text c.args.names.now (map (λ (a : At). g.T.Terms.tree c.args.terms.now a.0) c.in-App.args.now))
    (applied_is c.args.names.now (g.T.Terms.tree c.args.terms.now) c.in-App.head c.in-App.args.now (sym c.is_cons_of.ensures ∙ c.if-is_cons_of.false))
    c.write_head.ensures.begun))

pub returns-in_ok-write_head-in-App-clause-moves : goal.returns-in_ok-write_head-in-App-clause-moves
returns-in_ok-write_head-in-App-clause-moves g c =
    rw c.in-App.is (IfOk-weaker c.print_arguments.result _ _
    (λ next. λ m. applied_moves c.args.names.now (g.T.Terms.tree c.args.terms.now) c.in-App.head c.in-App.args.now
    (sym c.is_cons_of.ensures ∙ c.if-is_cons_of.false)
    (g.T.Terms.has c.args.terms.now) c.args.pieces.now.items c.print_arguments.new.pieces.items next c.args.out.now.items c.write_head.new.out.items
    c.print_arguments.new.out.items c.in_ok-write_head-in-App.ensures.text m) c.print_arguments.ensures.moves)

pub returns-in_ok-write_head-in-App-clause-begun : goal.returns-in_ok-write_head-in-App-clause-begun
returns-in_ok-write_head-in-App-clause-begun g c =
    rw c.in-App.is (on_err_weaker c.print_arguments.result
    (λ (b : BeginsText (arguments_text c.args.names.now (map (λ (a : At). g.T.Terms.tree c.args.terms.now a.0) c.in-App.args.now))
    c.write_head.new.out.items c.print_arguments.new.out.items). begins_on _ c.args.out.now.items c.write_head.new.out.items
    c.print_arguments.new.out.items (head_text c.args.names.now c.in-App.head)
    (arguments_text c.args.names.now (map (λ (a : At). g.T.Terms.tree c.args.terms.now a.0) c.in-App.args.now)) c.in_ok-write_head-in-App.ensures.text
    (applied_is c.args.names.now (g.T.Terms.tree c.args.terms.now) c.in-App.head c.in-App.args.now (sym c.is_cons_of.ensures ∙ c.if-is_cons_of.false)) b)
    c.print_arguments.ensures.begun)
