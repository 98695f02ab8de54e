use Rattle.ll_list_laws.proofs.CallerLemmas.{OnErr-always as on_err}
use Rattle.ll_printer.proofs.Printing.{cons_opens, cons_begins}
use Rattle.ll_printer.proofs.pieces.print_cons.Goals as goal

pub returns-in_err-open_item-clause-begun : goal.returns-in_err-open_item-clause-begun
returns-in_err-open_item-clause-begun g c =
    on_err _ (cons_begins c.args.names.now (g.T.Terms.has c.args.terms.now) (g.T.Terms.tree c.args.terms.now) c.args.args.now _ c.view-item.result
    c.args.out.now.items c.open_item.new.out.items c.requires.two c.view-item.ensures c.in_err-open_item.ensures.begun)

pub returns-then-has_arguments-clause-moves : goal.returns-then-has_arguments-clause-moves
returns-then-has_arguments-clause-moves g c =
    cons_opens c.args.names.now (g.T.Terms.has c.args.terms.now) (g.T.Terms.tree c.args.terms.now) c.args.args.now _ c.view-item.result
    c.args.pieces.now.items c.push.new.self.items c.open_item.new.pieces.items c.args.out.now.items c.open_item.new.out.items c.requires.two
    c.view-item.ensures c.requires.pieces c.requires.args c.in_ok-push.ensures.items c.in_ok-open_item.ensures.pieces c.in_ok-open_item.ensures.text
