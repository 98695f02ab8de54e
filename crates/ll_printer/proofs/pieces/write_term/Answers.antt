use Rattle.ll_laws.specs.Output.{term_text}
use Rattle.ll_printer.proofs.Printing.{piece_on, piece_refused, piece_lighter}
use Rattle.ll_printer.proofs.pieces.write_term.Goals as goal

pub returns-in_err-next-2-clause-begun : goal.returns-in_err-next-2-clause-begun
returns-in_err-next-2-clause-begun g c =
    piece_refused c.args.names.now (g.T.Terms.has c.args.terms.now) (g.T.Terms.tree c.args.terms.now)
    (term_text c.args.names.now (g.T.Terms.tree c.args.terms.now c.args.at.0)) c.args.out.now.items
    c.loop-next.out.items c.loop-next.pieces.items c.loop-next.next c.loop-next.invariant c.pop.new.self.items c.in-Some-pop.piece c.in_default.is
    c.in-Some-pop.ensures.items
    c.print_piece.new.out.items c.in_err-next-2.ensures.begun

pub loop-next-smaller : goal.loop-next-smaller
loop-next-smaller g c =
    piece_lighter c.args.names.now (g.T.Terms.has c.args.terms.now) (g.T.Terms.tree c.args.terms.now)
    (term_text c.args.names.now (g.T.Terms.tree c.args.terms.now c.args.at.0)) c.args.out.now.items
    c.loop-next.out.items c.loop-next.pieces.items c.loop-next.next c.loop-next.invariant c.pop.new.self.items c.in-Some-pop.piece c.in_default.is
    c.in-Some-pop.ensures.items
    c.print_piece.new.pieces.items c.in_ok-next-2.next c.print_piece.new.out.items c.in_ok-next-2.ensures.moves

pub loop-next-preserved : goal.loop-next-preserved
loop-next-preserved g c =
    piece_on c.args.names.now (g.T.Terms.has c.args.terms.now) (g.T.Terms.tree c.args.terms.now)
    (term_text c.args.names.now (g.T.Terms.tree c.args.terms.now c.args.at.0)) c.args.out.now.items
    c.loop-next.out.items c.loop-next.pieces.items c.loop-next.next c.loop-next.invariant c.pop.new.self.items c.in-Some-pop.piece c.in_default.is
    c.in-Some-pop.ensures.items
    c.print_piece.new.pieces.items c.in_ok-next-2.next c.print_piece.new.out.items c.in_ok-next-2.ensures.moves
