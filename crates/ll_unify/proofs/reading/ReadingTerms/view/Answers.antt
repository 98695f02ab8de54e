use Rattle.ll_unify.proofs.Views.{view-end}
use Rattle.ll_unify.proofs.reading.ReadingTerms.view.Goals as goal

pub returns : goal.returns
returns g c =
    let nodes = c.args.self.now.bank.now in
    view-end nodes (g.T.Bindings.table c.args.self.now.table.now) c.args.at.0 c.walk.result.0 c.term_at.result c.requires.table c.walk.ensures.end
    c.walk.ensures.same c.term_at.ensures.shown
