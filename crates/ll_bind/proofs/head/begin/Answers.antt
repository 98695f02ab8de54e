use Rattle.ll_bank.specs.Nodes.{term_tree, term_trees}
use Rattle.ll_bind.proofs.Shapes.{begins-sign}
use Rattle.ll_bind.proofs.head.begin.Goals as goal

pub pair-requires : goal.pair-requires
pair-requires c =
    let bank = c.args.bank.now in
    record {
      fixed =
          begins-sign (term_tree bank c.args.head.0) c.in-App.other (term_trees bank c.in-App.patterns.now) c.in-App.ensures.shown.0 c.requires.begins;
    }
