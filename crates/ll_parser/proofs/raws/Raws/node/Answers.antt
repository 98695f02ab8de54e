use Rattle.std.proofs.Common.{◌≡◌, subst}
use Rattle.ll_parser.specs.Seen.{node_of}
use Rattle.ll_parser.specs.Stored.{row_node, node_place}
use Rattle.ll_parser.proofs.stored.StoredLemmas.{read}
use Rattle.ll_parser.proofs.raws.Raws.node.Goals as goal

pub returns : goal.returns
returns c =
    read c.self.inside.args.items c.self.inside.rows.items c.self.invariant c.args.self.now c.self.view_is c.args.at.0 c.requires c.index.result.now
    c.index.ensures c.shown.result
    (subst (λ cs. node_of (node_place (row_node cs c.index.result.now)) c.shown.result ≡ row_node cs c.index.result.now) c.deref.ensures.value c.shown.ensures)
