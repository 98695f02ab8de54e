use Rattle.std.proofs.Common.{sym, ◌∙◌}
use Rattle.ll_parser.proofs.stored.StoredLemmas.{place_read}
use Rattle.ll_parser.proofs.raws.Raws.place.Goals as goal

pub returns : goal.returns
returns c = λ texts. c.place_of.ensures c.self.inside.args.items
    ∙ sym (place_read c.self.inside.args.items c.self.inside.rows.items c.self.invariant c.args.self.now c.self.view_is c.args.at.0 c.requires
    c.index.result.now c.index.ensures texts)
