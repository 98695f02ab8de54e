use Rattle.std.proofs.Common.{refl}
use Rattle.ll_lexer.proofs.Listed.{row-stands, listed-within}
use Rattle.ll_lexer.proofs.TokenList.get.Goals as goal

pub returns-clause-stands : goal.returns-clause-stands
returns-clause-stands c = rw (← c.self.view_is)
    (row-stands c.self.inside.text.now c.self.inside.rows.items c.self.inside.end c.args.i c.index-row.result.now c.self.invariant
    (listed-within c.self.inside.rows.items c.args.i _ refl (rw (← c.self.view_is) at c.requires)) c.index-row.ensures)
