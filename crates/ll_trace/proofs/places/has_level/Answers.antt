use Rattle.std.proofs.Common.{sym, ◌∙◌}
use Rattle.ll_trace.proofs.Placing.{hits-begin, hits-past}
use Rattle.ll_trace.proofs.places.has_level.Goals as goal

pub loop-index-init : goal.loop-index-init
loop-index-init c = hits-begin c.args.level c.args.from c.args.to c.first_from-start.result c.args.row.now c.first_from-start.ensures.below

pub returns-then-row-index : goal.returns-then-row-index
returns-then-row-index c =
    sym (hits-past c.args.level c.args.from c.args.to c.loop-index.index c.args.row.now (record { at = 0; level = 0 }) c.requires c.loop-index-test.true
    (c.first_from-start.ensures.above c.loop-index.index (record { at = 0; level = 0 }) c.loop-index.auto.index c.loop-index-test.true) c.if-row-index.true)
    ∙ c.loop-index.invariant
