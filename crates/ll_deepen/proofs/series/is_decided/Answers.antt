use Rattle.ll_deepen.proofs.Bounds.{answers_decide, reached_decides}
use Rattle.ll_deepen.proofs.series.is_decided.Goals as goal

pub returns-then-counts-gt0 : goal.returns-then-counts-gt0
returns-then-counts-gt0 c = λ events cost h. answers_decide c.args.counts.now events cost h c.if-counts-gt0.true

pub returns : goal.returns
returns c = λ events cost h. reached_decides c.args.counts.now events cost h c.if-counts-gt0.false
