use Rattle.std.proofs.Common.{refl, sym, ap, ◌∙◌, arith}
use Rattle.std.specs.Prelude.{◌≡◌, false}
use Rattle.ll_deepen.specs.Deciding.{decides, events_within, cost_within}
use Rattle.ll_deepen.proofs.Bounds.{first_bound, next_bound}
use Rattle.ll_deepen.proofs.series.deepen.Goals as goal

pub loop-counts-preserved : goal.loop-counts-preserved
loop-counts-preserved g c =
    let t = g.T.Trial.problem c.args.trial.now in
    let i = c.loop-counts.invariant in
    let counted = c.in_ok-counts.ensures in
    let told = g.T.Trial.problem c.loop-counts.trial in let bound = c.loop-counts.bound in
    let undecided : decides told bound ≡ false = sym (c.if-is_decided.ensures (events_within told bound) (cost_within told bound) counted.counts) in
    let most = counted.tried in let rises = c.counts.ensures.rises in let low = i.2 in let high = i.3 in
    let room = c.if-series-bound.false in let within = i.0.within in (
      next_bound t c.args.series.now bound i.0 (sym (ap (λ q. decides q bound) i.1) ∙ undecided) (omega arith),
      c.counts.ensures.same ∙ i.1,
      omega arith,
      omega arith,
    )
