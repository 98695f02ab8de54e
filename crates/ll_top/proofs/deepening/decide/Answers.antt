use Rattle.std.proofs.Common.{refl, sym, ap, ◌∙◌, arith}
use Rattle.std.specs.Prelude.{◌≡◌, false}
use Rattle.ll_deepen.specs.Deciding.{decides, events_within, cost_within}
use Rattle.ll_deepen.proofs.CallerLemmas.{first_bound, next_bound}
use Rattle.ll_top.specs.DeepenEnds.{with_bound}
use Rattle.ll_top.proofs.deepening.decide.Goals as goal

pub loop-counts-init : goal.loop-counts-init
loop-counts-init g c = record { undecided = first_bound c.args.problem.now c.args.series.now c.requires.series.order; same = refl; valid = c.requires.valid }

pub loop-counts-preserved : goal.loop-counts-preserved
loop-counts-preserved g c =
    let p = c.args.problem.now in let q = c.loop-counts.problem in let bound = c.loop-counts.bound in
    let i = c.loop-counts.invariant in
    let same = ap (λ x. decides x bound) i.same in
    let undecided : decides q bound ≡ false = sym (c.if-is_decided.ensures (events_within q bound) (cost_within q bound) c.in_ok-counts.ensures.counts) in
    let room = c.if-series-bound.false in let within = i.undecided.within in record {
      undecided = next_bound p c.args.series.now bound i.undecided (sym same ∙ undecided) (omega arith);
      same = ap (λ x. with_bound x 0) c.in_ok-counts.ensures.problem ∙ i.same;
      valid = c.in_ok-counts.ensures.valid;
    }
