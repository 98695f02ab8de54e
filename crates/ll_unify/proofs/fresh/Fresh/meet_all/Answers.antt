use Rattle.ll_unify.proofs.FreshLemmas.{among-more}
use Rattle.ll_unify.proofs.fresh.Fresh.meet_all.Goals as goal

pub loop-var-preserved : goal.loop-var-preserved
loop-var-preserved c = record {
  was = λ x h. c.loop-var.invariant.was x (c.meet.ensures x h).was;
  other = λ x h. let o = c.meet.ensures x h in among-more c.args.vars.now c.loop-var.var-index x c.loop-var-test.true (c.loop-var.invariant.other x o.was)
      o.other;
}
