use Rattle.std.proofs.Common.{ℕ, ◌++◌, ap, sym, ◌∙◌, Vec, Global, get_or, [], ◌∷◌}
use Rattle.std.proofs.lemmas.Result.{IfOk-from_err}
use Rattle.std.specs.Prelude.{cond, filter, not}
use Rattle.ll_trace.specs.Shares.{goes_to_first}
use Rattle.ll_trace.proofs.Sharing.{keep-step, keep-end}
use Rattle.ll_trace.proofs.deal.divide.Goals as goal
use Rattle.ll_trace.proofs.deal.divide.Goals.{then-goes_first+in_ok-push, else-goes_first+in_ok-push-2}

pub loop-label-init : goal.loop-label-init
loop-label-init c = record {
  mine = ap (λ xs. xs ++ filter (goes_to_first c.args.uses.now c.args.fork) c.args.labels.now) c.new-mine.ensures.items;
  others = ap (λ xs. xs ++ filter (λ n. not (goes_to_first c.args.uses.now c.args.fork n)) c.args.labels.now) c.new-others.ensures.items;
}

pub loop-label-preserved : goal.loop-label-preserved
loop-label-preserved c =
    let f = goes_to_first c.args.uses.now c.args.fork in
    record {
      mine = keep-step f c.args.labels.now c.loop-label.label-index c.loop-label.mine.items c.if-goes_first.mine.items c.goes_first.result
          c.loop-label-test.true (sym c.goes_first.ensures)
          (elim c.if-goes_first.branch [
            | then-goes_first+in_ok-push w ↦ ap (λ (v : Vec ℕ Global). v.items) w.mine-is
                ∙ (w.in_ok-push.ensures.items ∙ ap (λ b. cond b (c.loop-label.mine.items ++ get_or c.args.labels.now c.loop-label.label-index 0 ∷ [])
                c.loop-label.mine.items) (sym w.if-goes_first.true))
            | else-goes_first+in_ok-push-2 w ↦ ap (λ (v : Vec ℕ Global). v.items) w.mine-is
                ∙ ap (λ b. cond b (c.loop-label.mine.items ++ get_or c.args.labels.now c.loop-label.label-index 0 ∷ []) c.loop-label.mine.items)
                (sym w.if-goes_first.false)
          ])
          c.loop-label.invariant.mine;
      others = keep-step (λ n. not (f n)) c.args.labels.now c.loop-label.label-index c.loop-label.others.items c.if-goes_first.others.items
          (not c.goes_first.result) c.loop-label-test.true (ap not (sym c.goes_first.ensures))
          (elim c.if-goes_first.branch [
            | then-goes_first+in_ok-push w ↦ ap (λ (v : Vec ℕ Global). v.items) w.others-is
                ∙ ap (λ b. cond (not b) (c.loop-label.others.items ++ get_or c.args.labels.now c.loop-label.label-index 0 ∷ []) c.loop-label.others.items)
                (sym w.if-goes_first.true)
            | else-goes_first+in_ok-push-2 w ↦ ap (λ (v : Vec ℕ Global). v.items) w.others-is
                ∙ (w.in_ok-push-2.ensures.items ∙ ap (λ b. cond (not b) (c.loop-label.others.items ++ get_or c.args.labels.now c.loop-label.label-index 0 ∷ [])
                c.loop-label.others.items) (sym w.if-goes_first.false))
          ])
          c.loop-label.invariant.others;
    }

pub returns-clause-first : goal.returns-clause-first
returns-clause-first c = keep-end (goes_to_first c.args.uses.now c.args.fork) c.args.labels.now c.loop-label.label-index c.loop-label.mine.items
    c.loop-label-test.false c.loop-label.invariant.mine

pub returns-clause-others : goal.returns-clause-others
returns-clause-others c = keep-end (λ n. not (goes_to_first c.args.uses.now c.args.fork n)) c.args.labels.now c.loop-label.label-index c.loop-label.others.items
    c.loop-label-test.false c.loop-label.invariant.others

pub returns-in_err-push-2-clause-first : goal.returns-in_err-push-2-clause-first
returns-in_err-push-2-clause-first c = IfOk-from_err c.from_residual-in_err-push-2.result _ c.from_residual-in_err-push-2.ensures.0

pub returns-in_err-push-2-clause-others : goal.returns-in_err-push-2-clause-others
returns-in_err-push-2-clause-others c = IfOk-from_err c.from_residual-in_err-push-2.result _ c.from_residual-in_err-push-2.ensures.0

pub returns-in_err-push-clause-first : goal.returns-in_err-push-clause-first
returns-in_err-push-clause-first c = IfOk-from_err c.from_residual.result _ c.from_residual.ensures.0

pub returns-in_err-push-clause-others : goal.returns-in_err-push-clause-others
returns-in_err-push-clause-others c = IfOk-from_err c.from_residual.result _ c.from_residual.ensures.0
