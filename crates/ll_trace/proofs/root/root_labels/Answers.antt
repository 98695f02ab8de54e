use Rattle.std.proofs.Common.{◌≡◌, ◌+◌, ap, sym, subst, ◌∙◌, List, ℕ, take, take_all}
use Rattle.std.proofs.lemmas.Result.{IfOk-from_err}
use Rattle.ll_trace.specs.Start.{linear_labels}
use Rattle.ll_trace.proofs.ExplainLemmas.{label_linear, label_other}
use Rattle.ll_trace.proofs.root.root_labels.Goals as goal
use Rattle.ll_trace.proofs.root.root_labels.Goals.{in-Linear+in_ok-push-in-Linear, in-Unbounded}

pub loop-label-preserved : goal.loop-label-preserved
loop-label-preserved c =
    elim c.match-clause.branch [
      | in-Linear+in_ok-push-in-Linear w ↦ subst (λ (ns : List ℕ). ns ≡ linear_labels 0 (take (c.loop-label.label + 1) c.args.clauses.now))
          (sym (ap (λ v. v.items) w.labels-is))
          (label_linear c.args.clauses.now c.loop-label.label _ c.loop-label.labels.items w.push.new.self.items c.loop-label-test.true c.loop-label.invariant
          w.in-Linear.is w.in_ok-push-in-Linear.ensures.items)
      | in-Unbounded w ↦ subst (λ (ns : List ℕ). ns ≡ linear_labels 0 (take (c.loop-label.label + 1) c.args.clauses.now)) (sym (ap (λ v. v.items) w.labels-is))
          (label_other c.args.clauses.now c.loop-label.label _ c.loop-label.labels.items c.loop-label-test.true c.loop-label.invariant w.in-Unbounded.is)
    ]

pub returns-in_err-push-in-Linear : goal.returns-in_err-push-in-Linear
returns-in_err-push-in-Linear c = IfOk-from_err c.from_residual.result _ c.from_residual.ensures.0

pub loop-label-init : goal.loop-label-init
loop-label-init c = c.new-labels.ensures.items

pub returns : goal.returns
returns c = c.loop-label.invariant ∙ ap (linear_labels 0) (take_all c.loop-label.label c.args.clauses.now c.loop-label-test.false)
