use Rattle.std.proofs.Common.{ℕ, ◌++◌, ap, sym, refl, ◌∙◌, Vec, Global, get_or, [], ◌∷◌}
use Rattle.std.proofs.lemmas.Result.{IfOk-from_err}
use Rattle.std.specs.Prelude.{cond, not, nat_eq}
use Rattle.std.proofs.lemmas.Bool.{eq-eqb, ne_eqb}
use Rattle.ll_laws.specs.Dealing.{without}
use Rattle.ll_trace.proofs.Sharing.{keep-step, keep-end}
use Rattle.ll_trace.proofs.deal.without.Goals as goal
use Rattle.ll_trace.proofs.deal.without.Goals.{then-label-other+in_ok-push, else-label-other}

pub loop-other-init : goal.loop-other-init
loop-other-init c = ap (λ xs. xs ++ without c.args.label c.args.labels.now) c.new-rest.ensures.items

pub loop-other-preserved : goal.loop-other-preserved
loop-other-preserved c =
    keep-step (λ m. not (nat_eq c.args.label m)) c.args.labels.now c.loop-other.other-index c.loop-other.rest.items c.if-label-other.rest.items
    (not (nat_eq c.args.label (get_or c.args.labels.now c.loop-other.other-index 0))) c.loop-other-test.true refl
    (elim c.if-label-other.branch [
      | then-label-other+in_ok-push w ↦ ap (λ (v : Vec ℕ Global). v.items) w.rest-is
          ∙ (w.in_ok-push.ensures.items ∙ ap (λ b. cond (not b) (c.loop-other.rest.items ++ get_or c.args.labels.now c.loop-other.other-index 0 ∷ [])
          c.loop-other.rest.items) (sym (ne_eqb c.args.label (get_or c.args.labels.now c.loop-other.other-index 0) w.if-label-other.true)))
      | else-label-other w ↦ ap (λ (v : Vec ℕ Global). v.items) w.rest-is
          ∙ ap (λ b. cond (not b) (c.loop-other.rest.items ++ get_or c.args.labels.now c.loop-other.other-index 0 ∷ []) c.loop-other.rest.items)
          (sym (eq-eqb c.args.label (get_or c.args.labels.now c.loop-other.other-index 0) w.if-label-other.false))
    ])
    c.loop-other.invariant

pub returns : goal.returns
returns c = keep-end (λ m. not (nat_eq c.args.label m)) c.args.labels.now c.loop-other.other-index c.loop-other.rest.items c.loop-other-test.false
    c.loop-other.invariant

pub returns-in_err-push : goal.returns-in_err-push
returns-in_err-push c = IfOk-from_err c.from_residual.result _ c.from_residual.ensures.0
