use Rattle.std.proofs.Common.{◌∙◌, ap, sym, arith}
use Rattle.std.proofs.lemmas.Result.{IfOk-from_err}
use Rattle.ll_sequent.proofs.StartLemmas.{kind_in, kind_out}
use Rattle.ll_laws.specs.declared.Kind.TheVariants.{Linear}
use Rattle.ll_sequent.proofs.start.of_kind.Goals.{then-is_same+in_ok-push, else-is_same}
use Rattle.ll_sequent.proofs.start.of_kind.Goals as goal

pub loop-label-preserved : goal.loop-label-preserved
loop-label-preserved c =
    elim c.if-is_same.branch [
      | then-is_same+in_ok-push w ↦
          kind_in c.args.kind c.args.clauses.now c.loop-label.label (record { kind = Linear; form = record { 0 = 0 } }) (omega arith) c.loop-label.found.items _
          c.loop-label.invariant c.if-is_same.found.items
          (sym c.is_same.ensures ∙ w.if-is_same.true) (ap (λ v. v.items) w.found-is ∙ w.in_ok-push.ensures.items)
      | else-is_same w ↦
          kind_out c.args.kind c.args.clauses.now c.loop-label.label (record { kind = Linear; form = record { 0 = 0 } }) (omega arith) c.loop-label.found.items
          _ c.loop-label.invariant c.if-is_same.found.items
          (sym c.is_same.ensures ∙ w.if-is_same.false) (ap (λ v. v.items) w.found-is)
    ]

pub returns-in_err-push : goal.returns-in_err-push
returns-in_err-push c = IfOk-from_err c.from_residual.result _ c.from_residual.ensures.0
