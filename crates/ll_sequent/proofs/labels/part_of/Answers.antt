use Rattle.std.proofs.Common.{ap, sym, ◌∙◌, ◌++◌, ◌∷◌, [], get_or, Vec, Global, take_all}
use Rattle.std.proofs.lemmas.Result.{IfOk-from_err}
use Rattle.std.specs.Prelude.{filter, cond}
use Rattle.ll_laws.specs.Shows.{has}
use Rattle.ll_sequent.specs.declared.sequents.Resource.{Resource}
use Rattle.ll_sequent.proofs.KeepLemmas.{kept}
use Rattle.ll_sequent.proofs.labels.part_of.Goals as goal
use Rattle.ll_sequent.proofs.labels.part_of.Goals.{then-is_among_from+in_ok-push, else-is_among_from}

pub loop-each-preserved : goal.loop-each-preserved
loop-each-preserved c =
    let d : Resource = record { label = 0; form = record { 0 = 0 } } in
    let row = get_or c.args.resources.now c.loop-each.each-index d in
    kept (λ (r : Resource). has c.args.set.now r.label) c.args.resources.now c.loop-each.each-index d
    c.loop-each.found.items c.if-is_among_from.found.items
    c.is_among_from.result c.loop-each-test.true (sym c.is_among_from.ensures) c.loop-each.invariant
    (elim c.if-is_among_from.branch [
      | then-is_among_from+in_ok-push w ↦ ap (λ (v : Vec Resource Global). v.items) w.found-is
          ∙ (w.in_ok-push.ensures.items ∙ ap (λ b. cond b (c.loop-each.found.items ++ row ∷ []) c.loop-each.found.items)
          (sym w.if-is_among_from.true))
      | else-is_among_from w ↦ ap (λ (v : Vec Resource Global). v.items) w.found-is
          ∙ ap (λ b. cond b (c.loop-each.found.items ++ row ∷ []) c.loop-each.found.items)
          (sym w.if-is_among_from.false)
    ])

pub returns : goal.returns
returns c =
    c.loop-each.invariant
    ∙ ap (filter (λ (r : Resource). has c.args.set.now r.label)) (take_all c.loop-each.each-index c.args.resources.now c.loop-each-test.false)

pub returns-in_err-push : goal.returns-in_err-push
returns-in_err-push c = IfOk-from_err c.from_residual.result _ c.from_residual.ensures.0
