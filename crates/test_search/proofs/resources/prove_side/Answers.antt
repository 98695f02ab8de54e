use Rattle.std.proofs.Common.{rules, length, ap, ◌∙◌}
use Rattle.ll_resources.specs.History.{History}
use Rattle.test_search.proofs.FitLemmas.{length-picked, can-pick_front}
use Rattle.test_search.proofs.resources.prove_side.Goals as goal
use Rattle.test_search.proofs.resources.prove_side.Goals.{then-side+else-assert+else-assert-2+in_ok-pick, else-side}

pub pick-requires : goal.pick-requires
pick-requires g c = can-pick_front c.args.context.now.present _ c.entry-front.ensures (search rules)

pub returns-in_ok-erase-clause-entries : goal.returns-in_ok-erase-clause-entries
returns-in_ok-erase-clause-entries g c =
    ap (λ r. length r.entries) c.in_ok-erase.ensures.erased
    ∙ elim c.if-side.branch [
      | then-side+else-assert+else-assert-2+in_ok-pick w ↦
          ap (λ h. length h.present.entries) w.context-is ∙ (ap (λ r. length r.entries) w.in_ok-pick.ensures.picked ∙ length-picked _ _)
      | else-side w ↦ ap (λ h. length h.present.entries) w.context-is
    ]

pub returns-else-side-2-clause-entries : goal.returns-else-side-2-clause-entries
returns-else-side-2-clause-entries g c =
    elim c.if-side.branch [
      | then-side+else-assert+else-assert-2+in_ok-pick w ↦
          ap (λ h. length h.present.entries) w.context-is ∙ (ap (λ r. length r.entries) w.in_ok-pick.ensures.picked ∙ length-picked _ _)
      | else-side w ↦ ap (λ h. length h.present.entries) w.context-is
    ]
