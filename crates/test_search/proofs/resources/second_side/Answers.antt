use Rattle.std.proofs.Common.{length, subst, sym}
use Rattle.ll_resources.specs.Resources.{saved_as, SavedFits}
use Rattle.test_search.proofs.FitLemmas.{fits-alike, fits-save, fits-half, fits-middle}
use Rattle.test_search.proofs.resources.second_side.Goals as goal

pub returns-clause-saved : goal.returns-clause-saved
returns-clause-saved g c =
    let kept : SavedFits c.in_ok-saved.saved c.save.new.self.present =
    subst (λ n. SavedFits n c.save.new.self.present) (sym c.in_ok-saved.ensures.number)
    (subst (SavedFits (saved_as (length c.in_ok-context.context.present.kept))) (sym c.in_ok-saved.ensures.saved)
    (fits-save c.in_ok-context.context.present)) in
    let first = fits-alike c.save.new.self.present c.prove_side.new.context.present c.in_ok-saved.saved c.in_ok-prove_side.ensures.kept
    c.in_ok-prove_side.ensures.entries kept in
    let middle = subst (SavedFits c.in_ok-saved.saved) (sym c.in_ok-half.ensures.middle)
    (fits-middle c.prove_side.new.context.present c.in_ok-saved.saved first) in
    fits-alike c.with_mid.new.self.present c.prove_side-2.new.context.present c.in_ok-saved.saved c.in_ok-prove_side-2.ensures.kept
    c.in_ok-prove_side-2.ensures.entries middle

pub returns-clause-half : goal.returns-clause-half
returns-clause-half g c =
    let middle = subst (λ n. SavedFits n c.with_mid.new.self.present) (sym c.in_ok-half.ensures.number)
    (subst (SavedFits (saved_as (length c.prove_side.new.context.present.kept))) (sym c.in_ok-half.ensures.middle)
    (fits-half c.prove_side.new.context.present c.in_ok-saved.saved)) in
    fits-alike c.with_mid.new.self.present c.prove_side-2.new.context.present c.in_ok-half.half c.in_ok-prove_side-2.ensures.kept
    c.in_ok-prove_side-2.ensures.entries middle
