use Rattle.std.proofs.Common.{ap, ◌∙◌}
use Rattle.ll_top.specs.texts.Endings.{cause_of}
use Rattle.ll_top.proofs.refused.end_refused.Goals as goal

pub returns-in-Text-clause-ends : goal.returns-in-Text-clause-ends
returns-in-Text-clause-ends g c =
    let same = c.cause.ensures ∙ ap (λ n. cause_of n c.in-Text.refusal) c.name.ensures in
    rw c.in-Text.is (rw same at c.refuse.ensures.refuses)
