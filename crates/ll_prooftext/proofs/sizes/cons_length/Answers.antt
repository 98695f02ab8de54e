use Rattle.std.proofs.Common.{◌≡◌, ap, sym, ◌∙◌, if◌then◌else◌}
use Rattle.ll_prooftext.proofs.writing.Sizing.{cons_sum}
use Rattle.ll_prooftext.proofs.sizes.cons_length.Goals as goal
use Rattle.ll_prooftext.proofs.sizes.cons_length.Goals.{then-first, else-first}

pub returns : goal.returns
returns c =
    let brackets = elim c.if-first.branch as (λ _. c.if-first.brackets ≡ (if c.args.first.is_cons then 2 else 0)) [
      | then-first w ↦ w.brackets-is ∙ sym (ap (λ b. if b then 2 else 0) w.if-first.true)
      | else-first w ↦ w.brackets-is ∙ sym (ap (λ b. if b then 2 else 0) w.if-first.false)
    ] in
    λ names x y f r. cons_sum names x y c.args.first.bytes c.args.rest.bytes c.if-first.brackets c.saturating_add.result c.saturating_add-2.result
    c.args.first.is_cons f.bytes r.bytes f.cons brackets
    c.saturating_add.ensures c.saturating_add-2.ensures
