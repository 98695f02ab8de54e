use Rattle.std.proofs.Common.{◌≡◌, false, ap, sym, ◌∙◌, if◌then◌else◌}
use Rattle.ll_bank.specs.Nodes.{term_tree}
use Rattle.ll_laws.specs.Output.{has_arguments}
use Rattle.ll_prooftext.proofs.writing.Sizing.{field_sum}
use Rattle.ll_prooftext.proofs.sizes.field_length.Goals as goal
use Rattle.ll_prooftext.proofs.sizes.field_length.Goals.{then-has_any_arguments, else-has_any_arguments}

pub returns : goal.returns
returns c =
    let tree = term_tree c.args.bank.now c.args.at.0 in
    let brackets = elim c.if-has_any_arguments.branch as (λ _. c.if-has_any_arguments.brackets ≡ (if has_arguments tree then 2 else 0)) [
      | then-has_any_arguments w ↦ w.brackets-is ∙ sym (ap (λ b. if b then 2 else 0) (sym c.has_any_arguments.ensures ∙ w.if-has_any_arguments.true))
      | else-has_any_arguments w ↦ w.brackets-is ∙ sym (ap (λ b. if b then 2 else 0) (sym c.has_any_arguments.ensures ∙ w.if-has_any_arguments.false))
    ] in
    λ names h. field_sum names tree _ c.if-has_any_arguments.brackets c.saturating_add.result
    (h.each c.args.at.0 (record { bytes = 0; is_cons = false }) c.requires.reach).bytes brackets c.saturating_add.ensures
