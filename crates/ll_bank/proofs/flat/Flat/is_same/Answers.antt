use Rattle.std.proofs.Common.{sym, ◌∙◌, true≢false}
use Rattle.ll_bank.specs.Storage.{deep_of}
use Rattle.ll_bank.proofs.flat.Flat.is_same.Goals as goal
use Rattle.ll_bank.proofs.flat.Flat.is_same.Goals.{then-eq, else-eq, then-are_same_terms, else-are_same_terms, then-are_same_forms, else-are_same_forms}

pub returns-then-are_same_children : goal.returns-then-are_same_children
returns-then-are_same_children c =
    elim c.if-are_same_forms.branch [
      | then-are_same_forms w ↦
          elim c.if-are_same_terms.branch [
            | then-are_same_terms v ↦
                elim c.if-eq.branch [
                  | then-eq u ↦
                      (λ e.
                      let terms = sym u.deref.ensures.value ∙
                      (u.are_same_terms.ensures (sym u.value-is ∙ v.if-are_same_terms.true) ∙ u.deref-then-eq.ensures.value) in
                      let forms = sym v.deref-then-are_same_terms.ensures.value
                      ∙ (v.are_same_forms.ensures (sym v.value-is ∙ w.if-are_same_forms.true) ∙ v.deref-then-are_same_terms-2.ensures.value) in
                      let arguments = sym w.deref-then-are_same_forms.ensures.value
                      ∙ (w.are_same_children.ensures (sym w.value-is ∙ c.if-are_same_children.true) ∙ w.deref-then-are_same_forms-2.ensures.value) in
                      let loads = sym c.deref-then-are_same_children.ensures.value
                      ∙ (c.are_same_children-then-are_same_children.ensures e ∙ c.deref-then-are_same_children-2.ensures.value) in
                      sym c.self.view_is ∙ ((λ i. deep_of (arguments i) (loads i) (terms i) (forms i)) ∙ c.other.view_is))
                  | else-eq u ↦ (λ e. absurd (true≢false (sym v.if-are_same_terms.true ∙ (u.value-is ∙ u.if-eq.false))))
                ]
            | else-are_same_terms v ↦ (λ e. absurd (true≢false (sym w.if-are_same_forms.true ∙ (v.value-is ∙ v.if-are_same_terms.false))))
          ]
      | else-are_same_forms w ↦ (λ e. absurd (true≢false (sym c.if-are_same_children.true ∙ (w.value-is ∙ w.if-are_same_forms.false))))
    ]
