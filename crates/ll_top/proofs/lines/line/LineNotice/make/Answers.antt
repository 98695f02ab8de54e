use Rattle.std.proofs.Common.{ℕ, [], ap, sym, ◌∙◌, Some}
use Rattle.std.specs.Prelude.{option_map}
use Rattle.smallvec.specs.SmallVec.{SmallVec}
use Rattle.ll_bank.specs.Nodes.{term_trees}
use Rattle.ll_top.specs.lines.Lines.{lines_behind, lines_of_event}
use Rattle.std.proofs.lemmas.Result.{IfOk-from_err}
use Rattle.ll_top.proofs.lines.line.LineNotice.make.Goals as goal
use Rattle.ll_top.proofs.lines.line.LineNotice.make.Goals.{in-Answer+in_ok-lines_behind-in-Answer, in-Reached}

pub returns-in_err-lines_behind-in-Answer : goal.returns-in_err-lines_behind-in-Answer
returns-in_err-lines_behind-in-Answer g c = IfOk-from_err c.from_residual.result _ c.from_residual.ensures.0

pub invariant_of-result : goal.invariant_of-result
invariant_of-result g c =
    let p = g.K.Asked.problem in
    record {
      tells =
          elim c.match-event.branch [
            | in-Answer+in_ok-lines_behind-in-Answer w ↦
                let bank = w.branch.inside.bank in
                ap (option_map (λ (v : SmallVec ℕ). v.items)) w.text-is
                ∙ (ap Some (w.in_ok-lines_behind-in-Answer.ensures
                ∙ (ap (λ p. lines_behind p (record { terms = term_trees bank w.deref.result.now; steps = [] })) c.requires
                ∙ (ap (λ ats. lines_behind p (record { terms = term_trees bank ats; steps = [] })) w.deref.ensures.value
                ∙ ap (lines_behind p) w.branch.view_is)))
                ∙ sym (ap (lines_of_event p) (c.ghost_by.ensures ∙ w.in-Answer.is)))
            | in-Reached w ↦ ap (option_map (λ (v : SmallVec ℕ). v.items)) w.text-is ∙ sym (ap (lines_of_event p) (c.ghost_by.ensures ∙ w.in-Reached.is))
          ];
    }
