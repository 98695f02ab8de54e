use Rattle.std.proofs.Common.{◌≡◌, ◌||◌, ◌&&◌, sym, ap, ◌∙◌, Bool, List}
use Rattle.std.specs.Prelude.{reverse}
use Rattle.ll_laws.specs.Settle.{kept_if, within, both_live}
use Rattle.ll_resources.specs.Seen.{filled}
use Rattle.ll_resources.proofs.SeenLemmas.{length-filled}
use Rattle.ll_resources.proofs.MarkLemmas.{joined}
use Rattle.ll_resources.proofs.marks.agree.Goals as goal
use Rattle.ll_resources.proofs.marks.agree.Goals.{then-first_flag, else-first_flag, then-second_flag, else-second_flag}

pub returns : goal.returns
returns c =
    let a : List Bool = filled c.args.count (reverse c.args.first.now) in
    let b : List Bool = filled c.args.count (reverse c.args.second.now) in
    let forth : c.if-first_flag.forth ≡ (c.args.first_flag || within a b) =
    elim c.if-first_flag.branch [
      | then-first_flag w ↦ w.forth-is ∙ (w.if-first_flag.true ∙ ap (λ x. x || within a b) (sym w.if-first_flag.true))
      | else-first_flag w ↦ w.forth-is ∙ (w.is_within-forth.ensures ∙ ap (λ x. x || within a b) (sym w.if-first_flag.false))
    ] in
    let back : c.if-second_flag.back ≡ (c.args.second_flag || within b a) =
    elim c.if-second_flag.branch [
      | then-second_flag w ↦ w.back-is ∙ (w.if-second_flag.true ∙ ap (λ x. x || within b a) (sym w.if-second_flag.true))
      | else-second_flag w ↦ w.back-is ∙ (w.is_within-back.ensures ∙ ap (λ x. x || within b a) (sym w.if-second_flag.false))
    ] in
    joined c.args.first_flag c.args.second_flag a b (length-filled c.args.count (reverse c.args.first.now)
    ∙ sym (length-filled c.args.count (reverse c.args.second.now)))
    ∙ (ap (λ x. kept_if (x && (c.args.second_flag || within b a)) (both_live a b) (c.args.first_flag && c.args.second_flag)) (sym forth)
    ∙ ap (λ y. kept_if (c.if-first_flag.forth && y) (both_live a b) (c.args.first_flag && c.args.second_flag)) (sym back))
