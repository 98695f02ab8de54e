use Rattle.std.proofs.Common.{◌≡◌, List, [], ◌∷◌, length, refl, sym, ◌∙◌}
use Rattle.std.proofs.lemmas.Bool.{eqb-true}
use Rattle.ll_bank.specs.Opened.{Spot}
use Rattle.ll_bank.proofs.closing.form.is_single.Goals as goal

none : (xs : List Spot) → length xs ≡ 0 → xs ≡ []
none [] e = refl
none (x ∷ xs) e = cc

pub returns : goal.returns
returns c = λ e. none _ (sym (c.part_count.ensures c.args.task.level) ∙ eqb-true c.part_count.result 0 e)
