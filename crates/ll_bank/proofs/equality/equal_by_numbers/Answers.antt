use Rattle.std.proofs.lemmas.Result.{IfOk-from_err}
use Rattle.std.proofs.lemmas.Bool.{eqb-true, eq-eqb}
use Rattle.ll_bank.specs.Nodes.{term_tree}
use Rattle.ll_bank.proofs.SignLemmas.{one_number, same_number, HasNumber-grows}
use Rattle.ll_bank.proofs.equality.equal_by_numbers.Goals as goal

pub returns : goal.returns
returns c = (
  (λ e. same_number c.number_of-2.new.signs.keys c.in_ok-mine.mine c.in_ok-theirs.theirs (term_tree c.args.bank.now c.args.at.0)
      (term_tree c.args.other.now c.args.there.0)
      (HasNumber-grows c.in_ok-theirs.ensures.grows c.in_ok-mine.mine (term_tree c.args.bank.now c.args.at.0) c.in_ok-mine.ensures.number)
      c.in_ok-theirs.ensures.number (eqb-true _ _ e)),
  λ e. eq-eqb _ _ (one_number c.number_of-2.new.signs.keys c.in_ok-theirs.ensures.grows.table c.in_ok-mine.mine c.in_ok-theirs.theirs
      (term_tree c.args.bank.now c.args.at.0)
      (term_tree c.args.other.now c.args.there.0) (HasNumber-grows c.in_ok-theirs.ensures.grows c.in_ok-mine.mine (term_tree c.args.bank.now c.args.at.0)
      c.in_ok-mine.ensures.number)
      c.in_ok-theirs.ensures.number e),
)

pub returns-in_err-mine : goal.returns-in_err-mine
returns-in_err-mine c = IfOk-from_err c.from_residual.result _ c.from_residual.ensures.0

pub returns-in_err-theirs : goal.returns-in_err-theirs
returns-in_err-theirs c = IfOk-from_err c.from_residual-in_err-theirs.result _ c.from_residual-in_err-theirs.ensures.0
