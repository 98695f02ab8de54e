use Rattle.std.proofs.Common.{ap, sym, ◌∙◌}
use Rattle.ll_bank.specs.Term.{has_eigen}
use Rattle.ll_sequent.proofs.ConstantLemmas.{eigen_there, eigen_behind}
use Rattle.ll_sequent.proofs.constants.parts.Goals as goal

pub returns-then-is_constant : goal.returns-then-is_constant
returns-then-is_constant c =
    ap (has_eigen c.args.constant) c.in-App.ensures.shown.0
    ∙ eigen_there c.args.constant c.args.bank.now c.in-App.head c.in-App.args.now (sym c.is_constant.ensures ∙ c.if-is_constant.true)

pub returns-else-is_constant : goal.returns-else-is_constant
returns-else-is_constant c = record {
  same = ap (has_eigen c.args.constant) c.in-App.ensures.shown.0
      ∙ eigen_behind c.args.constant c.args.bank.now c.in-App.head c.in-App.args.now (sym c.is_constant.ensures ∙ c.if-is_constant.false);
  lower = c.in-App.ensures.shown.1;
}
