use Rattle.std.proofs.Common.{◌≡◌, take}
use Rattle.ll_bank.specs.Form.{close_form}
use Rattle.ll_bank.specs.Nodes.{term_trees, form_tree, HasForm, Extends}
use Rattle.ll_modules.specs.Loads.{arguments_env}
use Rattle.ll_modules.proofs.close_clause.Given as goal

abbrev pub invariant-loop-i : goal.invariant-loop-i
invariant-loop-i l = record {
  inside : HasForm l.bank l.at.0;
  closes : close_form (arguments_env (take l.i (term_trees l.fn.bank l.args))) (form_tree l.bank l.at.0)
      ≡ close_form (arguments_env (term_trees l.fn.bank l.args)) (form_tree l.fn.bank l.fn.form.0);
  keeps : Extends l.fn.bank l.bank;
}
