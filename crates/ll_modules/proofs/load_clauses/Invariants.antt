use Rattle.std.proofs.Common.{drop, map}
use Rattle.ll_bank.specs.Nodes.{term_trees, form_tree, ShowsForm, Extends}
use Rattle.ll_laws.specs.Module.{load_all}
use Rattle.ll_laws.specs.Shown.{clause_tree}
use Rattle.ll_modules.specs.Loads.{arguments_env}
use Rattle.ll_modules.proofs.load_clauses.Given as goal

abbrev pub invariant-loop-i : goal.invariant-loop-i
invariant-loop-i l = record {
  shows : ShowsForm l.bank l.at.0 (load_all (arguments_env (term_trees l.fn.bank l.args)) (map (clause_tree l.fn.bank) (drop l.i l.clauses))
      (form_tree l.fn.bank l.fn.goal.0));
  keeps : Extends l.fn.bank l.bank;
}
