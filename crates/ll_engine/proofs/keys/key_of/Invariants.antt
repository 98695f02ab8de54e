use Rattle.std.proofs.Common.{◌≡◌}
use Rattle.ll_bank.specs.Nodes.{HasForm, form_tree}
use Rattle.ll_freeze.specs.Keyed.{clause_key}
use Rattle.ll_engine.proofs.keys.key_of.Given as goal

abbrev pub invariant-parts : goal.invariant-parts
invariant-parts l = record {
  inside : HasForm l.bank l.form.0;
  key : clause_key (form_tree l.bank l.form.0) ≡ clause_key (form_tree l.bank l.fn.clause.0);
}

abbrev pub decreases-parts : goal.decreases-parts
decreases-parts l = l.form.0
