use Rattle.std.proofs.Common.{◌≡◌, length}
use Rattle.ll_bank.specs.Nodes.{HasForm, form_tree}
use Rattle.ll_laws.specs.Leaf.{ways}
use Rattle.ll_engine.proofs.candidates.behind_premises.Given as goal

abbrev pub invariant-parts : goal.invariant-parts
invariant-parts l = record {
  inside : HasForm l.bank l.form.0;
  same : length (ways (form_tree l.bank l.form.0)) ≡ length (ways (form_tree l.bank l.fn.clause.0));
}

abbrev pub decreases-parts : goal.decreases-parts
decreases-parts l = l.form.0
