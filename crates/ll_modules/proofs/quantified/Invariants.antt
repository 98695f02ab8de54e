use Rattle.ll_bank.specs.Nodes.{ShowsForm, form_tree, Extends}
use Rattle.ll_laws.specs.Module.{forall_all}
use Rattle.ll_modules.proofs.quantified.Given as goal

abbrev pub invariant-loop-passed : goal.invariant-loop-passed
invariant-loop-passed l = record {
  shows : ShowsForm l.bank l.form.0 (forall_all l._passed (form_tree l.fn.bank l.fn.body.0));
  keeps : Extends l.fn.bank l.bank;
}
