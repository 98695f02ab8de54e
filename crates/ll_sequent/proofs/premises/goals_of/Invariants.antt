use Rattle.std.proofs.Common.{◌≡◌, map, take}
use Rattle.ll_bank.specs.Nodes.{Extends}
use Rattle.ll_laws.specs.Leaf.{premise_goal}
use Rattle.ll_sequent.specs.Constants.{AllInForms}
use Rattle.ll_sequent.specs.Opened.{needed_in, form_trees}
use Rattle.ll_sequent.proofs.premises.goals_of.Given as goal

abbrev pub invariant-loop-premise : goal.invariant-loop-premise
invariant-loop-premise l = record {
  keeps : Extends l.fn.bank l.bank;
  inside : AllInForms l.bank l.goals.items;
  shows : form_trees l.bank l.goals.items ≡ map premise_goal (map (needed_in l.fn.bank) (take l.premise-index l.premises));
}
