use Rattle.std.proofs.Common.{◌≡◌, suc, [], ◌∷◌, map, drop, length, Some}
use Rattle.ll_bank.specs.Nodes.{Extends}
use Rattle.ll_laws.specs.Number.{operators_of}
use Rattle.ll_laws.specs.Shown.{module_tree}
use Rattle.ll_laws.specs.Line.{trees_of}
use Rattle.ll_laws.specs.Shows.{Tree}
use Rattle.ll_sequent.specs.Copied.{copied_line}
use Rattle.ll_sequent.specs.Judging.{beside, fault_at}
use Rattle.ll_sequent.specs.Sequents.{sequent_in, waiting_in, AreHeld, AreWaiting}
use Rattle.ll_sequent.specs.Steps.{Owes}
use Rattle.ll_sequent.proofs.judge.judge_nodes.Given as goal

abbrev pub invariant-loop-node : goal.invariant-loop-node
invariant-loop-node l =
    let ops = operators_of l.names in
    let modules = map (module_tree l.fn.bank) l.modules in
    let lines = map (copied_line l.fn.bank l.copies) l.rules in
    let root = sequent_in l.fn.bank l.fn.free.items l.fn.root in
    record {
      keeps : Extends l.fn.bank l.bank;
      waiting : AreWaiting modules l.bank (length l.free.items) l.waiting.items;
      free : AreHeld modules l.bank l.free.items;
      owes : (x : Tree) → trees_of lines ≡ Some (x ∷ []) → Owes (beside ops modules) (fault_at ops modules x root) (suc l.node) (drop l.node lines)
          (waiting_in l.bank l.free.items l.waiting.items);
    }
