use Rattle.std.proofs.Common.{◌≡◌, map, drop}
use Rattle.ll_bank.specs.Nodes.{Nodes}
use Rattle.ll_laws.specs.Fault.{parts_fit}
use Rattle.ll_laws.specs.ShownLines.{part_line}
use Rattle.ll_sequent.specs.Steps.{blank}
use Rattle.ll_sequent.specs.Opened.{needed_in}
use Rattle.ll_sequent.proofs.premises.fit.Given as goal

abbrev pub invariant-loop-i : goal.invariant-loop-i
invariant-loop-i l = (bank : Nodes) → parts_fit (blank (map part_line l.parts)) (map (needed_in bank) l.premises) ≡ parts_fit (blank
    (map part_line (drop l.i l.parts))) (map (needed_in bank) (drop l.i l.premises))
