use Rattle.std.proofs.Common.{length}
use Rattle.ll_bank.specs.Nodes.{term_trees}
use Rattle.ll_prooftext.specs.Cells.{AreCellFields}
use Rattle.ll_prooftext.proofs.cells.cell_fields.Given as goal

abbrev pub invariant-loop-names : goal.invariant-loop-names
invariant-loop-names l = AreCellFields (term_trees l.initial.bank l.rows) l.initial.names l.initial.bank l.bytes l.names l.bank l.terms.items l.rest

abbrev pub decreases-loop-names : goal.decreases-loop-names
decreases-loop-names l = length l.rest
