use Rattle.std.proofs.Common.{arith, length}
use Rattle.std.proofs.lemmas.Bool.Decides.{nat_tests}
use Rattle.ll_prooftext.proofs.reading.CellsRead.{no_row_there}
use Rattle.ll_prooftext.proofs.cells.row_numbered.Goals as goal

pub returns-in-None : goal.returns-in-None
returns-in-None c = no_row_there (length c.args.rows.now) c.in_ok-row.row c.args.number.now c.requires (omega arith) c.in_ok-row.ensures
    (grind (arith, nat_tests, c.in-None.ensures.lookup))
