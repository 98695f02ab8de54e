use Rattle.ll_prooftext.specs.SharedReader.{AreInPlace}
use Rattle.ll_prooftext.proofs.shared_reader.first_off.Given as goal

abbrev pub invariant-loop-row : goal.invariant-loop-row
invariant-loop-row l = AreInPlace l.table l.rows l.row
