use Rattle.std.proofs.Common.{refl}
use Rattle.ll_prooftext.specs.Tables.{row_at, left_known}
use Rattle.ll_prooftext.proofs.tabling.TableSteps.{is_there}
use Rattle.ll_prooftext.proofs.table.Table.leave.Goals as goal

pub returns-then-is_some : goal.returns-then-is_some
returns-then-is_some c =
    let k = is_there (row_at c.args.self.now c.args.at.0) c.row.result c.is_some.result c.row.ensures c.is_some.ensures c.if-is_some.true in
    left_known k.0 k.1 refl
