use Rattle.std.proofs.Common.{length, refl}
use Rattle.ll_prooftext.proofs.reading.Rest.{stops_more, not_empty}
use Rattle.ll_prooftext.proofs.rows.no_more.Goals as goal

pub returns-else-is_empty-clause-err : goal.returns-else-is_empty-clause-err
returns-else-is_empty-clause-err c = stops_more c.args.bytes.now (length c.args.bytes.now) c.requires
    (not_empty c.args.bytes.now c.is_empty.ensures c.if-is_empty.false) refl

pub returns-then-is_empty-clause-err : goal.returns-then-is_empty-clause-err
returns-then-is_empty-clause-err c = _

pub returns-else-is_empty-clause-ok : goal.returns-else-is_empty-clause-ok
returns-else-is_empty-clause-ok c = _
