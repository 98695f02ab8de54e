use Rattle.std.proofs.lemmas.Result.{IfOk-from_err}
use Rattle.ll_prooftext.proofs.versions.read_any.Goals as goal

pub returns-in_err-read2-clause-ok : goal.returns-in_err-read2-clause-ok
returns-in_err-read2-clause-ok c = IfOk-from_err c.from_residual.result _ c.from_residual.ensures.0

pub returns-in_err-read2-clause-names : goal.returns-in_err-read2-clause-names
returns-in_err-read2-clause-names c = IfOk-from_err c.from_residual.result _ c.from_residual.ensures.0

pub returns-in_err-read-clause-ok : goal.returns-in_err-read-clause-ok
returns-in_err-read-clause-ok c = IfOk-from_err c.from_residual-in_err-read.result _ c.from_residual-in_err-read.ensures.0

pub returns-in_err-read-clause-names : goal.returns-in_err-read-clause-names
returns-in_err-read-clause-names c = IfOk-from_err c.from_residual-in_err-read.result _ c.from_residual-in_err-read.ensures.0

pub returns-in_ok-read2-clause-err : goal.returns-in_ok-read2-clause-err
returns-in_ok-read2-clause-err c = _

pub returns-in_ok-read-clause-err : goal.returns-in_ok-read-clause-err
returns-in_ok-read-clause-err c = _

pub read2-requires-clause-short : goal.read2-requires-clause-short
read2-requires-clause-short c = c.requires.short

pub read2-requires-clause-room : goal.read2-requires-clause-room
read2-requires-clause-room c = c.requires.room

pub returns-in_err-read2-clause-grows : goal.returns-in_err-read2-clause-grows
returns-in_err-read2-clause-grows c = c.in_err-read2.ensures.grows

pub read-requires-clause-short : goal.read-requires-clause-short
read-requires-clause-short c = c.requires.short

pub read-requires-clause-room : goal.read-requires-clause-room
read-requires-clause-room c = c.requires.room

pub returns-in_err-read-clause-grows : goal.returns-in_err-read-clause-grows
returns-in_err-read-clause-grows c = c.in_err-read.ensures.grows

pub returns-in_ok-read2-clause-names : goal.returns-in_ok-read2-clause-names
returns-in_ok-read2-clause-names c = c.in_ok-read2.ensures.names

pub returns-in_ok-read2-clause-grows : goal.returns-in_ok-read2-clause-grows
returns-in_ok-read2-clause-grows c = c.in_ok-read2.ensures.grows

pub returns-in_ok-read-clause-names : goal.returns-in_ok-read-clause-names
returns-in_ok-read-clause-names c = c.in_ok-read.ensures.names

pub returns-in_ok-read-clause-grows : goal.returns-in_ok-read-clause-grows
returns-in_ok-read-clause-grows c = c.in_ok-read.ensures.grows
