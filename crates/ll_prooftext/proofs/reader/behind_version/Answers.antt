use Rattle.std.proofs.Common.{refl}
use Rattle.ll_prooftext.proofs.reading.LinesRead.{version_is}
use Rattle.ll_prooftext.proofs.reader.behind_version.Goals as goal

pub returns-then-eq : goal.returns-then-eq
returns-then-eq c = version_is c.args.text.now _ c.next.new.self c.in_ok-first.first _ refl refl c.in_ok-first.ensures c.if-eq.ensures
