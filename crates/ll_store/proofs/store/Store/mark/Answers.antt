use Rattle.ll_store.specs.Stored.{stored}
use Rattle.ll_store.proofs.MarkLemmas.{before-last}
use Rattle.ll_store.proofs.store.Store.mark.Goals as goal

pub returns-clause-last : goal.returns-clause-last
returns-clause-last c m g = before-last (stored c.args.self.now) m _ g c.len.ensures c.changes.ensures c.size.ensures.is
