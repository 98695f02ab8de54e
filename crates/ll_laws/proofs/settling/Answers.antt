use Rattle.ll_laws.proofs.search.SettleLaws.{settle_twice, settle-sub}
use Rattle.ll_laws.proofs.settling.Goals as goal

pub returns-clause-once : goal.returns-clause-once
returns-clause-once c = settle_twice

pub returns-clause-under : goal.returns-clause-under
returns-clause-under c = settle-sub
