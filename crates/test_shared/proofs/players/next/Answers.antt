use Rattle.std.proofs.Common.{◌≡◌, ap, Some, None}
use Rattle.ll_laws.specs.Pool.{PoolData}
use Rattle.ll_laws.specs.CoreEvents.{Readies, ReadyAnswer, Events, NotYet, All}
use Rattle.ll_laws.specs.declared.Event.{Event}
use Rattle.ll_core.specs.Calls.{ready_answer}
use Rattle.test_shared.proofs.Readied.{readied-workers}
use Rattle.test_shared.proofs.players.next.Goals as goal

pub returns : goal.returns
returns c = readied-workers _ _ (ready_answer c.ready.result) _ c.ready.ensures.event
