use Rattle.ll_laws.specs.declared.Event.{Event}
use Rattle.ll_core.proofs.CallerLemmas.{every_all}
use Rattle.test_shared.proofs.order.drains_in_the_order_of_one_engine.Goals as goal

pub drain-drained-requires-clause-welcome : goal.drain-drained-requires-clause-welcome
drain-drained-requires-clause-welcome g c = λ l. every_all (λ (e : Event). Unit {0}) (λ e. tt) _
