-- Taking a report leaves the number of workers as it is.
use Rattle.std.proofs.Common.{◌≡◌, List, ap, Some, None}
use Rattle.ll_laws.specs.Pool.{Owed, PoolData}
use Rattle.ll_laws.specs.CoreEvents.{Readies, ReadyAnswer, Events, NotYet, All}

pub readied-workers : {N E : Type 0} (alternatives : N → List (Owed E)) (p : PoolData N E) (answer : ReadyAnswer E) (q : PoolData N E)
    → Readies alternatives p answer q → q.workers ≡ p.workers
readied-workers alternatives p (Events report) q h = ap (λ (d : PoolData _ _). d.workers) h.3
readied-workers alternatives p (NotYet (Some i)) q h = ap (λ (d : PoolData _ _). d.workers) h.4
readied-workers alternatives p (NotYet None) q h = ap (λ (d : PoolData _ _). d.workers) h.3
readied-workers alternatives p All q h = ap (λ (d : PoolData _ _). d.workers) h.2
