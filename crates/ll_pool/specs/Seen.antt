-- A pool of which nothing was seen.
use Rattle.std.specs.Prelude.{[], false}
use Rattle.ll_laws.specs.declared.Event.{Event}
use Rattle.ll_laws.specs.Pool.{PoolData}

abbrev pub no_pool : {N : Type 0} → PoolData N Event
no_pool = record { batches = []; pieces = []; workers = 0; busy = 0; total = 0; untried = 0; starved = false; stopped = false }
