-- A worker has the same seat still.
use Rattle.std.proofs.Common.{refl, ◌∙◌}
use Rattle.ll_crew.specs.Workers.{Holds}
use Rattle.ll_crew.specs.declared.worker.Worker.{Worker}

pub holds_itself : {O F : Type 0} (w : Worker O F) → Holds w w
holds_itself w = record { leads = refl; seat = refl; told = refl; kept = refl; out = refl }

pub holds_on : {O F : Type 0} (a b c : Worker O F) → Holds a b → Holds b c → Holds a c
holds_on a b c f g = record { leads = g.leads ∙ f.leads; seat = g.seat ∙ f.seat; told = g.told ∙ f.told; kept = g.kept ∙ f.kept; out = g.out ∙ f.out }
