use Rattle.std.proofs.Common.{sym, subst, All}
use Rattle.std.proofs.lemmas.List.Elements.{All-pop}
use Rattle.test_engine.specs.Batches.{IsSharedOf}
use Rattle.test_engine.proofs.advancing.go_through_all.Goals as goal

pub batches-preserved : goal.batches-preserved
batches-preserved c =
    let popped = All-pop (IsSharedOf c.batches.engine.problem) c.batches.batches.items c.pop.new.self.items c.pop.result c.pop.ensures.items c.batches.invariant
    in
    subst (λ p. All (IsSharedOf p) c.pop.new.self.items) (sym c.in_ok-engine.ensures) popped.0
