use Rattle.std.proofs.Common.{ap}
use Rattle.std.proofs.lemmas.Option.{IfSome_then}
use Rattle.ll_store.specs.Layered.{segments_of}
use Rattle.ll_freeze.specs.Frozen.{FrozenSight}
use Rattle.ll_freeze.proofs.Going.{leads}
use Rattle.ll_freeze.proofs.frozen.Frozen.leading_to.Goals as goal

pub returns : goal.returns
returns c =
    let a = c.self.inside in let b = c.other.inside in
    IfSome_then c.leading_to.result c.leading_to.ensures
    (λ more l. leads (segments_of more.now) a.layers.state b.layers.state c.args.self.now.base c.args.other.now.base l
    (ap (λ (f : FrozenSight). f.base) c.self.view_is) (ap (λ (f : FrozenSight). f.base) c.other.view_is))
