use Rattle.ll_resources.specs.Seen.{resource}
use Rattle.ll_engine.proofs.inferences.TakeLemmas.{place_there}
use Rattle.ll_engine.proofs.take.loaded_place.Goals as goal

pub returns-then-entry-label-clause-some : goal.returns-then-entry-label-clause-some
returns-then-entry-label-clause-some c =
    place_there c.args.context.now.present.entries c.args.label c.in_ok-place.place (resource c.entry-entry.result) c.requires c.entry-entry.ensures
    c.if-entry-label.true

pub returns-clause-inside : goal.returns-clause-inside
returns-clause-inside c = _

pub returns-clause-some : goal.returns-clause-some
returns-clause-some c = _
