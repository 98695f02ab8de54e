use Rattle.std.proofs.Common.{◌∙◌, arith, ◌+◌}
use Rattle.std.proofs.lemmas.Bool.{ne_eqb}
use Rattle.ll_resources.specs.Seen.{resource}
use Rattle.ll_engine.proofs.inferences.TakeLemmas.{passed, place_there}
use Rattle.ll_engine.proofs.take.place_with.Goals as goal

pub returns-then-entry-label-clause-some : goal.returns-then-entry-label-clause-some
returns-then-entry-label-clause-some c =
    place_there c.args.context.now.present.entries c.args.label c.loop-from_front.from_front (resource c.entry-entry.result) c.requires c.entry-entry.ensures
    c.if-entry-label.true

pub loop-from_front-preserved : goal.loop-from_front-preserved
loop-from_front-preserved c =
    passed c.args.context.now.present.entries c.loop-from_front.from_front (c.loop-from_front.from_front + 1) (resource c.entry-entry.result) c.args.label
    (omega arith) c.entry-entry.ensures
    (ne_eqb c.entry-entry.result.label c.args.label c.if-entry-label.false) ∙ c.loop-from_front.invariant

pub returns-in-Some-clause-none : goal.returns-in-Some-clause-none
returns-in-Some-clause-none c = _

pub returns-in-Some-loaded_place-clause-none : goal.returns-in-Some-loaded_place-clause-none
returns-in-Some-loaded_place-clause-none c = _

pub returns-then-entry-label-clause-none : goal.returns-then-entry-label-clause-none
returns-then-entry-label-clause-none c = _

pub returns-clause-inside : goal.returns-clause-inside
returns-clause-inside c = _

pub returns-clause-some : goal.returns-clause-some
returns-clause-some c = _
