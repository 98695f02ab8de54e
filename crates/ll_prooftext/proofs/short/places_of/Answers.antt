use Rattle.std.proofs.lemmas.Result.{IfOk-from_err}
use Rattle.std.proofs.Common.{arith, ap, ◌∙◌, ◌++◌}
use Rattle.ll_laws.specs.declared.Rule.{Rule}
use Rattle.ll_prooftext.specs.Short.{rule_places}
use Rattle.ll_prooftext.proofs.writing.Places.{places_on, places_whole}
use Rattle.ll_prooftext.proofs.short.places_of.Goals as goal

pub loop-i-preserved : goal.loop-i-preserved
loop-i-preserved c =
    places_on c.args.asked.now c.args.nodes.now c.loop-i.i c.index-nodes-i.result c.loop-i.places.items c.push_places.new.places.items c.loop-i.invariant
    (omega arith)
    (c.in_ok-push_places.ensures ∙ ap (λ (r : Rule). c.loop-i.places.items ++ rule_places r) c.index-nodes-i.is)

pub returns : goal.returns
returns c = places_whole c.args.asked.now c.args.nodes.now c.loop-i.i c.loop-i.places.items c.loop-i.invariant (omega arith)

pub returns-in_err-extend_from_slice : goal.returns-in_err-extend_from_slice
returns-in_err-extend_from_slice c = IfOk-from_err c.from_residual.result _ c.from_residual.ensures.0

pub returns-in_err-push_places : goal.returns-in_err-push_places
returns-in_err-push_places c = IfOk-from_err c.from_residual-in_err-push_places.result _ c.from_residual-in_err-push_places.ensures.0
