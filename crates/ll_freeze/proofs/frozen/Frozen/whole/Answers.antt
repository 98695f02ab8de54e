use Rattle.std.proofs.Common.{sym, subst, ◌∙◌, ◌≤◌, arith}
use Rattle.ll_store.specs.Stored.{State, AreWithin, stored, state_at}
use Rattle.ll_store.specs.Layered.{LayersSight}
use Rattle.ll_freeze.specs.Parts.{parts_at}
use Rattle.ll_freeze.proofs.Freezing.{makes}
use Rattle.ll_freeze.proofs.frozen.Frozen.whole.Goals as goal

pub whole-requires : goal.whole-requires
whole-requires c = subst (λ (s : State). AreWithin s) (sym c.in_ok-store.ensures.state) c.requires.good.store.within

pub invariant_of-result : goal.invariant_of-result
invariant_of-result c =
    let r = c.requires in
    let made = makes (parts_at c.args.at c.args.machine.now) c.in_ok-rest.rest (state_at c.args.at.store (stored c.args.machine.now.store))
    c.in_ok-layers.layers c.args.untried.now c.in_ok-untried.untried.items 0
    c.in_ok-rest.ensures (c.in_ok-layers.ensures ∙ (λ i. let l : LayersSight = record { state = c.in_ok-store.ensures.state i; depth = 0 } in l)) r.left r.tries
    r.count c.in_ok-untried.ensures.items in
    (made.frozen, tt, subst (λ (l : LayersSight). l.depth ≤ 64) (sym c.in_ok-layers.ensures) (omega arith))

pub returns : goal.returns
returns c =
    let r = c.requires in
    (makes (parts_at c.args.at c.args.machine.now) c.in_ok-rest.rest (state_at c.args.at.store (stored c.args.machine.now.store)) c.in_ok-layers.layers
    c.args.untried.now c.in_ok-untried.untried.items 0
    c.in_ok-rest.ensures (c.in_ok-layers.ensures ∙ (λ i. let l : LayersSight = record { state = c.in_ok-store.ensures.state i; depth = 0 } in l)) r.left r.tries
    r.count c.in_ok-untried.ensures.items).sight
