use Rattle.std.proofs.lemmas.Result.{IfOk-from_err}
use Rattle.std.proofs.Common.{◌≡◌, ℕ, refl, sym, ap, subst, suc, ◌+◌, ◌∙◌, ◌≤◌, arith}
use Rattle.ll_store.specs.Stored.{stored, state_at}
use Rattle.ll_store.specs.Layered.{LayersSight}
use Rattle.ll_freeze.specs.Parts.{parts_at, base_of}
use Rattle.ll_freeze.specs.Frozen.{FrozenSight}
use Rattle.ll_freeze.proofs.Freezing.{makes, same_store}
use Rattle.ll_freeze.proofs.frozen.Frozen.onto.Goals as goal

pub onto-requires-clause-state : goal.onto-requires-clause-state
onto-requires-clause-state c =
    let a = c.ancestor.inside in let m = c.args.machine.now in
    same_store (base_of (parts_at c.args.base m)) (state_at c.args.base.store (stored m.store)) a.rest a.layers a.untried.items a.starts c.args.ancestor.now
    c.requires.base refl c.ancestor.view_is

pub invariant_of-result : goal.invariant_of-result
invariant_of-result c =
    let r = c.requires in let a = c.ancestor.inside in
    let made = makes (parts_at c.args.at c.args.machine.now) c.in_ok-rest.rest (state_at c.args.at.store (stored c.args.machine.now.store))
    c.in_ok-layers.layers c.args.untried.now c.in_ok-untried.untried.items (suc a.layers.depth)
    c.in_ok-rest.ensures c.in_ok-layers.ensures r.left r.tries r.count c.in_ok-untried.ensures.items in
    let d = ap (λ (f : FrozenSight). f.depth) c.ancestor.view_is in
    (made.frozen, tt, subst (λ (l : LayersSight). l.depth ≤ 64) (sym c.in_ok-layers.ensures) (let q = r.depth in omega (arith, q, d)))

pub returns : goal.returns
returns c =
    let r = c.requires in let a = c.ancestor.inside in
    let d = ap (λ (f : FrozenSight). f.depth) c.ancestor.view_is in
    (makes (parts_at c.args.at c.args.machine.now) c.in_ok-rest.rest (state_at c.args.at.store (stored c.args.machine.now.store)) c.in_ok-layers.layers
    c.args.untried.now c.in_ok-untried.untried.items (c.args.ancestor.now.depth + 1)
    c.in_ok-rest.ensures (c.in_ok-layers.ensures ∙ (λ i. let l : LayersSight =
    record { state = state_at c.args.at.store (stored c.args.machine.now.store); depth = next d i } in l)) r.left r.tries r.count
    c.in_ok-untried.ensures.items).sight
  where
    next : {a b : ℕ} → a ≡ b → suc a ≡ b + 1
    next e = omega (arith, e)

pub returns-in_err-untried : goal.returns-in_err-untried
returns-in_err-untried c = IfOk-from_err c.from_residual.result _ c.from_residual.ensures.0

pub returns-in_err-layers : goal.returns-in_err-layers
returns-in_err-layers c = IfOk-from_err c.from_residual-in_err-layers.result _ c.from_residual-in_err-layers.ensures.0

pub returns-in_err-rest : goal.returns-in_err-rest
returns-in_err-rest c = IfOk-from_err c.from_residual-in_err-rest.result _ c.from_residual-in_err-rest.ensures.0
