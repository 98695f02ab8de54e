use Rattle.std.proofs.Common.{◌≡◌, sym, subst, ap, ◌∙◌, cond, Some, arith, length}
use Rattle.std.proofs.lemmas.Result.{IfOk-from_err}
use Rattle.std.specs.Prelude.{vec_len}
use Rattle.std.specs.Ordering.{nat_cmp}
use Rattle.std.specs.BTreeMap.{get}
use Rattle.ll_polarity.specs.Numbered.{numbered, with_number, AreNumbered}
use Rattle.ll_polarity.proofs.naming.Numbering.{known_variable, new_variable, new_number, numbered_more, at_nat}
use Rattle.ll_polarity.proofs.variables.Variables.add.Goals as goal

pub returns-in-Some-clause-added : goal.returns-in-Some-clause-added
returns-in-Some-clause-added c =
    subst (λ vs. vs ≡ with_number vs c.args.name) c.self.view_is
    (known_variable (get nat_cmp c.self.inside.numbers) c.self.inside.order.items c.args.name _ c.self.invariant c.in-Some.ensures.value)

pub invariant_of-self-in-Ok : goal.invariant_of-self-in-Ok
invariant_of-self-in-Ok c =
    subst (AreNumbered (get nat_cmp c.insert.new.self)) (sym c.in_ok-push.ensures.items)
    (numbered_more (get nat_cmp c.self.inside.numbers) (get nat_cmp c.insert.new.self) c.self.inside.order.items c.args.name c.self.invariant
    c.in_default.ensures.value
    (λ q. c.in-Ok.ensures.updates.0 q ∙ (let l : vec_len c.self.inside.order ≡ length c.self.inside.order.items = omega (arith, c.self.inside.order.ok.0) in
    λ i. cond (at_nat c.args.name q i) (Some ((c.len-next.ensures ∙ l) i)) (get nat_cmp c.self.inside.numbers q))))

pub returns-in-Ok-clause-number : goal.returns-in-Ok-clause-number
returns-in-Ok-clause-number c =
    let l : vec_len c.self.inside.order ≡ length c.self.inside.order.items = omega (arith, c.self.inside.order.ok.0) in
    (c.len-next.ensures ∙ l) ∙ (new_number (get nat_cmp c.self.inside.numbers) c.self.inside.order.items c.args.name c.self.invariant c.in_default.ensures.value
    ∙ ap (λ vs. numbered vs c.args.name) (sym c.in_ok-push.ensures.items))

pub returns-in-Ok-clause-added : goal.returns-in-Ok-clause-added
returns-in-Ok-clause-added c =
    c.in_ok-push.ensures.items
    ∙ (new_variable (get nat_cmp c.self.inside.numbers) c.self.inside.order.items c.args.name c.self.invariant c.in_default.ensures.value
    ∙ ap (λ vs. with_number vs c.args.name) c.self.view_is)

pub returns-in_err-push-clause-added : goal.returns-in_err-push-clause-added
returns-in_err-push-clause-added c = IfOk-from_err c.from_residual.result _ c.from_residual.ensures.0

pub returns-in_err-push-clause-number : goal.returns-in_err-push-clause-number
returns-in_err-push-clause-number c = IfOk-from_err c.from_residual.result _ c.from_residual.ensures.0

pub returns-in-Err-clause-number : goal.returns-in-Err-clause-number
returns-in-Err-clause-number c = _

pub returns-in-Err-clause-added : goal.returns-in-Err-clause-added
returns-in-Err-clause-added c = _
