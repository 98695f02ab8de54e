use Rattle.std.proofs.Common.{◌≡◌, true, false, refl, ap, ◌∙◌, arith}
use Rattle.std.proofs.lemmas.Result.{IfOk-from_err}
use Rattle.std.specs.Prelude.{filter}
use Rattle.ll_list_laws.proofs.CallerLemmas.{IfOk-each}
use Rattle.ll_laws.specs.Shows.{has}
use Rattle.ll_sequent.specs.declared.sequents.Resource.{Resource}
use Rattle.ll_sequent.specs.Named.{deals}
use Rattle.ll_sequent.proofs.RuleLemmas.{tensor_refused, tensor_makes}
use Rattle.ll_sequent.proofs.plain.tensor.Goals as goal

pub returns-then-not-deal : goal.returns-then-not-deal
returns-then-not-deal c =
    let a = c.deal.ensures in let b = c.if-not-deal.true in let d = c.if-not-deal.ensures in let v = c.deref.ensures.value in
    let no : deals c.args.left.now c.args.right.now c.args.sequent.bounded.items ≡ false = first_of (cc, grind arith) in
    tensor_refused c.args.bank.now c.args.sequent c.in-Tensor.g c.in-Tensor.h c.args.left.now c.args.right.now c.in-Tensor.ensures.shown no

pub returns-in-Tensor : goal.returns-in-Tensor
returns-in-Tensor c =
    let a = c.deal.ensures in let b = c.if-not-deal.false in let d = c.if-not-deal.ensures in let v = c.deref.ensures.value in
    let yes : deals c.args.left.now c.args.right.now c.args.sequent.bounded.items ≡ true = first_of (cc, grind arith) in
    let w = c.deref-in-Tensor.ensures.value in let x = c.deref-in-Tensor-2.ensures.value in
    IfOk-each c.leave_two.result _ _ (λ step leaving. tensor_makes c.args.bank.now c.args.sequent c.in-Tensor.g c.in-Tensor.h c.args.left.now c.args.right.now
    (record { free = c.args.sequent.free; bounded = c.in_ok-part_of-in-Tensor.field-0; goal = c.in-Tensor.g })
    (record { free = c.args.sequent.free; bounded = c.in_ok-part_of-in-Tensor-2.field-0; goal = c.in-Tensor.h }) step
    c.in-Tensor.ensures.shown yes
    (record { same = refl; has_bounded = c.in_ok-part_of-in-Tensor.ensures ∙ ap (filter (λ (r : Resource). has c.args.left.now r.label)) w; has_goal = refl })
    (record {
      same = refl;
      has_bounded = c.in_ok-part_of-in-Tensor-2.ensures ∙ ap (filter (λ (r : Resource). has c.args.right.now r.label)) x;
      has_goal =
          refl;
    }) leaving) c.leave_two.ensures

pub returns-in_err-part_of-in-Tensor : goal.returns-in_err-part_of-in-Tensor
returns-in_err-part_of-in-Tensor c = IfOk-from_err c.from_residual.result _ c.from_residual.ensures.0

pub returns-in_err-part_of-in-Tensor-2 : goal.returns-in_err-part_of-in-Tensor-2
returns-in_err-part_of-in-Tensor-2 c = IfOk-from_err c.from_residual-in_err-part_of-in-Tensor-2.result _ c.from_residual-in_err-part_of-in-Tensor-2.ensures.0
