use Rattle.std.proofs.lemmas.Result.{IfOk-from_err}
use Rattle.std.proofs.Common.{◌<◌, ℕ, add-one, ◌∙◌, List, length, refl, ap, sym, subst, get_or, take}
use Rattle.std.proofs.Math.Seq.{take-suc}
use Rattle.std.proofs.lemmas.List.{take_all}
use Rattle.ll_unify.specs.Bindings.{Falls, IsLowered}
use Rattle.ll_unify.proofs.Binding.{lowered-more}
use Rattle.ll_unify.proofs.bind.lower.Goals as goal

pub loop-var-init : goal.loop-var-init
loop-var-init g c = record {
  falls = record { levels = record { same_length = refl; each = λ x. refl }; bound = refl };
  grows = g.met.T.Bindings.stays c.args.table.now;
}

pub bounds-vars-var-index : goal.bounds-vars-var-index
bounds-vars-var-index g c = c.loop-var-test.true

pub lower_one-requires : goal.lower_one-requires
lower_one-requires g c =
    subst (λ (n : ℕ). get_or c.args.vars.now c.loop-var.var-index 0 < n) (sym c.loop-var.invariant.falls.levels.same_length)
    (c.requires c.loop-var.var-index 0 c.loop-var-test.true)

pub returns-in_err-lower_one-clause-grows : goal.returns-in_err-lower_one-clause-grows
returns-in_err-lower_one-clause-grows g c =
    g.met.T.Bindings.again c.args.table.now c.loop-var.table c.lower_one.new.table c.loop-var.invariant.grows c.lower_one.ensures.grows

pub loop-var-preserved : goal.loop-var-preserved
loop-var-preserved g c =
    let old = g.T.Bindings.table c.args.table.now in
    let mid = g.T.Bindings.table c.loop-var.table in
    let new = g.T.Bindings.table c.lower_one.new.table in
    let at = c.loop-var.var-index in
    let x = get_or c.args.vars.now at 0 in
    let f = c.in_ok-lower_one.ensures.falls in
    let below : x < length mid.levels =
    subst (λ (n : ℕ). x < n) (sym c.loop-var.invariant.falls.levels.same_length) (c.requires at 0 c.loop-var-test.true) in
    record {
      falls = record {
        levels = subst (λ (vs : List ℕ). IsLowered old.levels vs c.args.level new.levels)
            (sym (ap (λ (n : ℕ). take n c.args.vars.now) (add-one at) ∙ take-suc c.args.vars.now at 0 c.loop-var-test.true))
            (lowered-more old.levels mid.levels new.levels (take at c.args.vars.now) x c.args.level below c.loop-var.invariant.falls.levels f.levels);
        bound = f.bound ∙ c.loop-var.invariant.falls.bound;
      };
      grows = g.met.T.Bindings.again c.args.table.now c.loop-var.table c.lower_one.new.table c.loop-var.invariant.grows c.lower_one.ensures.grows;
    }

pub returns-clause-falls : goal.returns-clause-falls
returns-clause-falls g c =
    subst (λ (vs : List ℕ). Falls (g.T.Bindings.table c.args.table.now) (g.T.Bindings.table c.loop-var.table) vs c.args.level)
    (take_all c.loop-var.var-index c.args.vars.now c.loop-var-test.false) c.loop-var.invariant.falls

pub returns-clause-grows : goal.returns-clause-grows
returns-clause-grows g c = c.loop-var.invariant.grows

pub returns-in_err-lower_one-clause-falls : goal.returns-in_err-lower_one-clause-falls
returns-in_err-lower_one-clause-falls g c = IfOk-from_err c.from_residual.result _ c.from_residual.ensures.0
