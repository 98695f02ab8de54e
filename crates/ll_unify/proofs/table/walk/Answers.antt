use Rattle.std.proofs.Common.{◌∙◌, refl, inl, inr}
use Rattle.ll_bank.specs.Nodes.{term_tree}
use Rattle.ll_unify.proofs.Readings.{chain-step}
use Rattle.ll_unify.proofs.Tables.{step-place, step-same}
use Rattle.ll_unify.proofs.table.walk.Goals as goal

pub loop-to-smaller : goal.loop-to-smaller
loop-to-smaller g c =
    chain-step c.args.bank.now (g.T.Bindings.table c.args.table.now) c.requires.table.ordered (term_tree c.args.bank.now c.loop-to.end.0) c.in-Some.to
    c.in-Some.ensures

pub loop-to-init : goal.loop-to-init
loop-to-init g c = record { place = c.requires.place; same = λ s o. refl; among = inl refl }

pub loop-to-preserved : goal.loop-to-preserved
loop-to-preserved g c = record {
  place = step-place c.args.bank.now (g.T.Bindings.table c.args.table.now) (term_tree c.args.bank.now c.loop-to.end.0) c.in-Some.to c.requires.table
      c.loop-to.invariant.place.vars c.in-Some.ensures;
  same = λ s o. step-same c.args.bank.now (g.T.Bindings.table c.args.table.now) (term_tree c.args.bank.now c.loop-to.end.0) c.in-Some.to c.in-Some.ensures s o
      ∙ c.loop-to.invariant.same s o;
  among = inr (c.in-Some.ensures.var, c.in-Some.ensures.bound);
}
