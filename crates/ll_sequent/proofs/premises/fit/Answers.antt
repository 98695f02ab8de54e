use Rattle.std.proofs.Common.{arith}
use Rattle.ll_sequent.specs.declared.leaves.Needed.TheVariants.{Bounded}
use Rattle.ll_sequent.proofs.DealLemmas.{other_number, other_kind, same_kinds, all_fit}
use Rattle.ll_sequent.proofs.premises.fit.Goals as goal

pub returns-then-parts-premises : goal.returns-then-parts-premises
returns-then-parts-premises c = other_number c.args.parts.now c.args.premises.now (λ e. omega arith)

pub returns-then-not-is_of_kind : goal.returns-then-not-is_of_kind
returns-then-not-is_of_kind c =
    other_kind c.args.parts.now c.args.premises.now c.loop-i.i c.index-parts-i.result (Bounded (record { 0 = 0 })) c.loop-i-test.true (omega arith)
    c.loop-i.invariant c.index-parts-i.is c.if-not-is_of_kind.ensures

pub loop-i-preserved : goal.loop-i-preserved
loop-i-preserved c =
    same_kinds c.args.parts.now c.args.premises.now c.loop-i.i c.index-parts-i.result (Bounded (record { 0 = 0 })) c.loop-i-test.true (omega arith)
    c.loop-i.invariant c.index-parts-i.is c.if-not-is_of_kind.ensures

pub returns : goal.returns
returns c = all_fit c.args.parts.now c.args.premises.now c.loop-i.i (omega arith) (omega arith) c.loop-i.invariant
