use Rattle.std.proofs.Common.{All, subst, arith}
use Rattle.std.proofs.lemmas.List.{take_all}
use Rattle.ll_index.specs.declared.key.Key.TheVariants.{Unnamed}
use Rattle.ll_index.specs.Rows.{IsNamedBelow}
use Rattle.ll_index.proofs.RowLemmas.{below-step}
use Rattle.ll_index.proofs.rows.names_of.Goals as goal

pub loop-at-preserved : goal.loop-at-preserved
loop-at-preserved c = below-step c.args.keys.now c.loop-at.at c.loop-at.names c.names_with-names.result Unnamed (omega arith) c.names_with-names.ensures.grows
    c.names_with-names.ensures.below c.loop-at.invariant

pub returns : goal.returns
returns c = subst (All (IsNamedBelow c.loop-at.names)) (take_all c.loop-at.at c.args.keys.now (omega arith)) c.loop-at.invariant
