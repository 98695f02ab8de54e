use Rattle.std.proofs.Common.{rules, ◌≡◌, ◌∙◌, ◌-◌, suc, All, length, length-set, sym, ap, subst, arith}
use Rattle.std.specs.Prelude.{slice_set}
use Rattle.std.proofs.lemmas.List.{length-replicate}
use Rattle.ll_index.specs.declared.key.Key.TheVariants.{Unnamed}
use Rattle.ll_index.specs.Rows.{IsNamedBelow, row_at}
use Rattle.ll_index.proofs.RowLemmas.{rows-begin, rows-step, named-at}
use Rattle.ll_index.proofs.rows.rows_of.Goals as goal

pub loop-at-init : goal.loop-at-init
loop-at-init c =
    let items = c.in_ok-rows.ensures.items_if_clones_equal (search rules) in
    let end = c.in_ok-end.ensures.same in
    record {
      below = subst (λ n. All (IsNamedBelow n) c.args.keys.now) (sym (ap length items ∙ length-replicate c.names_of.result c.none.result)) c.names_of.ensures;
      named = λ name. rows-begin c.args.keys.now c.in_ok-rows.rows.items c.names_of.result c.in_ok-end.end c.none.result end c.none.ensures items name;
    }

pub loop-at-preserved-in-Named : goal.loop-at-preserved-in-Named
loop-at-preserved-in-Named c =
    let i = c.loop-at.at - 1 in
    let one : c.loop-at.at ≡ suc i = omega arith in
    let size = length-set c.loop-at.rows.items c.in-Named.name c.with_leaf.result in
    record {
      below = subst (λ n. All (IsNamedBelow n) c.args.keys.now) (sym size) c.loop-at.invariant.below;
      named = λ name. ap (λ r. row_at (slice_set c.loop-at.rows.items c.in-Named.name r) (length c.args.keys.now) name) c.with_leaf.ensures
          ∙ rows-step c.args.keys.now c.loop-at.rows.items c.loop-at.at i Unnamed one (omega arith) c.loop-at.invariant.named c.in-Named.name c.in-Named.arity
          c.in-Named.first c.index.result.now c.in-Named.is
          (named-at c.args.keys.now (length c.loop-at.rows.items) i Unnamed c.in-Named.name c.in-Named.arity c.in-Named.first (omega arith) c.in-Named.is
          c.loop-at.invariant.below)
          c.index.ensures name;
    }
