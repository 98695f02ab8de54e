use Rattle.std.proofs.Common.{rules, Some, sym, ◌∙◌, subst, ◌+◌}
use mathlib.Core.Option.{none}
use Rattle.atomic_table.specs.Table.{step}
use Rattle.ll_turn.specs.Steps.{IsResting}
use Rattle.ll_turn.proofs.Moves.{tries_as}
use Rattle.ll_turn.proofs.Slots.{won, in_hand}
use Rattle.ll_turn.proofs.steps.take_out.Goals as goal

pub compare_exchange-requires : goal.compare_exchange-requires
compare_exchange-requires g c = let i = c.loop.invariant in (
  i.2 ∙ c.requires.table.0,
  search rules,
  tries_as g.S.Kept.numbers g.S.Kept.fit (g.S.Kept.begin c.args.shared.now.key.value).0 c.args.shared.now.table_id.slots c.loop.seat.id c.args.number
      c.loop.seat.me
      (subst (λ m. IsResting g.S.Kept.numbers m c.args.number) (sym i.4) c.requires.rests),
)

pub exchange-requires : goal.exchange-requires
exchange-requires g c = let i = c.loop.invariant in
    let w = won g.S.Kept.fit g.S.Kept.numbers (step c.args.shared.now.table_id.slots 0 0 (c.args.number + 1) none) c.args.number c.compare_exchange.result
    c.loop.seat.me c.compare_exchange.new.seat.me
    (subst (λ m. IsResting g.S.Kept.numbers m c.args.number) (sym i.4) c.requires.rests) c.compare_exchange.ensures.2 c.if-compare_exchange-eq0.true in
    (search rules, (Some w.1, in_hand c.compare_exchange.new.seat.me w.0 (Some w.1) w.2))
