use Rattle.std.proofs.Common.{rules, None, refl, sym, subst}
use mathlib.Core.Option.{none}
use Rattle.atomic_table.specs.Table.{step}
use Rattle.ll_turn.specs.Steps.{MayGive}
use Rattle.ll_turn.proofs.Moves.{frees_as}
use Rattle.ll_turn.proofs.Slots.{has_announced, noting, empty_in_hand, finds_empty, filled, puts_back}
use Rattle.ll_turn.proofs.steps.put_back.Goals as goal

pub announce-requires-clause-lawful : goal.announce-requires-clause-lawful
announce-requires-clause-lawful g c = subst (MayGive g.S.Kept.numbers g.S.Kept.lawful c.args.seat.now.me c.args.number) (sym c.of-noted.ensures)
    c.requires.lawful

pub exchange-empty-requires : goal.exchange-empty-requires
exchange-empty-requires g c =
    let h = has_announced g.S.Kept.numbers g.S.Kept.lawful g.S.Kept.next c.requires.lawful c.of-noted.ensures c.announce.ensures.announces in
    (search rules, (None, empty_in_hand h))

pub unreachable-requires : goal.unreachable-requires
unreachable-requires g c =
    let h = has_announced g.S.Kept.numbers g.S.Kept.lawful g.S.Kept.next c.requires.lawful c.of-noted.ensures c.announce.ensures.announces in
    c.in_default.not-None (finds_empty h c.exchange-empty.result c.exchange-empty.ensures.2)

pub store-requires : goal.store-requires
store-requires g c = let after = c.exchange-empty.new.seat in
    let h = has_announced g.S.Kept.numbers g.S.Kept.lawful g.S.Kept.next c.requires.lawful c.of-noted.ensures c.announce.ensures.announces in (
      search rules,
      search rules,
      frees_as g.S.Kept.numbers g.S.Kept.fit (g.S.Kept.begin c.args.shared.now.key.value).0 c.args.shared.now.table_id.slots after.id after.me
          (noting h) c.args.value (filled h after.me c.exchange-empty.ensures.3) refl,
    )

pub returns-clause-puts : goal.returns-clause-puts
returns-clause-puts g c =
    let h = has_announced g.S.Kept.numbers g.S.Kept.lawful g.S.Kept.next c.requires.lawful c.of-noted.ensures c.announce.ensures.announces in
    puts_back g.S.Kept.fit g.S.Kept.next (step c.args.shared.now.table_id.slots 0 0 0 none) 0 c.args.seat.now.me c.announce.new.seat.me
    c.exchange-empty.new.seat.me c.store.new.seat.me c.args.value
    h.announced c.exchange-empty.ensures.3 c.store.ensures.2
