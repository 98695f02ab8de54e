use Rattle.std.proofs.Common.{rules}
use Rattle.ll_turn.proofs.Moves.{announces_as}
use Rattle.ll_turn.proofs.steps.announce.Goals as goal

pub store-requires : goal.store-requires
store-requires g c = (
  c.requires.table.0,
  search rules,
  announces_as g.S.Kept.numbers g.S.Kept.fit (g.S.Kept.begin c.args.shared.now.key.value).0 g.S.Kept.next g.S.Kept.lawful g.S.Kept.keeps_numbers
      g.S.Kept.change_fits
      c.args.shared.now.table_id.slots c.args.seat.now.id c.args.number c.args.seat.now.me c.args.noted.now.value g.N.Noting.value c.requires.noted
      c.requires.lawful,
)
