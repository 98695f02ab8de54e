use Rattle.std.proofs.Common.{rules, ap}
use Rattle.ll_turn.proofs.Parts.{joins}
use Rattle.ll_turn.proofs.Passes.{is_seen, at_rest, runs_joined}
use Rattle.ll_turn.proofs.pass.Pass.join.Goals as goal

pub join_seat-requires : goal.join_seat-requires
join_seat-requires g c = let seat = c.self.inside.seat in let seat' = c.other.inside.seat in
    let rest = at_rest (is_seen c.self.inside.seat.table_id c.self.invariant c.self.inside.lives c.self.view_is) c.requires.rest.0 in
    let rest' = at_rest (is_seen c.other.inside.seat.table_id c.other.invariant c.other.inside.lives c.other.view_is) c.requires.rest.1 in (
      search rules,
      search rules,
      ap (λ m. m.1) rest'.1,
      search rules,
      joins g.S.Kept.numbers g.S.Kept.fit (g.S.Kept.begin c.turn.inside.table.shared.key.value).0 seat.id seat'.id seat.me.0 seat'.me.0 c.self.invariant.pass
          c.other.invariant.pass
          c.self.invariant.lives c.other.invariant.lives rest.2 rest'.2,
    )

pub invariant_of-self : goal.invariant_of-self
invariant_of-self g c =
    let pass = is_seen c.self.inside.seat.table_id c.self.invariant c.self.inside.lives c.self.view_is in
    runs_joined pass c.requires.rest.0 c.other.invariant c.join_seat.new.seat.me c.join_seat.ensures.2
