use Rattle.std.proofs.Common.{rules}
use Rattle.ll_turn.proofs.Parts.{parts}
use Rattle.ll_turn.proofs.Passes.{is_seen, at_rest, more, runs_left, runs_right}
use Rattle.ll_turn.proofs.pass.Pass.split.Goals as goal

pub split_seat-seat-requires : goal.split_seat-seat-requires
split_seat-seat-requires g c = let seat = c.self.inside.seat in
    let pass = is_seen c.self.inside.seat.table_id c.self.invariant c.self.inside.lives c.self.view_is in
    let rest = at_rest pass c.requires.rests in (
      search rules,
      search rules,
      parts g.S.Kept.numbers g.S.Kept.fit (g.S.Kept.begin c.turn.inside.table.shared.key.value).0 g.S.Kept.parted seat.id seat.me.0 c.self.invariant.pass
          c.self.invariant.lives rest.2
          (more pass c.requires.rests g.S.Kept.parted c.requires.some_left g.S.Kept.parts_numbers) g.S.Kept.parts_numbers g.S.Kept.parts_fit,
    )

pub invariant_of-self : goal.invariant_of-self
invariant_of-self g c = let split = c.split_seat-seat in
    let pass = is_seen c.self.inside.seat.table_id c.self.invariant c.self.inside.lives c.self.view_is in
    (runs_left pass c.requires.rests g.S.Kept.parted c.requires.some_left g.S.Kept.parts_numbers split.new.seat.me split.ensures.2).1

pub invariant_of-result-2 : goal.invariant_of-result-2
invariant_of-result-2 g c = let split = c.split_seat-seat in
    let pass = is_seen c.self.inside.seat.table_id c.self.invariant c.self.inside.lives c.self.view_is in
    runs_right pass c.requires.rests g.S.Kept.parted c.requires.some_left g.S.Kept.parts_numbers split.result.me split.ensures.4
