use Rattle.std.proofs.Common.{sym, subst, refl, ap, ◌∙◌}
use Rattle.std.specs.Option.{IsSome}
use Rattle.ll_turn.specs.Sight.{Sight}
use Rattle.ll_turn.proofs.Passes.{is_seen}
use Rattle.ll_turn.proofs.Closing.{left_over, left_over_fits}
use Rattle.ll_turn.proofs.turn.Turn.close.Goals as goal

pub unwrap-value-requires : goal.unwrap-value-requires
unwrap-value-requires g c = let r = c.requires in
    let pass = is_seen c.pass.inside.seat.table_id c.pass.invariant c.pass.inside.lives c.pass.view_is in
    let left = left_over pass r.first r.rests r.alone g.S.Kept.fit (g.S.Kept.begin c.self.inside.table.shared.key.value).0 c.pass.inside.seat.id _ _
    c.close_with-closed.ensures.values.2 c.take.result c.take.ensures.value in
    subst IsSome (sym left.1) refl

pub returns : goal.returns
returns g c = let r = c.requires in
    let pass = is_seen c.pass.inside.seat.table_id c.pass.invariant c.pass.inside.lives c.pass.view_is in
    left_over_fits pass r.first r.rests r.alone g.S.Kept.fit (g.S.Kept.begin c.self.inside.table.shared.key.value).0 c.pass.inside.seat.id _ _
    c.close_with-closed.ensures.values.2 c.take.result c.take.ensures.value
    c.unwrap-value.result c.unwrap-value.ensures

pub close_with-closed-requires : goal.close_with-closed-requires
close_with-closed-requires g c =
    ap (λ (s : Sight g.row.S.Denot g.row.S-Problem.Denot g.row.S-Mine.Denot). s.table) c.pass.view_is ∙ (c.requires.own ∙ sym c.self.view_is)
