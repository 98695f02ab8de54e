use Rattle.ll_turn.proofs.Passes.{is_seen, rests, lives_at, took_runs, took_sight}
use Rattle.ll_turn.proofs.turn.Turn.take.Goals as goal

pub take_out-value-requires-clause-rests : goal.take_out-value-requires-clause-rests
take_out-value-requires-clause-rests g c = rests (is_seen c.pass.inside.seat.table_id c.pass.invariant c.pass.inside.lives c.pass.view_is) c.requires.rests

pub invariant_of-pass-inside : goal.invariant_of-pass-inside
invariant_of-pass-inside g c = let took = c.take_out-value in
    let pass = is_seen c.pass.inside.seat.table_id c.pass.invariant c.pass.inside.lives c.pass.view_is in
    let runs = took_runs pass g.S.Kept.fit took.new.seat.me took.result c.requires.rests took.ensures.takes in (lives_at _ runs.pass runs.lives, tt)

pub invariant_of-pass : goal.invariant_of-pass
invariant_of-pass g c = let took = c.take_out-value in
    let pass = is_seen c.pass.inside.seat.table_id c.pass.invariant c.pass.inside.lives c.pass.view_is in
    took_runs pass g.S.Kept.fit took.new.seat.me took.result c.requires.rests took.ensures.takes

pub returns-clause-pass : goal.returns-clause-pass
returns-clause-pass g c = let took = c.take_out-value in
    let pass = is_seen c.pass.inside.seat.table_id c.pass.invariant c.pass.inside.lives c.pass.view_is in
    took_sight pass g.S.Kept.fit took.new.seat.me took.result c.requires.rests took.ensures.takes took.new.seat.table_id took.ensures.table.0 _
