use Rattle.std.proofs.Common.{sym, subst}
use Rattle.ll_turn.specs.Steps.{MayGive}
use Rattle.ll_turn.proofs.Passes.{is_seen, may_give, lives_at, has_given, gave_lives, gave_runs, gave_fits}
use Rattle.ll_turn.proofs.turn.Turn.give.Goals as goal

pub put_back-requires-clause-lawful : goal.put_back-requires-clause-lawful
put_back-requires-clause-lawful g c =
    let pass = is_seen c.pass.inside.seat.table_id c.pass.invariant c.pass.inside.lives c.pass.view_is in
    subst (MayGive g.S.Kept.numbers g.S.Kept.lawful c.pass.inside.seat.me c.pass.inside.number) (sym c.held.view_is)
    (may_give pass g.S.Kept.lawful c.args.held c.requires.lawful)

pub invariant_of-pass-inside : goal.invariant_of-pass-inside
invariant_of-pass-inside g c =
    let h = has_given g.S.Kept.fit g.S.Kept.next g.S.Kept.lawful c.put_back.new.seat.me
    (is_seen c.pass.inside.seat.table_id c.pass.invariant c.pass.inside.lives c.pass.view_is) g.S.Kept.keeps_numbers c.requires.lawful c.held.view_is
    c.put_back.ensures.puts in
    (lives_at _ _ (gave_lives h), tt)

pub invariant_of-pass : goal.invariant_of-pass
invariant_of-pass g c =
    let h = has_given g.S.Kept.fit g.S.Kept.next g.S.Kept.lawful c.put_back.new.seat.me
    (is_seen c.pass.inside.seat.table_id c.pass.invariant c.pass.inside.lives c.pass.view_is) g.S.Kept.keeps_numbers c.requires.lawful c.held.view_is
    c.put_back.ensures.puts in
    gave_runs h

pub returns-clause-fits : goal.returns-clause-fits
returns-clause-fits g c =
    let h = has_given g.S.Kept.fit g.S.Kept.next g.S.Kept.lawful c.put_back.new.seat.me
    (is_seen c.pass.inside.seat.table_id c.pass.invariant c.pass.inside.lives c.pass.view_is) g.S.Kept.keeps_numbers c.requires.lawful c.held.view_is
    c.put_back.ensures.puts in
    gave_fits h _
