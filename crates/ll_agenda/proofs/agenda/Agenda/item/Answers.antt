use Rattle.std.proofs.Common.{rules, arith, true≢false}
use Rattle.ll_agenda.proofs.Lists.{ShowsItems-none, BeginsWith-frame, items_at-first}
use Rattle.ll_agenda.proofs.agenda.Agenda.item.Goals as goal

pub returns-in_err-at-clause-none : goal.returns-in_err-at-clause-none
returns-in_err-at-clause-none g c =
    (λ _. (ShowsItems-none c.args.self.now c.args.top (omega (arith, c.in_err-at.ensures))).list, λ _. search rules)

pub returns-clause-none : goal.returns-clause-none
returns-clause-none g c = (
  λ e. absurd (true≢false e),
  items_at-first (BeginsWith-frame c.self.inside.frames.items c.args.self.now c.args.top c.in_ok-at.at c.index.result.now
      c.self.invariant c.self.view_is c.requires (omega (arith, c.in_ok-at.ensures)) c.index.ensures),
)

pub returns-clause-some : goal.returns-clause-some
returns-clause-some g c =
    BeginsWith-frame c.self.inside.frames.items c.args.self.now c.args.top c.in_ok-at.at c.index.result.now
    c.self.invariant c.self.view_is c.requires (omega (arith, c.in_ok-at.ensures)) c.index.ensures
