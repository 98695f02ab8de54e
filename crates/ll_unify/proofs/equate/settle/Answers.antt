use Rattle.std.proofs.lemmas.Result.{IfOk-from_err}
use Rattle.std.proofs.Common.{subst}
use Rattle.ll_bank.specs.Nodes.{term_tree}
use Rattle.ll_unify.specs.Bindings.{Meets}
use Rattle.ll_unify.specs.Pairs.{IsDifference, lefts}
use Rattle.ll_unify.proofs.Settling.{classes-meet, settling-start, settling-done, settling-clash, settling-refused, settling-bound}
use Rattle.ll_unify.proofs.FreshLemmas.{leaves-next, leaves-all, front-fresh}
use Rattle.ll_unify.proofs.equate.settle.Goals as goal

pub pairs-init : goal.pairs-init
pairs-init g c = record {
  settling = settling-start c.args.bank.now (g.T.Bindings.table c.args.table.now) c.args.work.now.pairs.items c.requires.table c.requires.pairs;
  classes = c.requires.classes;
  fresh = λ more h. h;
  grows = g.met.T.Bindings.stays c.args.table.now;
}

pub returns-in-Same-clause-settles : goal.returns-in-Same-clause-settles
returns-in-Same-clause-settles g c =
    settling-done c.args.bank.now (g.T.Bindings.table c.args.table.now) (g.T.Bindings.table c.pairs.table) c.args.work.now.pairs.items c.pairs.work.pairs.items
    c.next_difference.new.pairs.items c.pairs.invariant.settling
    (subst (IsDifference c.args.bank.now (g.T.Bindings.table c.pairs.table) c.pairs.work.pairs.items c.next_difference.new.pairs.items) c.in-Same.is
    c.in_ok-next_difference.ensures.difference)

pub returns-in-Clash-clause-settles : goal.returns-in-Clash-clause-settles
returns-in-Clash-clause-settles g c =
    settling-clash c.args.bank.now (g.T.Bindings.table c.args.table.now) (g.T.Bindings.table c.pairs.table) c.args.work.now.pairs.items c.pairs.work.pairs.items
    c.next_difference.new.pairs.items c.pairs.invariant.settling
    (subst (IsDifference c.args.bank.now (g.T.Bindings.table c.pairs.table) c.pairs.work.pairs.items c.next_difference.new.pairs.items) c.in-Clash.is
    c.in_ok-next_difference.ensures.difference)

pub returns-then-not-branch-clause-settles : goal.returns-then-not-branch-clause-settles
returns-then-not-branch-clause-settles g c =
    settling-refused c.args.bank.now (g.T.Bindings.table c.args.table.now) (g.T.Bindings.table c.pairs.table) c.args.work.now.pairs.items
    c.pairs.work.pairs.items c.next_difference.new.pairs.items c.in-Meet.a c.in-Meet.b c.pairs.invariant.settling
    (subst (IsDifference c.args.bank.now (g.T.Bindings.table c.pairs.table) c.pairs.work.pairs.items c.next_difference.new.pairs.items) c.in-Meet.is
    c.in_ok-next_difference.ensures.difference)
    (g.T.Bindings.table c.bind.new.table)
    (subst (Meets c.args.bank.now (g.T.Bindings.table c.pairs.table) (g.T.Bindings.table c.bind.new.table) (term_tree c.args.bank.now c.in-Meet.a.0)
    (term_tree c.args.bank.now c.in-Meet.b.0)) c.if-not-branch.true c.in_ok-bind-in-Meet.ensures.meets)

pub pairs-preserved : goal.pairs-preserved
pairs-preserved g c =
    let m = subst (Meets c.args.bank.now (g.T.Bindings.table c.pairs.table) (g.T.Bindings.table c.bind.new.table) (term_tree c.args.bank.now c.in-Meet.a.0)
    (term_tree c.args.bank.now c.in-Meet.b.0)) c.if-not-branch.false c.in_ok-bind-in-Meet.ensures.meets in
    record {
      settling = settling-bound c.args.bank.now (g.T.Bindings.table c.args.table.now) (g.T.Bindings.table c.pairs.table) c.args.work.now.pairs.items
          c.pairs.work.pairs.items c.next_difference.new.pairs.items c.in-Meet.a c.in-Meet.b c.pairs.invariant.settling
          (subst (IsDifference c.args.bank.now (g.T.Bindings.table c.pairs.table) c.pairs.work.pairs.items c.next_difference.new.pairs.items) c.in-Meet.is
          c.in_ok-next_difference.ensures.difference)
          (g.T.Bindings.table c.bind.new.table) m;
      classes = classes-meet c.args.bank.now (g.T.Bindings.table c.pairs.table) (g.T.Bindings.table c.bind.new.table) (term_tree c.args.bank.now c.in-Meet.a.0)
          (term_tree c.args.bank.now c.in-Meet.b.0) c.next_difference.new.classes.up.items m
          c.in_ok-next_difference.ensures.classes;
      fresh = leaves-next c.args.bank.now (g.T.Bindings.table c.args.table.now) (g.T.Bindings.table c.pairs.table) (g.T.Bindings.table c.bind.new.table)
          c.args.work.now.fresh c.pairs.work.fresh c.bind.new.fresh
          (lefts c.args.bank.now c.args.work.now.pairs.items) (lefts c.args.bank.now c.pairs.work.pairs.items)
          (lefts c.args.bank.now c.next_difference.new.pairs.items) (term_tree c.args.bank.now c.in-Meet.a.0) c.pairs.invariant.fresh
          (subst (IsDifference c.args.bank.now (g.T.Bindings.table c.pairs.table) c.pairs.work.pairs.items c.next_difference.new.pairs.items) c.in-Meet.is
          c.in_ok-next_difference.ensures.difference).clear (c.in_ok-bind-in-Meet.ensures.fresh c.if-not-branch.false);
      grows = g.met.T.Bindings.again c.args.table.now c.pairs.table c.bind.new.table c.pairs.invariant.grows c.bind.ensures.grows;
    }

pub bind-requires-clause-fresh : goal.bind-requires-clause-fresh
bind-requires-clause-fresh g c =
    front-fresh c.args.bank.now (g.T.Bindings.table c.args.table.now) (g.T.Bindings.table c.pairs.table) c.args.work.now.fresh c.pairs.work.fresh
    (lefts c.args.bank.now c.args.work.now.pairs.items) (lefts c.args.bank.now c.pairs.work.pairs.items)
    (lefts c.args.bank.now c.next_difference.new.pairs.items) (term_tree c.args.bank.now c.in-Meet.a.0) c.pairs.invariant.fresh c.requires.fresh
    (subst (IsDifference c.args.bank.now (g.T.Bindings.table c.pairs.table) c.pairs.work.pairs.items c.next_difference.new.pairs.items) c.in-Meet.is
    c.in_ok-next_difference.ensures.difference).clear

pub returns-in-Same-clause-fresh : goal.returns-in-Same-clause-fresh
returns-in-Same-clause-fresh g c = λ e.
    leaves-all c.args.bank.now (g.T.Bindings.table c.args.table.now) (g.T.Bindings.table c.pairs.table) c.args.work.now.fresh c.pairs.work.fresh
    (lefts c.args.bank.now c.args.work.now.pairs.items) (lefts c.args.bank.now c.pairs.work.pairs.items) c.pairs.invariant.fresh

pub next_difference-requires-clause-table : goal.next_difference-requires-clause-table
next_difference-requires-clause-table g c = c.pairs.invariant.settling.table

pub next_difference-requires-clause-classes : goal.next_difference-requires-clause-classes
next_difference-requires-clause-classes g c = c.pairs.invariant.classes

pub next_difference-requires-clause-pairs : goal.next_difference-requires-clause-pairs
next_difference-requires-clause-pairs g c = c.pairs.invariant.settling.pairs

pub bind-requires-clause-table : goal.bind-requires-clause-table
bind-requires-clause-table g c = c.pairs.invariant.settling.table

pub bind-requires-clause-meet : goal.bind-requires-clause-meet
bind-requires-clause-meet g c =
    (subst (IsDifference c.args.bank.now (g.T.Bindings.table c.pairs.table) c.pairs.work.pairs.items c.next_difference.new.pairs.items) c.in-Meet.is
    c.in_ok-next_difference.ensures.difference).meeting

pub returns-in_err-next_difference-clause-grows : goal.returns-in_err-next_difference-clause-grows
returns-in_err-next_difference-clause-grows g c = c.pairs.invariant.grows

pub returns-in-Same-clause-grows : goal.returns-in-Same-clause-grows
returns-in-Same-clause-grows g c = c.pairs.invariant.grows

pub returns-in-Same-clause-classes : goal.returns-in-Same-clause-classes
returns-in-Same-clause-classes g c = λ _. c.in_ok-next_difference.ensures.classes

pub returns-in-Clash-clause-grows : goal.returns-in-Clash-clause-grows
returns-in-Clash-clause-grows g c = c.pairs.invariant.grows

pub returns-in-Clash-clause-classes : goal.returns-in-Clash-clause-classes
returns-in-Clash-clause-classes g c = λ _. c.in_ok-next_difference.ensures.classes

pub returns-in-Clash-clause-fresh : goal.returns-in-Clash-clause-fresh
returns-in-Clash-clause-fresh g c = λ e. cc

pub returns-in_err-bind-in-Meet-clause-grows : goal.returns-in_err-bind-in-Meet-clause-grows
returns-in_err-bind-in-Meet-clause-grows g c =
    g.met.T.Bindings.again c.args.table.now c.pairs.table c.bind.new.table c.pairs.invariant.grows c.bind.ensures.grows

pub returns-then-not-branch-clause-grows : goal.returns-then-not-branch-clause-grows
returns-then-not-branch-clause-grows g c =
    g.met.T.Bindings.again c.args.table.now c.pairs.table c.bind.new.table c.pairs.invariant.grows c.bind.ensures.grows

pub returns-then-not-branch-clause-classes : goal.returns-then-not-branch-clause-classes
returns-then-not-branch-clause-classes g c = λ e. cc

pub returns-then-not-branch-clause-fresh : goal.returns-then-not-branch-clause-fresh
returns-then-not-branch-clause-fresh g c = λ e. cc

pub returns-in_err-next_difference-clause-classes : goal.returns-in_err-next_difference-clause-classes
returns-in_err-next_difference-clause-classes g c = IfOk-from_err c.from_residual.result _ c.from_residual.ensures.0

pub returns-in_err-next_difference-clause-settles : goal.returns-in_err-next_difference-clause-settles
returns-in_err-next_difference-clause-settles g c = IfOk-from_err c.from_residual.result _ c.from_residual.ensures.0

pub returns-in_err-next_difference-clause-fresh : goal.returns-in_err-next_difference-clause-fresh
returns-in_err-next_difference-clause-fresh g c = IfOk-from_err c.from_residual.result _ c.from_residual.ensures.0

pub returns-in_err-bind-in-Meet-clause-classes : goal.returns-in_err-bind-in-Meet-clause-classes
returns-in_err-bind-in-Meet-clause-classes g c = IfOk-from_err c.from_residual-in_err-bind-in-Meet.result _ c.from_residual-in_err-bind-in-Meet.ensures.0

pub returns-in_err-bind-in-Meet-clause-settles : goal.returns-in_err-bind-in-Meet-clause-settles
returns-in_err-bind-in-Meet-clause-settles g c = IfOk-from_err c.from_residual-in_err-bind-in-Meet.result _ c.from_residual-in_err-bind-in-Meet.ensures.0

pub returns-in_err-bind-in-Meet-clause-fresh : goal.returns-in_err-bind-in-Meet-clause-fresh
returns-in_err-bind-in-Meet-clause-fresh g c = IfOk-from_err c.from_residual-in_err-bind-in-Meet.result _ c.from_residual-in_err-bind-in-Meet.ensures.0
