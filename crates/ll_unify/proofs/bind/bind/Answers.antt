use Rattle.std.proofs.lemmas.Result.{IfOk-from_err}
use Rattle.std.proofs.Common.{sym, subst, ◌∙◌, arith}
use Rattle.std.proofs.lemmas.Result.{IfOk-weaker}
use Rattle.ll_bank.specs.Nodes.{term_tree, term_trees}
use Rattle.ll_unify.specs.Bindings.{Meets}
use Rattle.ll_unify.proofs.Binding.{left-below, right-below, no-var-int, no-var-app, no-meeting, meets-left, meets-right, meets-older, meets-newer}
use Rattle.ll_unify.proofs.FreshLemmas.{both, leaves-term, leaves-var}
use Rattle.ll_unify.proofs.bind.bind.Goals as goal

pub bind_term-requires-in-App-term_at-clause-no_var : goal.bind_term-requires-in-App-term_at-clause-no_var
bind_term-requires-in-App-term_at-clause-no_var g c =
    no-var-app (term_tree c.args.bank.now c.args.right.0) c.in-App-term_at.field-0 (term_trees c.args.bank.now c.in-App-term_at.field-1.now)
    c.in-App-term_at.ensures.shown.0

pub unreachable-requires-in-App-term_at-2 : goal.unreachable-requires-in-App-term_at-2
unreachable-requires-in-App-term_at-2 g c =
    no-meeting c.args.bank.now (g.T.Bindings.table c.args.table.now) c.args.left.0 c.args.right.0 c.requires.meet
    (no-var-int (term_tree c.args.bank.now c.args.left.0) c.in-Int.field-0 c.in-Int.ensures.shown)
    (no-var-app (term_tree c.args.bank.now c.args.right.0) c.in-App-term_at-2.field-0 (term_trees c.args.bank.now c.in-App-term_at-2.field-1.now)
    c.in-App-term_at-2.ensures.shown.0)

pub bind_right-requires-in-Var-term_at-3-clause-no_var : goal.bind_right-requires-in-Var-term_at-3-clause-no_var
bind_right-requires-in-Var-term_at-3-clause-no_var g c =
    no-var-app (term_tree c.args.bank.now c.args.left.0) c.in-App.field-0 (term_trees c.args.bank.now c.in-App.field-1.now) c.in-App.ensures.shown.0

pub unreachable-requires-in-Int-term_at-3 : goal.unreachable-requires-in-Int-term_at-3
unreachable-requires-in-Int-term_at-3 g c =
    no-meeting c.args.bank.now (g.T.Bindings.table c.args.table.now) c.args.left.0 c.args.right.0 c.requires.meet
    (no-var-app (term_tree c.args.bank.now c.args.left.0) c.in-App.field-0 (term_trees c.args.bank.now c.in-App.field-1.now) c.in-App.ensures.shown.0)
    (no-var-int (term_tree c.args.bank.now c.args.right.0) c.in-Int-term_at-3.field-0 c.in-Int-term_at-3.ensures.shown)

pub unreachable-requires-in-App-term_at-3 : goal.unreachable-requires-in-App-term_at-3
unreachable-requires-in-App-term_at-3 g c =
    no-meeting c.args.bank.now (g.T.Bindings.table c.args.table.now) c.args.left.0 c.args.right.0 c.requires.meet
    (no-var-app (term_tree c.args.bank.now c.args.left.0) c.in-App.field-0 (term_trees c.args.bank.now c.in-App.field-1.now) c.in-App.ensures.shown.0)
    (no-var-app (term_tree c.args.bank.now c.args.right.0) c.in-App-term_at-3.field-0 (term_trees c.args.bank.now c.in-App-term_at-3.field-1.now)
    c.in-App-term_at-3.ensures.shown.0)

pub returns-in_ok-set-in-Var-term_at-clause-meets : goal.returns-in_ok-set-in-Var-term_at-clause-meets
returns-in_ok-set-in-Var-term_at-clause-meets g c =
    meets-older c.args.bank.now (g.T.Bindings.table c.args.table.now) (g.T.Bindings.table c.set.new.self) c.args.left c.args.right c.in-Var.x c.in-Var-term_at.y
    c.requires.table c.requires.meet c.in-Var.ensures.shown c.in-Var-term_at.ensures.shown (sym c.is_older.ensures ∙ c.if-is_older.true)
    c.in_ok-set-in-Var-term_at.ensures.set

pub returns-in_ok-set-in-Var-term_at-2-clause-meets : goal.returns-in_ok-set-in-Var-term_at-2-clause-meets
returns-in_ok-set-in-Var-term_at-2-clause-meets g c =
    meets-newer c.args.bank.now (g.T.Bindings.table c.args.table.now) (g.T.Bindings.table c.set-else-is_older.new.self) c.args.left c.args.right c.in-Var.x
    c.in-Var-term_at.y c.requires.table c.requires.meet c.in-Var.ensures.shown c.in-Var-term_at.ensures.shown (sym c.is_older.ensures ∙ c.if-is_older.false)
    c.in_ok-set-in-Var-term_at-2.ensures.set

pub returns-in-Int-term_at-clause-meets : goal.returns-in-Int-term_at-clause-meets
returns-in-Int-term_at-clause-meets g c =
    IfOk-weaker c.bind_term.result _ _ (λ b. meets-left c.args.bank.now (g.T.Bindings.table c.args.table.now) (g.T.Bindings.table c.bind_term.new.table)
    c.args.left c.args.right c.in-Var.x b c.requires.table c.requires.meet c.in-Var.ensures.shown
    (no-var-int (term_tree c.args.bank.now c.args.right.0) c.in-Int-term_at.field-0 c.in-Int-term_at.ensures.shown)) c.bind_term.ensures.binds

pub returns-in-App-term_at-clause-meets : goal.returns-in-App-term_at-clause-meets
returns-in-App-term_at-clause-meets g c =
    IfOk-weaker c.bind_term-in-App-term_at.result _ _ (λ b. meets-left c.args.bank.now (g.T.Bindings.table c.args.table.now)
    (g.T.Bindings.table c.bind_term-in-App-term_at.new.table) c.args.left c.args.right c.in-Var.x b c.requires.table c.requires.meet c.in-Var.ensures.shown
    (no-var-app (term_tree c.args.bank.now c.args.right.0) c.in-App-term_at.field-0 (term_trees c.args.bank.now c.in-App-term_at.field-1.now)
    c.in-App-term_at.ensures.shown.0)) c.bind_term-in-App-term_at.ensures.binds

pub returns-in-Var-term_at-2-clause-meets : goal.returns-in-Var-term_at-2-clause-meets
returns-in-Var-term_at-2-clause-meets g c =
    IfOk-weaker c.bind_right.result _ _ (λ b. meets-right c.args.bank.now (g.T.Bindings.table c.args.table.now) (g.T.Bindings.table c.bind_right.new.table)
    c.args.left c.args.right c.in-Var-term_at-2.y b c.requires.table c.requires.meet c.in-Var-term_at-2.ensures.shown
    (no-var-int (term_tree c.args.bank.now c.args.left.0) c.in-Int.field-0 c.in-Int.ensures.shown)) c.bind_right.ensures.binds

pub returns-in-Var-term_at-3-clause-meets : goal.returns-in-Var-term_at-3-clause-meets
returns-in-Var-term_at-3-clause-meets g c =
    IfOk-weaker c.bind_right-in-Var-term_at-3.result _ _ (λ b.
    meets-right c.args.bank.now (g.T.Bindings.table c.args.table.now) (g.T.Bindings.table c.bind_right-in-Var-term_at-3.new.table) c.args.left c.args.right
    c.in-Var-term_at-3.y b c.requires.table c.requires.meet c.in-Var-term_at-3.ensures.shown
    (no-var-app (term_tree c.args.bank.now c.args.left.0) c.in-App.field-0 (term_trees c.args.bank.now c.in-App.field-1.now) c.in-App.ensures.shown.0))
    c.bind_right-in-Var-term_at-3.ensures.binds

pub is_older-requires-clause-first : goal.is_older-requires-clause-first
is_older-requires-clause-first g c = left-below c.args.bank.now (g.T.Bindings.table c.args.table.now) c.args.left c.args.right c.in-Var.x c.requires.meet
    c.in-Var.ensures.shown

pub is_older-requires-clause-second : goal.is_older-requires-clause-second
is_older-requires-clause-second g c = right-below c.args.bank.now (g.T.Bindings.table c.args.table.now) c.args.left c.args.right c.in-Var-term_at.y
    c.requires.meet c.in-Var-term_at.ensures.shown

pub set-requires-clause-below : goal.set-requires-clause-below
set-requires-clause-below g c =
    let l = right-below c.args.bank.now (g.T.Bindings.table c.args.table.now) c.args.left c.args.right c.in-Var-term_at.y c.requires.meet
    c.in-Var-term_at.ensures.shown in let e = c.requires.table.bound in omega arith

pub set-requires-else-is_older-clause-below : goal.set-requires-else-is_older-clause-below
set-requires-else-is_older-clause-below g c =
    let l = left-below c.args.bank.now (g.T.Bindings.table c.args.table.now) c.args.left c.args.right c.in-Var.x c.requires.meet c.in-Var.ensures.shown in
    let e = c.requires.table.bound in omega arith

pub bind_term-requires-clause-below : goal.bind_term-requires-clause-below
bind_term-requires-clause-below g c = left-below c.args.bank.now (g.T.Bindings.table c.args.table.now) c.args.left c.args.right c.in-Var.x c.requires.meet
    c.in-Var.ensures.shown

pub bind_term-requires-in-App-term_at-clause-below : goal.bind_term-requires-in-App-term_at-clause-below
bind_term-requires-in-App-term_at-clause-below g c = left-below c.args.bank.now (g.T.Bindings.table c.args.table.now) c.args.left c.args.right c.in-Var.x
    c.requires.meet c.in-Var.ensures.shown

pub bind_right-requires-clause-below : goal.bind_right-requires-clause-below
bind_right-requires-clause-below g c = right-below c.args.bank.now (g.T.Bindings.table c.args.table.now) c.args.left c.args.right c.in-Var-term_at-2.y
    c.requires.meet c.in-Var-term_at-2.ensures.shown

pub bind_right-requires-in-Var-term_at-3-clause-below : goal.bind_right-requires-in-Var-term_at-3-clause-below
bind_right-requires-in-Var-term_at-3-clause-below g c = right-below c.args.bank.now (g.T.Bindings.table c.args.table.now) c.args.left c.args.right
    c.in-Var-term_at-3.y c.requires.meet c.in-Var-term_at-3.ensures.shown

pub returns-in_ok-set-in-Var-term_at-clause-fresh : goal.returns-in_ok-set-in-Var-term_at-clause-fresh
returns-in_ok-set-in-Var-term_at-clause-fresh g c = λ e.
    leaves-var c.args.bank.now (g.T.Bindings.table c.args.table.now) (g.T.Bindings.table c.set.new.self) c.args.left c.args.right c.args.fresh.now _
    c.in-Var-term_at.y c.requires.table c.requires.meet.right_end c.in-Var-term_at.ensures.shown
    (meets-older c.args.bank.now (g.T.Bindings.table c.args.table.now) (g.T.Bindings.table c.set.new.self) c.args.left c.args.right c.in-Var.x
    c.in-Var-term_at.y c.requires.table c.requires.meet c.in-Var.ensures.shown c.in-Var-term_at.ensures.shown (sym c.is_older.ensures ∙ c.if-is_older.true)
    c.in_ok-set-in-Var-term_at.ensures.set)
    c.meet.ensures

pub returns-in_ok-set-in-Var-term_at-2-clause-fresh : goal.returns-in_ok-set-in-Var-term_at-2-clause-fresh
returns-in_ok-set-in-Var-term_at-2-clause-fresh g c = λ e.
    leaves-var c.args.bank.now (g.T.Bindings.table c.args.table.now) (g.T.Bindings.table c.set-else-is_older.new.self) c.args.left c.args.right c.args.fresh.now
    _ c.in-Var-term_at.y c.requires.table c.requires.meet.right_end c.in-Var-term_at.ensures.shown
    (meets-newer c.args.bank.now (g.T.Bindings.table c.args.table.now) (g.T.Bindings.table c.set-else-is_older.new.self) c.args.left c.args.right c.in-Var.x
    c.in-Var-term_at.y c.requires.table c.requires.meet c.in-Var.ensures.shown c.in-Var-term_at.ensures.shown (sym c.is_older.ensures ∙ c.if-is_older.false)
    c.in_ok-set-in-Var-term_at-2.ensures.set)
    c.meet.ensures

pub returns-in-Int-term_at-clause-fresh : goal.returns-in-Int-term_at-clause-fresh
returns-in-Int-term_at-clause-fresh g c =
    both c.bind_term.result _ _ _ (λ b m l e. leaves-term c.args.bank.now (g.T.Bindings.table c.args.table.now) (g.T.Bindings.table c.bind_term.new.table)
    (term_tree c.args.bank.now c.args.left.0) (term_tree c.args.bank.now c.args.right.0) c.args.fresh.now c.bind_term.new.fresh c.in-Var.x
    (subst (Meets c.args.bank.now (g.T.Bindings.table c.args.table.now) (g.T.Bindings.table c.bind_term.new.table) (term_tree c.args.bank.now c.args.left.0)
    (term_tree c.args.bank.now c.args.right.0)) e m) (l e))
    (returns-in-Int-term_at-clause-meets g c) c.bind_term.ensures.left

pub returns-in-App-term_at-clause-fresh : goal.returns-in-App-term_at-clause-fresh
returns-in-App-term_at-clause-fresh g c =
    both c.bind_term-in-App-term_at.result _ _ _ (λ b m l e.
    leaves-term c.args.bank.now (g.T.Bindings.table c.args.table.now) (g.T.Bindings.table c.bind_term-in-App-term_at.new.table)
    (term_tree c.args.bank.now c.args.left.0) (term_tree c.args.bank.now c.args.right.0) c.args.fresh.now c.bind_term-in-App-term_at.new.fresh c.in-Var.x
    (subst (Meets c.args.bank.now (g.T.Bindings.table c.args.table.now) (g.T.Bindings.table c.bind_term-in-App-term_at.new.table)
    (term_tree c.args.bank.now c.args.left.0) (term_tree c.args.bank.now c.args.right.0)) e m) (l e))
    (returns-in-App-term_at-clause-meets g c) c.bind_term-in-App-term_at.ensures.left

pub returns-in-Var-term_at-2-clause-fresh : goal.returns-in-Var-term_at-2-clause-fresh
returns-in-Var-term_at-2-clause-fresh g c =
    both c.bind_right.result _ _ _ (λ b m l e. leaves-var c.args.bank.now (g.T.Bindings.table c.args.table.now) (g.T.Bindings.table c.bind_right.new.table)
    c.args.left c.args.right c.args.fresh.now c.bind_right.new.fresh c.in-Var-term_at-2.y c.requires.table c.requires.meet.right_end
    c.in-Var-term_at-2.ensures.shown
    (subst (Meets c.args.bank.now (g.T.Bindings.table c.args.table.now) (g.T.Bindings.table c.bind_right.new.table) (term_tree c.args.bank.now c.args.left.0)
    (term_tree c.args.bank.now c.args.right.0)) e m) (l e))
    (returns-in-Var-term_at-2-clause-meets g c) c.bind_right.ensures.other

pub returns-in-Var-term_at-3-clause-fresh : goal.returns-in-Var-term_at-3-clause-fresh
returns-in-Var-term_at-3-clause-fresh g c =
    both c.bind_right-in-Var-term_at-3.result _ _ _ (λ b m l e.
    leaves-var c.args.bank.now (g.T.Bindings.table c.args.table.now) (g.T.Bindings.table c.bind_right-in-Var-term_at-3.new.table) c.args.left c.args.right
    c.args.fresh.now c.bind_right-in-Var-term_at-3.new.fresh c.in-Var-term_at-3.y c.requires.table c.requires.meet.right_end
    c.in-Var-term_at-3.ensures.shown
    (subst (Meets c.args.bank.now (g.T.Bindings.table c.args.table.now) (g.T.Bindings.table c.bind_right-in-Var-term_at-3.new.table)
    (term_tree c.args.bank.now c.args.left.0) (term_tree c.args.bank.now c.args.right.0)) e m) (l e))
    (returns-in-Var-term_at-3-clause-meets g c) c.bind_right-in-Var-term_at-3.ensures.other

pub returns-in_err-set-in-Var-term_at-clause-meets : goal.returns-in_err-set-in-Var-term_at-clause-meets
returns-in_err-set-in-Var-term_at-clause-meets g c = IfOk-from_err c.from_residual.result _ c.from_residual.ensures.0

pub returns-in_err-set-in-Var-term_at-clause-fresh : goal.returns-in_err-set-in-Var-term_at-clause-fresh
returns-in_err-set-in-Var-term_at-clause-fresh g c = IfOk-from_err c.from_residual.result _ c.from_residual.ensures.0

pub returns-in_err-set-in-Var-term_at-2-clause-meets : goal.returns-in_err-set-in-Var-term_at-2-clause-meets
returns-in_err-set-in-Var-term_at-2-clause-meets g c =
    IfOk-from_err c.from_residual-in_err-set-in-Var-term_at-2.result _ c.from_residual-in_err-set-in-Var-term_at-2.ensures.0

pub returns-in_err-set-in-Var-term_at-2-clause-fresh : goal.returns-in_err-set-in-Var-term_at-2-clause-fresh
returns-in_err-set-in-Var-term_at-2-clause-fresh g c =
    IfOk-from_err c.from_residual-in_err-set-in-Var-term_at-2.result _ c.from_residual-in_err-set-in-Var-term_at-2.ensures.0

pub term_at-requires : goal.term_at-requires
term_at-requires g c = c.requires.meet.left_end.place.inside

pub term_at-requires-in-Var : goal.term_at-requires-in-Var
term_at-requires-in-Var g c = c.requires.meet.right_end.place.inside

pub term_at-requires-in-Int : goal.term_at-requires-in-Int
term_at-requires-in-Int g c = c.requires.meet.right_end.place.inside

pub term_at-requires-in-App : goal.term_at-requires-in-App
term_at-requires-in-App g c = c.requires.meet.right_end.place.inside

pub set-requires-clause-free : goal.set-requires-clause-free
set-requires-clause-free g c = c.requires.meet.right_end.free c.in-Var-term_at.y c.in-Var-term_at.ensures.shown

pub set-requires-else-is_older-clause-free : goal.set-requires-else-is_older-clause-free
set-requires-else-is_older-clause-free g c = c.requires.meet.left_end.free c.in-Var.x c.in-Var.ensures.shown

pub returns-in_err-set-in-Var-term_at-clause-grows : goal.returns-in_err-set-in-Var-term_at-clause-grows
returns-in_err-set-in-Var-term_at-clause-grows g c = c.set.ensures.grows

pub returns-in_err-set-in-Var-term_at-2-clause-grows : goal.returns-in_err-set-in-Var-term_at-2-clause-grows
returns-in_err-set-in-Var-term_at-2-clause-grows g c = c.set-else-is_older.ensures.grows

pub bind_term-requires-clause-table : goal.bind_term-requires-clause-table
bind_term-requires-clause-table g c = c.requires.table

pub bind_term-requires-clause-free : goal.bind_term-requires-clause-free
bind_term-requires-clause-free g c = c.requires.meet.left_end.free c.in-Var.x c.in-Var.ensures.shown

pub bind_term-requires-clause-to : goal.bind_term-requires-clause-to
bind_term-requires-clause-to g c = c.requires.meet.right_end

pub bind_term-requires-in-App-term_at-clause-table : goal.bind_term-requires-in-App-term_at-clause-table
bind_term-requires-in-App-term_at-clause-table g c = c.requires.table

pub bind_term-requires-in-App-term_at-clause-free : goal.bind_term-requires-in-App-term_at-clause-free
bind_term-requires-in-App-term_at-clause-free g c = c.requires.meet.left_end.free c.in-Var.x c.in-Var.ensures.shown

pub bind_term-requires-in-App-term_at-clause-to : goal.bind_term-requires-in-App-term_at-clause-to
bind_term-requires-in-App-term_at-clause-to g c = c.requires.meet.right_end

pub bind_term-requires-clause-no_var : goal.bind_term-requires-clause-no_var
bind_term-requires-clause-no_var g c =
    no-var-int (term_tree c.args.bank.now c.args.right.0) c.in-Int-term_at.field-0 c.in-Int-term_at.ensures.shown

pub bind_right-requires-clause-table : goal.bind_right-requires-clause-table
bind_right-requires-clause-table g c = c.requires.table

pub bind_right-requires-clause-free : goal.bind_right-requires-clause-free
bind_right-requires-clause-free g c = c.requires.meet.right_end.free c.in-Var-term_at-2.y c.in-Var-term_at-2.ensures.shown

pub bind_right-requires-clause-to : goal.bind_right-requires-clause-to
bind_right-requires-clause-to g c = c.requires.meet.left_end

pub bind_right-requires-clause-fresh : goal.bind_right-requires-clause-fresh
bind_right-requires-clause-fresh g c = c.requires.fresh

pub bind_right-requires-in-Var-term_at-3-clause-table : goal.bind_right-requires-in-Var-term_at-3-clause-table
bind_right-requires-in-Var-term_at-3-clause-table g c = c.requires.table

pub bind_right-requires-in-Var-term_at-3-clause-free : goal.bind_right-requires-in-Var-term_at-3-clause-free
bind_right-requires-in-Var-term_at-3-clause-free g c = c.requires.meet.right_end.free c.in-Var-term_at-3.y c.in-Var-term_at-3.ensures.shown

pub bind_right-requires-in-Var-term_at-3-clause-to : goal.bind_right-requires-in-Var-term_at-3-clause-to
bind_right-requires-in-Var-term_at-3-clause-to g c = c.requires.meet.left_end

pub bind_right-requires-in-Var-term_at-3-clause-fresh : goal.bind_right-requires-in-Var-term_at-3-clause-fresh
bind_right-requires-in-Var-term_at-3-clause-fresh g c = c.requires.fresh

pub bind_right-requires-clause-no_var : goal.bind_right-requires-clause-no_var
bind_right-requires-clause-no_var g c =
    no-var-int (term_tree c.args.bank.now c.args.left.0) c.in-Int.field-0 c.in-Int.ensures.shown

pub unreachable-requires : goal.unreachable-requires
unreachable-requires g c =
    no-meeting c.args.bank.now (g.T.Bindings.table c.args.table.now) c.args.left.0 c.args.right.0 c.requires.meet
    (no-var-int (term_tree c.args.bank.now c.args.left.0) c.in-Int.field-0 c.in-Int.ensures.shown)
    (no-var-int (term_tree c.args.bank.now c.args.right.0) c.in-Int-term_at-2.field-0 c.in-Int-term_at-2.ensures.shown)

pub returns-in_ok-set-in-Var-term_at-clause-grows : goal.returns-in_ok-set-in-Var-term_at-clause-grows
returns-in_ok-set-in-Var-term_at-clause-grows g c = c.set.ensures.grows

pub returns-in_ok-set-in-Var-term_at-2-clause-grows : goal.returns-in_ok-set-in-Var-term_at-2-clause-grows
returns-in_ok-set-in-Var-term_at-2-clause-grows g c = c.set-else-is_older.ensures.grows

pub returns-in-Int-term_at-clause-grows : goal.returns-in-Int-term_at-clause-grows
returns-in-Int-term_at-clause-grows g c = c.bind_term.ensures.grows

pub returns-in-App-term_at-clause-grows : goal.returns-in-App-term_at-clause-grows
returns-in-App-term_at-clause-grows g c = c.bind_term-in-App-term_at.ensures.grows

pub returns-in-Var-term_at-2-clause-grows : goal.returns-in-Var-term_at-2-clause-grows
returns-in-Var-term_at-2-clause-grows g c = c.bind_right.ensures.grows

pub returns-in-Var-term_at-3-clause-grows : goal.returns-in-Var-term_at-3-clause-grows
returns-in-Var-term_at-3-clause-grows g c = c.bind_right-in-Var-term_at-3.ensures.grows
