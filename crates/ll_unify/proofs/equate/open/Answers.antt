use Rattle.std.proofs.lemmas.Result.{IfOk-from_err}
use Rattle.std.proofs.Common.{refl, [], ◌∷◌, ◌++◌, ◌≡◌, ◌∙◌, List, ap, subst}
use Rattle.std.proofs.lemmas.Result.{IfOk-weaker}
use Rattle.ll_unify.specs.declared.meet.Pair.{Pair}
use Rattle.ll_unify.specs.Pairs.{lefts, rights}
use Rattle.ll_unify.specs.Fresh.{LeavesFresh}
use Rattle.ll_unify.specs.Solving.{Settles}
use Rattle.ll_unify.proofs.Solving.{pairs-start}
use Rattle.ll_unify.proofs.equate.open.Goals as goal

pub settle-requires-clause-pairs : goal.settle-requires-clause-pairs
settle-requires-clause-pairs g c =
    rw (c.in_ok-push.ensures.items, c.clear.ensures.items)
    (pairs-start c.args.bank.now (g.T.Bindings.table c.args.table.now) (record { left = c.args.left; right = c.args.right; next = 0 }) c.requires.pair refl)

pub returns-clause-settles : goal.returns-clause-settles
returns-clause-settles g c =
    let p : Pair = record { left = c.args.left; right = c.args.right; next = 0 } in
    let e : c.push.new.self.items ≡ p ∷ [] = c.in_ok-push.ensures.items ∙ ap (λ (ps : List Pair). ps ++ p ∷ []) c.clear.ensures.items in
    IfOk-weaker c.settle.result _ _
    (λ good h. subst (λ (ps : List Pair). Settles c.args.bank.now (g.T.Bindings.table c.args.table.now) (g.T.Bindings.table c.settle.new.table)
    (lefts c.args.bank.now ps) (rights c.args.bank.now ps) good) e h)
    c.settle.ensures.settles

pub settle-requires-clause-fresh : goal.settle-requires-clause-fresh
settle-requires-clause-fresh g c = rw (c.in_ok-push.ensures.items, c.clear.ensures.items) c.requires.fresh

pub returns-clause-fresh : goal.returns-clause-fresh
returns-clause-fresh g c =
    let p : Pair = record { left = c.args.left; right = c.args.right; next = 0 } in
    let e : c.push.new.self.items ≡ p ∷ [] = c.in_ok-push.ensures.items ∙ ap (λ (ps : List Pair). ps ++ p ∷ []) c.clear.ensures.items in
    IfOk-weaker c.settle.result _ _
    (λ good h q. subst (λ (ps : List Pair). LeavesFresh c.args.bank.now (g.T.Bindings.table c.args.table.now) (g.T.Bindings.table c.settle.new.table)
    c.args.work.now.fresh c.settle.new.work.fresh (lefts c.args.bank.now ps) []) e (h q))
    c.settle.ensures.fresh

pub returns-in_err-push-clause-classes : goal.returns-in_err-push-clause-classes
returns-in_err-push-clause-classes g c = IfOk-from_err c.from_residual.result _ c.from_residual.ensures.0

pub returns-in_err-push-clause-settles : goal.returns-in_err-push-clause-settles
returns-in_err-push-clause-settles g c = IfOk-from_err c.from_residual.result _ c.from_residual.ensures.0

pub returns-in_err-push-clause-fresh : goal.returns-in_err-push-clause-fresh
returns-in_err-push-clause-fresh g c = IfOk-from_err c.from_residual.result _ c.from_residual.ensures.0

pub settle-requires-clause-table : goal.settle-requires-clause-table
settle-requires-clause-table g c = c.requires.table

pub settle-requires-clause-classes : goal.settle-requires-clause-classes
settle-requires-clause-classes g c = c.requires.classes
