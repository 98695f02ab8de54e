use Rattle.std.proofs.lemmas.Result.{IfOk-from_err}
use Rattle.std.proofs.Common.{refl, sym, ◌∷◌, []}
use Rattle.std.proofs.lemmas.List.{append-nil}
use Rattle.ll_store.specs.Stored.{stored}
use Rattle.ll_freeze.proofs.CallerLemmas.{store_same, context_same}
use Rattle.ll_engine.proofs.machine.Keeping.{later_of, pushed}
use Rattle.ll_engine.proofs.attempt.go_on.Goals as goal

pub returns-clause-later : goal.returns-clause-later
returns-clause-later c =
    let m = c.args.machine.now in let e = c.in_ok-machine.ensures.keeps in
    later_of m _ refl refl (store_same (stored m.store)) (context_same m.context) e.more e.frames [] (sym (append-nil m.terms.items)) (c.args.step ∷ [])
    (pushed _ _ _ _ c.push_reserved.ensures.items c.in_ok-reserve.ensures.items)

pub returns-in_err-machine-clause-goes : goal.returns-in_err-machine-clause-goes
returns-in_err-machine-clause-goes c = IfOk-from_err c.from_residual.result _ c.from_residual.ensures.0

pub returns-in_err-machine-clause-later : goal.returns-in_err-machine-clause-later
returns-in_err-machine-clause-later c = IfOk-from_err c.from_residual.result _ c.from_residual.ensures.0

pub returns-in_err-reserve-clause-goes : goal.returns-in_err-reserve-clause-goes
returns-in_err-reserve-clause-goes c = IfOk-from_err c.from_residual-in_err-reserve.result _ c.from_residual-in_err-reserve.ensures.0

pub returns-in_err-reserve-clause-later : goal.returns-in_err-reserve-clause-later
returns-in_err-reserve-clause-later c = IfOk-from_err c.from_residual-in_err-reserve.result _ c.from_residual-in_err-reserve.ensures.0
