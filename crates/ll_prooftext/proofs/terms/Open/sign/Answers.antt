use Rattle.ll_prooftext.proofs.reading.Calls.{fewer}
use Rattle.std.proofs.lemmas.Result.{IfOk-from_err}
use Rattle.std.proofs.Common.{sym, subst, refl}
use Rattle.ll_prooftext.specs.Brackets.{Turns}
use Rattle.ll_prooftext.proofs.spelling.Close.{sign_put}
use Rattle.ll_prooftext.proofs.terms.Open.sign.Goals as goal

pub returns-clause-step : goal.returns-clause-step
returns-clause-step c =
    subst (λ bs. Turns c.args.names.now c.args.bank.now c.args.self.now bs c.sign_at.new.names c.term_of.new.bank
    (record { top = c.add_item.new.self; outer = c.args.self.now.outer }) c.in-Some.next.now) (sym (rw c.in-Some.is at c.in_ok-sign.ensures.found))
    (sign_put c.args.names.now c.args.bank.now c.args.self.now (record { top = c.add_item.new.self; outer = c.args.self.now.outer }) c.args.part
    c.sign_at.new.names c.term_of.new.bank (record { at = c.in_ok-at.at; sign = c.in-Some.sign }) c.in-Some.next.now c.requires.good c.requires.part
    (rw c.in-Some.is at c.in_ok-sign.ensures.sign) (rw c.deref.ensures.value at c.in_ok-at.ensures.term) c.in_ok-at.ensures.keeps c.in_ok-add_item.ensures refl)

pub returns-in_err-sign-clause-step : goal.returns-in_err-sign-clause-step
returns-in_err-sign-clause-step c = IfOk-from_err c.from_residual.result _ c.from_residual.ensures.0

pub returns-in_err-at-clause-step : goal.returns-in_err-at-clause-step
returns-in_err-at-clause-step c = IfOk-from_err c.from_residual-in_err-at.result _ c.from_residual-in_err-at.ensures.0

pub returns-in_err-add_item-clause-step : goal.returns-in_err-add_item-clause-step
returns-in_err-add_item-clause-step c = IfOk-from_err c.from_residual-in_err-add_item.result _ c.from_residual-in_err-add_item.ensures.0

pub returns-in_err-sign-clause-grows : goal.returns-in_err-sign-clause-grows
returns-in_err-sign-clause-grows c = c.sign_at.ensures.grows

pub returns-in_err-at-clause-grows : goal.returns-in_err-at-clause-grows
returns-in_err-at-clause-grows c = c.sign_at.ensures.grows

pub returns-in_err-add_item-clause-grows : goal.returns-in_err-add_item-clause-grows
returns-in_err-add_item-clause-grows c = c.sign_at.ensures.grows

pub returns-clause-grows : goal.returns-clause-grows
returns-clause-grows c = c.sign_at.ensures.grows

pub sign_at-requires : goal.sign_at-requires
sign_at-requires c = fewer _ _ _ c.requires.room
