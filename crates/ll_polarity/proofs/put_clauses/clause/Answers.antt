use Rattle.std.proofs.lemmas.Result.{IfOk-from_err}
use Rattle.ll_polarity.proofs.put_clauses.clause.Goals as goal

pub returns-clause-shows : goal.returns-clause-shows
returns-clause-shows c = λ ms heads first h. λ i. record { kind = c.kind_of-kind.ensures i; form = (c.in_ok-form.ensures.shows ms heads first h).tree i }

pub returns-in_err-form-clause-inside : goal.returns-in_err-form-clause-inside
returns-in_err-form-clause-inside c = IfOk-from_err c.from_residual.result _ c.from_residual.ensures.0

pub returns-in_err-form-clause-names : goal.returns-in_err-form-clause-names
returns-in_err-form-clause-names c = IfOk-from_err c.from_residual.result _ c.from_residual.ensures.0

pub returns-in_err-form-clause-scope : goal.returns-in_err-form-clause-scope
returns-in_err-form-clause-scope c = IfOk-from_err c.from_residual.result _ c.from_residual.ensures.0

pub returns-in_err-form-clause-shows : goal.returns-in_err-form-clause-shows
returns-in_err-form-clause-shows c = IfOk-from_err c.from_residual.result _ c.from_residual.ensures.0

pub returns-in_err-form-clause-texts : goal.returns-in_err-form-clause-texts
returns-in_err-form-clause-texts c = IfOk-from_err c.from_residual.result _ c.from_residual.ensures.0

pub quantified-requires-clause-stands : goal.quantified-requires-clause-stands
quantified-requires-clause-stands c = c.requires.stands

pub quantified-requires-clause-ready : goal.quantified-requires-clause-ready
quantified-requires-clause-ready c = c.requires.ready

pub quantified-requires-clause-room : goal.quantified-requires-clause-room
quantified-requires-clause-room c = c.requires.room

pub returns-in_err-form-clause-keeps : goal.returns-in_err-form-clause-keeps
returns-in_err-form-clause-keeps c = c.quantified.ensures.keeps

pub returns-clause-names : goal.returns-clause-names
returns-clause-names c = c.in_ok-form.ensures.names

pub returns-clause-inside : goal.returns-clause-inside
returns-clause-inside c = c.in_ok-form.ensures.inside

pub returns-clause-scope : goal.returns-clause-scope
returns-clause-scope c = c.in_ok-form.ensures.scope

pub returns-clause-texts : goal.returns-clause-texts
returns-clause-texts c = c.in_ok-form.ensures.texts

pub returns-clause-keeps : goal.returns-clause-keeps
returns-clause-keeps c = c.quantified.ensures.keeps
