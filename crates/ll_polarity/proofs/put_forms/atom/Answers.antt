use Rattle.std.proofs.Common.{rules}
use Rattle.std.proofs.lemmas.Result.{IfOk-from_err}
use Rattle.ll_bank.proofs.CallerLemmas.{Extends-trans}
use Rattle.ll_polarity.proofs.put_forms.atom.Goals as goal

pub returns-in_err-term-clause-shows : goal.returns-in_err-term-clause-shows
returns-in_err-term-clause-shows c = IfOk-from_err c.from_residual.result _ c.from_residual.ensures.0

pub returns-in_err-term-clause-met : goal.returns-in_err-term-clause-met
returns-in_err-term-clause-met c = IfOk-from_err c.from_residual.result _ c.from_residual.ensures.0

pub term-requires-clause-stands : goal.term-requires-clause-stands
term-requires-clause-stands c = c.requires.stands

pub term-requires-clause-ready : goal.term-requires-clause-ready
term-requires-clause-ready c = c.requires.ready

pub term-requires-clause-room : goal.term-requires-clause-room
term-requires-clause-room c = c.requires.room

pub returns-in_err-term-clause-keeps : goal.returns-in_err-term-clause-keeps
returns-in_err-term-clause-keeps c = c.term.ensures.keeps

pub form-requires : goal.form-requires
form-requires c = search rules

pub returns-clause-shows : goal.returns-clause-shows
returns-clause-shows c = search rules

pub returns-clause-met : goal.returns-clause-met
returns-clause-met c = search rules

pub returns-clause-keeps : goal.returns-clause-keeps
returns-clause-keeps c = Extends-trans c.term.ensures.keeps c.form.ensures.keeps
