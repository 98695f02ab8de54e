use Rattle.std.proofs.Common.{sym, subst}
use Rattle.std.proofs.lemmas.Result.{IfOk-from_err}
use Rattle.ll_parser.specs.Reads.{IsWhole}
use Rattle.ll_parser.specs.Text.{queries}
use Rattle.ll_polarity.proofs.naming.Named.{whole_query_named}
use Rattle.ll_polarity.proofs.judge.judge_query.Goals as goal

pub first_fault-requires-clause-ready : goal.first_fault-requires-clause-ready
first_fault-requires-clause-ready c = (c.query.invariant, whole_query_named _ (subst (IsWhole queries) (sym c.query.view_is) c.requires.whole))

pub returns-in_err-binders : goal.returns-in_err-binders
returns-in_err-binders c = IfOk-from_err c.from_residual.result _ c.from_residual.ensures.0
