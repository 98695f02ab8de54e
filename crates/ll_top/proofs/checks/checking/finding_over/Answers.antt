use Rattle.std.proofs.Common.{sym, subst}
use Rattle.std.specs.Prelude.{unwrap_or}
use Rattle.std.proofs.lemmas.Result.{err_from_is_err_and}
use Rattle.ll_laws.specs.Valid.{IsValid}
use Rattle.ll_laws.specs.contracts.Problem.{the_view}
use Rattle.ll_top.specs.texts.Judging.{TextsAsk}
use Rattle.ll_top.proofs.verdicts.CheckLemmas.{proof-refused, found-of, valid-grown}
use Rattle.ll_top.proofs.checks.checking.finding_over.Goals as goal

pub returns-in_err-derivation : goal.returns-in_err-derivation
returns-in_err-derivation c program query asks =
    let p = err_from_is_err_and c.from_residual.result c.from_residual.ensures.1 in
    rw (p.1, p.2) (proof-refused program query c.args.proof.now c.args.bound _ asks _ c.in_err-derivation.ensures.refused)

pub returns-in_err-finding : goal.returns-in_err-finding
returns-in_err-finding c program query asks =
    let p = err_from_is_err_and c.from_residual-in_err-finding.result c.from_residual-in_err-finding.ensures.1 in
    rw (p.1, p.2) tt

pub judged-requires-clause-valid : goal.judged-requires-clause-valid
judged-requires-clause-valid c = valid-grown (the_view c.problem.inside) _ c.in_ok-derivation.ensures.grows
    (subst IsValid (sym c.problem.view_is) c.requires.valid)

pub returns : goal.returns
returns c program query asks =
    let asks = subst (TextsAsk program query (unwrap_or c.args.bound 0)) (sym c.problem.view_is) asks in
    found-of program query c.args.proof.now c.args.bound (the_view c.problem.inside) asks c.derivation_of.new.names c.in_ok-derivation.ensures.names
    c.in_ok-derivation.derivation c.in_ok-derivation.ensures.read
    c.in_ok-finding.finding (rw c.is_some.ensures at c.in_ok-finding.ensures)
