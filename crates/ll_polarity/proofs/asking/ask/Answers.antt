use Rattle.std.proofs.Common.{◌≡◌, [], sym, subst}
use Rattle.std.proofs.lemmas.Result.{err_from_is_err_and, IfOk-from_err}
use Rattle.ll_bank.specs.Nodes.{form_tree}
use Rattle.ll_polarity.specs.Causes.{IsCauseOf}
use Rattle.ll_polarity.specs.Faults.{query_faults}
use Rattle.ll_polarity.specs.Asks.{IsFirst}
use Rattle.ll_polarity.specs.Loading.{IsNumbered}
use Rattle.ll_polarity.proofs.problems.Problems.{asked_problem_valid}
use Rattle.ll_polarity.proofs.putting.Shown.{modules_stay, clauses_stay, headings_shown, problem_shown}
use Rattle.ll_polarity.proofs.problems.Asked.{asks_problem, cause_of_part}
use Rattle.ll_polarity.proofs.asking.ask.Goals as goal

pub judged-requires-clause-numbered : goal.judged-requires-clause-numbered
judged-requires-clause-numbered c = subst (IsNumbered c.loaded.inside.names) (sym c.deref.ensures.value) c.loaded.invariant.2

pub returns-in_err-addition-clause-cause : goal.returns-in_err-addition-clause-cause
returns-in_err-addition-clause-cause c =
    let part = c.loaded.inside in
    let p = err_from_is_err_and c.from_residual.result c.from_residual.ensures.1 in
    rw (p.1, p.2)
    (subst (λ hs. IsCauseOf (λ fault. IsFirst fault (query_faults hs c.args.query.now)) c.in_err-addition.field-0.0)
    (headings_shown part.bank part.names part.modules.items c.deref.result.now part.clauses.items c.args.loaded c.deref.ensures.value c.loaded.view_is)
    c.in_err-addition.ensures.cause)

pub returns-in_err-addition-clause-fault : goal.returns-in_err-addition-clause-fault
returns-in_err-addition-clause-fault c =
    let part = c.loaded.inside in
    let p = err_from_is_err_and c.from_residual.result c.from_residual.ensures.1 in
    rw (p.1, p.2)
    (cause_of_part c.args.loaded c.args.query.now _
    (subst (λ hs. IsCauseOf (λ fault. IsFirst fault (query_faults hs c.args.query.now)) c.in_err-addition.field-0.0)
    (headings_shown part.bank part.names part.modules.items c.deref.result.now part.clauses.items c.args.loaded c.deref.ensures.value c.loaded.view_is)
    c.in_err-addition.ensures.cause))

pub invariant_of-result : goal.invariant_of-result
invariant_of-result c =
    let part = c.loaded.inside in
    let keeps = c.in_ok-addition.ensures.keeps in
    (modules_stay keeps part.modules.items c.loaded.invariant.0, clauses_stay keeps part.clauses.items c.loaded.invariant.1, c.in_ok-addition.ensures.inside)

pub returns-clause-faultless : goal.returns-clause-faultless
returns-clause-faultless c =
    let part = c.loaded.inside in
    subst (λ hs. query_faults hs c.args.query.now ≡ [])
    (headings_shown part.bank part.names part.modules.items c.deref.result.now part.clauses.items c.args.loaded c.deref.ensures.value c.loaded.view_is)
    c.in_ok-addition.ensures.faultless

pub returns-clause-problem : goal.returns-clause-problem
returns-clause-problem c =
    let part = c.loaded.inside in
    let new = c.in_ok-addition.addition in
    problem_shown part.bank c.judged.new.bank part.names part.modules.items c.deref.result.now part.clauses.items c.args.loaded c.deref.ensures.value
    c.loaded.view_is c.loaded.invariant.0 c.loaded.invariant.1 c.in_ok-addition.ensures.keeps
    c.args.query.now c.args.bound c.judged.new.met.names (form_tree c.judged.new.bank new.goal.0) new.asked.items
    c.in_ok-addition.ensures.shows c.in_ok-addition.ensures.asked c.in_ok-addition.ensures.names

pub returns-clause-asks : goal.returns-clause-asks
returns-clause-asks c =
    asks_problem c.args.loaded c.args.query.now c.args.bound _ (returns-clause-problem c) (returns-clause-faultless c)

pub returns-clause-valid : goal.returns-clause-valid
returns-clause-valid c = λ program whole faultless is.
    asked_problem_valid program c.args.query.now c.args.bound _ (returns-clause-asks c program faultless is) whole c.requires.whole c.requires.bound

pub returns-in_err-addition-clause-problem : goal.returns-in_err-addition-clause-problem
returns-in_err-addition-clause-problem c = IfOk-from_err c.from_residual.result _ c.from_residual.ensures.0

pub returns-in_err-addition-clause-faultless : goal.returns-in_err-addition-clause-faultless
returns-in_err-addition-clause-faultless c = IfOk-from_err c.from_residual.result _ c.from_residual.ensures.0

pub returns-in_err-addition-clause-asks : goal.returns-in_err-addition-clause-asks
returns-in_err-addition-clause-asks c = IfOk-from_err c.from_residual.result _ c.from_residual.ensures.0

pub returns-in_err-addition-clause-valid : goal.returns-in_err-addition-clause-valid
returns-in_err-addition-clause-valid c = IfOk-from_err c.from_residual.result _ c.from_residual.ensures.0

pub returns-clause-cause : goal.returns-clause-cause
returns-clause-cause c = _

pub returns-clause-fault : goal.returns-clause-fault
returns-clause-fault c = _
