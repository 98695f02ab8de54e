use Rattle.std.proofs.Common.{◌∷◌, [], ◌++◌, ◌∙◌, ap, sym, map, take, take_all, get_or}
use Rattle.std.proofs.lemmas.List.{take_more, map-append}
use Rattle.std.proofs.lemmas.Result.{IfOk-from_err}
use Rattle.ll_bank.specs.declared.FormAt.{FormAt}
use Rattle.ll_laws.specs.declared.Clause.{Clause}
use Rattle.ll_laws.specs.declared.Kind.TheVariants.{Linear}
use Rattle.ll_trace.proofs.root.forms_of.Goals as goal

abbrev some_clause : Clause
some_clause = record { kind = Linear; form = record { 0 = 0 } }

pub loop-clause-preserved : goal.loop-clause-preserved
loop-clause-preserved c =
    let form : Clause → FormAt = λ c. c.form in
    let k = c.loop-clause.clause-index in
    let next = get_or c.args.clauses.now k some_clause in
    c.in_ok-push.ensures.items
    ∙ (ap (λ fs. fs ++ form next ∷ []) c.loop-clause.invariant
    ∙ sym (ap (map form) (take_more c.args.clauses.now k some_clause c.loop-clause-test.true) ∙ map-append form (take k c.args.clauses.now) (next ∷ [])))

pub returns : goal.returns
returns c =
    c.loop-clause.invariant
    ∙ ap (map (λ (c : Clause). c.form)) (take_all c.loop-clause.clause-index c.args.clauses.now c.loop-clause-test.false)

pub returns-in_err-push : goal.returns-in_err-push
returns-in_err-push c = IfOk-from_err c.from_residual.result _ c.from_residual.ensures.0

pub loop-clause-init : goal.loop-clause-init
loop-clause-init c = c.new-made.ensures.items
