use Rattle.std.proofs.Common.{sym, ap, ◌∙◌, [], ◌∷◌, ◌++◌, List, map}
use Rattle.std.proofs.Math.ListN.{get_or}
use Rattle.std.proofs.lemmas.List.{map_more, take_all}
use Rattle.ll_list_laws.proofs.CallerLemmas.{fewer_left}
use Rattle.ll_bank.specs.declared.FormAt.{FormAt}
use Rattle.ll_laws.specs.declared.Clause.{Clause}
use Rattle.ll_laws.specs.declared.Kind.{Kind}
use Rattle.ll_laws.specs.declared.Kind.TheVariants.{Linear}
use Rattle.ll_freeze.proofs.start.resources_of.Goals as goal

pub loop-clause-preserved : goal.loop-clause-preserved
loop-clause-preserved c =
    let d : Clause = record { kind = Linear; form = record { 0 = 0 } } in
    let at = get_or c.args.clauses.now c.loop-clause.clause-index d in
    c.in_ok-push.ensures.items
    ∙ (ap (λ (xs : List (Kind × FormAt)). xs ++ (at.kind, at.form) ∷ []) c.loop-clause.invariant
    ∙ sym (map_more (λ (e : Clause). (e.kind, e.form)) c.args.clauses.now c.loop-clause.clause-index d c.loop-clause-test.true))

pub loop-clause-init : goal.loop-clause-init
loop-clause-init c = c.new-made.ensures.items

pub returns : goal.returns
returns c =
    c.loop-clause.invariant
    ∙ ap (map (λ (e : Clause). (e.kind, e.form))) (take_all c.loop-clause.clause-index c.args.clauses.now c.loop-clause-test.false)

pub loop-clause-smaller : goal.loop-clause-smaller
loop-clause-smaller c = fewer_left _ _ c.loop-clause-test.true
