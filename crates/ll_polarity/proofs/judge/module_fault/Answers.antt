use Rattle.std.proofs.Common.{◌++◌, map, [], subst, sym, ap, ◌∙◌, rules}
use Rattle.std.proofs.lemmas.Result.{IfOk-from_err}
use Rattle.ll_parser.specs.Nodes.{identifier, shown_clause}
use Rattle.ll_polarity.specs.Scope.{Scoped}
use Rattle.ll_polarity.specs.Faults.{repeated, clauses_faults}
use Rattle.ll_polarity.specs.Pending.{IsHead}
use Rattle.ll_polarity.specs.Ready.{AreNumbers, AreClausesReady}
use Rattle.ll_polarity.proofs.faults.Judging.{head-after, scope-of-module, where-none}
use Rattle.ll_polarity.proofs.judge.module_fault.Goals as goal

pub returns-clause-first : goal.returns-clause-first
returns-clause-first c = λ ms known.
    let texts = c.args.source.now.names.now in let nodes = c.args.source.now.forms.now in
    let none = sym c.is_some.ensures ∙ c.if-is_some.false in
    let scope = scope-of-module texts nodes c.args.body.now c.deref.result.now c.deref-2.result.now c.args.binders.now c.own_names_fault.new.binders
    c.open_all.new.binders c.open_all-2.new.binders c.requires.binders
    (where-none c.in_ok-fault.fault _ none c.in_ok-fault.ensures.binders) c.in_ok-open_all.ensures c.in_ok-open_all-2.ensures c.deref.ensures.value
    c.deref-2.ensures.value in
    head-after c.in_ok-fault.fault c.in_ok-fault-2.fault _ _ none
    (subst (λ (b : Scoped). IsHead c.in_ok-fault.fault (repeated []
    (map (identifier b.texts) c.args.body.now.params.items ++ map (identifier b.texts) c.args.body.now.locals.items))) c.requires.binders
    c.in_ok-fault.ensures.first)
    (subst (λ s. IsHead c.in_ok-fault-2.fault (clauses_faults ms s (map (shown_clause texts nodes) c.args.body.now.clauses.items))) scope
    (subst (λ cs. IsHead c.in_ok-fault-2.fault (clauses_faults ms c.open_all-2.new.binders.scope (map (shown_clause texts nodes) cs))) c.deref-3.ensures.value
    (c.in_ok-fault-2.ensures.first ms known)))

pub returns-in_err-fault-2-clause-binders : goal.returns-in_err-fault-2-clause-binders
returns-in_err-fault-2-clause-binders c = IfOk-from_err c.from_residual-in_err-fault-2.result _ c.from_residual-in_err-fault-2.ensures.0

pub returns-in_err-fault-2-clause-first : goal.returns-in_err-fault-2-clause-first
returns-in_err-fault-2-clause-first c = IfOk-from_err c.from_residual-in_err-fault-2.result _ c.from_residual-in_err-fault-2.ensures.0

pub returns-in_err-fault-clause-binders : goal.returns-in_err-fault-clause-binders
returns-in_err-fault-clause-binders c = IfOk-from_err c.from_residual.result _ c.from_residual.ensures.0

pub returns-in_err-fault-clause-first : goal.returns-in_err-fault-clause-first
returns-in_err-fault-clause-first c = IfOk-from_err c.from_residual.result _ c.from_residual.ensures.0

pub returns-in_err-open_all-2-clause-binders : goal.returns-in_err-open_all-2-clause-binders
returns-in_err-open_all-2-clause-binders c = IfOk-from_err c.from_residual-in_err-open_all-2.result _ c.from_residual-in_err-open_all-2.ensures.0

pub returns-in_err-open_all-2-clause-first : goal.returns-in_err-open_all-2-clause-first
returns-in_err-open_all-2-clause-first c = IfOk-from_err c.from_residual-in_err-open_all-2.result _ c.from_residual-in_err-open_all-2.ensures.0

pub returns-in_err-open_all-clause-binders : goal.returns-in_err-open_all-clause-binders
returns-in_err-open_all-clause-binders c = IfOk-from_err c.from_residual-in_err-open_all.result _ c.from_residual-in_err-open_all.ensures.0

pub returns-in_err-open_all-clause-first : goal.returns-in_err-open_all-clause-first
returns-in_err-open_all-clause-first c = IfOk-from_err c.from_residual-in_err-open_all.result _ c.from_residual-in_err-open_all.ensures.0

pub own_names_fault-requires-clause-scope : goal.own_names_fault-requires-clause-scope
own_names_fault-requires-clause-scope c = ap (λ b. b.scope) c.requires.binders

pub own_names_fault-requires-clause-params : goal.own_names_fault-requires-clause-params
own_names_fault-requires-clause-params c =
    subst (λ ts. AreNumbers ts c.args.body.now.params.items) (sym (ap (λ b. b.texts) c.requires.binders)) c.requires.ready.params

pub own_names_fault-requires-clause-locals : goal.own_names_fault-requires-clause-locals
own_names_fault-requires-clause-locals c =
    subst (λ ts. AreNumbers ts c.args.body.now.locals.items) (sym (ap (λ b. b.texts) c.requires.binders)) c.requires.ready.locals

pub open_all-requires : goal.open_all-requires
open_all-requires c =
    let none = sym c.is_some.ensures ∙ c.if-is_some.false in
    let start = where-none c.in_ok-fault.fault _ none c.in_ok-fault.ensures.binders ∙ c.requires.binders in
    subst (AreNumbers c.own_names_fault.new.binders.texts) (sym c.deref.ensures.value)
    (subst (λ ts. AreNumbers ts c.args.body.now.locals.items) (sym (ap (λ b. b.texts) start)) c.requires.ready.locals)

pub open_all-requires-2 : goal.open_all-requires-2
open_all-requires-2 c =
    let none = sym c.is_some.ensures ∙ c.if-is_some.false in
    let start = where-none c.in_ok-fault.fault _ none c.in_ok-fault.ensures.binders ∙ c.requires.binders in
    let same = ap (λ b. b.texts) c.in_ok-open_all.ensures ∙ ap (λ b. b.texts) start in
    subst (AreNumbers c.open_all.new.binders.texts) (sym c.deref-2.ensures.value)
    (subst (λ ts. AreNumbers ts c.args.body.now.params.items) (sym same) c.requires.ready.params)

pub clauses_fault-requires-clause-texts : goal.clauses_fault-requires-clause-texts
clauses_fault-requires-clause-texts c =
    let none = sym c.is_some.ensures ∙ c.if-is_some.false in
    let start = where-none c.in_ok-fault.fault _ none c.in_ok-fault.ensures.binders ∙ c.requires.binders in
    ap (λ b. b.texts) c.in_ok-open_all-2.ensures ∙ (ap (λ b. b.texts) c.in_ok-open_all.ensures ∙ ap (λ b. b.texts) start)

pub clauses_fault-requires-clause-ready : goal.clauses_fault-requires-clause-ready
clauses_fault-requires-clause-ready c =
    subst (AreClausesReady c.args.source.now.names.now c.args.source.now.forms.now) (sym c.deref-3.ensures.value) c.requires.ready.clauses

pub returns-then-is_some-clause-first : goal.returns-then-is_some-clause-first
returns-then-is_some-clause-first c = search rules

pub returns-then-is_some-clause-binders : goal.returns-then-is_some-clause-binders
returns-then-is_some-clause-binders c = search rules

pub returns-clause-binders : goal.returns-clause-binders
returns-clause-binders c = search rules
