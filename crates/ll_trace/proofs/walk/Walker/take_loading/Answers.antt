use Rattle.std.proofs.Common.{◌+◌, ◌-◌, refl, ap, sym, subst, arith}
use Rattle.std.proofs.lemmas.Result.{IfOk-from_err}
use Rattle.ll_bank.specs.Form.{Form}
use Rattle.ll_bank.specs.Nodes.{form_tree}
use Rattle.ll_laws.specs.declared.Kind.{Kind}
use Rattle.ll_laws.specs.declared.Rule.TheVariants.{Lolli as LolliRule, Imp as ImpRule, Forall as ForallRule}
use Rattle.ll_laws.specs.Line.{ForallLine}
use Rattle.ll_laws.specs.Shown.{clause_tree}
use Rattle.ll_trace.specs.Bare.{bare}
use Rattle.ll_trace.specs.Goals.{loading_goal}
use Rattle.ll_trace.specs.Walker.{trees, TellsGoal, MayTake}
use Rattle.ll_trace.proofs.TakeLemmas.{if_ok, takes_local, takes_clause, load_over, load_line}
use Rattle.ll_trace.proofs.LoadLemmas.{load_end, load_next}
use Rattle.ll_trace.proofs.walk.Walker.take_loading.Goals as goal

pub returns-then-loading-gt0 : goal.returns-then-loading-gt0
returns-then-loading-gt0 c =
    let l = c.args.loading in
    takes_local c.args.forms.now c.args.modules.now c.args.terms.now c.args.self.now c.args.step c.requires.inside c.requires.used l
    (record l { locals = l.locals - 1 }) (ForallRule c.in_ok-eigen.eigen) c.open.new.self
    c.if-loading-gt0.true refl c.requires.goal c.requires.known c.in_ok-eigen.ensures.pushed (λ bank. ap ForallLine c.in_ok-eigen.ensures.eigen) (λ bank k. tt)

pub take_form-requires-clause-may : goal.take_form-requires-clause-may
take_form-requires-clause-may c =
    let forms = c.args.forms.now in
    let l = c.args.loading in
    let f = c.if-loading-gt0.false in
    let end = load_end forms c.args.modules.now l.«module» l.next c.requires.known c.index-modules-loading.is c.deref.ensures.value
    c.in_default.ensures.lookup.3 in
    subst (λ (g : Form). MayTake forms c.args.modules.now c.args.terms.now c.args.self.now g c.args.step)
    (load_over forms c.args.modules.now c.args.terms.now c.args.self.now c.args.step c.requires.inside c.requires.used l (omega (arith, f)) end) c.requires.may

pub returns-in_default : goal.returns-in_default
returns-in_default c =
    let forms = c.args.forms.now in
    let l = c.args.loading in
    let f = c.if-loading-gt0.false in
    let end = load_end forms c.args.modules.now l.«module» l.next c.requires.known c.index-modules-loading.is c.deref.ensures.value
    c.in_default.ensures.lookup.3 in
    let over = load_over forms c.args.modules.now c.args.terms.now c.args.self.now c.args.step c.requires.inside c.requires.used l (omega (arith, f)) end in
    if_ok (λ rule. TellsGoal forms c.args.modules.now c.args.terms.now c.args.self.now (bare (form_tree forms l.goal.0)) c.args.step rule c.take_form.new.self)
    (λ rule. TellsGoal forms c.args.modules.now c.args.terms.now c.args.self.now (loading_goal forms (trees forms c.args.modules.now) l) c.args.step rule
    c.take_form.new.self)
    (λ rule s. subst (λ (g : Form). TellsGoal forms c.args.modules.now c.args.terms.now c.args.self.now g c.args.step rule c.take_form.new.self) (sym over) s)
    c.take_form.result c.take_form.ensures

pub returns-in-Linear : goal.returns-in-Linear
returns-in-Linear c =
    let forms = c.args.forms.now in
    let l = c.args.loading in
    let f = c.if-loading-gt0.false in
    let x = c.in-Some.clause.now in
    let next = load_next forms c.args.modules.now l.«module» l.next c.requires.known c.index-modules-loading.is c.deref.ensures.value c.requires.modules
    c.in-Some.ensures.lookup.3.0 c.in-Some.ensures.lookup.1 in
    takes_clause forms c.args.modules.now c.args.terms.now c.args.self.now c.args.step c.requires.inside c.requires.used l (record l { next = l.next + 1 })
    (clause_tree forms x) x.form (LolliRule c.in_ok-label.label) c.in_ok-label.label
    c.load.new.self (omega (arith, f)) refl c.requires.goal c.requires.known refl next.has next.got c.in_ok-label.ensures.pushed c.in_ok-label.ensures.label
    (λ bank. ap (λ (y : Kind). load_line y c.in_ok-label.label) (sym c.in-Linear.is)) (λ bank h. tt)

pub returns-in-Unbounded : goal.returns-in-Unbounded
returns-in-Unbounded c =
    let forms = c.args.forms.now in
    let l = c.args.loading in
    let f = c.if-loading-gt0.false in
    let x = c.in-Some.clause.now in
    let next = load_next forms c.args.modules.now l.«module» l.next c.requires.known c.index-modules-loading.is c.deref.ensures.value c.requires.modules
    c.in-Some.ensures.lookup.3.0 c.in-Some.ensures.lookup.1 in
    takes_clause forms c.args.modules.now c.args.terms.now c.args.self.now c.args.step c.requires.inside c.requires.used l (record l { next = l.next + 1 })
    (clause_tree forms x) x.form (ImpRule c.in_ok-label.label) c.in_ok-label.label
    c.load.new.self (omega (arith, f)) refl c.requires.goal c.requires.known refl next.has next.got c.in_ok-label.ensures.pushed c.in_ok-label.ensures.label
    (λ bank. ap (λ (y : Kind). load_line y c.in_ok-label.label) (sym c.in-Unbounded.is)) (λ bank h. tt)

pub returns-in_err-eigen : goal.returns-in_err-eigen
returns-in_err-eigen c = IfOk-from_err c.from_residual.result _ c.from_residual.ensures.0

pub returns-in_err-label : goal.returns-in_err-label
returns-in_err-label c = IfOk-from_err c.from_residual-in_err-label.result _ c.from_residual-in_err-label.ensures.0

pub take_form-requires-clause-modules : goal.take_form-requires-clause-modules
take_form-requires-clause-modules c = c.requires.modules

pub take_form-requires-clause-inside : goal.take_form-requires-clause-inside
take_form-requires-clause-inside c = c.requires.inside

pub take_form-requires-clause-used : goal.take_form-requires-clause-used
take_form-requires-clause-used c = c.requires.used
