use Rattle.std.proofs.Common.{◌≡◌, ◌∙◌, [], All, map, length, true, false, rules, refl, sym, subst, ap, arith}
use Rattle.std.proofs.lemmas.Result.{IfOk-from_err}
use Rattle.std.proofs.lemmas.Option.{get_or_from_slice_get}
use Rattle.ll_bank.proofs.CallerLemmas.{length-with_name}
use Rattle.ll_parser.specs.Nodes.{shown_clause}
use Rattle.ll_parser.specs.Weights.{clauses_weight}
use Rattle.ll_polarity.specs.Ready.{AreNumbers}
use Rattle.ll_polarity.specs.Calls.{IsReady}
use Rattle.ll_polarity.proofs.faults.Judging.{scope-of-module, opened-length}
use Rattle.ll_polarity.proofs.problems.PartShown.{clauses_faultless, module_shown, module_names_met}
use Rattle.ll_polarity.proofs.put_modules.module.Goals as goal

pub text-requires : goal.text-requires
text-requires c = c.requires.ready.name

pub open_all-requires : goal.open_all-requires
open_all-requires c =
    subst (AreNumbers c.args.binders.now.texts) (sym c.deref.ensures.value)
    (subst (λ ts. AreNumbers ts c.args.body.now.locals.items) (sym c.requires.stands.same) c.requires.ready.locals)

pub open_all-requires-2 : goal.open_all-requires-2
open_all-requires-2 c =
    let same = ap (λ b. b.texts) c.in_ok-open_all.ensures ∙ c.requires.stands.same in
    subst (AreNumbers c.open_all.new.binders.texts) (sym c.deref-2.ensures.value)
    (subst (λ ts. AreNumbers ts c.args.body.now.params.items) (sym same) c.requires.ready.params)

pub clauses-requires-clause-stands : goal.clauses-requires-clause-stands
clauses-requires-clause-stands c =
    let body = c.args.body.now in
    let locals : length c.deref.result.now ≡ length body.locals.items = ap length c.deref.ensures.value in
    let params : length c.deref-2.result.now ≡ length body.params.items = ap length c.deref-2.ensures.value in
    let outer = opened-length true c.args.binders.now c.open_all.new.binders c.deref.result.now c.in_ok-open_all.ensures in
    let inner = opened-length false c.open_all.new.binders c.open_all-2.new.binders c.deref-2.result.now c.in_ok-open_all-2.ensures in
    let none : length c.args.binders.now.scope ≡ 0 = ap length c.requires.outermost in
    record {
      distinct = c.requires.stands.distinct;
      same = ap (λ b. b.texts) c.in_ok-open_all-2.ensures ∙ (ap (λ b. b.texts) c.in_ok-open_all.ensures ∙ c.requires.stands.same);
      depth = omega arith;
      room = omega (arith, locals, params, outer, inner, none, c.requires.room);
    }

pub clauses-requires-clause-ready : goal.clauses-requires-clause-ready
clauses-requires-clause-ready c =
    subst (All (λ x. IsReady c.args.text.now.names.now c.args.text.now.forms.now x.form.0)) (sym c.deref-3.ensures.value)
    (λ k d l. let r = c.requires.ready.clauses k d l in record { inside = r.0; named = r.1 })

pub clauses-requires-clause-room : goal.clauses-requires-clause-room
clauses-requires-clause-room c =
    let texts = c.args.text.now.names.now in let nodes = c.args.text.now.forms.now in let body = c.args.body.now in
    let locals : length c.deref.result.now ≡ length body.locals.items = ap length c.deref.ensures.value in
    let params : length c.deref-2.result.now ≡ length body.params.items = ap length c.deref-2.ensures.value in
    let outer = opened-length true c.args.binders.now c.open_all.new.binders c.deref.result.now c.in_ok-open_all.ensures in
    let inner = opened-length false c.open_all.new.binders c.open_all-2.new.binders c.deref-2.result.now c.in_ok-open_all-2.ensures in
    let none : length c.args.binders.now.scope ≡ 0 = ap length c.requires.outermost in
    let names = ap length c.in_ok-name.ensures.added in let one = length-with_name c.args.met.now.names c.text.result.now in
    let light = ap (λ cs. clauses_weight (map (shown_clause texts nodes) cs)) c.deref-3.ensures.value in
    omega (arith, locals, params, outer, inner, none, names, one, light, c.requires.room)

pub returns-clause-inside : goal.returns-clause-inside
returns-clause-inside c = c.in_ok-clauses.ensures.inside

pub returns-clause-keeps : goal.returns-clause-keeps
returns-clause-keeps c = c.clauses.ensures.keeps

pub returns-clause-shows : goal.returns-clause-shows
returns-clause-shows c = λ ms heads first h.
    let texts = c.args.text.now.names.now in let nodes = c.args.text.now.forms.now in
    let body = c.args.body.now in
    let start : c.args.binders.now ≡ record { texts = texts; scope = [] } = λ i. record { texts = c.requires.stands.same i; scope = c.requires.outermost i } in
    let inside = scope-of-module texts nodes body c.deref.result.now c.deref-2.result.now c.args.binders.now c.args.binders.now c.open_all.new.binders
    c.open_all-2.new.binders start refl c.in_ok-open_all.ensures c.in_ok-open_all-2.ensures c.deref.ensures.value c.deref-2.ensures.value in
    let text = get_or_from_slice_get texts body.name.name c.text.result.now [] c.text.ensures in
    let plain = clauses_faultless texts nodes body c.args.met.now.names c.add.new.self c.text.result.now c.open_all-2.new.binders.scope c.deref-3.result.now
    text c.in_ok-name.ensures.added inside c.deref-3.ensures.value heads h in
    let params : c.len.result ≡ length body.params.items = search rules in
    let locals : c.len-2.result ≡ length body.locals.items = search rules in
    module_shown texts nodes body c.args.met.now.names c.add.new.self c.text.result.now c.open_all-2.new.binders.scope c.deref-3.result.now text
    c.in_ok-name.ensures.added inside c.deref-3.ensures.value ms c.clauses.new.bank
    (record { name = c.in_ok-name.name; params = c.len.result; locals = c.len-2.result; clauses = c.in_ok-clauses.clauses }) c.in_ok-name.ensures.number params
    locals (c.in_ok-clauses.ensures.shows ms heads first plain)

pub returns-clause-names : goal.returns-clause-names
returns-clause-names c = λ ms.
    let texts = c.args.text.now.names.now in let nodes = c.args.text.now.forms.now in
    let body = c.args.body.now in
    let start : c.args.binders.now ≡ record { texts = texts; scope = [] } = λ i. record { texts = c.requires.stands.same i; scope = c.requires.outermost i } in
    let inside = scope-of-module texts nodes body c.deref.result.now c.deref-2.result.now c.args.binders.now c.args.binders.now c.open_all.new.binders
    c.open_all-2.new.binders start refl c.in_ok-open_all.ensures c.in_ok-open_all-2.ensures c.deref.ensures.value c.deref-2.ensures.value in
    let text = get_or_from_slice_get texts body.name.name c.text.result.now [] c.text.ensures in
    module_names_met texts nodes body c.args.met.now.names c.add.new.self c.text.result.now c.open_all-2.new.binders.scope c.deref-3.result.now text
    c.in_ok-name.ensures.added inside c.deref-3.ensures.value ms c.clauses.new.met.names (c.in_ok-clauses.ensures.names ms)

pub returns-in_err-clauses-clause-binders : goal.returns-in_err-clauses-clause-binders
returns-in_err-clauses-clause-binders c = IfOk-from_err c.from_residual-in_err-clauses.result _ c.from_residual-in_err-clauses.ensures.0

pub returns-in_err-clauses-clause-inside : goal.returns-in_err-clauses-clause-inside
returns-in_err-clauses-clause-inside c = IfOk-from_err c.from_residual-in_err-clauses.result _ c.from_residual-in_err-clauses.ensures.0

pub returns-in_err-clauses-clause-keeps : goal.returns-in_err-clauses-clause-keeps
returns-in_err-clauses-clause-keeps c = IfOk-from_err c.from_residual-in_err-clauses.result _ c.from_residual-in_err-clauses.ensures.0

pub returns-in_err-clauses-clause-names : goal.returns-in_err-clauses-clause-names
returns-in_err-clauses-clause-names c = IfOk-from_err c.from_residual-in_err-clauses.result _ c.from_residual-in_err-clauses.ensures.0

pub returns-in_err-clauses-clause-shows : goal.returns-in_err-clauses-clause-shows
returns-in_err-clauses-clause-shows c = IfOk-from_err c.from_residual-in_err-clauses.result _ c.from_residual-in_err-clauses.ensures.0

pub returns-in_err-name-clause-binders : goal.returns-in_err-name-clause-binders
returns-in_err-name-clause-binders c = IfOk-from_err c.from_residual.result _ c.from_residual.ensures.0

pub returns-in_err-name-clause-inside : goal.returns-in_err-name-clause-inside
returns-in_err-name-clause-inside c = IfOk-from_err c.from_residual.result _ c.from_residual.ensures.0

pub returns-in_err-name-clause-keeps : goal.returns-in_err-name-clause-keeps
returns-in_err-name-clause-keeps c = IfOk-from_err c.from_residual.result _ c.from_residual.ensures.0

pub returns-in_err-name-clause-names : goal.returns-in_err-name-clause-names
returns-in_err-name-clause-names c = IfOk-from_err c.from_residual.result _ c.from_residual.ensures.0

pub returns-in_err-name-clause-shows : goal.returns-in_err-name-clause-shows
returns-in_err-name-clause-shows c = IfOk-from_err c.from_residual.result _ c.from_residual.ensures.0

pub returns-in_err-open_all-2-clause-binders : goal.returns-in_err-open_all-2-clause-binders
returns-in_err-open_all-2-clause-binders c = IfOk-from_err c.from_residual-in_err-open_all-2.result _ c.from_residual-in_err-open_all-2.ensures.0

pub returns-in_err-open_all-2-clause-inside : goal.returns-in_err-open_all-2-clause-inside
returns-in_err-open_all-2-clause-inside c = IfOk-from_err c.from_residual-in_err-open_all-2.result _ c.from_residual-in_err-open_all-2.ensures.0

pub returns-in_err-open_all-2-clause-keeps : goal.returns-in_err-open_all-2-clause-keeps
returns-in_err-open_all-2-clause-keeps c = IfOk-from_err c.from_residual-in_err-open_all-2.result _ c.from_residual-in_err-open_all-2.ensures.0

pub returns-in_err-open_all-2-clause-names : goal.returns-in_err-open_all-2-clause-names
returns-in_err-open_all-2-clause-names c = IfOk-from_err c.from_residual-in_err-open_all-2.result _ c.from_residual-in_err-open_all-2.ensures.0

pub returns-in_err-open_all-2-clause-shows : goal.returns-in_err-open_all-2-clause-shows
returns-in_err-open_all-2-clause-shows c = IfOk-from_err c.from_residual-in_err-open_all-2.result _ c.from_residual-in_err-open_all-2.ensures.0

pub returns-in_err-open_all-clause-binders : goal.returns-in_err-open_all-clause-binders
returns-in_err-open_all-clause-binders c = IfOk-from_err c.from_residual-in_err-open_all.result _ c.from_residual-in_err-open_all.ensures.0

pub returns-in_err-open_all-clause-inside : goal.returns-in_err-open_all-clause-inside
returns-in_err-open_all-clause-inside c = IfOk-from_err c.from_residual-in_err-open_all.result _ c.from_residual-in_err-open_all.ensures.0

pub returns-in_err-open_all-clause-keeps : goal.returns-in_err-open_all-clause-keeps
returns-in_err-open_all-clause-keeps c = IfOk-from_err c.from_residual-in_err-open_all.result _ c.from_residual-in_err-open_all.ensures.0

pub returns-in_err-open_all-clause-names : goal.returns-in_err-open_all-clause-names
returns-in_err-open_all-clause-names c = IfOk-from_err c.from_residual-in_err-open_all.result _ c.from_residual-in_err-open_all.ensures.0

pub returns-in_err-open_all-clause-shows : goal.returns-in_err-open_all-clause-shows
returns-in_err-open_all-clause-shows c = IfOk-from_err c.from_residual-in_err-open_all.result _ c.from_residual-in_err-open_all.ensures.0

pub add-requires : goal.add-requires
add-requires c = search rules

pub returns-clause-binders : goal.returns-clause-binders
returns-clause-binders c = search rules
