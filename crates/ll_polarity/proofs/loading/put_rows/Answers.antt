use Rattle.std.proofs.Common.{◌≡◌, ◌+◌, ◌<◌, [], All, get_or, length, sym, subst, ap, ◌∙◌}
use Rattle.std.proofs.lemmas.Result.{IfOk-from_err}
use Rattle.std.specs.Prelude.{◌^◌, unwrap_or}
use Rattle.ll_bank.proofs.CallerLemmas.{HasForm-extends}
use Rattle.ll_parser.specs.declared.RawClause.{RawClause}
use Rattle.ll_parser.specs.declared.RawModule.{RawModule}
use Rattle.ll_parser.specs.Nodes.{shown_program}
use Rattle.ll_parser.specs.Raw.{ProgramTree}
use Rattle.ll_parser.specs.Reads.{IsWhole}
use Rattle.ll_parser.specs.Text.{programs}
use Rattle.ll_polarity.specs.Asks.{module_names}
use Rattle.ll_polarity.specs.Calls.{IsReady}
use Rattle.ll_polarity.specs.Faults.{program_faults}
use Rattle.ll_polarity.specs.Places.{FindsFirst, place_in}
use Rattle.ll_polarity.specs.Ready.{IsModuleReady}
use Rattle.ll_polarity.proofs.faults.Judging.{program-clauses-ready, program-modules-ready}
use Rattle.ll_polarity.proofs.putting.ModuleRows.{few_own_shown, ready_clauses, stands_first, whole_few_own}
use Rattle.ll_polarity.proofs.naming.Named.{whole_program_named}
use Rattle.ll_polarity.proofs.naming.PartNumbers.{part_numbered, room_at_clauses, room_at_modules}
use Rattle.ll_polarity.proofs.problems.PartShown.{part_shown}
use Rattle.ll_polarity.proofs.loading.put_rows.Goals as goal

-- what is whole is whole as its parts show it
whole_inside : {shown tree : ProgramTree} → shown ≡ tree → IsWhole programs tree → IsWhole programs shown
whole_inside e = subst (IsWhole programs) (sym e)

pub clauses-requires-clause-stands : goal.clauses-requires-clause-stands
clauses-requires-clause-stands c = stands_first c.program.inside.names c.in_ok-binders.binders c.len-texts.ensures.distinct c.in_ok-binders.ensures

pub clauses-requires-clause-ready : goal.clauses-requires-clause-ready
clauses-requires-clause-ready c =
    let p = c.program.inside in let whole = whole_inside c.program.view_is c.requires.whole in
    subst (All (λ (r : RawClause). IsReady p.names p.forms r.form.0)) (sym c.deref.ensures.value)
    (ready_clauses p.names p.forms p.clauses.items (program-clauses-ready p.names p.forms p.clauses.items p.modules.items (whole_program_named _ whole)
    c.program.invariant.0))

pub clauses-requires-clause-room : goal.clauses-requires-clause-room
clauses-requires-clause-room c =
    let p = c.program.inside in let whole = whole_inside c.program.view_is c.requires.whole in
    room_at_clauses p.names p.forms p.clauses.items p.modules.items whole c.deref.result.now c.in_ok-binders.binders.scope c.args.met.now.names
    c.deref.ensures.value
    (ap (λ b. b.scope) c.in_ok-binders.ensures) c.requires.first

pub modules-requires-clause-stands : goal.modules-requires-clause-stands
modules-requires-clause-stands c =
    stands_first c.program.inside.names c.clauses.new.binders c.len-texts.ensures.distinct
    (λ i. record { texts = c.in_ok-clauses.ensures.texts i; scope = (c.in_ok-clauses.ensures.scope ∙ ap (λ b. b.scope) c.in_ok-binders.ensures) i })

pub modules-requires-clause-outermost : goal.modules-requires-clause-outermost
modules-requires-clause-outermost c = c.in_ok-clauses.ensures.scope ∙ ap (λ b. b.scope) c.in_ok-binders.ensures

pub modules-requires-clause-ready : goal.modules-requires-clause-ready
modules-requires-clause-ready c =
    let p = c.program.inside in let whole = whole_inside c.program.view_is c.requires.whole in
    subst (All (IsModuleReady p.names p.forms)) (sym c.deref-2.ensures.value)
    (program-modules-ready p.names p.forms p.clauses.items p.modules.items (whole_program_named _ whole) c.program.invariant.1)

pub modules-requires-clause-few : goal.modules-requires-clause-few
modules-requires-clause-few c =
    let p = c.program.inside in let whole = whole_inside c.program.view_is c.requires.whole in
    subst (All (λ (m : RawModule). length m.locals.items + length m.params.items < 2 ^ 31)) (sym c.deref-2.ensures.value)
    (few_own_shown p.names p.forms p.modules.items (whole_few_own (shown_program p.names p.forms p.clauses.items p.modules.items) whole))

pub modules-requires-clause-room : goal.modules-requires-clause-room
modules-requires-clause-room c =
    let p = c.program.inside in let whole = whole_inside c.program.view_is c.requires.whole in
    room_at_modules p.names p.forms p.clauses.items p.modules.items whole c.deref.result.now c.in_ok-binders.binders.scope c.args.met.now.names
    c.deref.ensures.value
    (ap (λ b. b.scope) c.in_ok-binders.ensures) c.requires.first
    c.deref-2.result.now c.clauses.new.met.names c.deref-2.ensures.value c.in_ok-clauses.ensures.names

pub returns-clause-modules : goal.returns-clause-modules
returns-clause-modules c = c.in_ok-modules.ensures.inside

pub returns-clause-clauses : goal.returns-clause-clauses
returns-clause-clauses c =
    λ k d l. HasForm-extends c.in_ok-modules.ensures.keeps (get_or c.in_ok-clauses.clauses.items k d).form.0 (c.in_ok-clauses.ensures.inside k d l)

pub returns-clause-numbered : goal.returns-clause-numbered
returns-clause-numbered c =
    let p = c.program.inside in
    let found = subst (λ tree. FindsFirst c.args.places.now.places (module_names tree)) (sym c.program.view_is) c.requires.found in
    let faultless = subst (λ tree. program_faults tree ≡ []) (sym c.program.view_is) c.requires.faultless in
    let is = part_shown p.names p.forms (place_in c.args.places.now.places) p.clauses.items c.deref.result.now p.modules.items c.deref-2.result.now
    c.in_ok-binders.binders.scope c.args.met.now.names c.clauses.new.met.names c.modules.new.met.names c.clauses.new.bank c.modules.new.bank
    c.in_ok-clauses.clauses.items c.in_ok-modules.modules.items c.deref.ensures.value c.deref-2.ensures.value (ap (λ b. b.scope) c.in_ok-binders.ensures)
    c.requires.first (λ w. ap (λ o. unwrap_or o 0) (found w)) c.in_ok-clauses.ensures.shows c.in_ok-clauses.ensures.names
    c.in_ok-modules.ensures.shows c.in_ok-modules.ensures.names c.in_ok-clauses.ensures.inside c.in_ok-modules.ensures.keeps faultless in
    part_numbered (shown_program p.names p.forms p.clauses.items p.modules.items) (whole_inside c.program.view_is c.requires.whole) c.modules.new.met.names
    c.modules.new.bank c.in_ok-modules.modules.items (ap (λ x. x.names) is) (ap (λ x. x.modules) is)

pub returns-clause-part : goal.returns-clause-part
returns-clause-part c =
    let p = c.program.inside in
    let found = subst (λ tree. FindsFirst c.args.places.now.places (module_names tree)) (sym c.program.view_is) c.requires.found in
    let faultless = subst (λ tree. program_faults tree ≡ []) (sym c.program.view_is) c.requires.faultless in
    sym (rw (← c.program.view_is)
    (part_shown p.names p.forms (place_in c.args.places.now.places) p.clauses.items c.deref.result.now p.modules.items c.deref-2.result.now
    c.in_ok-binders.binders.scope c.args.met.now.names c.clauses.new.met.names c.modules.new.met.names c.clauses.new.bank c.modules.new.bank
    c.in_ok-clauses.clauses.items c.in_ok-modules.modules.items c.deref.ensures.value c.deref-2.ensures.value (ap (λ b. b.scope) c.in_ok-binders.ensures)
    c.requires.first (λ w. ap (λ o. unwrap_or o 0) (found w)) c.in_ok-clauses.ensures.shows c.in_ok-clauses.ensures.names
    c.in_ok-modules.ensures.shows c.in_ok-modules.ensures.names c.in_ok-clauses.ensures.inside c.in_ok-modules.ensures.keeps faultless))

pub returns-in_err-binders-clause-clauses : goal.returns-in_err-binders-clause-clauses
returns-in_err-binders-clause-clauses c = IfOk-from_err c.from_residual.result _ c.from_residual.ensures.0

pub returns-in_err-binders-clause-modules : goal.returns-in_err-binders-clause-modules
returns-in_err-binders-clause-modules c = IfOk-from_err c.from_residual.result _ c.from_residual.ensures.0

pub returns-in_err-binders-clause-numbered : goal.returns-in_err-binders-clause-numbered
returns-in_err-binders-clause-numbered c = IfOk-from_err c.from_residual.result _ c.from_residual.ensures.0

pub returns-in_err-binders-clause-part : goal.returns-in_err-binders-clause-part
returns-in_err-binders-clause-part c = IfOk-from_err c.from_residual.result _ c.from_residual.ensures.0

pub returns-in_err-clauses-clause-clauses : goal.returns-in_err-clauses-clause-clauses
returns-in_err-clauses-clause-clauses c = IfOk-from_err c.from_residual-in_err-clauses.result _ c.from_residual-in_err-clauses.ensures.0

pub returns-in_err-clauses-clause-modules : goal.returns-in_err-clauses-clause-modules
returns-in_err-clauses-clause-modules c = IfOk-from_err c.from_residual-in_err-clauses.result _ c.from_residual-in_err-clauses.ensures.0

pub returns-in_err-clauses-clause-numbered : goal.returns-in_err-clauses-clause-numbered
returns-in_err-clauses-clause-numbered c = IfOk-from_err c.from_residual-in_err-clauses.result _ c.from_residual-in_err-clauses.ensures.0

pub returns-in_err-clauses-clause-part : goal.returns-in_err-clauses-clause-part
returns-in_err-clauses-clause-part c = IfOk-from_err c.from_residual-in_err-clauses.result _ c.from_residual-in_err-clauses.ensures.0

pub returns-in_err-modules-clause-clauses : goal.returns-in_err-modules-clause-clauses
returns-in_err-modules-clause-clauses c = IfOk-from_err c.from_residual-in_err-modules.result _ c.from_residual-in_err-modules.ensures.0

pub returns-in_err-modules-clause-modules : goal.returns-in_err-modules-clause-modules
returns-in_err-modules-clause-modules c = IfOk-from_err c.from_residual-in_err-modules.result _ c.from_residual-in_err-modules.ensures.0

pub returns-in_err-modules-clause-numbered : goal.returns-in_err-modules-clause-numbered
returns-in_err-modules-clause-numbered c = IfOk-from_err c.from_residual-in_err-modules.result _ c.from_residual-in_err-modules.ensures.0

pub returns-in_err-modules-clause-part : goal.returns-in_err-modules-clause-part
returns-in_err-modules-clause-part c = IfOk-from_err c.from_residual-in_err-modules.result _ c.from_residual-in_err-modules.ensures.0
