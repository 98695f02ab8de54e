use Rattle.std.proofs.Common.{◌<◌, All, length, sym, subst}
use Rattle.std.proofs.lemmas.Result.{IfOk-from_err}
use Rattle.ll_parser.specs.declared.RawModule.{RawModule}
use Rattle.ll_parser.specs.Reads.{IsWhole}
use Rattle.ll_parser.specs.Text.{programs}
use Rattle.ll_polarity.specs.Asks.{module_names}
use Rattle.ll_polarity.specs.Places.{FindsFirst}
use Rattle.ll_polarity.proofs.faults.Judging.{program-modules-ready}
use Rattle.ll_polarity.proofs.naming.Named.{whole_program_named}
use Rattle.ll_polarity.proofs.naming.PartNumbers.{few_bodies}
use Rattle.ll_polarity.proofs.problems.PartShown.{places_found}
use Rattle.ll_polarity.proofs.loading.fixed_part.Goals as goal

pub places_of-requires-clause-named : goal.places_of-requires-clause-named
places_of-requires-clause-named c =
    let p = c.program.inside in let whole = subst (IsWhole programs) (sym c.program.view_is) c.requires.whole in
    let ready = program-modules-ready p.names p.forms p.clauses.items p.modules.items (whole_program_named _ whole) c.program.invariant.1 in
    subst (All (λ (m : RawModule). m.name.name < length p.names)) (sym c.deref.ensures.value) (λ k d l. (ready k d l).name)

pub places_of-requires-clause-count : goal.places_of-requires-clause-count
places_of-requires-clause-count c =
    let p = c.program.inside in let whole = subst (IsWhole programs) (sym c.program.view_is) c.requires.whole in
    few_bodies p.names p.forms p.clauses.items p.modules.items whole c.deref.result.now c.deref.ensures.value

pub put_part-requires-clause-found : goal.put_part-requires-clause-found
put_part-requires-clause-found c =
    let p = c.program.inside in
    subst (λ tree. FindsFirst c.in_ok-places.places.places (module_names tree)) c.program.view_is
    (places_found p.names p.forms c.in_ok-places.places.places p.clauses.items p.modules.items c.deref.result.now c.deref.ensures.value c.in_ok-places.ensures)

pub returns-in_err-part : goal.returns-in_err-part
returns-in_err-part c = IfOk-from_err c.from_residual-in_err-part.result _ c.from_residual-in_err-part.ensures.0

pub returns-in_err-places : goal.returns-in_err-places
returns-in_err-places c = IfOk-from_err c.from_residual.result _ c.from_residual.ensures.0
