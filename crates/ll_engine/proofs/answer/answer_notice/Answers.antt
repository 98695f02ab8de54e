use Rattle.std.proofs.Common.{◌≡◌, ap, sym, subst, ◌∙◌, List, map}
use Rattle.std.specs.Prelude.{All, IfSome}
use Rattle.ll_bank.specs.declared.At.{At}
use Rattle.ll_bank.specs.Term.{sub}
use Rattle.ll_bank.specs.Nodes.{term_tree}
use Rattle.ll_laws.specs.declared.Event.{Event}
use Rattle.ll_laws.specs.declared.Event.TheVariants.{Answer}
use Rattle.ll_unify.specs.Bindings.{IsPlaceOf}
use Rattle.ll_freeze.specs.Parts.{parts_of, table}
use Rattle.ll_freeze.specs.Reading.{reading}
use Rattle.ll_engine.proofs.machine.ReadLemmas.{fits_table}
use Rattle.ll_engine.proofs.machine.Showing.{read_in_place, term_places}
use Rattle.ll_engine.proofs.answer.answer_notice.Goals as goal

pub of_answer-requires-clause-places : goal.of_answer-requires-clause-places
of_answer-requires-clause-places g c =
    let m = parts_of c.args.machine.now in
    let places = subst (λ (ats : List At). All (λ (at : At). IsPlaceOf m.bank (table m) at.0) ats) (sym c.deref.ensures.value)
    (term_places m c.requires.fits) in
    λ k d l. record { table = fits_table m c.requires.fits; place = places k d l }

pub returns-in-Some : goal.returns-in-Some
returns-in-Some g c =
    let m = parts_of c.args.machine.now in
    let read : Event =
    Answer (record { terms = map (λ (at : At). sub (reading m.bank m.bound) (term_tree m.bank at.0)) c.deref.result.now; steps = c.as_slice.result.now }) in
    subst (λ o. IfSome o (λ n. g.E.Notice.stands_for n ≡ read)) c.in-Some.is c.in_ok-notice.ensures
    ∙ ap Answer (read_in_place m c.deref.result.now c.as_slice.result.now c.deref.ensures.value c.as_slice.ensures.value)
