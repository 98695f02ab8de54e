use Rattle.std.proofs.lemmas.Result.{IfOk-from_err}
use Rattle.std.proofs.Common.{◌≡◌, sym, subst, refl, ◌∙◌, List, map}
use Rattle.std.specs.Prelude.{All}
use Rattle.ll_list_laws.proofs.CallerLemmas.{IfOk-each}
use Rattle.ll_bank.specs.declared.At.{At}
use Rattle.ll_bank.specs.Term.{sub}
use Rattle.ll_bank.specs.Nodes.{Nodes, AllInTerms, term_trees}
use Rattle.ll_bank.proofs.CallerLemmas.{cut_same}
use Rattle.ll_unify.specs.Bindings.{IsPlaceOf}
use Rattle.ll_freeze.specs.Parts.{parts_of, table}
use Rattle.ll_freeze.proofs.CallerLemmas.{trees_read}
use Rattle.ll_freeze.specs.Reading.{reading}
use Rattle.ll_freeze.specs.Shown.{state_of}
use Rattle.ll_engine.proofs.machine.ReadLemmas.{fits_table}
use Rattle.ll_engine.proofs.machine.Showing.{branch_of, term_places}
use Rattle.ll_engine.proofs.answer.branch.Goals as goal

pub read_into-requires-clause-table : goal.read_into-requires-clause-table
read_into-requires-clause-table c = fits_table (parts_of c.args.machine.now) c.requires.fits

pub read_into-requires-clause-places : goal.read_into-requires-clause-places
read_into-requires-clause-places c =
    let m = parts_of c.args.machine.now in
    subst (λ (ats : List At). All (λ (at : At). IsPlaceOf m.bank (table m) at.0) ats) (sym c.deref.ensures.value) (term_places m c.requires.fits)

pub with_steps-requires : goal.with_steps-requires
with_steps-requires c =
    subst (λ (b : Nodes). AllInTerms b c.in_ok-terms.terms.items)
    (sym (cut_same c.read_into.new.other c.in_ok-bank.bank c.size-size.result c.size-size.ensures.is c.in_ok-bank.ensures)) c.in_ok-terms.ensures.inside

pub returns : goal.returns
returns c =
    let m = parts_of c.args.machine.now in
    let same = cut_same c.read_into.new.other c.in_ok-bank.bank c.size-size.result c.size-size.ensures.is c.in_ok-bank.ensures in
    IfOk-each c.with_steps.result (λ b. b ≡ record { terms = term_trees c.in_ok-bank.bank c.in_ok-terms.terms.items; steps = c.as_slice.result.now })
    (λ b. b ≡ record { terms = (state_of m).terms; steps = (state_of m).steps })
    (λ b e. e
    ∙ branch_of m m.bank c.in_ok-bank.bank m.bound c.deref.result.now c.in_ok-terms.terms.items c.as_slice.result.now refl refl c.deref.ensures.value
    (subst (λ (b : Nodes). term_trees b c.in_ok-terms.terms.items ≡ map (sub (reading m.bank m.bound)) (term_trees m.bank c.deref.result.now)) (sym same)
    c.in_ok-terms.ensures.shows
    ∙ sym (trees_read (reading m.bank m.bound) m.bank c.deref.result.now)) c.as_slice.ensures.value)
    c.with_steps.ensures

pub returns-in_err-terms : goal.returns-in_err-terms
returns-in_err-terms c = IfOk-from_err c.from_residual.result _ c.from_residual.ensures.0

pub returns-in_err-bank : goal.returns-in_err-bank
returns-in_err-bank c = IfOk-from_err c.from_residual-in_err-bank.result _ c.from_residual-in_err-bank.ensures.0
