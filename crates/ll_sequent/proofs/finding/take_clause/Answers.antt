use Rattle.std.proofs.Common.{sym, ◌∙◌, ap}
use Rattle.std.specs.Prelude.{nat_eq}
use Rattle.std.specs.List.{position}
use Rattle.ll_sequent.specs.declared.sequents.Resource.{Resource}
use Rattle.ll_sequent.proofs.FindingLemmas.{not_some, found_unbounded, found_bounded, found_nowhere, held_found, held_removed, position_low}
use Rattle.ll_sequent.proofs.finding.take_clause.Goals as goal

pub returns-in-Some-clause-found : goal.returns-in-Some-clause-found
returns-in-Some-clause-found c = λ bank. found_unbounded bank c.args.label c.args.free.now c.args.bounded.now.items c.in-Some.found (sym c.in-Some.ensures)

pub returns-in-Some-place_of-clause-found : goal.returns-in-Some-place_of-clause-found
returns-in-Some-place_of-clause-found c = λ bank.
    found_bounded bank c.args.label c.args.free.now c.args.bounded.now.items c.in-Some-place_of.place c.remove.result c.remove.new.self.items
    (sym c.newest.ensures ∙ not_some c.newest.result c.in_default.not-Some)
    (ap (position (λ (r : Resource). nat_eq c.args.label r.label)) (sym c.deref.ensures.value) ∙ (sym c.place_of.ensures ∙ c.in-Some-place_of.is))
    c.remove.ensures.value c.remove.ensures.items

pub returns-in-None-clause-found : goal.returns-in-None-clause-found
returns-in-None-clause-found c = λ bank.
    found_nowhere bank c.args.label c.args.free.now c.args.bounded.now.items (sym c.newest.ensures ∙ not_some c.newest.result c.in_default.not-Some)
    (ap (position (λ (r : Resource). nat_eq c.args.label r.label)) (sym c.deref.ensures.value) ∙ (sym c.place_of.ensures ∙ c.in-None.is))

pub returns-in-Some-clause-held : goal.returns-in-Some-clause-held
returns-in-Some-clause-held c = λ modules bank h b. (
  b,
  held_found modules bank (λ (r : Resource). nat_eq c.args.label r.label) c.args.free.now c.in-Some.found
      h (sym c.in-Some.ensures),
)

pub returns-in-Some-place_of-clause-held : goal.returns-in-Some-place_of-clause-held
returns-in-Some-place_of-clause-held c = λ modules bank h b.
    held_removed modules bank c.args.bounded.now.items c.in-Some-place_of.place c.remove.result c.remove.new.self.items b
    (position_low (λ (r : Resource). nat_eq c.args.label r.label) c.args.bounded.now.items c.in-Some-place_of.place
    (ap (position (λ (r : Resource). nat_eq c.args.label r.label)) (sym c.deref.ensures.value) ∙ (sym c.place_of.ensures ∙ c.in-Some-place_of.is)))
    c.remove.ensures.value c.remove.ensures.items

pub returns-in-None-clause-held : goal.returns-in-None-clause-held
returns-in-None-clause-held c = λ modules bank h b. b
