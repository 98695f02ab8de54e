use Rattle.std.specs.Ordering.{nat_cmp}
use Rattle.std.specs.BTreeSet.{contains}
use Rattle.std.proofs.lemmas.Result.{IfOk-from_err}
use Rattle.ll_bank.specs.Nodes.{places}
use Rattle.ll_bank.proofs.CallerLemmas.{below_places}
use Rattle.ll_bank.proofs.CallerLemmas.{ceiling_falls, removed_other, removed_less}
use Rattle.ll_sequent.proofs.ConstantLemmas.{looking_begins, looking_on, looking_stops}
use Rattle.ll_sequent.proofs.constants.is_in_terms.Goals as goal

pub loop-place-smaller : goal.loop-place-smaller
loop-place-smaller c =
    ceiling_falls c.loop-place.terms.keys c.pop_last.new.self.keys c.insert_all.new.terms.keys c.in-Some.place (places c.in-Some-parts.args.now)
    c.in-Some.ensures.removal c.in-Some.ensures.all_below (λ at. c.in_ok-insert_all.ensures at)
    (below_places c.in-Some.place c.in-Some-parts.args.now c.in-Some-parts.ensures.lower)

pub loop-place-preserved : goal.loop-place-preserved
loop-place-preserved c =
    looking_on c.args.constant c.args.bank.now (contains nat_cmp c.args.terms) (contains nat_cmp c.loop-place.terms) (contains nat_cmp c.pop_last.new.self)
    (contains nat_cmp c.insert_all.new.terms)
    c.in-Some.place c.in-Some-parts.args.now c.loop-place.invariant c.in-Some.ensures.member
    (removed_other (contains nat_cmp c.loop-place.terms) (contains nat_cmp c.pop_last.new.self) c.in-Some.place c.in-Some.ensures.updates.0)
    (removed_less (contains nat_cmp c.loop-place.terms) (contains nat_cmp c.pop_last.new.self) c.in-Some.place c.in-Some.ensures.updates.0)
    (λ k. c.in_ok-insert_all.ensures k) c.in-Some-parts.ensures

pub loop-place-init : goal.loop-place-init
loop-place-init c = looking_begins c.args.constant c.args.bank.now (contains nat_cmp c.args.terms) c.requires

pub parts-requires : goal.parts-requires
parts-requires c = c.loop-place.invariant.inside c.in-Some.place c.in-Some.ensures.member

pub returns-in_default-parts : goal.returns-in_default-parts
returns-in_default-parts c =
    looking_stops c.args.constant c.args.bank.now (contains nat_cmp c.args.terms) (contains nat_cmp c.loop-place.terms) c.in-Some.place c.loop-place.invariant
    c.in-Some.ensures.member c.in_default-parts.ensures

pub returns-in_err-insert_all : goal.returns-in_err-insert_all
returns-in_err-insert_all c = IfOk-from_err c.from_residual.result _ c.from_residual.ensures.0
