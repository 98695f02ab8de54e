use Rattle.std.proofs.lemmas.Result.{IfOk-from_err}
use Rattle.std.proofs.Common.{ap, ◌∙◌, ◌||◌, eqb}
use Rattle.std.specs.List.{list_any}
use Rattle.std.specs.Ordering.{nat_cmp}
use Rattle.std.specs.BTreeMap.{is_at}
use Rattle.std.specs.BTreeSet.{contains}
use Rattle.ll_bank.specs.Nodes.{places}
use Rattle.ll_bank.proofs.CallerLemmas.{below_places}
use Rattle.ll_bank.proofs.CallerLemmas.{inserted, ceiling_falls, removed_other, removed_less}
use Rattle.ll_cover.proofs.Closes.{closing-begins, closing-on, closing-stops}
use Rattle.ll_cover.proofs.closing.is_closed.Goals as goal

pub loop-place-init : goal.loop-place-init
loop-place-init c =
    closing-begins c.args.bank.now c.args.at.0 (contains nat_cmp c.insert.new.self) c.requires
    (λ k. inserted (contains nat_cmp c.new-waiting.result) (contains nat_cmp c.insert.new.self) c.args.at.0 c.in_ok-insert.ensures.updates.0 k
    ∙ ap (λ keys. list_any (is_at (nat_cmp k)) keys || eqb k c.args.at.0) c.new-waiting.ensures.empty)

pub loop-place-smaller : goal.loop-place-smaller
loop-place-smaller c =
    ceiling_falls c.loop-place.waiting.keys c.pop_last.new.self.keys c.insert_all.new.waiting.keys c.in-Some.place (places c.in-Some-parts.args.now)
    c.in-Some.ensures.removal c.in-Some.ensures.all_below (λ at. c.in_ok-insert_all.ensures at)
    (below_places c.in-Some.place c.in-Some-parts.args.now c.in-Some-parts.ensures.lower)

pub loop-place-preserved : goal.loop-place-preserved
loop-place-preserved c =
    closing-on c.args.bank.now c.args.at.0 (contains nat_cmp c.loop-place.waiting) (contains nat_cmp c.pop_last.new.self)
    (contains nat_cmp c.insert_all.new.waiting) c.in-Some.place
    c.in-Some-parts.args.now c.loop-place.invariant c.in-Some.ensures.member
    (removed_other (contains nat_cmp c.loop-place.waiting) (contains nat_cmp c.pop_last.new.self) c.in-Some.place c.in-Some.ensures.updates.0)
    (removed_less (contains nat_cmp c.loop-place.waiting) (contains nat_cmp c.pop_last.new.self) c.in-Some.place c.in-Some.ensures.updates.0)
    (λ k. c.in_ok-insert_all.ensures k) c.in-Some-parts.ensures

pub returns-in_err-insert : goal.returns-in_err-insert
returns-in_err-insert c = IfOk-from_err c.from_residual.result _ c.from_residual.ensures.0

pub returns-in_err-insert_all : goal.returns-in_err-insert_all
returns-in_err-insert_all c = IfOk-from_err c.from_residual-in_err-insert_all.result _ c.from_residual-in_err-insert_all.ensures.0

pub parts-requires : goal.parts-requires
parts-requires c = c.loop-place.invariant.inside c.in-Some.place c.in-Some.ensures.member

pub returns-in_default-parts : goal.returns-in_default-parts
returns-in_default-parts c =
    closing-stops c.args.bank.now c.args.at.0 (contains nat_cmp c.loop-place.waiting) c.in-Some.place c.loop-place.invariant
    c.in-Some.ensures.member c.in_default-parts.ensures
