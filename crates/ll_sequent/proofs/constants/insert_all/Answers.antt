use Rattle.std.proofs.Common.{◌<◌, ap, ◌∙◌, sym, take, ◌||◌, eqb, arith, length, get_or}
use Rattle.std.proofs.lemmas.Result.{IfOk-from_err}
use Rattle.std.specs.List.{list_any}
use Rattle.std.specs.Ordering.{nat_cmp}
use Rattle.std.specs.BTreeSet.{contains}
use Rattle.ll_bank.specs.Nodes.{places}
use Rattle.ll_bank.proofs.CallerLemmas.{inserted, more_any, places_more}
use Rattle.ll_sequent.proofs.constants.insert_all.Goals as goal

pub loop-place-preserved : goal.loop-place-preserved
loop-place-preserved c = λ at.
    let x = get_or c.args.more.now c.loop-place.place-index (record { 0 = 0 }) in
    let i : c.loop-place.place-index < length c.args.more.now = omega arith in
    more_any (contains nat_cmp c.args.terms.now at) (contains nat_cmp c.loop-place.terms at) (contains nat_cmp c.insert.new.self at) at x.0
    (take c.loop-place.place-index (places c.args.more.now))
    (c.loop-place.invariant at) (inserted (contains nat_cmp c.loop-place.terms) (contains nat_cmp c.insert.new.self) x.0 (c.in_ok-insert.ensures.updates.0) at)
    ∙ ap (λ xs. contains nat_cmp c.args.terms.now at || list_any (eqb at) xs) (sym (places_more c.args.more.now c.loop-place.place-index (record { 0 = 0 }) i))

pub returns-in_err-insert : goal.returns-in_err-insert
returns-in_err-insert c = IfOk-from_err c.from_residual.result _ c.from_residual.ensures.0
