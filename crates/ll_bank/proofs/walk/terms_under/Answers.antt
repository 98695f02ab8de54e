use Rattle.std.proofs.lemmas.Result.{IfOk-from_err}
use Rattle.std.proofs.Common.{ap, ◌∙◌, sym, subst, ◌||◌, eqb, All}
use Rattle.std.specs.List.{list_any, Contains}
use Rattle.std.specs.Ordering.{nat_cmp}
use Rattle.std.specs.BTreeMap.{is_at}
use Rattle.std.specs.BTreeSet.{contains}
use Rattle.ll_bank.specs.Nodes.{places}
use Rattle.ll_bank.specs.Opened.{arguments_of, term_node_at}
use Rattle.ll_bank.specs.Walk.{IsInOrder, IsWalking}
use Rattle.ll_bank.proofs.WalkLemmas.{walk_begins, walk_on, walk_ends, walk_roots, ceiling_falls, removed_other, removed_less, none_in, zero_unless}
use Rattle.ll_bank.proofs.walk.terms_under.Goals as goal

pub loop-place-init : goal.loop-place-init
loop-place-init c =
    subst (IsWalking c.args.bank.now c.args.roots.now (contains nat_cmp c.insert_all.new.waiting)) (sym c.new-places.ensures.items)
    (walk_begins c.args.bank.now c.args.roots.now (contains nat_cmp c.insert_all.new.waiting) c.requires
    (λ at. c.in_ok-insert_all.ensures at ∙ ap (λ keys. list_any (is_at (nat_cmp at)) keys || list_any (eqb at) (places c.args.roots.now))
    c.new-waiting.ensures.empty))

pub loop-place-smaller : goal.loop-place-smaller
loop-place-smaller c =
    ceiling_falls c.loop-place.waiting.keys c.pop_last.new.self.keys c.insert_all-in-Some.new.waiting.keys c.in-Some.place
    (arguments_of (term_node_at c.args.bank.now c.in-Some.place))
    c.in-Some.ensures.removal c.in-Some.ensures.all_below
    (λ at. c.in_ok-insert_all-2.ensures at ∙ ap (λ xs. list_any (is_at (nat_cmp at)) c.pop_last.new.self.keys || list_any (eqb at) xs)
    c.arguments.ensures.places) c.arguments.ensures.lower

pub loop-place-preserved : goal.loop-place-preserved
loop-place-preserved c =
    subst (IsWalking c.args.bank.now c.args.roots.now (contains nat_cmp c.insert_all-in-Some.new.waiting)) (sym c.in_ok-push.ensures.items)
    (walk_on c.args.bank.now c.args.roots.now (contains nat_cmp c.loop-place.waiting) (contains nat_cmp c.pop_last.new.self)
    (contains nat_cmp c.insert_all-in-Some.new.waiting)
    c.loop-place.places.items c.in-Some.place c.loop-place.invariant c.in-Some.ensures.member
    (removed_other (contains nat_cmp c.loop-place.waiting) (contains nat_cmp c.pop_last.new.self) c.in-Some.place c.in-Some.ensures.updates.0)
    (removed_less (contains nat_cmp c.loop-place.waiting) (contains nat_cmp c.pop_last.new.self) c.in-Some.place c.in-Some.ensures.updates.0)
    (λ at. c.in_ok-insert_all-2.ensures at ∙ ap (λ xs. contains nat_cmp c.pop_last.new.self at || list_any (eqb at) xs) c.arguments.ensures.places)
    c.arguments.ensures.lower)

pub returns-clause-order : goal.returns-clause-order
returns-clause-order c =
    subst (IsInOrder c.args.bank.now) (sym c.reverse.ensures.items)
    (walk_ends c.args.bank.now c.args.roots.now (contains nat_cmp c.loop-place.waiting) c.loop-place.places.items c.loop-place.invariant
    (none_in c.loop-place.waiting.keys (zero_unless _ c.in_default.ensures.variant.1)))

pub returns-clause-roots : goal.returns-clause-roots
returns-clause-roots c =
    subst (λ xs. All (λ root. Contains xs root.0) c.args.roots.now) (sym c.reverse.ensures.items)
    (walk_roots c.args.bank.now c.args.roots.now (contains nat_cmp c.loop-place.waiting) c.loop-place.places.items c.loop-place.invariant
    (none_in c.loop-place.waiting.keys (zero_unless _ c.in_default.ensures.variant.1)))

pub returns-in_err-insert_all-clause-order : goal.returns-in_err-insert_all-clause-order
returns-in_err-insert_all-clause-order c = IfOk-from_err c.from_residual.result _ c.from_residual.ensures.0

pub returns-in_err-insert_all-clause-roots : goal.returns-in_err-insert_all-clause-roots
returns-in_err-insert_all-clause-roots c = IfOk-from_err c.from_residual.result _ c.from_residual.ensures.0

pub returns-in_err-push-clause-order : goal.returns-in_err-push-clause-order
returns-in_err-push-clause-order c = IfOk-from_err c.from_residual-in_err-push.result _ c.from_residual-in_err-push.ensures.0

pub returns-in_err-push-clause-roots : goal.returns-in_err-push-clause-roots
returns-in_err-push-clause-roots c = IfOk-from_err c.from_residual-in_err-push.result _ c.from_residual-in_err-push.ensures.0

pub returns-in_err-insert_all-2-clause-order : goal.returns-in_err-insert_all-2-clause-order
returns-in_err-insert_all-2-clause-order c = IfOk-from_err c.from_residual-in_err-insert_all-2.result _ c.from_residual-in_err-insert_all-2.ensures.0

pub returns-in_err-insert_all-2-clause-roots : goal.returns-in_err-insert_all-2-clause-roots
returns-in_err-insert_all-2-clause-roots c = IfOk-from_err c.from_residual-in_err-insert_all-2.result _ c.from_residual-in_err-insert_all-2.ensures.0
