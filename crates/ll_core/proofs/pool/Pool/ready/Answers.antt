-- The stack's last entry is what comes next.
use Rattle.std.proofs.Common.{◌≡◌, ◌<◌, ◌-◌, ◌+◌, ap, sym, subst, refl, arith, map, length, List, None, Some, [], ◌∷◌}
use Rattle.std.specs.Prelude.{slice_get}
use Rattle.ll_laws.specs.Sound.{Shaped}
use Rattle.ll_laws.specs.CoreEvents.{Readies, All}
use Rattle.ll_list_laws.proofs.CallerLemmas.{none_not_some}
use Rattle.ll_core.specs.Slots.{stop_in}
use Rattle.ll_core.proofs.ready.Taking.{readies_all, none_last, top_of, start_there, batch_there, number_fits, not_claimed, found_of, len_is, inside_len}
use Rattle.ll_core.proofs.ready.Taking.{room_there, whole_kept, not_closed, is_taken_next, whole_taken}
use Rattle.ll_core.proofs.pool.Pool.ready.Goals as goal

some_before : {X : Type 0} (xs : List X) {x : X} → slice_get xs (length xs - 1) ≡ Some x → 0 < length xs
some_before [] e = absurd (none_not_some _ e)
some_before (y ∷ xs) e = omega arith

pub returns-in_default-clause-event : goal.returns-in_default-clause-event
returns-in_default-clause-event g c =
    let i = c.self.inside in
    let none : i.stack.items ≡ [] = none_last i.stack.items (subst (λ l. slice_get l (length l - 1) ≡ None) c.deref.ensures.value
    (sym c.in_default.ensures.value)) in
    subst (λ v. Readies g.N.Batch.alternatives v All v) c.self.view_is
    (readies_all g.N.Batch.alternatives _ _ _ _ _ _ c.self.invariant refl (ap (map stop_in) none))

pub index-requires : goal.index-requires
index-requires g c =
    let top = top_of c.self.inside c.self.invariant c.deref.ensures.value c.in-Some.ensures.value in
    let l = start_there top in let o = c.self.inside.starts.ok.0 in omega arith

pub overflow_add-piece : goal.overflow_add-piece
overflow_add-piece g c =
    let top = top_of c.self.inside c.self.invariant c.deref.ensures.value c.in-Some.ensures.value in
    let l = number_fits top c.index.ensures in omega arith

pub returns-then-len-at-clause-event : goal.returns-then-len-at-clause-event
returns-then-len-at-clause-event g c =
    let top = top_of c.self.inside c.self.invariant c.deref.ensures.value c.in-Some.ensures.value in
    not_claimed top c.index.ensures c.len.ensures c.if-len-at.true c.self.view_is

pub index-requires-2 : goal.index-requires-2
index-requires-2 g c =
    let top = top_of c.self.inside c.self.invariant c.deref.ensures.value c.in-Some.ensures.value in
    let l = batch_there top in let o = c.self.inside.batches.ok.0 in omega arith

pub invariant_of-self : goal.invariant_of-self
invariant_of-self g c =
    let found = found_of (top_of c.self.inside c.self.invariant c.deref.ensures.value c.in-Some.ensures.value)
    c.index.ensures c.len.ensures c.if-len-at.false c.index_mut.ensures.value in
    whole_kept found c.take_report.new.state c.in_default-take_report.ensures

pub returns-in_default-take_report-clause-event : goal.returns-in_default-take_report-clause-event
returns-in_default-take_report-clause-event g c =
    let found = found_of (top_of c.self.inside c.self.invariant c.deref.ensures.value c.in-Some.ensures.value)
    c.index.ensures c.len.ensures c.if-len-at.false c.index_mut.ensures.value in
    not_closed found c.take_report.new.state c.in_default-take_report.ensures c.self.view_is

pub advance-requires-clause-inside : goal.advance-requires-clause-inside
advance-requires-clause-inside g c =
    let top = top_of c.self.inside c.self.invariant c.deref.ensures.value c.in-Some.ensures.value in
    inside_len top c.index-2.ensures c.deref-2.ensures c.len-len.ensures

pub advance-requires-clause-room : goal.advance-requires-clause-room
advance-requires-clause-room g c =
    let found = found_of (top_of c.self.inside c.self.invariant c.deref.ensures.value c.in-Some.ensures.value)
    c.index.ensures c.len.ensures c.if-len-at.false c.index_mut.ensures.value in
    room_there found c.take_report.new.state c.index-3.ensures

pub invariant_of-self-2 : goal.invariant_of-self-2
invariant_of-self-2 g c =
    let found = found_of (top_of c.self.inside c.self.invariant c.deref.ensures.value c.in-Some.ensures.value)
    c.index.ensures c.len.ensures c.if-len-at.false c.index_mut.ensures.value in
    whole_taken found c.take_report.new.state c.in-Some-take_report.report c.in-Some-take_report.ensures c.advance.new.stack.items
    (len_is found.top c.index-2.ensures c.deref-2.ensures c.len-len.ensures) c.index-3.ensures c.advance.ensures.capacity c.advance.ensures.items

pub returns-clause-event : goal.returns-clause-event
returns-clause-event g c =
    let found = found_of (top_of c.self.inside c.self.invariant c.deref.ensures.value c.in-Some.ensures.value)
    c.index.ensures c.len.ensures c.if-len-at.false c.index_mut.ensures.value in
    is_taken_next found c.take_report.new.state c.in-Some-take_report.report c.in-Some-take_report.ensures c.self.view_is

pub returns-in_default-clause-shaped : goal.returns-in_default-clause-shaped
returns-in_default-clause-shaped g c = subst (Shaped g.N.Batch.alternatives) c.self.view_is c.self.invariant.shaped

pub returns-then-len-at-clause-shaped : goal.returns-then-len-at-clause-shaped
returns-then-len-at-clause-shaped g c = subst (Shaped g.N.Batch.alternatives) c.self.view_is c.self.invariant.shaped

pub returns-in_default-take_report-clause-shaped : goal.returns-in_default-take_report-clause-shaped
returns-in_default-take_report-clause-shaped g c = subst (Shaped g.N.Batch.alternatives) c.self.view_is c.self.invariant.shaped

pub returns-clause-shaped : goal.returns-clause-shaped
returns-clause-shaped g c = subst (Shaped g.N.Batch.alternatives) c.self.view_is c.self.invariant.shaped

pub same-self : goal.same-self
same-self g c = refl

pub index_mut-requires : goal.index_mut-requires
index_mut-requires g c = subst (λ n. c.index.result.now + c.in-Some.field-0.now.k < n) c.len.ensures c.if-len-at.false

pub index-requires-3 : goal.index-requires-3
index-requires-3 g c = subst (λ n. c.index.result.now + c.in-Some.field-0.now.k < n) c.len.ensures c.if-len-at.false

pub advance-requires-clause-top : goal.advance-requires-clause-top
advance-requires-clause-top g c =
    some_before c.self.inside.stack.items
    (subst (λ l. slice_get l (length l - 1) ≡ Some c.in-Some.field-0.now) c.deref.ensures.value (sym c.in-Some.ensures.value))
