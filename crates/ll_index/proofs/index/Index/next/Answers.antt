use Rattle.std.proofs.Common.{◌<◌, ◌≤◌, length, ap, sym, ◌∙◌, arith}
use Rattle.std.specs.Prelude.{slice_get, Some, slice_index_or, is_some}
use Rattle.std.proofs.lemmas.Bool.{ltb-true, ltb-false}
use Rattle.std.proofs.lemmas.Option.{slice_get-get_or}
use Rattle.ll_index.specs.declared.chains.Chains.{Chains}
use Rattle.ll_index.proofs.IndexLemmas.{program_leaf, next-none, next-left}
use Rattle.ll_index.proofs.index.Index.next.Goals as goal

pub returns-in_err-leaf-clause-none : goal.returns-in_err-leaf-clause-none
returns-in_err-leaf-clause-none c =
    let past : length c.deref.result.now ≤ c.min-place.result = ltb-false c.min-place.result (length c.deref.result.now) (sym c.in_err-leaf.ensures.lookup.0) in
    let same = ap length c.deref.ensures.value in
    (λ n. next-none c.args.self.now c.args.cursor c.min-place.result c.min-place.ensures (omega arith), λ e. ap is_some c.from_residual.ensures)

pub returns-clause-none : goal.returns-clause-none
returns-clause-none c =
    let inside : c.min-place.result < length c.deref.result.now = ltb-true c.min-place.result (length c.deref.result.now) (sym c.in_ok-leaf.ensures.lookup.0) in
    let same = ap length c.deref.ensures.value in
    let step = next-left c.args.self.now c.args.cursor c.min-place.result c.min-place.ensures c.in_ok-leaf.field-0.now c.index-next.result.now
    c.place_behind.result c.place_behind-2.result (omega arith)
    (c.in_ok-leaf.ensures.lookup.1 ∙ ap (λ xs. slice_index_or xs c.min-place.result c.in_ok-leaf.field-0.now) c.deref.ensures.value)
    (c.index-next.ensures ∙ ap (λ (ch : Chains). slice_index_or ch.next.items c.min-place.result c.index-next.result.now) c.chains.ensures)
    c.place_behind.ensures c.place_behind-2.ensures in
    (λ n. cc, λ e. let z = sym step ∙ e in cc)

pub returns-clause-some : goal.returns-clause-some
returns-clause-some c =
    let inside : c.min-place.result < length c.deref.result.now = ltb-true c.min-place.result (length c.deref.result.now) (sym c.in_ok-leaf.ensures.lookup.0) in
    let same = ap length c.deref.ensures.value in
    next-left c.args.self.now c.args.cursor c.min-place.result c.min-place.ensures c.in_ok-leaf.field-0.now c.index-next.result.now c.place_behind.result
    c.place_behind-2.result (omega arith)
    (c.in_ok-leaf.ensures.lookup.1 ∙ ap (λ xs. slice_index_or xs c.min-place.result c.in_ok-leaf.field-0.now) c.deref.ensures.value)
    (c.index-next.ensures ∙ ap (λ (ch : Chains). slice_index_or ch.next.items c.min-place.result c.index-next.result.now) c.chains.ensures)
    c.place_behind.ensures c.place_behind-2.ensures

pub returns-clause-leaf : goal.returns-clause-leaf
returns-clause-leaf c = λ nodes program is.
    let inside : c.min-place.result < length c.deref.result.now = ltb-true c.min-place.result (length c.deref.result.now) (sym c.in_ok-leaf.ensures.lookup.0) in
    program_leaf nodes program c.args.self.now is c.min-place.result c.in_ok-leaf.field-0.now
    (ap (λ xs. slice_get xs c.min-place.result) (sym c.deref.ensures.value)
    ∙ (slice_get-get_or c.deref.result.now c.min-place.result c.in_ok-leaf.field-0.now inside ∙ ap (λ z. Some z) (sym c.in_ok-leaf.ensures.lookup.1)))
