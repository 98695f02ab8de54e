use Rattle.std.proofs.Common.{◌≡◌, ◌∙◌, length, ap, arith}
use Rattle.ll_index.specs.Rows.{row_at}
use Rattle.ll_index.proofs.IndexLemmas.{found-matches, found-none, found-all, found-sign, found-walk, row-first}
use Rattle.ll_index.proofs.index.Index.candidates.Goals as goal

pub returns-then-row : goal.returns-then-row
returns-then-row c =
    let k = c.args.self.now.leaves.ok.0 in
    let e = c.len-end.ensures in
    found-matches c.args.self.now c.args.name c.args.arity c.args.first c.len-end.result c.looked_up.result (omega (arith, k, e)) c.looked_up.ensures

pub returns-then-arity-row : goal.returns-then-arity-row
returns-then-arity-row c =
    let k = c.args.self.now.leaves.ok.0 in
    let e = c.len-end.ensures in
    let last : c.len-end.result ≡ length c.args.self.now.leaves.items = omega (arith, k, e) in
    found-matches c.args.self.now c.args.name c.args.arity c.args.first c.len-end.result _ last
    (found-none c.args.self.now c.args.name c.args.arity c.args.first c.len-end.result last c.row_of-row.result
    (c.row_of-row.ensures ∙ ap (λ rows. row_at rows c.len-end.result c.args.name) c.deref.ensures.value) c.if-row.false c.ne-by_sign.result c.ne-by_sign.ensures
    c.if-arity-row.true)

pub returns-then-not-by_sign : goal.returns-then-not-by_sign
returns-then-not-by_sign c =
    let k = c.args.self.now.leaves.ok.0 in
    let e = c.len-end.ensures in
    let last : c.len-end.result ≡ length c.args.self.now.leaves.items = omega (arith, k, e) in
    found-matches c.args.self.now c.args.name c.args.arity c.args.first c.len-end.result _ last
    (found-all c.args.self.now c.args.name c.args.arity c.args.first c.len-end.result last c.row_of-row.result
    (c.row_of-row.ensures ∙ ap (λ rows. row_at rows c.len-end.result c.args.name) c.deref.ensures.value) c.if-row.false c.ne-by_sign.result c.ne-by_sign.ensures
    c.if-not-by_sign.true c.if-arity-row.false)

pub returns-then-row-lt-LONG : goal.returns-then-row-lt-LONG
returns-then-row-lt-LONG c =
    let k = c.args.self.now.leaves.ok.0 in
    let e = c.len-end.ensures in
    let last : c.len-end.result ≡ length c.args.self.now.leaves.items = omega (arith, k, e) in
    let row = c.row_of-row.ensures ∙ ap (λ rows. row_at rows c.len-end.result c.args.name) c.deref.ensures.value in
    found-matches c.args.self.now c.args.name c.args.arity c.args.first c.len-end.result _ last
    (found-walk c.args.self.now c.args.name c.args.arity c.args.first c.len-end.result last c.row_of-row.result row c.if-row.false c.ne-by_sign.result
    c.walked-own.result c.ne-by_sign.ensures c.if-not-by_sign.false c.if-arity-row.false
    (c.walked-own.ensures c.args.name c.args.arity
    (row-first c.args.self.now c.args.name c.args.arity c.args.first c.len-end.result last c.row_of-row.result row c.if-row.false c.if-arity-row.false)))

pub returns-else-row-lt-LONG : goal.returns-else-row-lt-LONG
returns-else-row-lt-LONG c =
    let k = c.args.self.now.leaves.ok.0 in
    let e = c.len-end.ensures in
    let last : c.len-end.result ≡ length c.args.self.now.leaves.items = omega (arith, k, e) in
    let row = c.row_of-row.ensures ∙ ap (λ rows. row_at rows c.len-end.result c.args.name) c.deref.ensures.value in
    found-matches c.args.self.now c.args.name c.args.arity c.args.first c.len-end.result _ last
    (found-sign c.args.self.now c.args.name c.args.arity c.args.first c.len-end.result last c.row_of-row.result row c.if-row.false c.ne-by_sign.result
    c.first-own.result c.ne-by_sign.ensures c.if-not-by_sign.false c.if-arity-row.false c.first-own.ensures)
