use Rattle.std.proofs.lemmas.Result.{IfOk-from_err}
use Rattle.std.proofs.Common.{true, false, subst, ap, ◌∙◌, arith}
use Rattle.ll_index.specs.Keys.{leaf_keys, IsChained}
use Rattle.ll_index.specs.Rows.{HasRows}
use Rattle.ll_index.proofs.IndexLemmas.{chained_by}
use Rattle.ll_index.proofs.index.Index.over.Goals as goal

pub invariant_of-result : goal.invariant_of-result
invariant_of-result c =
    let k = c.in_ok-leaves.leaves.ok.0 in
    let n = c.in_ok-in_32_bits.ensures.fits in
    let l = c.len.ensures in
    let predicates = c.in_ok-predicates.predicates in
    let signs = c.in_ok-signs.signs in
    let w = chained_by c.args.bank.now c.in_ok-leaves.leaves.items c.in_ok-by_predicate.by_predicate.items c.in_ok-keys.keys.items predicates signs
    (c.in_ok-by_predicate.ensures ∙ ap (leaf_keys c.args.bank.now false) c.deref.ensures.value)
    (c.in_ok-keys.ensures ∙ ap (leaf_keys c.args.bank.now true) c.deref-3.ensures.value)
    (subst (λ ks. IsChained ks predicates) c.deref-2.ensures.value c.in_ok-predicates.ensures)
    (subst (λ ks. IsChained ks signs) c.deref-4.ensures.value c.in_ok-signs.ensures) in
    record {
      places = omega (arith, k, n, l);
      by_predicate = w.by_predicate;
      by_sign = w.by_sign;
      by_key = w.by_key;
      chained = w.chained;
      signed = w.signed;
      named = subst (λ ks. HasRows ks c.in_ok-rows.rows.items) c.deref-5.ensures.value c.in_ok-rows.ensures;
    }

pub returns : goal.returns
returns c = record {
  leaves = c.in_ok-leaves.ensures.leaves;
  stored = c.in_ok-leaves.ensures.stored;
  predicates = subst (λ ks. IsChained ks c.in_ok-predicates.predicates)
      (c.deref-2.ensures.value ∙ (c.in_ok-by_predicate.ensures ∙ ap (leaf_keys c.args.bank.now false) c.deref.ensures.value)) c.in_ok-predicates.ensures;
  signs = subst (λ ks. IsChained ks c.in_ok-signs.signs)
      (c.deref-4.ensures.value ∙ (c.in_ok-keys.ensures ∙ ap (leaf_keys c.args.bank.now true) c.deref-3.ensures.value)) c.in_ok-signs.ensures;
  keys = c.in_ok-keys.ensures ∙ ap (leaf_keys c.args.bank.now true) c.deref-3.ensures.value;
}

pub returns-in_err-leaves : goal.returns-in_err-leaves
returns-in_err-leaves c = IfOk-from_err c.from_residual.result _ c.from_residual.ensures.0

pub returns-in_err-in_32_bits : goal.returns-in_err-in_32_bits
returns-in_err-in_32_bits c = IfOk-from_err c.from_residual-in_err-in_32_bits.result _ c.from_residual-in_err-in_32_bits.ensures.0

pub returns-in_err-by_predicate : goal.returns-in_err-by_predicate
returns-in_err-by_predicate c = IfOk-from_err c.from_residual-in_err-by_predicate.result _ c.from_residual-in_err-by_predicate.ensures.0

pub returns-in_err-predicates : goal.returns-in_err-predicates
returns-in_err-predicates c = IfOk-from_err c.from_residual-in_err-predicates.result _ c.from_residual-in_err-predicates.ensures.0

pub returns-in_err-keys : goal.returns-in_err-keys
returns-in_err-keys c = IfOk-from_err c.from_residual-in_err-keys.result _ c.from_residual-in_err-keys.ensures.0

pub returns-in_err-signs : goal.returns-in_err-signs
returns-in_err-signs c = IfOk-from_err c.from_residual-in_err-signs.result _ c.from_residual-in_err-signs.ensures.0

pub returns-in_err-rows : goal.returns-in_err-rows
returns-in_err-rows c = IfOk-from_err c.from_residual-in_err-rows.result _ c.from_residual-in_err-rows.ensures.0
