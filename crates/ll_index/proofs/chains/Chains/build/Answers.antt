use Rattle.std.proofs.Common.{◌≡◌, ◌<◌, ◌-◌, suc, length, length-set, drop, ◌∙◌, ap, subst, refl, arith}
use Rattle.std.specs.Prelude.{unwrap_or, slice_set, slice_index_or}
use Rattle.indexmap.specs.IndexMap.{get}
use Rattle.ll_index.specs.declared.key.Key.{Key}
use Rattle.ll_index.specs.declared.key.Key.TheVariants.{Unnamed}
use Rattle.ll_index.specs.Chained.{links_from, first_from}
use Rattle.ll_index.specs.Keys.{key_eq}
use Rattle.ll_index.proofs.ChainLemmas.{links-step, first-step, rising}
use Rattle.std.proofs.lemmas.Result.{IfOk-from_err}
use Rattle.ll_index.proofs.chains.Chains.build.Goals as goal

pub loop-at-preserved : goal.loop-at-preserved
loop-at-preserved c =
    let i = c.loop-at.at - 1 in
    let key : Key = slice_index_or c.args.keys.now i Unnamed in
    let one : c.loop-at.at ≡ suc i = omega arith in
    let inside : i < length c.args.keys.now = omega arith in
    let value : c.unwrap_or.result ≡ unwrap_or (get key_eq c.loop-at.first key) (length c.args.keys.now) =
    c.unwrap_or.ensures ∙ (ap (λ o. unwrap_or o c.in_ok-end.end) c.in_ok-insert.ensures.old
    ∙ ap (unwrap_or (get key_eq c.loop-at.first key)) c.in_ok-end.ensures.same) in
    record {
      size = length-set c.loop-at.next.items i c.unwrap_or.result ∙ c.loop-at.invariant.size;
      links = ap (λ v. drop i (slice_set c.loop-at.next.items i v)) value
          ∙ links-step key_eq c.args.keys.now c.loop-at.next.items c.loop-at.at i (length c.args.keys.now) key Unnamed one inside refl
          (get key_eq c.loop-at.first) (get key_eq c.insert.new.self)
          c.in_ok-insert.ensures.updates.0 c.loop-at.invariant.first c.loop-at.invariant.size c.loop-at.invariant.links;
      first = first-step key_eq c.args.keys.now c.loop-at.next.items c.loop-at.at i (length c.args.keys.now) key Unnamed one inside refl
          (get key_eq c.loop-at.first) (get key_eq c.insert.new.self)
          c.in_ok-insert.ensures.updates.0 c.loop-at.invariant.first;
    }

pub invariant_of-result : goal.invariant_of-result
invariant_of-result c =
    let z : c.loop-at.at ≡ 0 = omega arith in
    record {
      rising = rising key_eq c.args.keys.now c.loop-at.next.items
          (subst (λ at. drop at c.loop-at.next.items ≡ links_from key_eq at (drop at c.args.keys.now)) z c.loop-at.invariant.links);
    }

pub returns-in_err-end : goal.returns-in_err-end
returns-in_err-end c = IfOk-from_err c.from_residual.result _ c.from_residual.ensures.0

pub returns-in_err-next : goal.returns-in_err-next
returns-in_err-next c = IfOk-from_err c.from_residual-in_err-next.result _ c.from_residual-in_err-next.ensures.0

pub returns-in_err-insert : goal.returns-in_err-insert
returns-in_err-insert c = IfOk-from_err c.from_residual-in_err-insert.result _ c.from_residual-in_err-insert.ensures.0

pub returns : goal.returns
returns c =
    let z : c.loop-at.at ≡ 0 = omega (arith, c.loop-at-test.false) in
    record {
      next = subst (λ at. drop at c.loop-at.next.items ≡ links_from key_eq at (drop at c.args.keys.now)) z c.loop-at.invariant.links;
      first = λ key. subst (λ at. unwrap_or (get key_eq c.loop-at.first key) (length c.args.keys.now)
          ≡ first_from key_eq at (drop at c.args.keys.now) key) z (c.loop-at.invariant.first key);
    }
