use Rattle.std.proofs.Common.{◌≡◌, ◌-◌, ◌<◌, ◌≤◌, false, length, sym, subst, ◌∙◌, inl, inr, arith}
use Rattle.std.proofs.lemmas.Bool.{cases_lt}
use Rattle.ll_resources.specs.Raw.{raw}
use Rattle.ll_resources.specs.Chains.{wanted}
use Rattle.ll_resources.proofs.ListingLemmas.{other-key, same-key, not-wanted, skipped, older-is}
use Rattle.ll_resources.proofs.state.State.open_before.Goals as goal

pub loop-at-preserved : goal.loop-at-preserved
loop-at-preserved g c =
    let r = raw c.args.self.now in
    let at = c.loop-at.at in let t = c.loop-at-test.true in
    let there = c.loop-at.invariant.there in let within = c.loop-at.invariant.within in
    let s = c.index-stored.result.now in
    let last : at - 1 < length c.args.self.now.entries.items = omega (arith, t, there) in
    record {
      within = omega (arith, within);
      there = omega (arith, there);
      none = λ i low l. elim (cases_lt i at) [
        | inl here ↦
            let e : at - 1 ≡ i = omega (arith, low, here, t) in
            subst (λ x. wanted r c.args.key x ≡ false) e
            (other-key r c.args.key (at - 1) s last c.index-stored.ensures (sym c.has_key.ensures ∙ c.if-has_key.false))
        | inr past ↦ c.loop-at.invariant.none i past l
      ];
    }

pub loop-at-preserved-then-has_key : goal.loop-at-preserved-then-has_key
loop-at-preserved-then-has_key g c =
    let r = raw c.args.self.now in
    let at = c.loop-at.at in let t = c.loop-at-test.true in
    let there = c.loop-at.invariant.there in let within = c.loop-at.invariant.within in
    let s = c.index-stored.result.now in
    let m = c.min-at-then-has_key.ensures in
    let last : at - 1 < length c.args.self.now.entries.items = omega (arith, t, there) in
    let key = same-key r c.args.key (at - 1) s last c.index-stored.ensures (sym c.has_key.ensures ∙ c.if-has_key.true) in
    record {
      within = omega (arith, within, m);
      there = omega (arith, there, m);
      none = λ i low l. elim (cases_lt i at) [
        | inl here ↦ elim (cases_lt i (at - 1)) [
          | inl before ↦
              skipped r c.args.key i (at - 1) c.requires key before
              (subst (λ x. x ≤ i) (older-is r (at - 1) c.older.result s last c.index-stored.ensures c.older.ensures) (omega (arith, m, low, before)))
          | inr here2 ↦
              let e : at - 1 ≡ i = omega (arith, here, here2) in
              subst (λ x. wanted r c.args.key x ≡ false) e
              (not-wanted r c.args.key (at - 1) (sym c.is_open.ensures ∙ c.if-is_open.false))
        ]
        | inr past ↦ c.loop-at.invariant.none i past l
      ];
    }
