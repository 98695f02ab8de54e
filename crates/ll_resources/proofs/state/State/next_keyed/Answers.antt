use Rattle.std.proofs.Common.{◌≡◌, suc, ◌-◌, ◌<◌, length, ap, sym, subst, refl, ◌∙◌, inl, inr, arith, slice_get}
use Rattle.std.specs.Prelude.{IsNone, max}
use Rattle.std.proofs.lemmas.Bool.{cases_lt, false≢true}
use Rattle.ll_resources.specs.Raw.{raw, shown}
use Rattle.ll_resources.specs.Seen.{resource}
use Rattle.ll_resources.proofs.ListingLemmas.{behind-own, behind-other, next-none, next-some, older-is}
use Rattle.ll_resources.proofs.state.State.next_keyed.Goals.{then-own-at, else-own-at, then-any-at, else-any-at}
use Rattle.ll_resources.proofs.state.State.next_keyed.Goals as goal

pub returns-in_err-at-clause-none : goal.returns-in_err-at-clause-none
returns-in_err-at-clause-none g c =
    let low : c.max.result < 1 = elim (cases_lt c.max.result 1) [ inl l ↦ l | inr h ↦ absurd (c.in_err-at.ensures h) ] in
    let m = c.max.ensures in (
      λ _. next-none c.args.keyed (raw c.args.self.now) c.open_before-own.result c.open_before-any.result c.open_before-own.ensures c.open_before-any.ensures
          (omega (arith, low, m)) (omega (arith, low, m)),
      λ e. subst (λ o. IsNone o) (sym c.from_residual.ensures) refl,
    )

pub returns-clause-some : goal.returns-clause-some
returns-clause-some g c =
    let s = c.args.self.now in let r = raw s in
    let own = c.open_before-own.result in let any = c.open_before-any.result in let at = c.in_ok-at.at in
    let m : suc at ≡ max own any = omega (arith, c.in_ok-at.ensures, c.max.ensures) in
    let inside : at < length s.entries.items =
    (let x = c.open_before-own.ensures.there in let y = c.open_before-any.ensures.there in omega (arith, m, x, y)) in
    let older = older-is r at c.older-older.result c.index.result.now inside c.index.ensures c.older-older.ensures in
    next-some c.args.keyed r own any at c.if-own-at.next c.if-any-at.next (resource c.entry.result) c.open_before-own.ensures c.open_before-any.ensures
    (omega (arith, m)) (omega (arith, m))
    (elim (cases_lt at own) [ inl l ↦ inl (omega (arith, m, l)) | inr l ↦ inr (omega (arith, m, l)) ])
    (elim c.if-own-at.branch [
      | then-own-at w ↦
          behind-own r c.args.keyed.key c.args.keyed.own own at c.older-older.result c.if-own-at.next c.requires c.open_before-own.ensures
          (omega (arith, m, w.if-own-at.true)) older (w.next-is ∙ w.min.ensures)
      | else-own-at w ↦ behind-other r c.args.keyed.key own at c.if-own-at.next w.if-own-at.false w.next-is
    ])
    (elim c.if-any-at.branch [
      | then-any-at w ↦
          behind-own r 0 c.args.keyed.any any at c.older-older.result c.if-any-at.next c.requires c.open_before-any.ensures
          (omega (arith, m, w.if-any-at.true)) older (w.next-is ∙ w.min-then-any-at.ensures)
      | else-any-at w ↦ behind-other r 0 any at c.if-any-at.next w.if-any-at.false w.next-is
    ])
    (ap (λ n. slice_get (shown r).entries (n - 1 - at)) (sym (c.len.ensures ∙ s.entries.ok.0)) ∙ c.entry.ensures)

pub returns-clause-none : goal.returns-clause-none
returns-clause-none g c = (λ e. absurd (false≢true (sym e)), λ e. let s = returns-clause-some g c in cc (s, e))
