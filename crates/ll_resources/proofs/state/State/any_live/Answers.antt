use Rattle.std.proofs.Common.{◌<◌, false, length, get_or, ap, sym, ◌∙◌, inl, inr, arith}
use Rattle.std.specs.Prelude.{reverse}
use Rattle.std.proofs.lemmas.Bool.{cases_lt}
use Rattle.std.proofs.lemmas.List.{length-reverse, get_or_past}
use Rattle.ll_resources.proofs.ListingLemmas.{live-found, live-none}
use Rattle.ll_resources.proofs.state.State.any_live.Goals as goal

pub returns-then-mark_at : goal.returns-then-mark_at
returns-then-mark_at g c =
    let s = c.args.self.now in
    let n = length-reverse s.entries.items in
    let l : c.loop-from_front.from_front < length (reverse s.entries.items) =
    omega (arith, n, c.loop-from_front-test.true, c.min-count.ensures, c.len.ensures, c.len-2.ensures, s.entries.ok.0, s.live.ok.0) in
    sym (live-found (reverse s.entries.items) (reverse s.live.items) c.loop-from_front.from_front l
    (sym (c.mark_at.ensures ∙ ap (λ bs. get_or (reverse bs) c.loop-from_front.from_front false) c.as_slice.ensures.value) ∙ c.if-mark_at.true))

pub returns : goal.returns
returns g c =
    let s = c.args.self.now in
    let n = length-reverse s.entries.items in let m = length-reverse s.live.items in
    sym (live-none (reverse s.entries.items) (reverse s.live.items) (λ j l. elim (cases_lt j c.loop-from_front.from_front) [
      | inl before ↦ c.loop-from_front.invariant j before
      | inr past ↦
          get_or_past (reverse s.live.items) j false
          (omega (arith, n, m, l, past, c.loop-from_front-test.false, c.min-count.ensures, c.len.ensures, c.len-2.ensures, s.entries.ok.0, s.live.ok.0))
    ]))
