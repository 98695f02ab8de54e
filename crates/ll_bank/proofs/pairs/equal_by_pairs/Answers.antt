use Rattle.std.proofs.lemmas.Result.{IfOk-from_err}
use Rattle.std.proofs.Common.{ap, sym, refl, ◌∙◌, true≢false}
use Rattle.ll_bank.specs.Term.{term_depth}
use Rattle.ll_bank.proofs.PairLemmas.{last-inside, last-equal, first-inside, first-equal, none-equal}
use Rattle.ll_bank.proofs.pairs.equal_by_pairs.Goals as goal

pub returns-then-depth : goal.returns-then-depth
returns-then-depth c = (
  (λ h. absurd (true≢false (sym h))),
  λ e. absurd (c.if-depth.true (c.depth.ensures ∙ (ap term_depth e ∙ sym c.depth-2.ensures))),
)

pub loop-init : goal.loop-init
loop-init c = record {
  inside = first-inside c.args.bank.now c.args.other.now c.push.new.self.items c.new-pairs.result.items (record { left = c.args.at; right = c.args.there })
      c.new-pairs.ensures.items c.in_ok-push.ensures.ok c.requires.here c.requires.there;
  equal = first-equal c.args.bank.now c.args.other.now c.push.new.self.items c.new-pairs.result.items (record { left = c.args.at; right = c.args.there })
      c.new-pairs.ensures.items c.in_ok-push.ensures.ok;
}

pub returns-in_default : goal.returns-in_default
returns-in_default c = (
  (λ h. c.loop.invariant.equal.0 (none-equal c.args.bank.now c.args.other.now c.loop.pairs.items c.in_default.ensures.variant.1)),
  λ e. refl,
)

pub open-requires-clause-left : goal.open-requires-clause-left
open-requires-clause-left c =
    (last-inside c.args.bank.now c.args.other.now c.loop.pairs.items c.pop.new.self.items c.in-Some.pair c.in-Some.ensures.items c.loop.invariant.inside).1.0

pub open-requires-clause-right : goal.open-requires-clause-right
open-requires-clause-right c =
    (last-inside c.args.bank.now c.args.other.now c.loop.pairs.items c.pop.new.self.items c.in-Some.pair c.in-Some.ensures.items c.loop.invariant.inside).1.1

pub open-requires-clause-inside : goal.open-requires-clause-inside
open-requires-clause-inside c =
    (last-inside c.args.bank.now c.args.other.now c.loop.pairs.items c.pop.new.self.items c.in-Some.pair c.in-Some.ensures.items c.loop.invariant.inside).0

pub returns-then-not-branch : goal.returns-then-not-branch
returns-then-not-branch c =
    let last = last-equal c.args.bank.now c.args.other.now c.loop.pairs.items c.pop.new.self.items c.in-Some.pair c.in-Some.ensures.items in (
      (λ h. absurd (true≢false (sym h))),
      λ e. sym c.if-not-branch.true ∙ (c.in_ok-open.ensures.equal.1 (last.0 (c.loop.invariant.equal.1 e))).0,
    )

pub loop-preserved : goal.loop-preserved
loop-preserved c =
    let last = last-equal c.args.bank.now c.args.other.now c.loop.pairs.items c.pop.new.self.items c.in-Some.pair c.in-Some.ensures.items in
    record {
      inside = c.in_ok-open.ensures.inside;
      equal = (
        (λ e. c.loop.invariant.equal.0 (last.1 (c.in_ok-open.ensures.equal.0 (c.if-not-branch.false, e)))),
        λ e. (c.in_ok-open.ensures.equal.1 (last.0 (c.loop.invariant.equal.1 e))).1,
      );
    }

pub returns-in_err-push : goal.returns-in_err-push
returns-in_err-push c = IfOk-from_err c.from_residual.result _ c.from_residual.ensures.0

pub returns-in_err-open : goal.returns-in_err-open
returns-in_err-open c = IfOk-from_err c.from_residual-in_err-open.result _ c.from_residual-in_err-open.ensures.0

pub returns : goal.returns
returns c = _
