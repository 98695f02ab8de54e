use Rattle.std.proofs.lemmas.Result.{IfOk-from_err}
use Rattle.std.proofs.Common.{rules, ap, ◌∙◌}
use Rattle.std.specs.Map.{keys_of}
use Rattle.std.proofs.lemmas.List.{map-append}
use Rattle.ll_bank.specs.Nodes.{term_trees}
use Rattle.ll_cover.proofs.Instances.{no_entries, matching_begins, begins_no, matching_on, matching_no, waiting_falls, matching_ends}
use Rattle.ll_cover.proofs.matching.instance.Goals as goal

pub returns-then-not-branch : goal.returns-then-not-branch
returns-then-not-branch c =
    let m = rw c.if-not-branch.true at c.in_ok-meet_all.ensures.met in (
      λ h. absurd (cc),
      λ i. absurd (begins_no c.args.bank.now c.args.of.now c.args.other.now c.args.terms.now c.new.result c.meet_all.new.images
          c.new.ensures.empty m i),
    )

pub loop-place-init : goal.loop-place-init
loop-place-init c =
    let m = rw c.if-not-branch.false at c.in_ok-meet_all.ensures.met in
    matching_begins c.args.bank.now c.args.of.now c.args.other.now c.args.terms.now _ c.new.result c.new-2.ensures.empty c.new.ensures.empty c.requires.of m
    c.in_ok-meet_all.ensures.images
    c.in_ok-meet_all.ensures.below

pub returns-then-not-branch-2 : goal.returns-then-not-branch-2
returns-then-not-branch-2 c =
    let l = rw c.if-not-branch-2.true at c.in_ok-look.ensures in (
      λ h. absurd (cc),
      λ i. absurd (matching_no c.args.bank.now (term_trees c.args.bank.now c.args.of.now) c.args.other.now (term_trees c.args.other.now c.args.terms.now)
          c.loop-place.found
          c.look.new.found c.pop_last.new.self c.in-Some.place c.in-Some.image c.loop-place.invariant c.in-Some.ensures.value c.in-Some.ensures.updates.0
          c.in-Some.ensures.greatest l i),
    )

pub loop-place-smaller : goal.loop-place-smaller
loop-place-smaller c =
    let l = rw c.if-not-branch-2.false at c.in_ok-look.ensures in
    waiting_falls c.args.bank.now (term_trees c.args.bank.now c.args.of.now) c.args.other.now (term_trees c.args.other.now c.args.terms.now) c.loop-place.found
    c.look.new.found
    c.pop_last.new.self c.in-Some.place c.in-Some.image c.loop-place.invariant c.in-Some.ensures.value c.in-Some.ensures.updates.0 c.in-Some.ensures.greatest
    (ap keys_of c.in-Some.ensures.removal ∙ map-append _ _ _) l

pub loop-place-preserved : goal.loop-place-preserved
loop-place-preserved c =
    let l = rw c.if-not-branch-2.false at c.in_ok-look.ensures in
    matching_on c.args.bank.now (term_trees c.args.bank.now c.args.of.now) c.args.other.now (term_trees c.args.other.now c.args.terms.now) c.loop-place.found
    c.look.new.found
    c.pop_last.new.self c.in-Some.place c.in-Some.image c.loop-place.invariant c.in-Some.ensures.value c.in-Some.ensures.updates.0 c.in-Some.ensures.greatest l

pub returns : goal.returns
returns c = (
  λ h. matching_ends c.args.bank.now (term_trees c.args.bank.now c.args.of.now) c.args.other.now (term_trees c.args.other.now c.args.terms.now)
      c.loop-place.found c.loop-place.invariant
      (no_entries c.loop-place.found.waiting.entries c.in_default.ensures.variant.1),
  λ i. search rules,
)

pub returns-in_err-meet_all : goal.returns-in_err-meet_all
returns-in_err-meet_all c = IfOk-from_err c.from_residual.result _ c.from_residual.ensures.0

pub returns-in_err-look : goal.returns-in_err-look
returns-in_err-look c = IfOk-from_err c.from_residual-in_err-look.result _ c.from_residual-in_err-look.ensures.0

pub meet_all-requires-clause-inside : goal.meet_all-requires-clause-inside
meet_all-requires-clause-inside c = c.requires.terms
