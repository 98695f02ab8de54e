use Rattle.std.proofs.Common.{◌≡◌, suc, sym, subst, arith}
use Rattle.ll_laws.specs.Search.{cut_count}
use Rattle.ll_laws.specs.Completeness.{NamesCover}
use Rattle.ll_cover.specs.Covering.{IsPassing, NamesFirst}
use Rattle.ll_cover.proofs.Covers.{passing_reached, passing_answer, passing_names, passing_first, passing_never_ends}
use Rattle.ll_cover.proofs.covering.first_cover.Goals as goal

pub loop-branch-init : goal.loop-branch-init
loop-branch-init c = c.requires.begins

pub loop-branch-preserved-in-Event-Reached : goal.loop-branch-preserved-in-Event-Reached
loop-branch-preserved-in-Event-Reached c =
    let s = rw (c.in-Event-Reached.is, c.in-Event-Reached.field-0-is) at c.in_ok-step.ensures.step in
    passing_reached c.args.problem.now c.args.derivation.now c.loop-branch.engine c.step.new.self c.loop-branch.number c.loop-branch.invariant s

pub returns-then-branch-clause-named : goal.returns-then-branch-clause-named
returns-then-branch-clause-named c =
    let s = rw (c.in-Event-Answer.is, c.in-Event-Answer.field-0-is) at c.in_ok-step.ensures.step in
    let n : c.saturating_add-number.result ≡ cut_count (suc c.loop-branch.number) = omega arith in
    let is = (c.in_ok-covers-in-Event-Answer.ensures).0 c.if-branch.true in
    subst (NamesCover c.args.problem.now c.args.derivation.now) (sym n)
    (passing_names c.args.problem.now c.args.derivation.now c.loop-branch.engine c.step.new.self c.loop-branch.number c.in-Event-Answer.branch
    c.loop-branch.invariant s is)

pub returns-then-branch-clause-first : goal.returns-then-branch-clause-first
returns-then-branch-clause-first c =
    let s = rw (c.in-Event-Answer.is, c.in-Event-Answer.field-0-is) at c.in_ok-step.ensures.step in
    let n : c.saturating_add-number.result ≡ cut_count (suc c.loop-branch.number) = omega arith in
    let is = (c.in_ok-covers-in-Event-Answer.ensures).0 c.if-branch.true in
    subst (NamesFirst c.args.problem.now c.args.derivation.now) (sym n)
    (passing_first c.args.problem.now c.args.derivation.now c.loop-branch.engine c.step.new.self c.loop-branch.number c.in-Event-Answer.branch
    c.loop-branch.invariant s is)

pub loop-branch-preserved : goal.loop-branch-preserved
loop-branch-preserved c =
    let s = rw (c.in-Event-Answer.is, c.in-Event-Answer.field-0-is) at c.in_ok-step.ensures.step in
    let n : c.saturating_add-number.result ≡ cut_count (suc c.loop-branch.number) = omega arith in
    subst (IsPassing c.args.problem.now c.args.derivation.now c.step.new.self.events) (sym n)
    (passing_answer c.args.problem.now c.args.derivation.now c.loop-branch.engine c.step.new.self c.loop-branch.number c.in-Event-Answer.branch
    c.loop-branch.invariant s
    (λ is. let t = (c.in_ok-covers-in-Event-Answer.ensures).1 is in let f = c.if-branch.false in cc))

pub unreachable-requires : goal.unreachable-requires
unreachable-requires c =
    let s = rw c.in-Done.is at c.in_ok-step.ensures.step in
    let some = c.search_is_complete.ensures.numbered c.args.problem.now c.args.derivation.now c.requires.valid c.requires.shows c.requires.within in
    passing_never_ends c.args.problem.now c.args.derivation.now c.loop-branch.engine c.step.new.self c.loop-branch.number some.0 c.loop-branch.invariant s
    some.1
