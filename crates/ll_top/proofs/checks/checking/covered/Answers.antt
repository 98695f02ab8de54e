use Rattle.std.proofs.Common.{◌≤◌, ◌∙◌, sym, ap, length, arith}
use Rattle.std.specs.List.{position_from}
use Rattle.ll_laws.specs.Line.{DerivationLines, counts_numbers}
use Rattle.ll_laws.specs.Problem.{ProblemTree}
use Rattle.ll_top.proofs.verdicts.CheckLemmas.{shows-closed, is-covered, is-counting}
use Rattle.ll_top.proofs.verdicts.CountingLemmas.{lines-count}
use Rattle.ll_top.proofs.checks.checking.covered.Goals as goal

pub returns-in-Some : goal.returns-in-Some
returns-in-Some c =
    let d = c.derivation.inside in
    let bound = ap (λ (p : ProblemTree). p.bound) c.problem.view_is in
    let nodes = c.node_count-nodes.ensures in
    let few : length c.args.derivation.now.nodes ≤ c.args.problem.now.bound = let h = c.if-nodes-problem.false in omega arith in
    let seen = rw c.deref.ensures.value at c.in-Some.ensures in
    let found = ap (λ (x : DerivationLines). position_from counts_numbers 1 x.nodes) (sym c.derivation.view_is)
    ∙ (lines-count d.bank 1 d.nodes.items ∙ sym seen) in
    is-counting c.args.problem.now c.args.derivation.now c.in-Some.node c.requires.shows few found

pub cover-requires-clause-shows : goal.cover-requires-clause-shows
cover-requires-clause-shows c =
    let d = c.derivation.inside in
    let seen = rw c.deref.ensures.value at c.in_default.ensures in
    let none = ap (λ (x : DerivationLines). position_from counts_numbers 1 x.nodes) (sym c.derivation.view_is)
    ∙ (lines-count d.bank 1 d.nodes.items ∙ sym seen) in
    shows-closed c.args.problem.now c.args.derivation.now c.requires.whole c.requires.shows none

pub returns : goal.returns
returns c =
    let d = c.derivation.inside in
    let bound = ap (λ (p : ProblemTree). p.bound) c.problem.view_is in
    let nodes = c.node_count-nodes.ensures in
    let few : length c.args.derivation.now.nodes ≤ c.args.problem.now.bound = let h = c.if-nodes-problem.false in omega arith in
    let seen = rw c.deref.ensures.value at c.in_default.ensures in
    let none = ap (λ (x : DerivationLines). position_from counts_numbers 1 x.nodes) (sym c.derivation.view_is)
    ∙ (lines-count d.bank 1 d.nodes.items ∙ sym seen) in
    is-covered c.args.problem.now c.args.derivation.now c.in_ok-answer.answer
    (shows-closed c.args.problem.now c.args.derivation.now c.requires.whole c.requires.shows none) few c.in_ok-answer.ensures.first
