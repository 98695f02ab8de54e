use Rattle.std.proofs.Common.{◌≡◌, ap, length, vec_len, min, arith}
use Rattle.std.proofs.lemmas.List.{length-map}
use Rattle.ll_laws.specs.ShownLines.{line_of}
use Rattle.ll_laws.specs.Line.{DerivationLines}
use Rattle.ll_laws.specs.Answered.{Answered}
use Rattle.ll_laws.specs.Problem.{ProblemTree}
use Rattle.ll_cover.proofs.Covers.{covered_by}
use Rattle.ll_cover.proofs.covering.covers.Goals as goal

pub returns : goal.returns
returns c =
    let branch = c.branch.inside in
    let derivation = c.derivation.inside in
    let all_steps : vec_len branch.steps ≡ length branch.steps.items = omega (arith, branch.steps.ok.0) in
    let all_nodes : vec_len derivation.nodes ≡ length derivation.nodes.items = omega (arith, derivation.nodes.ok.0) in
    let lines = length-map derivation.nodes.items (line_of derivation.bank) in
    let s = ap (λ (a : Answered). length a.steps) c.branch.view_is in
    let n = ap (λ (d : DerivationLines). length d.nodes) c.derivation.view_is in
    let q = ap (λ (p : ProblemTree). length p.asked) c.problem.view_is in
    let problem = c.problem.inside in
    let all_asked : vec_len problem.asked ≡ length problem.asked.items = omega (arith, problem.asked.ok.0) in
    let all_terms : vec_len branch.terms ≡ length branch.terms.items = omega (arith, branch.terms.ok.0) in
    let count : c.min-asked.result ≡ min (length c.args.problem.now.asked) (length branch.terms.items) = omega arith in
    let steps : length c.args.branch.now.steps ≡ length c.args.derivation.now.nodes = let h = c.if-len.false in omega arith in
    covered_by c.args.problem.now c.args.derivation.now c.args.branch.now branch.bank derivation.bank branch.terms.items derivation.asked.items
    c.min-asked.result
    (ap (λ (a : Answered). a.terms) c.branch.view_is) (ap (λ (d : DerivationLines). d.asked) c.derivation.view_is) count steps c.instance.result
    (rw (c.deref.ensures.value, c.deref-2.ensures.value) at c.instance.ensures)
