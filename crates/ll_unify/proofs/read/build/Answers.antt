use Rattle.std.proofs.lemmas.Result.{IfOk-from_err}
use Rattle.std.proofs.Common.{◌≡◌, ◌-◌, length, take, sym, ap, subst, ◌∙◌, arith}
use Rattle.ll_unify.specs.Copied.{IsBuilt}
use Rattle.ll_unify.proofs.Copies.{rest-is}
use Rattle.ll_bank.specs.Nodes.{AllInTerms}
use Rattle.ll_unify.proofs.read.build.Goals as goal

pub returns-clause-built : goal.returns-clause-built
returns-clause-built c =
    let n : c.len.result ≡ length c.args.made.now.items = omega (arith, c.args.made.now.ok.0, c.len.ensures) in
    subst (λ own. IsBuilt c.args.bank.now c.built.new.bank c.args.frame.at.0 own c.in_ok-copy.copy.0)
    (rest-is c.deref.result.now c.args.made.now.items _ _ (ap (λ k. k - c.args.frame.next) n) c.deref.ensures.value) c.in_ok-copy.ensures.built

pub returns-in_err-copy-clause-built : goal.returns-in_err-copy-clause-built
returns-in_err-copy-clause-built c = IfOk-from_err c.from_residual.result _ c.from_residual.ensures.0

pub returns-in_err-copy-clause-made : goal.returns-in_err-copy-clause-made
returns-in_err-copy-clause-made c = IfOk-from_err c.from_residual.result _ c.from_residual.ensures.0

pub built-requires-clause-inside : goal.built-requires-clause-inside
built-requires-clause-inside c = c.requires.inside

pub built-requires-clause-places : goal.built-requires-clause-places
built-requires-clause-places c =
    let n : c.len.result ≡ length c.args.made.now.items = omega (arith, c.args.made.now.ok.0, c.len.ensures) in
    subst (AllInTerms c.args.bank.now)
    (sym (rest-is c.deref.result.now c.args.made.now.items _ _ (ap (λ k. k - c.args.frame.next) n) c.deref.ensures.value)) c.requires.places

pub overflow_sub-from : goal.overflow_sub-from
overflow_sub-from c =
    let n : c.len.result ≡ length c.args.made.now.items = omega (arith, c.args.made.now.ok.0, c.len.ensures) in
    omega (arith, n, c.requires.enough)

pub slice_bounds-built-count : goal.slice_bounds-built-count
slice_bounds-built-count c =
    let n : c.len.result ≡ length c.args.made.now.items = omega (arith, c.args.made.now.ok.0, c.len.ensures) in
    omega (arith, n, ap length c.deref.ensures.value)

pub returns-clause-made : goal.returns-clause-made
returns-clause-made c =
    let n : c.len.result ≡ length c.args.made.now.items = omega (arith, c.args.made.now.ok.0, c.len.ensures) in
    c.truncate.ensures.items ∙ ap (λ k. take (k - c.args.frame.next) c.args.made.now.items) n

pub returns-in_err-copy-clause-keeps : goal.returns-in_err-copy-clause-keeps
returns-in_err-copy-clause-keeps c = c.built.ensures.keeps

pub returns-clause-keeps : goal.returns-clause-keeps
returns-clause-keeps c = c.built.ensures.keeps
