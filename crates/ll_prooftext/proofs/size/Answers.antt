use Rattle.std.proofs.lemmas.Result.{IfOk-from_err}
use Rattle.std.proofs.Common.{◌≡◌, ℕ, sym, subst, ◌∙◌, ap, arith, length, IfOk}
use Rattle.ll_prooftext.specs.Sizes.{size_in}
use Rattle.ll_prooftext.proofs.writing.Sizing.{is_second}
use Rattle.ll_prooftext.proofs.size.Goals as goal

pub returns-then-version-eq1 : goal.returns-then-version-eq1
returns-then-version-eq1 c = subst (λ (v : ℕ). IfOk c.whole_size.result (λ n. n ≡ size_in v c.args.names.now c.args.derivation.now)) (sym c.if-version-eq1.true)
    c.whole_size.ensures

pub returns-in_ok-text : goal.returns-in_ok-text
returns-in_ok-text c =
    let text = ap length c.in_ok-text.ensures in
    let count = c.len.ensures ∙ c.in_ok-text.text.ok.0 in
    let fits = c.len.type_inv in
    subst (λ (v : ℕ). c.len.result ≡ size_in v c.args.names.now c.args.derivation.now) (sym (is_second c.args.version c.requires c.if-version-eq1.false))
    (omega arith)

pub returns-in_err-text : goal.returns-in_err-text
returns-in_err-text c = IfOk-from_err c.from_residual.result _ c.from_residual.ensures.0
