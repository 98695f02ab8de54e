use Rattle.std.proofs.Common.{◌≡◌, ◌==◌, length, ap, sym, ◌∙◌, arith, true≢false}
use Rattle.ll_bank.specs.Closing.{env_in}
use Rattle.ll_bank.proofs.Trees.{Extends-refl}
use Rattle.ll_bank.proofs.closes.Parts.{args_count}
use Rattle.ll_bank.proofs.closing.flat.closed_bare.Goals as goal

pub returns-in-Var-clause-keeps : goal.returns-in-Var-clause-keeps
returns-in-Var-clause-keeps c = Extends-refl c.args.bank.now

pub returns-in-Int-clause-keeps : goal.returns-in-Int-clause-keeps
returns-in-Int-clause-keeps c = Extends-refl c.args.bank.now

pub returns-else-is_empty-clause-none : goal.returns-else-is_empty-clause-none
returns-else-is_empty-clause-none c = λ e.
    let n = args_count c.args.bank.now (env_in c.args.bank.now c.args.values) c.args.at.0 c.args.level c.in-App.head c.in-App.args.now
    c.in-App.ensures.node in
    let l = ap (λ ps. length ps) e in
    let none : length c.in-App.args.now ≡ 0 = omega (arith, n, l) in
    true≢false (sym (ap (λ k. k == 0) none) ∙ (sym c.is_empty.ensures ∙ c.if-is_empty.false))

pub returns-else-is_empty-clause-keeps : goal.returns-else-is_empty-clause-keeps
returns-else-is_empty-clause-keeps c = Extends-refl c.args.bank.now
