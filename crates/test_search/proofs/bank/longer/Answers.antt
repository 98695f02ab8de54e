use Rattle.std.proofs.Common.{subst, sym, ◌∙◌}
use Rattle.ll_bank.specs.Nodes.{IsNotPast, size_of}
use Rattle.ll_bank.proofs.CallerLemmas.{IsNotPast-extends}
use Rattle.test_search.proofs.bank.longer.Goals as goal

pub tail-requires-clause-order : goal.tail-requires-clause-order
tail-requires-clause-order c =
    subst (λ s. IsNotPast s c.size-to.result) (sym c.requires.size)
    (subst (IsNotPast (size_of c.args.bank.now)) (sym c.size-to.ensures.is) (IsNotPast-extends c.in_ok-app.ensures.keeps))
