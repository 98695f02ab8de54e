use Rattle.std.proofs.Common.{ap, ◌∙◌, drop, take}
use Rattle.ll_bank.specs.Tail.{with_terms, with_forms}
use Rattle.ll_bank.proofs.TailLemmas.{between_sizes}
use Rattle.ll_bank.proofs.bank.Bank.tail.Goals as goal

pub invariant_of-result : goal.invariant_of-result
invariant_of-result c =
    between_sizes c.args.self.now c.copy_forms.new.flat.nodes c.args.from c.args.to c.requires.from c.requires.to c.requires.order
    (c.in_ok-copy_forms.ensures
    ∙ (ap (λ n. with_forms n (drop c.args.from.forms (take c.args.to.forms c.args.self.now.forms))) c.in_ok-copy_terms.ensures
    ∙ ap (λ n. with_forms (with_terms n (drop c.args.from.terms (take c.args.to.terms c.args.self.now.terms)))
    (drop c.args.from.forms (take c.args.to.forms c.args.self.now.forms))) (ap (λ f. f.nodes) c.new-flat.ensures)))
