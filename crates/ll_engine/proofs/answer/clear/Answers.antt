use Rattle.std.proofs.Common.{sym, subst, ap, ◌∙◌}
use Rattle.std.proofs.lemmas.List.{nil_from_length}
use Rattle.ll_bank.specs.declared.BankSize.{BankSize}
use Rattle.ll_bank.specs.Nodes.{Nodes, HasSize, no_nodes, front, size_of}
use Rattle.ll_bank.proofs.CallerLemmas.{HasSize-front}
use Rattle.ll_engine.proofs.answer.clear.Goals as goal

pub cut-requires : goal.cut-requires
cut-requires c =
    let none = c.size.result in
    let e = c.size.ensures.is ∙ ap size_of c.new-nothing.ensures in
    HasSize-front no_nodes _ none (ap (front no_nodes) e ∙ sym (ap (front _) e))
    (subst (λ (b : Nodes). HasSize b none) c.new-nothing.ensures c.size.ensures.had)

pub returns : goal.returns
returns c =
    let b = c.cut.new.self in let e = c.cut.ensures.places ∙ (c.size.ensures.is ∙ ap size_of c.new-nothing.ensures) in
    λ i. record {
      terms = nil_from_length b.terms (ap (λ (s : BankSize). s.terms) e) i;
      forms = nil_from_length b.forms (ap (λ (s : BankSize). s.forms) e) i;
    }
