use Rattle.std.proofs.Common.{◌≡◌, ◌∙◌, ◌+◌, ℕ, ap, sym, subst, length, length-append}
use Rattle.std.specs.Prelude.{slice_index_or}
use Rattle.ll_bank.specs.declared.BankSize.{BankSize}
use Rattle.ll_bank.specs.Nodes.{Nodes, IsTermBelow, IsFormBelow, size_of}
use Rattle.ll_bank.specs.Tail.{Tail, with_forms, with_nodes}
use Rattle.ll_bank.proofs.Trees.{Extends-trans}
use Rattle.ll_bank.proofs.BankLemmas.{whole_of_size}
use Rattle.ll_bank.proofs.TailLemmas.{built, same_trees, extended_size}
use Rattle.ll_bank.proofs.bank.Bank.extend.Goals as goal

pub add_terms-requires : goal.add_terms-requires
add_terms-requires c =
    let from : size_of c.args.self.now ≡ c.tail.inside.from = c.requires ∙ sym (ap (λ (t : Tail). t.from) c.tail.view_is) in
    λ i d l.
    subst (λ (n : ℕ). IsTermBelow (n + i) (slice_index_or c.tail.inside.flat.nodes.terms i d)) (sym (ap (λ (s : BankSize). s.terms) from))
    (c.tail.invariant.terms i d l)

pub add_forms-requires : goal.add_forms-requires
add_forms-requires c =
    let nodes = c.tail.inside.flat.nodes in
    let from : size_of c.args.self.now ≡ c.tail.inside.from = c.requires ∙ sym (ap (λ (t : Tail). t.from) c.tail.view_is) in
    let more = c.in_ok-add_terms.ensures.added in
    let terms : length c.add_terms.new.bank.terms ≡ c.tail.inside.to.terms =
    ap (λ (b : Nodes). length b.terms) more
    ∙ (length-append c.args.self.now.terms nodes.terms
    ∙ (ap (λ (s : BankSize). s.terms + length nodes.terms) from ∙ ap (λ (s : BankSize). s.terms) c.tail.invariant.sizes)) in
    let forms : length c.add_terms.new.bank.forms ≡ c.tail.inside.from.forms =
    ap (λ (b : Nodes). length b.forms) more ∙ ap (λ (s : BankSize). s.forms) from in
    λ i d l.
    subst (λ (n : ℕ). IsFormBelow n (length c.add_terms.new.bank.forms + i) (slice_index_or nodes.forms i d)) (sym terms)
    (subst (λ (n : ℕ). IsFormBelow c.tail.inside.to.terms (n + i) (slice_index_or nodes.forms i d)) (sym forms) (c.tail.invariant.forms i d l))

pub returns-clause-built : goal.returns-clause-built
returns-clause-built c = built c.add_forms.new.bank (whole_of_size c.add_forms.new.bank c.size-size.result c.size-size.ensures.is c.size-size.ensures.had)

pub returns-clause-same : goal.returns-clause-same
returns-clause-same c =
    λ bank of same.
    let is : c.add_forms.new.bank ≡ with_nodes c.args.self.now c.args.tail.now.nodes =
    c.in_ok-add_forms.ensures.added
    ∙ (ap (λ (b : Nodes). with_forms b c.tail.inside.flat.nodes.forms) c.in_ok-add_terms.ensures.added
    ∙ ap (λ (t : Tail). with_nodes c.args.self.now t.nodes) c.tail.view_is) in
    same_trees bank c.args.tail.now of c.args.self.now c.add_forms.new.bank (Extends-trans c.in_ok-add_terms.ensures.keeps c.in_ok-add_forms.ensures.keeps) is
    c.requires
    (extended_size _ c.args.tail.now c.tail.view_is c.tail.invariant c.args.self.now c.add_forms.new.bank c.requires is)
    (whole_of_size c.add_forms.new.bank c.size-size.result c.size-size.ensures.is c.size-size.ensures.had) same

pub returns-clause-keeps : goal.returns-clause-keeps
returns-clause-keeps c = Extends-trans c.in_ok-add_terms.ensures.keeps c.in_ok-add_forms.ensures.keeps

pub returns-clause-added : goal.returns-clause-added
returns-clause-added c =
    c.in_ok-add_forms.ensures.added
    ∙ (ap (λ (b : Nodes). with_forms b c.tail.inside.flat.nodes.forms) c.in_ok-add_terms.ensures.added
    ∙ ap (λ (t : Tail). with_nodes c.args.self.now t.nodes) c.tail.view_is)

pub returns-clause-size : goal.returns-clause-size
returns-clause-size c =
    let is : c.add_forms.new.bank ≡ with_nodes c.args.self.now c.args.tail.now.nodes =
    c.in_ok-add_forms.ensures.added
    ∙ (ap (λ (b : Nodes). with_forms b c.tail.inside.flat.nodes.forms) c.in_ok-add_terms.ensures.added
    ∙ ap (λ (t : Tail). with_nodes c.args.self.now t.nodes) c.tail.view_is) in
    extended_size _ c.args.tail.now c.tail.view_is c.tail.invariant c.args.self.now c.add_forms.new.bank c.requires is
