use Rattle.ll_bank.proofs.CallerLemmas.{HasTerm-extends}
use Rattle.ll_prooftext.proofs.reading.Calls.{fewer}
use Rattle.std.proofs.lemmas.Result.{IfOk-from_err}
use Rattle.std.proofs.Common.{sym, ap, subst, ◌∙◌, refl, Some}
use Rattle.ll_list_laws.proofs.CallerLemmas.{IfOk-each as if_ok}
use Rattle.ll_bank.specs.Nodes.{AllInTerms}
use Rattle.ll_prooftext.proofs.spelling.Close.{closed_term, ends_whole, closes_none, closes_argument, closes_leaf, item_step, none_popped}
use Rattle.ll_prooftext.proofs.spelling.Kept.{grows_none}
use Rattle.ll_prooftext.proofs.terms.Open.close.Goals as goal

pub returns-then-not-is_compound-clause-step : goal.returns-then-not-is_compound-clause-step
returns-then-not-is_compound-clause-step c = closes_none c.args.self.now c.args.part c.args.rest.now c.requires.part
    (sym c.is_compound.ensures ∙ c.if-not-is_compound.true)

pub term_of-requires : goal.term_of-requires
term_of-requires c = subst (AllInTerms c.args.bank.now) (sym c.deref.ensures.value) (λ k d l. (c.requires.good.top.args k d l).inside)

pub returns-in_default-clause-step : goal.returns-in_default-clause-step
returns-in_default-clause-step c =
    ends_whole c.args.names.now c.args.bank.now c.chain.new.bank c.args.self.now c.args.part c.in_ok-at.at.0 c.args.rest.now c.requires.good c.requires.part
    (closed_term c.args.names.now c.args.bank.now c.term_of.new.bank c.chain.new.bank c.args.self.now c.args.part c.in_ok-last.last.0 c.in_ok-at.at.0
    c.requires.good c.requires.part (sym c.is_compound.ensures ∙ c.if-not-is_compound.false) (rw c.deref.ensures.value at c.in_ok-last.ensures.term)
    c.in_ok-last.ensures.keeps c.in_ok-at.ensures.term c.in_ok-at.ensures.keeps)
    (none_popped c.args.self.now.outer.items c.pop.new.self.items _ c.in_default.ensures.items c.in_default.ensures.rest c.in_default.ensures.cases.0)

pub returns-in_ok-push-in-Head-clause-step : goal.returns-in_ok-push-in-Head-clause-step
returns-in_ok-push-in-Head-clause-step c =
    closes_argument c.args.names.now c.args.bank.now c.chain.new.bank c.args.self.now c.args.part c.in_ok-at.at.0 c.args.rest.now c.requires.good
    c.requires.part
    (closed_term c.args.names.now c.args.bank.now c.term_of.new.bank c.chain.new.bank c.args.self.now c.args.part c.in_ok-last.last.0 c.in_ok-at.at.0
    c.requires.good c.requires.part (sym c.is_compound.ensures ∙ c.if-not-is_compound.false) (rw c.deref.ensures.value at c.in_ok-last.ensures.term)
    c.in_ok-last.ensures.keeps c.in_ok-at.ensures.term c.in_ok-at.ensures.keeps)
    (record { top = c.in-Some.outer; outer = c.pop.new.self }) c.in-Some.ensures.items _ c.in_ok-at.at c.in-Head.field-0 refl
    (c.in-Some-part.is ∙ ap Some c.in-Head.is)
    (record { outer = refl; items = refl; part = refl; args = c.in_ok-push-in-Head.ensures.items })

pub returns-in-Term-clause-step : goal.returns-in-Term-clause-step
returns-in-Term-clause-step c =
    closes_leaf c.args.names.now c.args.bank.now c.chain.new.bank c.args.self.now c.args.part c.in_ok-at.at.0 c.args.rest.now c.requires.good c.requires.part
    (closed_term c.args.names.now c.args.bank.now c.term_of.new.bank c.chain.new.bank c.args.self.now c.args.part c.in_ok-last.last.0 c.in_ok-at.at.0
    c.requires.good c.requires.part (sym c.is_compound.ensures ∙ c.if-not-is_compound.false) (rw c.deref.ensures.value at c.in_ok-last.ensures.term)
    c.in_ok-last.ensures.keeps c.in_ok-at.ensures.term c.in_ok-at.ensures.keeps)
    (record { top = c.in-Some.outer; outer = c.pop.new.self }) c.in-Some.ensures.items c.in-Term.field-0 (c.in-Some-part.is ∙ ap Some c.in-Term.is)

pub returns-in_default-part-clause-step : goal.returns-in_default-part-clause-step
returns-in_default-part-clause-step c =
    if_ok c.close_item.result _ _
    (λ step i.
    item_step c.args.names.now c.args.bank.now c.chain.new.bank c.args.self.now c.args.part c.in_ok-at.at c.args.rest.now c.requires.good c.requires.part
    (closed_term c.args.names.now c.args.bank.now c.term_of.new.bank c.chain.new.bank c.args.self.now c.args.part c.in_ok-last.last.0 c.in_ok-at.at.0
    c.requires.good c.requires.part (sym c.is_compound.ensures ∙ c.if-not-is_compound.false) (rw c.deref.ensures.value at c.in_ok-last.ensures.term)
    c.in_ok-last.ensures.keeps c.in_ok-at.ensures.term c.in_ok-at.ensures.keeps)
    (record { top = c.in-Some.outer; outer = c.pop.new.self }) c.in-Some.ensures.items c.in_default-part.is c.is_chain-is_chain.result
    c.is_chain-is_chain.ensures c.close_item.new.names c.close_item.new.self step i)
    c.close_item.ensures.step

pub returns-then-not-is_compound-clause-grows : goal.returns-then-not-is_compound-clause-grows
returns-then-not-is_compound-clause-grows c = grows_none c.args.names.now

pub returns-in_err-last-clause-grows : goal.returns-in_err-last-clause-grows
returns-in_err-last-clause-grows c = grows_none c.args.names.now

pub returns-in_err-at-clause-grows : goal.returns-in_err-at-clause-grows
returns-in_err-at-clause-grows c = grows_none c.args.names.now

pub returns-in_default-clause-grows : goal.returns-in_default-clause-grows
returns-in_default-clause-grows c = grows_none c.args.names.now

pub returns-in_err-push-in-Head-clause-grows : goal.returns-in_err-push-in-Head-clause-grows
returns-in_err-push-in-Head-clause-grows c = grows_none c.args.names.now

pub returns-in_ok-push-in-Head-clause-grows : goal.returns-in_ok-push-in-Head-clause-grows
returns-in_ok-push-in-Head-clause-grows c = grows_none c.args.names.now

pub returns-in-Term-clause-grows : goal.returns-in-Term-clause-grows
returns-in-Term-clause-grows c = grows_none c.args.names.now

pub returns-in_err-last-clause-step : goal.returns-in_err-last-clause-step
returns-in_err-last-clause-step c = IfOk-from_err c.from_residual.result _ c.from_residual.ensures.0

pub returns-in_err-at-clause-step : goal.returns-in_err-at-clause-step
returns-in_err-at-clause-step c = IfOk-from_err c.from_residual-in_err-at.result _ c.from_residual-in_err-at.ensures.0

pub returns-in_err-push-in-Head-clause-step : goal.returns-in_err-push-in-Head-clause-step
returns-in_err-push-in-Head-clause-step c = IfOk-from_err c.from_residual-in_err-push-in-Head.result _ c.from_residual-in_err-push-in-Head.ensures.0

pub close_item-requires : goal.close_item-requires
close_item-requires c = fewer _ _ _ c.requires.room

pub returns-in_default-part-clause-grows : goal.returns-in_default-part-clause-grows
returns-in_default-part-clause-grows c = c.close_item.ensures.grows

pub chain-requires-clause-items : goal.chain-requires-clause-items
chain-requires-clause-items c = λ k d l. HasTerm-extends c.in_ok-last.ensures.keeps _ (c.requires.good.top.items k d l).good.inside
