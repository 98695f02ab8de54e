use Rattle.std.proofs.Common.{refl, subst}
use Rattle.ll_bank.specs.Nodes.{term_tree}
use Rattle.ll_bank.specs.Environments.{values_in}
use Rattle.ll_bank.proofs.CallerLemmas.{AllInTerms-below}
use Rattle.ll_bind.specs.Heads.{IsPaired}
use Rattle.ll_bind.proofs.Heads.{apart_int, fixed, paired_terms}
use Rattle.ll_bind.proofs.head.open.Goals as goal

pub returns-in-Var-term_at : goal.returns-in-Var-term_at
returns-in-Var-term_at c = (refl, c.closed_head.ensures c.args.bank.now (values_in c.args.environment) c.requires.pattern c.in-App.ensures.shown.0)

pub returns-in-Int-term_at : goal.returns-in-Int-term_at
returns-in-Int-term_at c =
    let bank = c.args.bank.now in
    apart_int bank (term_tree bank c.args.equation.place.0) (term_tree bank c.args.equation.pattern.0) _ c.in-App.head c.in-App.args.now
    (fixed c.in-App.head c.is_place.result c.is_place.ensures c.if-is_place.false) c.in-Int-term_at.ensures.shown c.in-App.ensures.shown.0

pub returns-in-Same : goal.returns-in-Same
returns-in-Same c =
    let bank = c.args.bank.now in let q = c.args.equation in let u = term_tree bank q.place.0 in let v = term_tree bank q.pattern.0 in
    let old = c.args.equations.now.items in let new = c.pair.new.equations.items in
    subst (IsPaired bank u v old new) c.in-Same.is
    (paired_terms bank u v _ _ old new c.in_ok-next-in-App-term_at.field-0 c.in-App-term_at.ensures.shown.0 c.in-App.ensures.shown.0
    (c.in_ok-next-in-App-term_at.ensures bank
    (AllInTerms-below bank q.place.0 c.in-App-term_at.places.now c.requires.place c.in-App-term_at.ensures.shown.1)
    (AllInTerms-below bank q.pattern.0 c.in-App.args.now c.requires.pattern c.in-App.ensures.shown.1)))

pub returns-in-Apart : goal.returns-in-Apart
returns-in-Apart c =
    let bank = c.args.bank.now in let q = c.args.equation in let u = term_tree bank q.place.0 in let v = term_tree bank q.pattern.0 in
    let old = c.args.equations.now.items in let new = c.pair.new.equations.items in
    subst (IsPaired bank u v old new) c.in-Apart.is
    (paired_terms bank u v _ _ old new c.in_ok-next-in-App-term_at.field-0 c.in-App-term_at.ensures.shown.0 c.in-App.ensures.shown.0
    (c.in_ok-next-in-App-term_at.ensures bank
    (AllInTerms-below bank q.place.0 c.in-App-term_at.places.now c.requires.place c.in-App-term_at.ensures.shown.1)
    (AllInTerms-below bank q.pattern.0 c.in-App.args.now c.requires.pattern c.in-App.ensures.shown.1)))
