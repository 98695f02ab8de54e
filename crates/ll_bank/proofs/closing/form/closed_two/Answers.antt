use Rattle.std.specs.HashMap.{get}
use Rattle.std.proofs.lemmas.Result.{IfOk-from_err}
use Rattle.ll_bank.proofs.Trees.{Extends-trans, HasTerm-extends, ShowsTerm-extends}
use Rattle.ll_bank.specs.Closing.{same_spot}
use Rattle.ll_bank.proofs.closes.Values.{HasValues-extends}
use Rattle.ll_bank.proofs.closes.Steps.{images_now, images_then, term_heads_now, term_shown}
use Rattle.ll_bank.proofs.closing.form.closed_two.Goals as goal

pub closed_term-requires-2-clause-heads : goal.closed_term-requires-2-clause-heads
closed_term-requires-2-clause-heads c =
    let first = c.args.bank.now in
    let now = c.closed_term.new.bank in
    let vs = c.args.values in
    term_heads_now first now c.closed_term.ensures.keeps vs c.requires.values (c.args.right.0, c.args.level) (c.requires.right, c.requires.right_heads)

pub closed_term-requires-2-clause-images : goal.closed_term-requires-2-clause-images
closed_term-requires-2-clause-images c =
    let first = c.args.bank.now in
    let now = c.closed_term.new.bank in
    let vs = c.args.values in
    images_now first now c.closed_term.ensures.keeps vs c.requires.values (get same_spot c.closed_term.new.images.places) c.in_ok-first.ensures.images

pub returns-clause-left : goal.returns-clause-left
returns-clause-left c =
    ShowsTerm-extends c.closed_term-2.ensures.keeps c.in_ok-first.ensures.shows

pub returns-clause-right : goal.returns-clause-right
returns-clause-right c =
    let first = c.args.bank.now in
    let now = c.closed_term.new.bank in
    let vs = c.args.values in
    term_shown first now c.closed_term.ensures.keeps vs c.requires.values (c.args.right.0, c.args.level) c.closed_term-2.new.bank c.in_ok-second.second.0
    c.requires.right c.in_ok-second.ensures.shows

pub returns-clause-terms : goal.returns-clause-terms
returns-clause-terms c =
    let first = c.args.bank.now in
    let now = c.closed_term.new.bank in
    let vs = c.args.values in
    images_then first now c.closed_term.ensures.keeps vs c.requires.values c.closed_term-2.new.bank (get same_spot c.closed_term-2.new.images.places)
    c.in_ok-second.ensures.images

pub closed_term-requires-clause-inside : goal.closed_term-requires-clause-inside
closed_term-requires-clause-inside c = c.requires.left

pub closed_term-requires-clause-values : goal.closed_term-requires-clause-values
closed_term-requires-clause-values c = c.requires.values

pub closed_term-requires-clause-heads : goal.closed_term-requires-clause-heads
closed_term-requires-clause-heads c = c.requires.left_heads

pub closed_term-requires-clause-images : goal.closed_term-requires-clause-images
closed_term-requires-clause-images c = c.requires.terms

pub returns-in_err-first-clause-left : goal.returns-in_err-first-clause-left
returns-in_err-first-clause-left c = IfOk-from_err c.from_residual.result _ c.from_residual.ensures.0

pub returns-in_err-first-clause-right : goal.returns-in_err-first-clause-right
returns-in_err-first-clause-right c = IfOk-from_err c.from_residual.result _ c.from_residual.ensures.0

pub returns-in_err-first-clause-terms : goal.returns-in_err-first-clause-terms
returns-in_err-first-clause-terms c = IfOk-from_err c.from_residual.result _ c.from_residual.ensures.0

pub returns-in_err-first-clause-keeps : goal.returns-in_err-first-clause-keeps
returns-in_err-first-clause-keeps c = c.closed_term.ensures.keeps

pub closed_term-requires-2-clause-inside : goal.closed_term-requires-2-clause-inside
closed_term-requires-2-clause-inside c = HasTerm-extends c.closed_term.ensures.keeps c.args.right.0 c.requires.right

pub closed_term-requires-2-clause-values : goal.closed_term-requires-2-clause-values
closed_term-requires-2-clause-values c = HasValues-extends c.closed_term.ensures.keeps c.args.values c.requires.values

pub returns-in_err-second-clause-left : goal.returns-in_err-second-clause-left
returns-in_err-second-clause-left c = IfOk-from_err c.from_residual-in_err-second.result _ c.from_residual-in_err-second.ensures.0

pub returns-in_err-second-clause-right : goal.returns-in_err-second-clause-right
returns-in_err-second-clause-right c = IfOk-from_err c.from_residual-in_err-second.result _ c.from_residual-in_err-second.ensures.0

pub returns-in_err-second-clause-terms : goal.returns-in_err-second-clause-terms
returns-in_err-second-clause-terms c = IfOk-from_err c.from_residual-in_err-second.result _ c.from_residual-in_err-second.ensures.0

pub returns-in_err-second-clause-keeps : goal.returns-in_err-second-clause-keeps
returns-in_err-second-clause-keeps c = Extends-trans c.closed_term.ensures.keeps c.closed_term-2.ensures.keeps

pub returns-clause-keeps : goal.returns-clause-keeps
returns-clause-keeps c = Extends-trans c.closed_term.ensures.keeps c.closed_term-2.ensures.keeps
