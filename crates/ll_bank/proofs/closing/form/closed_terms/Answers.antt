use Rattle.std.proofs.Common.{refl, ap, map, ◌∙◌, arith, get_or}
use Rattle.std.specs.HashMap.{get}
use Rattle.std.proofs.lemmas.List.{take_all}
use Rattle.std.proofs.lemmas.Result.{IfOk-from_err}
use Rattle.ll_bank.specs.declared.At.{At}
use Rattle.ll_bank.specs.Term.{close}
use Rattle.ll_bank.specs.Nodes.{term_trees}
use Rattle.ll_bank.proofs.Trees.{Extends-refl, Extends-trans, HasTerm-extends}
use Rattle.ll_bank.specs.Closing.{env_in, under, same_spot}
use Rattle.ll_bank.proofs.closes.Steps.{images_now, images_then, term_heads_now, term_shown, terms_more}
use Rattle.ll_bank.proofs.closes.Values.{HasValues-extends}
use Rattle.ll_bank.proofs.closing.form.closed_terms.Goals as goal

pub loop-arg-init : goal.loop-arg-init
loop-arg-init c =
    record {
      keeps = Extends-refl c.args.bank.now;
      places = rw c.new-made.ensures.items (λ j d l. absurd (omega arith));
      shows =
          rw c.new-made.ensures.items refl;
      images = c.requires.terms;
    }

pub closed_term-requires-clause-inside : goal.closed_term-requires-clause-inside
closed_term-requires-clause-inside c =
    let first = c.args.bank.now in
    let now = c.loop-arg.bank in
    let vs = c.args.values in
    let inv = c.loop-arg.invariant in
    let none : At = record { 0 = 0 } in
    let i = c.loop-arg.arg-index in
    let a = get_or c.args.args.now i none in
    let h = c.requires.inside i none (omega arith) in
    HasTerm-extends inv.keeps a.0 h

pub closed_term-requires-clause-values : goal.closed_term-requires-clause-values
closed_term-requires-clause-values c =
    let first = c.args.bank.now in
    let now = c.loop-arg.bank in
    let vs = c.args.values in
    let inv = c.loop-arg.invariant in
    let none : At = record { 0 = 0 } in
    let i = c.loop-arg.arg-index in
    let a = get_or c.args.args.now i none in
    let h = c.requires.inside i none (omega arith) in
    HasValues-extends inv.keeps vs c.requires.values

pub closed_term-requires-clause-heads : goal.closed_term-requires-clause-heads
closed_term-requires-clause-heads c =
    let first = c.args.bank.now in
    let now = c.loop-arg.bank in
    let vs = c.args.values in
    let inv = c.loop-arg.invariant in
    let none : At = record { 0 = 0 } in
    let i = c.loop-arg.arg-index in
    let a = get_or c.args.args.now i none in
    let h = c.requires.inside i none (omega arith) in
    term_heads_now first now inv.keeps vs c.requires.values (a.0, c.args.level) (h, c.requires.heads i none (omega arith))

pub closed_term-requires-clause-images : goal.closed_term-requires-clause-images
closed_term-requires-clause-images c =
    let first = c.args.bank.now in
    let now = c.loop-arg.bank in
    let vs = c.args.values in
    let inv = c.loop-arg.invariant in
    let none : At = record { 0 = 0 } in
    let i = c.loop-arg.arg-index in
    let a = get_or c.args.args.now i none in
    let h = c.requires.inside i none (omega arith) in
    images_now first now inv.keeps vs c.requires.values (get same_spot c.loop-arg.terms.places) inv.images

pub returns-in_err-image-clause-keeps : goal.returns-in_err-image-clause-keeps
returns-in_err-image-clause-keeps c =
    Extends-trans c.loop-arg.invariant.keeps c.closed_term.ensures.keeps

pub loop-arg-preserved : goal.loop-arg-preserved
loop-arg-preserved c =
    let first = c.args.bank.now in
    let now = c.loop-arg.bank in
    let vs = c.args.values in
    let inv = c.loop-arg.invariant in
    let none : At = record { 0 = 0 } in
    let i = c.loop-arg.arg-index in
    let a = get_or c.args.args.now i none in
    let h = c.requires.inside i none (omega arith) in
    let next = c.closed_term.new.bank in
    let shown = term_shown first now inv.keeps vs c.requires.values (a.0, c.args.level) next c.in_ok-image.image.0 h c.in_ok-image.ensures.shows in
    let more = terms_more first now next c.closed_term.ensures.keeps (env_in first vs) c.args.level c.args.args.now c.loop-arg.made.items c.push.new.self.items
    i none c.in_ok-image.image (omega arith) inv.places inv.shows shown c.in_ok-push.ensures.items in
    record {
      keeps = Extends-trans inv.keeps c.closed_term.ensures.keeps;
      places = more.0;
      shows = more.1;
      images = images_then first now inv.keeps vs c.requires.values next (get same_spot c.closed_term.new.images.places) c.in_ok-image.ensures.images;
    }

pub returns-in_err-image-clause-places : goal.returns-in_err-image-clause-places
returns-in_err-image-clause-places c = IfOk-from_err c.from_residual.result _ c.from_residual.ensures.0

pub returns-in_err-image-clause-shows : goal.returns-in_err-image-clause-shows
returns-in_err-image-clause-shows c = IfOk-from_err c.from_residual.result _ c.from_residual.ensures.0

pub returns-in_err-image-clause-terms : goal.returns-in_err-image-clause-terms
returns-in_err-image-clause-terms c = IfOk-from_err c.from_residual.result _ c.from_residual.ensures.0

pub returns-in_err-push-clause-places : goal.returns-in_err-push-clause-places
returns-in_err-push-clause-places c = IfOk-from_err c.from_residual-in_err-push.result _ c.from_residual-in_err-push.ensures.0

pub returns-in_err-push-clause-shows : goal.returns-in_err-push-clause-shows
returns-in_err-push-clause-shows c = IfOk-from_err c.from_residual-in_err-push.result _ c.from_residual-in_err-push.ensures.0

pub returns-in_err-push-clause-terms : goal.returns-in_err-push-clause-terms
returns-in_err-push-clause-terms c = IfOk-from_err c.from_residual-in_err-push.result _ c.from_residual-in_err-push.ensures.0

pub returns-in_err-push-clause-keeps : goal.returns-in_err-push-clause-keeps
returns-in_err-push-clause-keeps c = Extends-trans c.loop-arg.invariant.keeps c.closed_term.ensures.keeps

pub returns-clause-places : goal.returns-clause-places
returns-clause-places c = c.loop-arg.invariant.places

pub returns-clause-shows : goal.returns-clause-shows
returns-clause-shows c =
    let first = c.args.bank.now in
    c.loop-arg.invariant.shows
    ∙ ap (λ args. map (close (under (env_in first c.args.values) c.args.level)) (term_trees first args))
    (take_all c.loop-arg.arg-index c.args.args.now (omega arith))

pub returns-clause-terms : goal.returns-clause-terms
returns-clause-terms c = c.loop-arg.invariant.images

pub returns-clause-keeps : goal.returns-clause-keeps
returns-clause-keeps c = c.loop-arg.invariant.keeps
