use Rattle.std.proofs.Common.{subst}
use Rattle.std.specs.HashMap.{get}
use Rattle.std.specs.Prelude.{OnOk}
use Rattle.std.proofs.lemmas.Result.{IfOk-weaker}
use Rattle.ll_bank.specs.Opened.{AreImages}
use Rattle.ll_bank.specs.Closing.{env_in, same_spot, IsTermImage}
use Rattle.ll_bank.proofs.closes.Values.{values_extends}
use Rattle.ll_bank.proofs.closes.Known.{term_images_extend}
use Rattle.ll_bank.proofs.closes.Steps.{images_now, term_heads_now, term_shown}
use Rattle.ll_bank.proofs.closing.term.closed_term.Goals as goal

pub closed_deep-requires-clause-heads : goal.closed_deep-requires-clause-heads
closed_deep-requires-clause-heads c =
    term_heads_now c.args.bank.now c.closed_shallow.new.bank c.in_ok-image.ensures.keeps c.args.values c.requires.values (c.args.at.0, c.args.level)
    (c.requires.inside, c.requires.heads)

pub closed_deep-requires-clause-images : goal.closed_deep-requires-clause-images
closed_deep-requires-clause-images c =
    let first = c.args.bank.now in let now = c.closed_shallow.new.bank in let more = c.in_ok-image.ensures.keeps in
    let lookup = get same_spot c.args.images.now.places in
    images_now first now more c.args.values c.requires.values lookup
    (term_images_extend first now more (env_in first c.args.values) lookup c.requires.images)

pub returns-in-Some-clause-images : goal.returns-in-Some-clause-images
returns-in-Some-clause-images c =
    term_images_extend c.args.bank.now c.closed_shallow.new.bank c.in_ok-image.ensures.keeps (env_in c.args.bank.now c.args.values)
    (get same_spot c.args.images.now.places) c.requires.images

pub returns-in-None-clause-shows : goal.returns-in-None-clause-shows
returns-in-None-clause-shows c =
    IfOk-weaker c.closed_deep.result _ _ (λ made h. term_shown c.args.bank.now c.closed_shallow.new.bank c.in_ok-image.ensures.keeps c.args.values
    c.requires.values (c.args.at.0, c.args.level) c.closed_deep.new.bank made.0 c.requires.inside h) c.closed_deep.ensures.shows

pub returns-in-None-clause-images : goal.returns-in-None-clause-images
returns-in-None-clause-images c =
    subst (λ env. OnOk c.closed_deep.result (AreImages (IsTermImage c.closed_deep.new.bank env) (get same_spot c.closed_deep.new.images.places)))
    (values_extends c.args.bank.now c.closed_shallow.new.bank c.in_ok-image.ensures.keeps c.args.values c.requires.values) c.closed_deep.ensures.images
