use Rattle.std.proofs.Common.{◌∷◌, [], refl, ap, sym, ◌∙◌}
use Rattle.std.proofs.lemmas.List.{append-nil}
use Rattle.ll_agenda.specs.Frames.{items_at}
use Rattle.ll_freeze.specs.declared.machine.Machine.{Machine}
use Rattle.ll_freeze.specs.declared.machine.Item.TheVariants.{Goal}
use Rattle.ll_freeze.specs.Parts.{parts_of}
use Rattle.ll_freeze.proofs.CallerLemmas.{later_same, context_same}
use Rattle.ll_engine.proofs.machine.Keeping.{store_extends, later_of}
use Rattle.ll_engine.proofs.inferences.Closing.{closed, closes_heads}
use Rattle.ll_engine.proofs.attempt.close_front.Goals as goal

pub returns-then-position-eq0-clause-front : goal.returns-then-position-eq0-clause-front
returns-then-position-eq0-clause-front c =
    let m = parts_of c.args.machine.now in let e = c.args.position.environment in (
      e.end,
      record {
        list = c.requires.front.list
            ∙ ap (λ n. Goal c.args.goal (record { end = e.end; count = n }) ∷ items_at m.agenda c.args.position.rest) c.if-position-eq0.true;
        behind = c.requires.front.behind;
      },
    )

pub returns-then-position-eq0-clause-later : goal.returns-then-position-eq0-clause-later
returns-then-position-eq0-clause-later c = later_same c.args.machine.now

pub close_form-requires-clause-heads : goal.close_form-requires-clause-heads
close_form-requires-clause-heads c =
    let m = parts_of c.args.machine.now in
    closes_heads m c.args.goal c.args.position.environment (items_at m.agenda c.args.position.rest) c.requires.fits c.requires.front.list

pub returns-clause-same : goal.returns-clause-same
returns-clause-same c =
    let old = c.args.machine.now in let m = parts_of old in
    let new : Machine = record old {
      store = record (old.store) { bank = c.close_form.new.bank };
      agenda = c.push.new.self;
      top = c.in_ok-machine.field-0;
    } in
    let list = c.in_ok-machine.ensures.list in
    closed m (parts_of new) c.args.goal c.in_ok-closed.closed c.args.position.environment (items_at m.agenda c.args.position.rest) c.requires.fits
    c.requires.front.list
    (record {
      problem = refl;
      modules = refl;
      bank = c.in_ok-closed.ensures.keeps;
      bound = refl;
      levels = refl;
      resources = refl;
      left = refl;
      eigens = refl;
      terms = refl;
      steps = refl;
      top = list.inside;
    })
    (list.list ∙ ap (λ i. i ∷ items_at m.agenda c.args.position.rest) c.closed.ensures) c.in_ok-closed.ensures.shows

pub returns-clause-later : goal.returns-clause-later
returns-clause-later c =
    let m = c.args.machine.now in let k = c.push.ensures.keeps in
    later_of m _ refl refl (store_extends m.store (record (m.store) { bank = c.close_form.new.bank }) c.in_ok-closed.ensures.keeps refl)
    (context_same m.context)
    k.more k.frames [] (sym (append-nil m.terms.items)) [] (sym (append-nil m.steps.items))
