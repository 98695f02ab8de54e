use Rattle.std.proofs.Common.{refl, ap, arith, ◌∙◌}
use Rattle.std.proofs.lemmas.Result.{IfOk-from_err}
use Rattle.std.proofs.lemmas.List.{nil_from_length}
use Rattle.ll_bank.proofs.CallerLemmas.{Extends-refl, Extends-trans}
use Rattle.ll_polarity.specs.Grounds.{ground}
use Rattle.ll_polarity.proofs.putting.Framing.{at_step, stands_now, coming_room, read_on, taken_fits, given_on, has_parts, coming_ends}
use Rattle.ll_polarity.proofs.put_forms.form.Goals as goal

pub steps-init : goal.steps-init
steps-init c = record {
  coming = rw c.new.ensures.items (record {
    means = refl;
    standing = refl;
    fits = tt;
    step = c.requires.ready;
    keeps =
        Extends-refl c.args.bank.now;
  });
  texts = c.requires.stands.same;
  low = rw c.new.ensures.items (omega arith);
}

pub begun-requires-clause-stands : goal.begun-requires-clause-stands
begun-requires-clause-stands c =
    let f = at_step c.in-Read.is c.steps.invariant.coming c.steps.invariant.low in
    (stands_now c.steps.binders c.steps.fronts.place f c.requires.stands.distinct c.steps.invariant.texts c.requires.stands.depth c.requires.high).0

pub begun-requires-clause-ready : goal.begun-requires-clause-ready
begun-requires-clause-ready c =
    let f = at_step c.in-Read.is c.steps.invariant.coming c.steps.invariant.low in
    f.coming.step

pub begun-requires-clause-high : goal.begun-requires-clause-high
begun-requires-clause-high c =
    let f = at_step c.in-Read.is c.steps.invariant.coming c.steps.invariant.low in
    (stands_now c.steps.binders c.steps.fronts.place f c.requires.stands.distinct c.steps.invariant.texts c.requires.stands.depth c.requires.high).1

pub begun-requires-clause-room : goal.begun-requires-clause-room
begun-requires-clause-room c =
    let f = at_step c.in-Read.is c.steps.invariant.coming c.steps.invariant.low in
    coming_room f.coming c.requires.room

pub given-requires-clause-fits : goal.given-requires-clause-fits
given-requires-clause-fits c =
    let f = at_step c.in-Give.is c.steps.invariant.coming c.steps.invariant.low in
    has_parts (ground c.args.text.now) c.steps.bank c.in-Some.frame (taken_fits c.pop.new.self.items c.in-Some.frame f.coming c.in-Some.ensures.items)

pub given-requires-clause-form : goal.given-requires-clause-form
given-requires-clause-form c =
    let f = at_step c.in-Give.is c.steps.invariant.coming c.steps.invariant.low in
    f.coming.step

pub steps-smaller-in_ok-step-in-Read : goal.steps-smaller-in_ok-step-in-Read
steps-smaller-in_ok-step-in-Read c =
    let f = read_on c.in-Read.is c.steps.invariant.coming c.in_ok-step-in-Read.ensures.step c.in_ok-step-in-Read.ensures.keeps in
    f.less

pub steps-preserved-in_ok-step-in-Read : goal.steps-preserved-in_ok-step-in-Read
steps-preserved-in_ok-step-in-Read c =
    let f = read_on c.in-Read.is c.steps.invariant.coming c.in_ok-step-in-Read.ensures.step c.in_ok-step-in-Read.ensures.keeps in
    let l = f.less in
    record { coming = f.coming; texts = c.in_ok-step-in-Read.ensures.stands.same; low = omega arith }

pub steps-smaller : goal.steps-smaller
steps-smaller c =
    let f = given_on c.in-Some.frame c.in-Give.is c.steps.invariant.coming c.in-Some.ensures.items c.in_ok-step-in-Some.ensures.step
    c.in_ok-step-in-Some.ensures.keeps in
    f.less

pub steps-preserved : goal.steps-preserved
steps-preserved c =
    let f = given_on c.in-Some.frame c.in-Give.is c.steps.invariant.coming c.in-Some.ensures.items c.in_ok-step-in-Some.ensures.step
    c.in_ok-step-in-Some.ensures.keeps in
    let l = f.less in
    record { coming = f.coming; texts = c.in_ok-step-in-Some.ensures.texts ∙ c.steps.invariant.texts; low = omega arith }

pub returns-in_err-step-in-Read-clause-met : goal.returns-in_err-step-in-Read-clause-met
returns-in_err-step-in-Read-clause-met c = IfOk-from_err c.from_residual.result _ c.from_residual.ensures.0

pub returns-in_err-step-in-Read-clause-scope : goal.returns-in_err-step-in-Read-clause-scope
returns-in_err-step-in-Read-clause-scope c = IfOk-from_err c.from_residual.result _ c.from_residual.ensures.0

pub returns-in_err-step-in-Read-clause-shows : goal.returns-in_err-step-in-Read-clause-shows
returns-in_err-step-in-Read-clause-shows c = IfOk-from_err c.from_residual.result _ c.from_residual.ensures.0

pub returns-in_err-step-in-Read-clause-texts : goal.returns-in_err-step-in-Read-clause-texts
returns-in_err-step-in-Read-clause-texts c = IfOk-from_err c.from_residual.result _ c.from_residual.ensures.0

pub returns-in_err-step-in-Some-clause-met : goal.returns-in_err-step-in-Some-clause-met
returns-in_err-step-in-Some-clause-met c = IfOk-from_err c.from_residual-in_err-step-in-Some.result _ c.from_residual-in_err-step-in-Some.ensures.0

pub returns-in_err-step-in-Some-clause-scope : goal.returns-in_err-step-in-Some-clause-scope
returns-in_err-step-in-Some-clause-scope c = IfOk-from_err c.from_residual-in_err-step-in-Some.result _ c.from_residual-in_err-step-in-Some.ensures.0

pub returns-in_err-step-in-Some-clause-shows : goal.returns-in_err-step-in-Some-clause-shows
returns-in_err-step-in-Some-clause-shows c = IfOk-from_err c.from_residual-in_err-step-in-Some.result _ c.from_residual-in_err-step-in-Some.ensures.0

pub returns-in_err-step-in-Some-clause-texts : goal.returns-in_err-step-in-Some-clause-texts
returns-in_err-step-in-Some-clause-texts c = IfOk-from_err c.from_residual-in_err-step-in-Some.result _ c.from_residual-in_err-step-in-Some.ensures.0

pub returns-in_err-step-in-Read-clause-keeps : goal.returns-in_err-step-in-Read-clause-keeps
returns-in_err-step-in-Read-clause-keeps c = Extends-trans c.steps.invariant.coming.keeps c.begun.ensures.keeps

pub returns-in_err-step-in-Some-clause-keeps : goal.returns-in_err-step-in-Some-clause-keeps
returns-in_err-step-in-Some-clause-keeps c = Extends-trans c.steps.invariant.coming.keeps c.given.ensures.keeps

pub returns-in-None-clause-shows : goal.returns-in-None-clause-shows
returns-in-None-clause-shows c =
    let f = at_step c.in-Give.is c.steps.invariant.coming c.steps.invariant.low in
    (coming_ends f.coming (nil_from_length c.steps.fronts.frames.items (omega (arith, c.in-None.ensures.cases.0)))).0

pub returns-in-None-clause-met : goal.returns-in-None-clause-met
returns-in-None-clause-met c =
    let f = at_step c.in-Give.is c.steps.invariant.coming c.steps.invariant.low in
    (coming_ends f.coming (nil_from_length c.steps.fronts.frames.items (omega (arith, c.in-None.ensures.cases.0)))).1

pub returns-in-None-clause-scope : goal.returns-in-None-clause-scope
returns-in-None-clause-scope c =
    let f = at_step c.in-Give.is c.steps.invariant.coming c.steps.invariant.low in
    ap (λ a. a.scope) (coming_ends f.coming (nil_from_length c.steps.fronts.frames.items (omega (arith, c.in-None.ensures.cases.0)))).2

pub returns-in-None-clause-texts : goal.returns-in-None-clause-texts
returns-in-None-clause-texts c = c.steps.invariant.texts

pub returns-in-None-clause-keeps : goal.returns-in-None-clause-keeps
returns-in-None-clause-keeps c = c.steps.invariant.coming.keeps
