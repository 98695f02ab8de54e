use Rattle.std.proofs.Common.{◌≡◌, ◌+◌, ◌∷◌, ◌++◌, [], List, None, ◌∙◌, ap, refl, sym, subst, take, arith}
use Rattle.std.proofs.lemmas.Result.{IfOk-from_err}
use Rattle.std.proofs.lemmas.List.{take_more, take_all}
use Rattle.ll_bank.proofs.CallerLemmas.{Extends-refl}
use Rattle.ll_parser.specs.declared.RawModule.{RawModule}
use Rattle.ll_polarity.specs.Scope.{Scoped}
use Rattle.ll_polarity.specs.Places.{place_in}
use Rattle.ll_polarity.specs.Ready.{IsModuleReady}
use Rattle.ll_polarity.specs.Standing.{StandsIn}
use Rattle.ll_polarity.proofs.putting.ModuleRows.{AreModulesRead, modules_more, room_at_module}
use Rattle.ll_polarity.proofs.put_modules.modules.Goals as goal

pub loop-body-init : goal.loop-body-init
loop-body-init c = record {
  read = rw c.new-put.ensures.items (record {
    show = λ ms heads same earlier h. refl;
    met = λ ms. refl;
    inside = λ k d l. absurd (omega arith);
    keeps =
        Extends-refl c.args.bank.now;
  });
  binders = λ i. record { texts = c.requires.stands.same i; scope = c.requires.outermost i };
}

pub module-requires-clause-room : goal.module-requires-clause-room
module-requires-clause-room c =
    room_at_module c.args.text.now.names.now c.args.text.now.forms.now c.args.met.now.names c.loop-body.met.names c.args.from.now c.loop-body.body-index
    c.body-item.result (c.loop-body.invariant.read.met []) c.loop-body-test.true c.body-item.is c.requires.few c.requires.room

pub loop-body-preserved : goal.loop-body-preserved
loop-body-preserved c =
    let texts = c.args.text.now.names.now in
    let forms = c.args.text.now.forms.now in
    let places = place_in c.args.text.now.modules.now.places in
    let item = c.body-item.result in
    let more : take c.loop-body.body-index c.args.from.now ++ item ∷ [] ≡ take (c.loop-body.body-index + 1) c.args.from.now =
    ap (λ (m : RawModule). take c.loop-body.body-index c.args.from.now ++ m ∷ []) c.body-item.is
    ∙ sym (take_more c.args.from.now c.loop-body.body-index item c.loop-body-test.true) in
    record {
      read = subst (λ (xs : List RawModule). AreModulesRead texts forms places c.args.met.now.names c.args.bank.now c.module.new.bank xs c.push.new.self.items
          c.module.new.met.names) more
          (modules_more texts forms places c.args.met.now.names c.args.bank.now c.loop-body.bank c.module.new.bank (take c.loop-body.body-index c.args.from.now)
          item c.loop-body.put.items c.push.new.self.items c.in_ok-next.next c.loop-body.met.names c.module.new.met.names
          c.loop-body.invariant.read c.in_ok-next.ensures.shows c.in_ok-next.ensures.names c.in_ok-next.ensures.inside c.in_ok-next.ensures.keeps
          c.in_ok-push.ensures.items);
      binders = c.in_ok-next.ensures.binders;
    }

pub returns-in_err-next-clause-inside : goal.returns-in_err-next-clause-inside
returns-in_err-next-clause-inside c = IfOk-from_err c.from_residual.result _ c.from_residual.ensures.0

pub returns-in_err-next-clause-keeps : goal.returns-in_err-next-clause-keeps
returns-in_err-next-clause-keeps c = IfOk-from_err c.from_residual.result _ c.from_residual.ensures.0

pub returns-in_err-next-clause-names : goal.returns-in_err-next-clause-names
returns-in_err-next-clause-names c = IfOk-from_err c.from_residual.result _ c.from_residual.ensures.0

pub returns-in_err-next-clause-shows : goal.returns-in_err-next-clause-shows
returns-in_err-next-clause-shows c = IfOk-from_err c.from_residual.result _ c.from_residual.ensures.0

pub returns-in_err-push-clause-inside : goal.returns-in_err-push-clause-inside
returns-in_err-push-clause-inside c = IfOk-from_err c.from_residual-in_err-push.result _ c.from_residual-in_err-push.ensures.0

pub returns-in_err-push-clause-keeps : goal.returns-in_err-push-clause-keeps
returns-in_err-push-clause-keeps c = IfOk-from_err c.from_residual-in_err-push.result _ c.from_residual-in_err-push.ensures.0

pub returns-in_err-push-clause-names : goal.returns-in_err-push-clause-names
returns-in_err-push-clause-names c = IfOk-from_err c.from_residual-in_err-push.result _ c.from_residual-in_err-push.ensures.0

pub returns-in_err-push-clause-shows : goal.returns-in_err-push-clause-shows
returns-in_err-push-clause-shows c = IfOk-from_err c.from_residual-in_err-push.result _ c.from_residual-in_err-push.ensures.0

pub module-requires-clause-stands : goal.module-requires-clause-stands
module-requires-clause-stands c =
    let texts = c.args.text.now.names.now in
    let start : c.args.binders.now ≡ record { texts = texts; scope = [] } = λ i. record { texts = c.requires.stands.same i; scope = c.requires.outermost i } in
    subst (λ (b : Scoped). StandsIn texts b (record { quantified = None; depth = 0 })) (start ∙ sym c.loop-body.invariant.binders) c.requires.stands

pub module-requires-clause-outermost : goal.module-requires-clause-outermost
module-requires-clause-outermost c = ap (λ (b : Scoped). b.scope) c.loop-body.invariant.binders

pub module-requires-clause-ready : goal.module-requires-clause-ready
module-requires-clause-ready c =
    subst (IsModuleReady c.args.text.now.names.now c.args.text.now.forms.now) (sym c.body-item.is)
    (c.requires.ready c.loop-body.body-index c.body-item.result c.loop-body-test.true)

pub returns-clause-shows : goal.returns-clause-shows
returns-clause-shows c =
    let from = c.args.from.now in
    let e : take c.loop-body.body-index from ≡ from = take_all c.loop-body.body-index from c.loop-body-test.false in
    (subst (λ (xs : List RawModule). AreModulesRead c.args.text.now.names.now c.args.text.now.forms.now (place_in c.args.text.now.modules.now.places)
    c.args.met.now.names c.args.bank.now c.loop-body.bank xs c.loop-body.put.items c.loop-body.met.names) e c.loop-body.invariant.read).show

pub returns-clause-names : goal.returns-clause-names
returns-clause-names c =
    let from = c.args.from.now in
    let e : take c.loop-body.body-index from ≡ from = take_all c.loop-body.body-index from c.loop-body-test.false in
    (subst (λ (xs : List RawModule). AreModulesRead c.args.text.now.names.now c.args.text.now.forms.now (place_in c.args.text.now.modules.now.places)
    c.args.met.now.names c.args.bank.now c.loop-body.bank xs c.loop-body.put.items c.loop-body.met.names) e c.loop-body.invariant.read).met

pub returns-clause-inside : goal.returns-clause-inside
returns-clause-inside c =
    let from = c.args.from.now in
    let e : take c.loop-body.body-index from ≡ from = take_all c.loop-body.body-index from c.loop-body-test.false in
    (subst (λ (xs : List RawModule). AreModulesRead c.args.text.now.names.now c.args.text.now.forms.now (place_in c.args.text.now.modules.now.places)
    c.args.met.now.names c.args.bank.now c.loop-body.bank xs c.loop-body.put.items c.loop-body.met.names) e c.loop-body.invariant.read).inside

pub returns-clause-keeps : goal.returns-clause-keeps
returns-clause-keeps c = c.loop-body.invariant.read.keeps
