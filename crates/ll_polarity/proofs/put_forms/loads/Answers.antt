use Rattle.std.proofs.Common.{◌≡◌, ◌+◌, ◌*◌, ◌<◌, refl, sym, subst, ap, ◌∙◌, arith}
use Rattle.std.proofs.lemmas.Result.{IfOk-from_err}
use Rattle.std.proofs.lemmas.Option.{get_or_from_slice_get}
use Rattle.std.specs.Prelude.{[]}
use Rattle.ll_bank.specs.Nodes.{term_trees}
use Rattle.ll_lexer.specs.declared.Place.{Place}
use Rattle.ll_parser.specs.Nodes.{raw_at, identifier}
use Rattle.ll_parser.specs.Raw.{Raw, RawList, load}
use Rattle.ll_parser.specs.Tokens.{Identifier}
use Rattle.ll_parser.specs.Weights.{weight}
use Rattle.ll_polarity.specs.declared.put_forms.Frame.TheVariants as frame
use Rattle.ll_polarity.specs.Named.{IsNamed}
use Rattle.ll_polarity.specs.Built.{built_terms, built_form, arguments}
use Rattle.ll_polarity.specs.Places.{place_in}
use Rattle.ll_polarity.specs.Standing.{around, met_of, HasRoom}
use Rattle.ll_polarity.specs.Grounds.{ground}
use Rattle.ll_polarity.proofs.putting.Framing.{part_ready, begun_read, load_read, room_load, always}
use Rattle.ll_polarity.specs.Spots.{texts_of, forms_of}
use Rattle.ll_polarity.proofs.put_forms.loads.Goals as goal

-- less is left to do in the goal of a load
load_less : (raw : Raw) (there : Place) (name : Identifier) (args : RawList) (body : Raw) → raw ≡ load there name args body
    → 1 + 5 * weight body < 5 * weight raw
load_less raw there name args body e = let w = ap weight e in omega arith

pub arguments_of-requires-clause-room : goal.arguments_of-requires-clause-room
arguments_of-requires-clause-room c =
    let l = c.requires.load in let a = around c.args.spot.now.place c.args.spot.now.binders.now.scope in
    let met = met_of (texts_of c.args.spot.now) c.args.met.now in let places = place_in c.args.spot.now.text.now.modules.now.places in
    subst (λ (r : Raw). HasRoom (built_form places a met r).met → HasRoom (built_terms a met (arguments r)).met) (sym l.2)
    (room_load places a met l.0 (identifier (texts_of c.args.spot.now) c.args.call.now.name) l.1
    (raw_at (texts_of c.args.spot.now) (forms_of c.args.spot.now) c.args.call.now.goal.0)) c.requires.room

pub returns-clause-step : goal.returns-clause-step
returns-clause-step c =
    let l = c.requires.load in let a = around c.args.spot.now.place c.args.spot.now.binders.now.scope in let texts = (texts_of c.args.spot.now) in
    let forms = (forms_of c.args.spot.now) in let raw = raw_at texts forms c.args.call.now.at.0 in let body = raw_at texts forms c.args.call.now.goal.0 in
    let named = subst IsNamed l.2 c.requires.ready.named in
    let t = get_or_from_slice_get texts c.args.call.now.name.name c.text.result.now [] c.text.ensures in
    let args = c.in_ok-args.args in
    begun_read c.waits.result (ground c.args.spot.now.text.now) c.arguments_of.new.bank a a (met_of texts c.args.met.now) (met_of texts c.arguments_of.new.met)
    c.args.frames.now.items c.waits.new.frames.items (frame.Load c.place_of-module.result args) c.args.call.now.goal refl
    (load_read (place_in c.args.spot.now.text.now.modules.now.places) a (met_of texts c.args.met.now) (met_of texts c.arguments_of.new.met) raw l.0
    (identifier texts c.args.call.now.name) l.1 body c.place_of-module.result (term_trees c.arguments_of.new.bank args.items) l.2
    (c.place_of-module.ensures ∙ ap (place_in c.args.spot.now.text.now.modules.now.places) (sym t)) c.in_ok-args.ensures.show c.in_ok-args.ensures.met)
    c.in_ok-args.ensures.inside (part_ready texts forms c.args.call.now.at.0 c.args.call.now.goal.0 c.requires.goal c.requires.ready.inside named.2)
    (load_less raw l.0 (identifier texts c.args.call.now.name) l.1 body l.2) c.waits.ensures.step c.waits.ensures.frames (always c.waits.result _ refl)

pub returns-in_err-args-clause-step : goal.returns-in_err-args-clause-step
returns-in_err-args-clause-step c = IfOk-from_err c.from_residual.result _ c.from_residual.ensures.0
