use Rattle.std.proofs.Common.{◌+◌, ◌<◌, refl, sym, subst, arith}
use Rattle.std.proofs.lemmas.Result.{IfOk-from_err}
use Rattle.std.proofs.lemmas.List.{nil_from_length}
use Rattle.ll_bank.proofs.CallerLemmas.{Extends-refl, Extends-trans}
use Rattle.ll_polarity.specs.declared.put_terms.Turn.{Turn}
use Rattle.ll_polarity.proofs.putting.Calling.{calls_left, turn_left, at_turn, room_on_the_way, way_begun, way_resumed, way_given, way_ends}
use Rattle.ll_polarity.proofs.putting.Calling.{less_begun, less_resumed, less_given}
use Rattle.ll_polarity.specs.Spots.{texts_of, forms_of}
use Rattle.ll_polarity.proofs.put_terms.term.Goals as goal

pub turns-init : goal.turns-init
turns-init c =
    rw c.new-calls.ensures.items (record { means = refl; waiting = tt; turn = c.requires.ready; keeps = Extends-refl c.args.bank.now })

pub begun-requires-clause-room : goal.begun-requires-clause-room
begun-requires-clause-room c =
    room_on_the_way (at_turn c.in-Read.is c.turns.invariant) c.requires.room

pub turns-smaller-in_ok-turn-in-Read : goal.turns-smaller-in_ok-turn-in-Read
turns-smaller-in_ok-turn-in-Read c =
    let less = less_begun (texts_of c.args.spot.now) (forms_of c.args.spot.now) c.in-Read.at c.in_ok-turn-in-Read.turn c.in_ok-turn-in-Read.ensures.next in
    subst (λ (t : Turn). calls_left (texts_of c.args.spot.now) (forms_of c.args.spot.now) c.turns.calls.items
    + turn_left (texts_of c.args.spot.now) (forms_of c.args.spot.now) c.in_ok-turn-in-Read.turn < calls_left (texts_of c.args.spot.now)
    (forms_of c.args.spot.now) c.turns.calls.items
    + turn_left (texts_of c.args.spot.now) (forms_of c.args.spot.now) t) (sym c.in-Read.is)
    (omega (arith, less))

pub turns-preserved-in_ok-turn-in-Read : goal.turns-preserved-in_ok-turn-in-Read
turns-preserved-in_ok-turn-in-Read c =
    way_begun (at_turn c.in-Read.is c.turns.invariant) c.in_ok-turn-in-Read.ensures.begun c.in_ok-turn-in-Read.ensures.fits
    c.in_ok-turn-in-Read.ensures.keeps

pub turns-smaller-in_ok-turn-in-Resume : goal.turns-smaller-in_ok-turn-in-Resume
turns-smaller-in_ok-turn-in-Resume c =
    subst (λ (t : Turn). calls_left (texts_of c.args.spot.now) (forms_of c.args.spot.now) c.resumed.new.calls.items
    + turn_left (texts_of c.args.spot.now) (forms_of c.args.spot.now) c.in_ok-turn-in-Resume.turn < calls_left (texts_of c.args.spot.now)
    (forms_of c.args.spot.now) c.turns.calls.items
    + turn_left (texts_of c.args.spot.now) (forms_of c.args.spot.now) t) (sym c.in-Resume.is)
    (less_resumed (texts_of c.args.spot.now) (forms_of c.args.spot.now) c.turns.bank c.resumed.new.bank c.turns.calls.items c.resumed.new.calls.items
    c.in-Resume.call
    c.in_ok-turn-in-Resume.turn c.in_ok-turn-in-Resume.ensures.resumed)

pub turns-preserved-in_ok-turn-in-Resume : goal.turns-preserved-in_ok-turn-in-Resume
turns-preserved-in_ok-turn-in-Resume c =
    way_resumed c.in_ok-turn-in-Resume.turn (at_turn c.in-Resume.is c.turns.invariant) c.in_ok-turn-in-Resume.ensures.resumed
    c.in_ok-turn-in-Resume.ensures.keeps

pub turns-smaller : goal.turns-smaller
turns-smaller c =
    subst (λ (t : Turn). calls_left (texts_of c.args.spot.now) (forms_of c.args.spot.now) c.pop.new.self.items
    + turn_left (texts_of c.args.spot.now) (forms_of c.args.spot.now) c.in_ok-turn-in-Some.turn < calls_left (texts_of c.args.spot.now)
    (forms_of c.args.spot.now) c.turns.calls.items
    + turn_left (texts_of c.args.spot.now) (forms_of c.args.spot.now) t) (sym c.in-Give.is)
    (less_given (texts_of c.args.spot.now) (forms_of c.args.spot.now) c.turns.calls.items c.pop.new.self.items c.in-Some.call c.in-Give.term
    c.in_ok-turn-in-Some.turn
    c.in-Some.ensures.items c.in_ok-turn-in-Some.ensures)

pub turns-preserved : goal.turns-preserved
turns-preserved c =
    way_given c.in-Some.call c.in_ok-turn-in-Some.turn (at_turn c.in-Give.is c.turns.invariant) c.in-Some.ensures.items
    c.in_ok-turn-in-Some.ensures

pub returns-in_err-turn-in-Read-clause-met : goal.returns-in_err-turn-in-Read-clause-met
returns-in_err-turn-in-Read-clause-met c = IfOk-from_err c.from_residual.result _ c.from_residual.ensures.0

pub returns-in_err-turn-in-Read-clause-shows : goal.returns-in_err-turn-in-Read-clause-shows
returns-in_err-turn-in-Read-clause-shows c = IfOk-from_err c.from_residual.result _ c.from_residual.ensures.0

pub returns-in_err-turn-in-Resume-clause-met : goal.returns-in_err-turn-in-Resume-clause-met
returns-in_err-turn-in-Resume-clause-met c = IfOk-from_err c.from_residual-in_err-turn-in-Resume.result _ c.from_residual-in_err-turn-in-Resume.ensures.0

pub returns-in_err-turn-in-Resume-clause-shows : goal.returns-in_err-turn-in-Resume-clause-shows
returns-in_err-turn-in-Resume-clause-shows c = IfOk-from_err c.from_residual-in_err-turn-in-Resume.result _ c.from_residual-in_err-turn-in-Resume.ensures.0

pub returns-in_err-turn-in-Some-clause-met : goal.returns-in_err-turn-in-Some-clause-met
returns-in_err-turn-in-Some-clause-met c = IfOk-from_err c.from_residual-in_err-turn-in-Some.result _ c.from_residual-in_err-turn-in-Some.ensures.0

pub returns-in_err-turn-in-Some-clause-shows : goal.returns-in_err-turn-in-Some-clause-shows
returns-in_err-turn-in-Some-clause-shows c = IfOk-from_err c.from_residual-in_err-turn-in-Some.result _ c.from_residual-in_err-turn-in-Some.ensures.0

pub begun-requires-clause-stands : goal.begun-requires-clause-stands
begun-requires-clause-stands c = c.requires.stands

pub begun-requires-clause-ready : goal.begun-requires-clause-ready
begun-requires-clause-ready c = (at_turn c.in-Read.is c.turns.invariant).turn

pub resumed-requires-clause-inside : goal.resumed-requires-clause-inside
resumed-requires-clause-inside c = (at_turn c.in-Resume.is c.turns.invariant).turn.ready.inside

pub resumed-requires-clause-args : goal.resumed-requires-clause-args
resumed-requires-clause-args c = (at_turn c.in-Resume.is c.turns.invariant).turn.args

pub returns-in_err-turn-in-Read-clause-keeps : goal.returns-in_err-turn-in-Read-clause-keeps
returns-in_err-turn-in-Read-clause-keeps c = Extends-trans c.turns.invariant.keeps c.begun.ensures.keeps

pub returns-in_err-turn-in-Resume-clause-keeps : goal.returns-in_err-turn-in-Resume-clause-keeps
returns-in_err-turn-in-Resume-clause-keeps c = Extends-trans c.turns.invariant.keeps c.resumed.ensures.keeps

pub returns-in_err-turn-in-Some-clause-keeps : goal.returns-in_err-turn-in-Some-clause-keeps
returns-in_err-turn-in-Some-clause-keeps c = c.turns.invariant.keeps

pub returns-in-None-clause-keeps : goal.returns-in-None-clause-keeps
returns-in-None-clause-keeps c = c.turns.invariant.keeps

pub returns-in-None-clause-shows : goal.returns-in-None-clause-shows
returns-in-None-clause-shows c =
    (way_ends (at_turn c.in-Give.is c.turns.invariant) (nil_from_length c.turns.calls.items (omega (arith, c.in-None.ensures.cases.0)))).0

pub returns-in-None-clause-met : goal.returns-in-None-clause-met
returns-in-None-clause-met c =
    (way_ends (at_turn c.in-Give.is c.turns.invariant) (nil_from_length c.turns.calls.items (omega (arith, c.in-None.ensures.cases.0)))).1
