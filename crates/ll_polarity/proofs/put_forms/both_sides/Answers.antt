use Rattle.std.proofs.Common.{sym, subst, ap, ◌∙◌}
use Rattle.std.proofs.lemmas.Result.{IfOk-from_err}
use Rattle.ll_bank.specs.Nodes.{ShowsTerm}
use Rattle.ll_bank.proofs.CallerLemmas.{ShowsTerm-extends, Extends-trans}
use Rattle.ll_parser.specs.Nodes.{raw_at}
use Rattle.ll_polarity.specs.Reading.{Met}
use Rattle.ll_polarity.specs.Built.{built_term}
use Rattle.ll_polarity.specs.Standing.{met_of, around, HasRoom}
use Rattle.ll_polarity.specs.Frames.{left_built}
use Rattle.ll_polarity.specs.Grounds.{ground}
use Rattle.ll_polarity.proofs.putting.Calling.{longer_built, room_before}
use Rattle.ll_polarity.specs.Spots.{texts_of, forms_of}
use Rattle.ll_polarity.proofs.put_forms.both_sides.Goals as goal

pub term-requires-clause-room : goal.term-requires-clause-room
term-requires-clause-room c =
    let g = ground c.args.spot.now.text.now in
    let a = around c.args.spot.now.place c.args.spot.now.binders.now.scope in
    room_before (longer_built a (left_built g a (met_of g.texts c.args.met.now) c.args.left).met (raw_at g.texts g.forms c.args.right.0)) c.requires.room

pub returns-clause-left : goal.returns-clause-left
returns-clause-left c = ShowsTerm-extends c.term-2.ensures.keeps c.in_ok-left.ensures.shows

pub returns-in_err-left-clause-left : goal.returns-in_err-left-clause-left
returns-in_err-left-clause-left c = IfOk-from_err c.from_residual.result _ c.from_residual.ensures.0

pub returns-in_err-left-clause-met : goal.returns-in_err-left-clause-met
returns-in_err-left-clause-met c = IfOk-from_err c.from_residual.result _ c.from_residual.ensures.0

pub returns-in_err-left-clause-right : goal.returns-in_err-left-clause-right
returns-in_err-left-clause-right c = IfOk-from_err c.from_residual.result _ c.from_residual.ensures.0

pub returns-in_err-right-clause-left : goal.returns-in_err-right-clause-left
returns-in_err-right-clause-left c = IfOk-from_err c.from_residual-in_err-right.result _ c.from_residual-in_err-right.ensures.0

pub returns-in_err-right-clause-met : goal.returns-in_err-right-clause-met
returns-in_err-right-clause-met c = IfOk-from_err c.from_residual-in_err-right.result _ c.from_residual-in_err-right.ensures.0

pub returns-in_err-right-clause-right : goal.returns-in_err-right-clause-right
returns-in_err-right-clause-right c = IfOk-from_err c.from_residual-in_err-right.result _ c.from_residual-in_err-right.ensures.0

pub term-requires-clause-stands : goal.term-requires-clause-stands
term-requires-clause-stands c = c.requires.stands

pub term-requires-clause-ready : goal.term-requires-clause-ready
term-requires-clause-ready c = c.requires.left

pub term-requires-2-clause-stands : goal.term-requires-2-clause-stands
term-requires-2-clause-stands c = c.requires.stands

pub term-requires-2-clause-ready : goal.term-requires-2-clause-ready
term-requires-2-clause-ready c = c.requires.right

-- the right side stands behind what was met in the left one
pub term-requires-2-clause-room : goal.term-requires-2-clause-room
term-requires-2-clause-room c =
    let a = around c.args.spot.now.place c.args.spot.now.binders.now.scope in
    let raw = raw_at (texts_of c.args.spot.now) (forms_of c.args.spot.now) c.args.right.0 in
    subst (λ (m : Met). HasRoom (built_term a m raw).met) (sym c.in_ok-left.ensures.met) c.requires.room

pub returns-clause-right : goal.returns-clause-right
returns-clause-right c =
    let a = around c.args.spot.now.place c.args.spot.now.binders.now.scope in
    let raw = raw_at (texts_of c.args.spot.now) (forms_of c.args.spot.now) c.args.right.0 in
    subst (λ (m : Met). ShowsTerm c.term-2.new.bank c.in_ok-right.right.0 (built_term a m raw).it) c.in_ok-left.ensures.met c.in_ok-right.ensures.shows

pub returns-clause-met : goal.returns-clause-met
returns-clause-met c =
    let a = around c.args.spot.now.place c.args.spot.now.binders.now.scope in
    let raw = raw_at (texts_of c.args.spot.now) (forms_of c.args.spot.now) c.args.right.0 in
    c.in_ok-right.ensures.met ∙ ap (λ (m : Met). (built_term a m raw).met) c.in_ok-left.ensures.met

pub returns-clause-keeps : goal.returns-clause-keeps
returns-clause-keeps c = Extends-trans c.term.ensures.keeps c.term-2.ensures.keeps

pub returns-in_err-left-clause-keeps : goal.returns-in_err-left-clause-keeps
returns-in_err-left-clause-keeps c = c.term.ensures.keeps

pub returns-in_err-right-clause-keeps : goal.returns-in_err-right-clause-keeps
returns-in_err-right-clause-keeps c = Extends-trans c.term.ensures.keeps c.term-2.ensures.keeps
