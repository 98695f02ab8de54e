use Rattle.std.proofs.Common.{refl}
use Rattle.ll_parser.specs.Flat.{close_brace}
use Rattle.ll_parser.specs.Waiting.{tree}
use Rattle.ll_parser.proofs.machines.Closing.{closes-none, closes-not, no-brace}
use Rattle.std.proofs.Common.{Some}
use Rattle.std.proofs.lemmas.Result.{IfOk-weaker}
use Rattle.ll_parser.specs.declared.waiting.Frame.TheVariants as frame
use Rattle.ll_parser.specs.Raw.{braces}
use Rattle.ll_parser.specs.Flat.{whole}
use Rattle.ll_parser.specs.Waiting.{waiting, Dropped}
use Rattle.ll_parser.proofs.machines.Dropped.{some-frame, dropped, still-node, same-gives}
use Rattle.ll_parser.proofs.machines.Handing.{brace-closes}
use Rattle.ll_parser.proofs.waiting.Waiting.close_brace.Goals as goal

pub returns-in-None-clause-gives : goal.returns-in-None-clause-gives
returns-in-None-clause-gives c = closes-none close_brace c.args.self.now (rw c.deref.ensures.value at c.in-None.ensures) (λ r. refl)
    (λ texts. tree texts c.args.self.now c.args.formula)

pub returns-in_default-clause-gives : goal.returns-in_default-clause-gives
returns-in_default-clause-gives c = closes-not close_brace c.args.self.now c.in-Some.frame (rw c.deref.ensures.value at c.in-Some.ensures)
    (no-brace c.in-Some.frame c.in_default.not-Brace) (λ texts. tree texts c.args.self.now c.args.formula)

pub drop_newest-requires : goal.drop_newest-requires
drop_newest-requires c = some-frame c.args.self.now c.in-Some.frame (rw c.deref.ensures.value at c.in-Some.ensures)

pub primary-requires-clause-fits : goal.primary-requires-clause-fits
primary-requires-clause-fits c =
    let d : Dropped c.args.self.now c.drop_newest.new.self (frame.Brace c.in-Brace.at) =
    dropped c.args.self.now c.drop_newest.new.self c.in-Some.frame (frame.Brace c.in-Brace.at)
    (rw c.deref.ensures.value at c.in-Some.ensures) c.in-Brace.is c.drop_newest.ensures.gives in
    (d.can c.requires.fits).fits

pub primary-requires-clause-parts : goal.primary-requires-clause-parts
primary-requires-clause-parts c =
    let d : Dropped c.args.self.now c.drop_newest.new.self (frame.Brace c.in-Brace.at) =
    dropped c.args.self.now c.drop_newest.new.self c.in-Some.frame (frame.Brace c.in-Brace.at)
    (rw c.deref.ensures.value at c.in-Some.ensures) c.in-Brace.is c.drop_newest.ensures.gives in
    still-node c.args.self.now c.drop_newest.new.self (frame.Brace c.in-Brace.at) c.args.formula d c.requires.formula

pub returns-in-Brace-clause-gives : goal.returns-in-Brace-clause-gives
returns-in-Brace-clause-gives c =
    let old = c.args.self.now in
    let mid = c.drop_newest.new.self in
    let d : Dropped c.args.self.now c.drop_newest.new.self (frame.Brace c.in-Brace.at) =
    dropped c.args.self.now c.drop_newest.new.self c.in-Some.frame (frame.Brace c.in-Brace.at)
    (rw c.deref.ensures.value at c.in-Some.ensures) c.in-Brace.is c.drop_newest.ensures.gives in
    IfOk-weaker c.primary.result _ _
    (same-gives c.primary.new.self (λ texts. Some (whole (braces c.in-Brace.at (tree texts mid c.args.formula)) (waiting texts mid)))
    (λ texts. close_brace (tree texts old c.args.formula) (waiting texts old)) (brace-closes old mid c.args.formula c.in-Brace.at d))
    c.primary.ensures.gives

pub returns-in-Brace-clause-grows : goal.returns-in-Brace-clause-grows
returns-in-Brace-clause-grows c = IfOk-weaker c.primary.result _ _
    (λ o g later e. c.drop_newest.ensures.grows later (g later e)) c.primary.ensures.grows

pub returns-in-None-clause-grows : goal.returns-in-None-clause-grows
returns-in-None-clause-grows c = λ later e. e

pub returns-in_default-clause-grows : goal.returns-in_default-clause-grows
returns-in_default-clause-grows c = λ later e. e
