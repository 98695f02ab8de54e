use Rattle.std.proofs.Common.{refl}
use Rattle.ll_parser.specs.Flat.{close_bracket}
use Rattle.ll_parser.specs.Waiting.{tree}
use Rattle.ll_parser.proofs.machines.Closing.{closes-none, closes-not, no-bracket}
use Rattle.ll_parser.specs.declared.waiting.Frame.TheVariants as frame
use Rattle.ll_parser.specs.Flat.{whole}
use Rattle.ll_parser.specs.Waiting.{Dropped}
use Rattle.ll_parser.proofs.machines.Dropped.{some-frame, dropped, closes-group}
use Rattle.ll_parser.proofs.waiting.Waiting.close_bracket.Goals as goal

pub returns-in-None-clause-gives : goal.returns-in-None-clause-gives
returns-in-None-clause-gives c = closes-none close_bracket c.args.self.now (rw c.deref.ensures.value at c.in-None.ensures) (λ r. refl)
    (λ texts. tree texts c.args.self.now c.args.formula)

pub returns-in_default-clause-gives : goal.returns-in_default-clause-gives
returns-in_default-clause-gives c = closes-not close_bracket c.args.self.now c.in-Some.frame (rw c.deref.ensures.value at c.in-Some.ensures)
    (no-bracket c.in-Some.frame c.in_default.not-Bracket) (λ texts. tree texts c.args.self.now c.args.formula)

pub drop_newest-requires : goal.drop_newest-requires
drop_newest-requires c = some-frame c.args.self.now c.in-Some.frame (rw c.deref.ensures.value at c.in-Some.ensures)

pub returns-in-Bracket-clause-gives : goal.returns-in-Bracket-clause-gives
returns-in-Bracket-clause-gives c =
    let d : Dropped c.args.self.now c.drop_newest.new.self frame.Bracket =
    dropped c.args.self.now c.drop_newest.new.self c.in-Some.frame frame.Bracket
    (rw c.deref.ensures.value at c.in-Some.ensures) c.in-Bracket.is c.drop_newest.ensures.gives in
    closes-group c.args.self.now c.drop_newest.new.self c.requires.fits c.args.formula frame.Bracket whole d (d.can c.requires.fits).fits
    c.requires.formula (λ texts. close_bracket) (λ texts r. refl)

pub returns-in-Bracket-clause-grows : goal.returns-in-Bracket-clause-grows
returns-in-Bracket-clause-grows c = c.drop_newest.ensures.grows

pub returns-in-None-clause-grows : goal.returns-in-None-clause-grows
returns-in-None-clause-grows c = λ later e. e

pub returns-in_default-clause-grows : goal.returns-in_default-clause-grows
returns-in_default-clause-grows c = λ later e. e
