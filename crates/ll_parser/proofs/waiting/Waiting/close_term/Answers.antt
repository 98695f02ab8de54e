use Rattle.std.proofs.Common.{refl}
use Rattle.std.proofs.lemmas.Result.{IfOk-from_err}
use Rattle.ll_parser.specs.declared.waiting.Frame.TheVariants as frame
use Rattle.ll_parser.specs.Flat.{term_whole, close_term}
use Rattle.ll_parser.specs.Waiting.{tree, Dropped}
use Rattle.ll_parser.proofs.machines.Closing.{closes-none, closes-not, no-term}
use Rattle.ll_parser.proofs.machines.Dropped.{some-frame, dropped, still-node, closes-atom, closes-application, closes-group}
use Rattle.ll_parser.proofs.waiting.Waiting.close_term.Goals as goal

pub returns-in-None-clause-gives : goal.returns-in-None-clause-gives
returns-in-None-clause-gives c = closes-none close_term c.args.self.now (rw c.deref.ensures.value at c.in-None.ensures) (λ r. refl)
    (λ texts. tree texts c.args.self.now c.args.term)

pub returns-in_default-clause-gives : goal.returns-in_default-clause-gives
returns-in_default-clause-gives c =
    closes-not close_term c.args.self.now c.in-Some.frame (rw c.deref.ensures.value at c.in-Some.ensures)
    (no-term c.in-Some.frame c.in_default.not-Atom c.in_default.not-Application c.in_default.not-Group) (λ texts. tree texts c.args.self.now c.args.term)

pub drop_newest-requires : goal.drop_newest-requires
drop_newest-requires c = some-frame c.args.self.now c.in-Some.frame (rw c.deref.ensures.value at c.in-Some.ensures)

pub drop_newest-requires-in-Application : goal.drop_newest-requires-in-Application
drop_newest-requires-in-Application c = some-frame c.args.self.now c.in-Some.frame (rw c.deref.ensures.value at c.in-Some.ensures)

pub drop_newest-requires-in-Group : goal.drop_newest-requires-in-Group
drop_newest-requires-in-Group c = some-frame c.args.self.now c.in-Some.frame (rw c.deref.ensures.value at c.in-Some.ensures)

pub push_argument-requires : goal.push_argument-requires
push_argument-requires c =
    let d : Dropped c.args.self.now c.drop_newest.new.self (frame.Atom c.in-Atom.word c.in-Atom.from) =
    dropped c.args.self.now c.drop_newest.new.self c.in-Some.frame (frame.Atom c.in-Atom.word c.in-Atom.from)
    (rw c.deref.ensures.value at c.in-Some.ensures) c.in-Atom.is c.drop_newest.ensures.gives in
    still-node c.args.self.now c.drop_newest.new.self (frame.Atom c.in-Atom.word c.in-Atom.from) c.args.term d c.requires.term

pub push_argument-requires-in-Application : goal.push_argument-requires-in-Application
push_argument-requires-in-Application c =
    let d : Dropped c.args.self.now c.drop_newest-in-Application.new.self (frame.Application c.in-Application.word c.in-Application.from) =
    dropped c.args.self.now c.drop_newest-in-Application.new.self c.in-Some.frame (frame.Application c.in-Application.word c.in-Application.from)
    (rw c.deref.ensures.value at c.in-Some.ensures) c.in-Application.is c.drop_newest-in-Application.ensures.gives in
    still-node c.args.self.now c.drop_newest-in-Application.new.self (frame.Application c.in-Application.word c.in-Application.from) c.args.term d
    c.requires.term

pub returns-in_ok-push_argument-in-Atom-clause-gives : goal.returns-in_ok-push_argument-in-Atom-clause-gives
returns-in_ok-push_argument-in-Atom-clause-gives c =
    let d : Dropped c.args.self.now c.drop_newest.new.self (frame.Atom c.in-Atom.word c.in-Atom.from) =
    dropped c.args.self.now c.drop_newest.new.self c.in-Some.frame (frame.Atom c.in-Atom.word c.in-Atom.from)
    (rw c.deref.ensures.value at c.in-Some.ensures) c.in-Atom.is c.drop_newest.ensures.gives in
    closes-atom c.args.self.now c.drop_newest.new.self c.requires.fits c.args.term c.push_argument.new.self c.in_ok-push_argument-in-Atom.ensures.gives
    c.in-Atom.word c.in-Atom.from d

pub returns-in_ok-push_argument-in-Application-clause-gives : goal.returns-in_ok-push_argument-in-Application-clause-gives
returns-in_ok-push_argument-in-Application-clause-gives c =
    let d : Dropped c.args.self.now c.drop_newest-in-Application.new.self (frame.Application c.in-Application.word c.in-Application.from) =
    dropped c.args.self.now c.drop_newest-in-Application.new.self c.in-Some.frame (frame.Application c.in-Application.word c.in-Application.from)
    (rw c.deref.ensures.value at c.in-Some.ensures) c.in-Application.is c.drop_newest-in-Application.ensures.gives in
    closes-application c.args.self.now c.drop_newest-in-Application.new.self c.requires.fits c.args.term c.push_argument-in-Application.new.self
    c.in_ok-push_argument-in-Application.ensures.gives c.in-Application.word c.in-Application.from d

pub returns-in-Group-clause-gives : goal.returns-in-Group-clause-gives
returns-in-Group-clause-gives c =
    let d : Dropped c.args.self.now c.drop_newest-in-Group.new.self frame.Group =
    dropped c.args.self.now c.drop_newest-in-Group.new.self c.in-Some.frame frame.Group
    (rw c.deref.ensures.value at c.in-Some.ensures) c.in-Group.is c.drop_newest-in-Group.ensures.gives in
    closes-group c.args.self.now c.drop_newest-in-Group.new.self c.requires.fits c.args.term frame.Group term_whole d (d.can c.requires.fits).fits
    c.requires.term (λ texts. close_term) (λ texts r. refl)

pub returns-in_ok-push_argument-in-Atom-clause-grows : goal.returns-in_ok-push_argument-in-Atom-clause-grows
returns-in_ok-push_argument-in-Atom-clause-grows c = λ later e.
    c.drop_newest.ensures.grows later (c.in_ok-push_argument-in-Atom.ensures.grows later e)

pub returns-in_ok-push_argument-in-Application-clause-grows : goal.returns-in_ok-push_argument-in-Application-clause-grows
returns-in_ok-push_argument-in-Application-clause-grows c = λ later e.
    c.drop_newest-in-Application.ensures.grows later (c.in_ok-push_argument-in-Application.ensures.grows later e)

pub returns-in-Group-clause-grows : goal.returns-in-Group-clause-grows
returns-in-Group-clause-grows c = c.drop_newest-in-Group.ensures.grows

pub returns-in_err-push_argument-in-Atom-clause-gives : goal.returns-in_err-push_argument-in-Atom-clause-gives
returns-in_err-push_argument-in-Atom-clause-gives c = IfOk-from_err c.from_residual.result _ c.from_residual.ensures.0

pub returns-in_err-push_argument-in-Atom-clause-grows : goal.returns-in_err-push_argument-in-Atom-clause-grows
returns-in_err-push_argument-in-Atom-clause-grows c = IfOk-from_err c.from_residual.result _ c.from_residual.ensures.0

pub returns-in_err-push_argument-in-Application-clause-gives : goal.returns-in_err-push_argument-in-Application-clause-gives
returns-in_err-push_argument-in-Application-clause-gives c =
    IfOk-from_err c.from_residual-in_err-push_argument-in-Application.result _ c.from_residual-in_err-push_argument-in-Application.ensures.0

pub returns-in_err-push_argument-in-Application-clause-grows : goal.returns-in_err-push_argument-in-Application-clause-grows
returns-in_err-push_argument-in-Application-clause-grows c =
    IfOk-from_err c.from_residual-in_err-push_argument-in-Application.result _ c.from_residual-in_err-push_argument-in-Application.ensures.0
