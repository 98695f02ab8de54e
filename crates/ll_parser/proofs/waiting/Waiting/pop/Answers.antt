use Rattle.ll_parser.proofs.machines.Newest.{takes-none, takes-not, takes-other}
use Rattle.ll_parser.specs.declared.waiting.Frame.TheVariants as frame
use Rattle.ll_parser.proofs.machines.Dropped.{some-frame, dropped}
use Rattle.ll_parser.proofs.machines.Handing.{popped}
use Rattle.ll_parser.proofs.waiting.Waiting.pop.Goals as goal

pub returns-in-None-clause-none : goal.returns-in-None-clause-none
returns-in-None-clause-none c = takes-none c.args.level c.args.self.now (rw c.deref.ensures.value at c.in-None.ensures)

pub returns-else-takes-clause-none : goal.returns-else-takes-clause-none
returns-else-takes-clause-none c = takes-not c.args.level c.args.self.now c.in-Some.frame c.in-Front.front (rw c.deref.ensures.value at c.in-Some.ensures)
    c.in-Front.is c.if-takes.ensures

pub returns-in_default : goal.returns-in_default
returns-in_default c = record {
  none = takes-other c.args.level c.args.self.now c.in-Some.frame (rw c.deref.ensures.value at c.in-Some.ensures) c.in_default.not-Front;
  some = tt;
  grows = λ later e. e;
}

pub drop_newest-requires : goal.drop_newest-requires
drop_newest-requires c = some-frame c.args.self.now c.in-Some.frame (rw c.deref.ensures.value at c.in-Some.ensures)

pub returns-in-None-clause-some : goal.returns-in-None-clause-some
returns-in-None-clause-some c = tt

pub returns-in-None-clause-grows : goal.returns-in-None-clause-grows
returns-in-None-clause-grows c = λ later e. e

pub returns-then-takes-clause-none : goal.returns-then-takes-clause-none
returns-then-takes-clause-none c = tt

pub returns-then-takes-clause-some : goal.returns-then-takes-clause-some
returns-then-takes-clause-some c =
    popped c.args.level c.args.self.now c.drop_newest.new.self c.in-Front.front c.requires
    (dropped c.args.self.now c.drop_newest.new.self c.in-Some.frame (frame.Front c.in-Front.front)
    (rw c.deref.ensures.value at c.in-Some.ensures) c.in-Front.is c.drop_newest.ensures.gives) c.if-takes.ensures

pub returns-then-takes-clause-grows : goal.returns-then-takes-clause-grows
returns-then-takes-clause-grows c = c.drop_newest.ensures.grows

pub returns-else-takes-clause-some : goal.returns-else-takes-clause-some
returns-else-takes-clause-some c = tt

pub returns-else-takes-clause-grows : goal.returns-else-takes-clause-grows
returns-else-takes-clause-grows c = λ later e. e
