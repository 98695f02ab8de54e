use Rattle.std.proofs.Common.{refl}
use Rattle.ll_freeze.specs.declared.machine.Machine.{Machine}
use Rattle.ll_freeze.proofs.Marks.{undone, cut_front, back_to}
use Rattle.ll_freeze.proofs.machine.Machine.undo.Goals as goal

pub returns : goal.returns
returns c =
    let old = c.args.self.now in let k = c.args.mark in
    let new : Machine =
    record {
      problem = old.problem;
      modules = old.modules;
      store = c.undo.new.self;
      context = c.undo-2.new.self;
      agenda = c.cut.new.self;
      top = k.top;
      left = k.left;
      eigens = k.eigens;
      terms = c.truncate.new.self;
      steps = c.truncate-2.new.self;
      args = old.args;
    } in
    let a = cut_front k.agenda old.agenda new.agenda c.cut.ensures.keeps.more c.cut.ensures.keeps.frames c.cut.ensures.left in
    record {
      parts = back_to old new k refl refl c.undo.ensures.state c.undo-2.ensures.state a refl refl refl c.truncate.ensures.items c.truncate-2.ensures.items;
      marks = λ j b g. undone old new k j c.requires b g refl refl (c.undo.ensures.marks j.store b.store g.store)
          (c.undo-2.ensures.marks j.context b.context g.context) a c.truncate.ensures.items c.truncate-2.ensures.items;
    }
