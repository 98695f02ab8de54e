use Rattle.std.proofs.Common.{ap, ◌∙◌, length, arith}
use Rattle.std.proofs.lemmas.List.{length-take-le}
use Rattle.ll_agenda.proofs.Lists.{Extends-cut, IsWellFounded-cut}
use Rattle.ll_agenda.proofs.agenda.Agenda.cut.Goals as goal

pub invariant_of-self : goal.invariant_of-self
invariant_of-self g c =
    let v = ap length c.self.view_is in
    IsWellFounded-cut c.args.len c.self.inside.frames.items _ c.self.invariant (omega (arith, c.requires)) c.truncate.ensures.items

pub returns-clause-left : goal.returns-clause-left
returns-clause-left g c =
    let v = ap length c.self.view_is in
    ap length c.truncate.ensures.items ∙ length-take-le c.args.len c.self.inside.frames.items (omega (arith, c.requires))

pub returns-clause-keeps : goal.returns-clause-keeps
returns-clause-keeps g c = Extends-cut c.args.len c.self.inside.frames.items _ _ c.truncate.ensures.items c.self.view_is
