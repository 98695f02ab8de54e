use Rattle.ll_bind.proofs.head.EquationDefault.default.Goals as goal

pub returns : goal.returns
returns c = _
