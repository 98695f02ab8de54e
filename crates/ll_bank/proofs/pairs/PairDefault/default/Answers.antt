use Rattle.ll_bank.proofs.pairs.PairDefault.default.Goals as goal

pub returns : goal.returns
returns c = _
