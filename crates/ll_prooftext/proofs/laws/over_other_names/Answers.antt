use Rattle.ll_prooftext.proofs.renaming.Twins.{first-twin, second-twin}
use Rattle.ll_prooftext.proofs.laws.over_other_names.Goals as goal

pub returns-clause-first : goal.returns-clause-first
returns-clause-first c names others d distinct differ s a = first-twin names others distinct differ d s a

pub returns-clause-second : goal.returns-clause-second
returns-clause-second c names others d distinct differ s short a = second-twin names others distinct differ d s short a
