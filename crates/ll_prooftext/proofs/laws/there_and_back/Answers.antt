use Rattle.ll_prooftext.proofs.unambiguous.OneText2.{there_and_back}
use Rattle.ll_prooftext.proofs.laws.there_and_back.Goals as goal

pub returns : goal.returns
returns c = there_and_back
