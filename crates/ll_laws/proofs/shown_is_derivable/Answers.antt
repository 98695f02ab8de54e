use Rattle.ll_laws.proofs.derivations.DeriveLaw.{derive}
use Rattle.ll_laws.proofs.derivations.Lines.{shown-derivable}
use Rattle.ll_laws.proofs.shown_is_derivable.Goals as goal

pub returns-clause-tree : goal.returns-clause-tree
returns-clause-tree c = derive

pub returns-clause-query : goal.returns-clause-query
returns-clause-query c = shown-derivable
