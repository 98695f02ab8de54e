use Rattle.std.proofs.Common.{refl}
use Rattle.ll_prooftext.proofs.reading.RowsRead.{bare_kind}
use Rattle.ll_prooftext.proofs.rows.has_number.Goals as goal

pub returns-in-Lolli : goal.returns-in-Lolli
returns-in-Lolli c = rw c.in-Lolli.is refl

pub returns-in-Imp : goal.returns-in-Imp
returns-in-Imp c = rw c.in-Imp.is refl

pub returns-in-Forall : goal.returns-in-Forall
returns-in-Forall c = rw c.in-Forall.is refl

pub returns-in_default : goal.returns-in_default
returns-in_default c = bare_kind c.args.word c.requires c.in_default.not-Lolli c.in_default.not-Imp c.in_default.not-Forall
