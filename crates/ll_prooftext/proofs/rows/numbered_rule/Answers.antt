use Rattle.std.proofs.Common.{refl}
use Rattle.ll_prooftext.proofs.reading.RowsRead.{forall_kind}
use Rattle.ll_prooftext.proofs.rows.numbered_rule.Goals as goal

pub returns-in-Lolli : goal.returns-in-Lolli
returns-in-Lolli c = rw c.in-Lolli.is (record { good = λ names bank l. l; is = λ names bank. refl })

pub returns-in-Imp : goal.returns-in-Imp
returns-in-Imp c = rw c.in-Imp.is (record { good = λ names bank l. l; is = λ names bank. refl })

pub returns-in_default : goal.returns-in_default
returns-in_default c = rw (forall_kind c.args.word c.requires c.in_default.not-Lolli c.in_default.not-Imp)
    (record { good = λ names bank l. l; is = λ names bank. refl })
