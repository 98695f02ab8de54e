use Rattle.std.proofs.Common.{refl}
use Rattle.ll_prooftext.proofs.reading.RowsRead.{num_kind}
use Rattle.ll_prooftext.proofs.rows.bare_rule.Goals as goal

pub returns-in-True : goal.returns-in-True
returns-in-True c = rw c.in-True.is (record { good = λ names bank. tt; is = λ names bank. refl })

pub returns-in-Erase : goal.returns-in-Erase
returns-in-Erase c = rw c.in-Erase.is (record { good = λ names bank. tt; is = λ names bank. refl })

pub returns-in-With : goal.returns-in-With
returns-in-With c = rw c.in-With.is (record { good = λ names bank. tt; is = λ names bank. refl })

pub returns-in-Left : goal.returns-in-Left
returns-in-Left c = rw c.in-Left.is (record { good = λ names bank. tt; is = λ names bank. refl })

pub returns-in-Right : goal.returns-in-Right
returns-in-Right c = rw c.in-Right.is (record { good = λ names bank. tt; is = λ names bank. refl })

pub returns-in-Bang : goal.returns-in-Bang
returns-in-Bang c = rw c.in-Bang.is (record { good = λ names bank. tt; is = λ names bank. refl })

pub returns-in-Use : goal.returns-in-Use
returns-in-Use c = rw c.in-Use.is (record { good = λ names bank. tt; is = λ names bank. refl })

pub returns-in_default : goal.returns-in_default
returns-in_default c =
    rw (num_kind c.args.word c.requires c.in_default.not-True c.in_default.not-Erase c.in_default.not-With c.in_default.not-Left c.in_default.not-Right
    c.in_default.not-Bang c.in_default.not-Use) (record { good = λ names bank. tt; is = λ names bank. refl })
