use Rattle.ll_session.proofs.Questions.{one-problem, one-fault, asks-no-fault, asks-or-fails}
use Rattle.ll_session.proofs.Lining.{one-list, some-list}
use Rattle.ll_session.proofs.laws.one_session.Goals as goal

pub returns-clause-some : goal.returns-clause-some
returns-clause-some c = λ program none. some-list program (asks-or-fails c.one_reading.ensures.tokens c.one_reading.ensures.fault c.one_reading.ensures.not_both
    c.one_query.ensures.either c.one_query.ensures.tree c.one_query.ensures.fault c.one_query.ensures.not_both program none)

pub returns-clause-one : goal.returns-clause-one
returns-clause-one c =
    let r = c.one_reading.ensures in let q = c.one_query.ensures in
    one-list (one-problem r.tokens r.fault r.not_both q.either q.tree q.fault q.not_both)
    (one-fault r.tokens r.fault r.not_both q.either q.tree q.fault q.not_both)
    (asks-no-fault r.tokens r.fault r.not_both q.either q.tree q.fault q.not_both)
