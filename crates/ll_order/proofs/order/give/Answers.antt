use Rattle.ll_order.proofs.order.give.Goals as goal

pub returns-in-Ok-clause-refused : goal.returns-in-Ok-clause-refused
returns-in-Ok-clause-refused g c = _

pub returns-clause-given : goal.returns-clause-given
returns-clause-given g c = _

pub returns-clause-answers : goal.returns-clause-answers
returns-clause-answers g c = _

pub returns-clause-reached : goal.returns-clause-reached
returns-clause-reached g c = _
