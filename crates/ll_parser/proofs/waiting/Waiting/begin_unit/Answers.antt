use Rattle.ll_parser.proofs.waiting.Waiting.begin_unit.Goals as goal

pub returns-in-Name-clause-gives : goal.returns-in-Name-clause-gives
returns-in-Name-clause-gives c = rw c.in-Name.is c.unit.ensures.gives

pub returns-in-Name-clause-grows : goal.returns-in-Name-clause-grows
returns-in-Name-clause-grows c = c.unit.ensures.grows

pub returns-in-Variable-clause-gives : goal.returns-in-Variable-clause-gives
returns-in-Variable-clause-gives c = rw c.in-Variable.is c.unit-in-Variable.ensures.gives

pub returns-in-Variable-clause-grows : goal.returns-in-Variable-clause-grows
returns-in-Variable-clause-grows c = c.unit-in-Variable.ensures.grows

pub returns-in-Any-clause-gives : goal.returns-in-Any-clause-gives
returns-in-Any-clause-gives c = rw c.in-Any.is c.unit-in-Any.ensures.gives

pub returns-in-Any-clause-grows : goal.returns-in-Any-clause-grows
returns-in-Any-clause-grows c = c.unit-in-Any.ensures.grows

pub returns-in-ParenLeft-clause-gives : goal.returns-in-ParenLeft-clause-gives
returns-in-ParenLeft-clause-gives c = rw c.in-ParenLeft.is c.want_unit.ensures.gives

pub returns-in-ParenLeft-clause-grows : goal.returns-in-ParenLeft-clause-grows
returns-in-ParenLeft-clause-grows c = c.want_unit.ensures.grows

pub returns-in-Number-clause-grows : goal.returns-in-Number-clause-grows
returns-in-Number-clause-grows c = c.unit-in-Number.ensures.grows
