use Rattle.ll_parser.proofs.waiting.Waiting.step.Goals as goal

pub returns-in-Operand-clause-gives : goal.returns-in-Operand-clause-gives
returns-in-Operand-clause-gives c = rw c.in-Operand.is c.begin_operand.ensures.gives

pub returns-in-Operand-clause-grows : goal.returns-in-Operand-clause-grows
returns-in-Operand-clause-grows c = c.begin_operand.ensures.grows

pub returns-in-Atom-clause-gives : goal.returns-in-Atom-clause-gives
returns-in-Atom-clause-gives c = rw c.in-Atom.is c.after_atom.ensures.gives

pub returns-in-Atom-clause-grows : goal.returns-in-Atom-clause-grows
returns-in-Atom-clause-grows c = c.after_atom.ensures.grows

pub returns-in-Formula-clause-gives : goal.returns-in-Formula-clause-gives
returns-in-Formula-clause-gives c = rw c.in-Formula.is c.after_operand.ensures.gives

pub returns-in-Formula-clause-grows : goal.returns-in-Formula-clause-grows
returns-in-Formula-clause-grows c = c.after_operand.ensures.grows

pub returns-in-Slash-clause-gives : goal.returns-in-Slash-clause-gives
returns-in-Slash-clause-gives c = rw c.in-Slash.is c.begin_scope.ensures.gives

pub returns-in-Slash-clause-grows : goal.returns-in-Slash-clause-grows
returns-in-Slash-clause-grows c = c.begin_scope.ensures.grows

pub returns-in-Term-clause-gives : goal.returns-in-Term-clause-gives
returns-in-Term-clause-gives c = rw c.in-Term.is c.begin_term.ensures.gives

pub returns-in-Term-clause-grows : goal.returns-in-Term-clause-grows
returns-in-Term-clause-grows c = c.begin_term.ensures.grows

pub returns-in-Application-clause-gives : goal.returns-in-Application-clause-gives
returns-in-Application-clause-gives c = rw c.in-Application.is c.after_application.ensures.gives

pub returns-in-Application-clause-grows : goal.returns-in-Application-clause-grows
returns-in-Application-clause-grows c = c.after_application.ensures.grows

pub returns-in-WholeTerm-clause-gives : goal.returns-in-WholeTerm-clause-gives
returns-in-WholeTerm-clause-gives c = rw c.in-WholeTerm.is c.after_term.ensures.gives

pub returns-in-WholeTerm-clause-grows : goal.returns-in-WholeTerm-clause-grows
returns-in-WholeTerm-clause-grows c = c.after_term.ensures.grows

pub returns-in-Plain-clause-gives : goal.returns-in-Plain-clause-gives
returns-in-Plain-clause-gives c = rw c.in-Plain.is c.after_plain.ensures.gives

pub returns-in-Plain-clause-grows : goal.returns-in-Plain-clause-grows
returns-in-Plain-clause-grows c = c.after_plain.ensures.grows

pub returns-in-LeadUnit-clause-gives : goal.returns-in-LeadUnit-clause-gives
returns-in-LeadUnit-clause-gives c = rw c.in-LeadUnit.is c.begin_lead_unit.ensures.gives

pub returns-in-LeadUnit-clause-grows : goal.returns-in-LeadUnit-clause-grows
returns-in-LeadUnit-clause-grows c = c.begin_lead_unit.ensures.grows

pub returns-in-Lead-clause-gives : goal.returns-in-Lead-clause-gives
returns-in-Lead-clause-gives c = rw c.in-Lead.is c.after_lead.ensures.gives

pub returns-in-Lead-clause-grows : goal.returns-in-Lead-clause-grows
returns-in-Lead-clause-grows c = c.after_lead.ensures.grows

pub returns-in-Unit-clause-gives : goal.returns-in-Unit-clause-gives
returns-in-Unit-clause-gives c = rw c.in-Unit.is c.begin_unit.ensures.gives

pub returns-in-Unit-clause-grows : goal.returns-in-Unit-clause-grows
returns-in-Unit-clause-grows c = c.begin_unit.ensures.grows

pub returns-in-Expression-clause-gives : goal.returns-in-Expression-clause-gives
returns-in-Expression-clause-gives c = rw c.in-Expression.is c.after_unit.ensures.gives

pub returns-in-Expression-clause-grows : goal.returns-in-Expression-clause-grows
returns-in-Expression-clause-grows c = c.after_unit.ensures.grows

pub begin_operand-requires : goal.begin_operand-requires
begin_operand-requires c = rw c.in-Operand.is at c.requires

pub after_atom-requires : goal.after_atom-requires
after_atom-requires c = rw c.in-Atom.is at c.requires

pub after_operand-requires-clause-fits : goal.after_operand-requires-clause-fits
after_operand-requires-clause-fits c = (rw c.in-Formula.is at c.requires).0

pub after_operand-requires-clause-operand : goal.after_operand-requires-clause-operand
after_operand-requires-clause-operand c = (rw c.in-Formula.is at c.requires).1

pub begin_scope-requires : goal.begin_scope-requires
begin_scope-requires c = rw c.in-Slash.is at c.requires

pub begin_term-requires : goal.begin_term-requires
begin_term-requires c = rw c.in-Term.is at c.requires

pub after_application-requires : goal.after_application-requires
after_application-requires c = rw c.in-Application.is at c.requires

pub after_term-requires-clause-fits : goal.after_term-requires-clause-fits
after_term-requires-clause-fits c = (rw c.in-WholeTerm.is at c.requires).0

pub after_term-requires-clause-term : goal.after_term-requires-clause-term
after_term-requires-clause-term c = (rw c.in-WholeTerm.is at c.requires).1

pub after_plain-requires-clause-fits : goal.after_plain-requires-clause-fits
after_plain-requires-clause-fits c = (rw c.in-Plain.is at c.requires).0

pub after_plain-requires-clause-unit : goal.after_plain-requires-clause-unit
after_plain-requires-clause-unit c = (rw c.in-Plain.is at c.requires).1

pub begin_lead_unit-requires : goal.begin_lead_unit-requires
begin_lead_unit-requires c = rw c.in-LeadUnit.is at c.requires

pub after_lead-requires-clause-fits : goal.after_lead-requires-clause-fits
after_lead-requires-clause-fits c = (rw c.in-Lead.is at c.requires).0

pub after_lead-requires-clause-unit : goal.after_lead-requires-clause-unit
after_lead-requires-clause-unit c = (rw c.in-Lead.is at c.requires).1

pub begin_unit-requires : goal.begin_unit-requires
begin_unit-requires c = rw c.in-Unit.is at c.requires

pub after_unit-requires-clause-fits : goal.after_unit-requires-clause-fits
after_unit-requires-clause-fits c = (rw c.in-Expression.is at c.requires).0

pub after_unit-requires-clause-unit : goal.after_unit-requires-clause-unit
after_unit-requires-clause-unit c = (rw c.in-Expression.is at c.requires).1
