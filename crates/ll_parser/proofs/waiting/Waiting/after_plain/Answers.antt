use Rattle.ll_parser.specs.Waiting.{known, tree, waiting}
use Rattle.ll_parser.proofs.machines.Handing.{no-plain}
use Rattle.ll_parser.proofs.waiting.Waiting.after_plain.Goals as goal

pub returns-in-Star-clause-gives : goal.returns-in-Star-clause-gives
returns-in-Star-clause-gives c = rw c.in-Star.is c.want_lead_unit.ensures.gives

pub returns-in-Star-clause-grows : goal.returns-in-Star-clause-grows
returns-in-Star-clause-grows c = c.want_lead_unit.ensures.grows

pub returns-in-Plus-clause-gives : goal.returns-in-Plus-clause-gives
returns-in-Plus-clause-gives c = rw c.in-Plus.is c.want_lead_unit-in-Plus.ensures.gives

pub returns-in-Plus-clause-grows : goal.returns-in-Plus-clause-grows
returns-in-Plus-clause-grows c = c.want_lead_unit-in-Plus.ensures.grows

pub returns-in-Minus-clause-gives : goal.returns-in-Minus-clause-gives
returns-in-Minus-clause-gives c = rw c.in-Minus.is c.want_lead_unit-in-Minus.ensures.gives

pub returns-in-Minus-clause-grows : goal.returns-in-Minus-clause-grows
returns-in-Minus-clause-grows c = c.want_lead_unit-in-Minus.ensures.grows

pub returns-in-Less-clause-gives : goal.returns-in-Less-clause-gives
returns-in-Less-clause-gives c = rw c.in-Less.is c.want_unit.ensures.gives

pub returns-in-Less-clause-grows : goal.returns-in-Less-clause-grows
returns-in-Less-clause-grows c = c.want_unit.ensures.grows

pub returns-in-Most-clause-gives : goal.returns-in-Most-clause-gives
returns-in-Most-clause-gives c = rw c.in-Most.is c.want_unit-in-Most.ensures.gives

pub returns-in-Most-clause-grows : goal.returns-in-Most-clause-grows
returns-in-Most-clause-grows c = c.want_unit-in-Most.ensures.grows

pub returns-in-Is-clause-gives : goal.returns-in-Is-clause-gives
returns-in-Is-clause-gives c = rw c.in-Is.is c.want_unit-in-Is.ensures.gives

pub returns-in-Is-clause-grows : goal.returns-in-Is-clause-grows
returns-in-Is-clause-grows c = c.want_unit-in-Is.ensures.grows

pub want_lead_unit-requires : goal.want_lead_unit-requires
want_lead_unit-requires c = record { fits = c.requires.fits; frame = c.requires.unit }

pub want_lead_unit-requires-in-Plus : goal.want_lead_unit-requires-in-Plus
want_lead_unit-requires-in-Plus c = record { fits = c.requires.fits; frame = c.requires.unit }

pub want_lead_unit-requires-in-Minus : goal.want_lead_unit-requires-in-Minus
want_lead_unit-requires-in-Minus c = record { fits = c.requires.fits; frame = c.requires.unit }

pub want_unit-requires : goal.want_unit-requires
want_unit-requires c = record { fits = c.requires.fits; frame = c.requires.unit }

pub want_unit-requires-in-Most : goal.want_unit-requires-in-Most
want_unit-requires-in-Most c = record { fits = c.requires.fits; frame = c.requires.unit }

pub want_unit-requires-in-Is : goal.want_unit-requires-in-Is
want_unit-requires-in-Is c = record { fits = c.requires.fits; frame = c.requires.unit }

pub returns-in_default : goal.returns-in_default
returns-in_default c = record {
  gives = λ texts. no-plain c.args.symbol c.in_default.not-Star c.in_default.not-Plus c.in_default.not-Minus c.in_default.not-Less c.in_default.not-Most
      c.in_default.not-Is (known texts) (tree (known texts) c.args.self.now c.args.unit) (waiting (known texts) c.args.self.now);
  grows = λ later e. e;
}
