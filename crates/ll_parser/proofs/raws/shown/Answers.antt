use Rattle.std.proofs.Common.{refl}
use Rattle.ll_parser.proofs.raws.shown.Goals as goal

pub returns-in-True : goal.returns-in-True
returns-in-True c = rw c.in-True.is refl

pub returns-in-Erase : goal.returns-in-Erase
returns-in-Erase c = rw c.in-Erase.is refl

pub returns-in-Braces : goal.returns-in-Braces
returns-in-Braces c = rw c.in-Braces.is refl

pub returns-in-Forall : goal.returns-in-Forall
returns-in-Forall c = rw c.in-Forall.is refl

pub returns-in-Exists : goal.returns-in-Exists
returns-in-Exists c = rw c.in-Exists.is refl

pub returns-in-Load : goal.returns-in-Load
returns-in-Load c = rw c.in-Load.is refl

pub returns-in-Binary : goal.returns-in-Binary
returns-in-Binary c = rw c.in-Binary.is refl

pub returns-in-Head : goal.returns-in-Head
returns-in-Head c = rw c.in-Head.is refl

pub returns-in-Any : goal.returns-in-Any
returns-in-Any c = rw c.in-Any.is refl

pub returns-in-Is : goal.returns-in-Is
returns-in-Is c = rw c.in-Is.is refl

pub returns-in-Less : goal.returns-in-Less
returns-in-Less c = rw c.in-Less.is refl

pub returns-in-Most : goal.returns-in-Most
returns-in-Most c = rw c.in-Most.is refl
