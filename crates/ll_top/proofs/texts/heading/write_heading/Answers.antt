use Rattle.std.proofs.Common.{append_assoc}
use Rattle.ll_top.proofs.texts.heading.write_heading.Goals as goal

pub returns-clause-line : goal.returns-clause-line
returns-clause-line g c = rw append_assoc (rw c.format-digits.ensures.text at c.write_parts.ensures.line)

pub returns-clause-prefix : goal.returns-clause-prefix
returns-clause-prefix g c = rw append_assoc (rw c.format-digits.ensures.text at c.write_parts.ensures.prefix)
