use Rattle.ll_top.proofs.checks.finding.write_counts.Goals as goal

pub returns-clause-line : goal.returns-clause-line
returns-clause-line g c = rw c.format-digits.ensures.text at c.write_parts.ensures.line

pub returns-clause-prefix : goal.returns-clause-prefix
returns-clause-prefix g c = rw c.format-digits.ensures.text at c.write_parts.ensures.prefix
