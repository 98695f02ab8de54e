use Rattle.ll_top.proofs.checks.finding.write_covered.Goals as goal

pub returns-clause-line : goal.returns-clause-line
returns-clause-line g c = rw c.format-digits.ensures.text at c.write_parts.ensures.line
