use Rattle.ll_top.proofs.checks.finding.write_too_long.Goals as goal

pub returns-clause-line : goal.returns-clause-line
returns-clause-line g c = rw (c.format-node_digits.ensures.text, c.format-bound_digits.ensures.text) at c.write_too_long_fields.ensures.line
