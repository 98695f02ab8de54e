use Rattle.ll_bank.proofs.closing.term.closed_head.Goals as goal

pub closed_bound-requires-clause-inside : goal.closed_bound-requires-clause-inside
closed_bound-requires-clause-inside c = c.requires.inside

pub closed_bound-requires-clause-values : goal.closed_bound-requires-clause-values
closed_bound-requires-clause-values c = c.requires.values

pub closed_bound-requires-clause-places : goal.closed_bound-requires-clause-places
closed_bound-requires-clause-places c = c.requires.places

pub share_term-requires-clause-inside : goal.share_term-requires-clause-inside
share_term-requires-clause-inside c = c.requires.inside

pub share_term-requires-clause-places : goal.share_term-requires-clause-places
share_term-requires-clause-places c = c.requires.places
