use Rattle.ll_unify.proofs.equate.unify.Goals as goal

pub solve-requires-clause-table : goal.solve-requires-clause-table
solve-requires-clause-table g c = c.requires.table

pub solve-requires-clause-pairs : goal.solve-requires-clause-pairs
solve-requires-clause-pairs g c = c.requires.pairs

pub solve-requires-clause-left : goal.solve-requires-clause-left
solve-requires-clause-left g c = c.requires.left

pub solve-requires-clause-right : goal.solve-requires-clause-right
solve-requires-clause-right g c = c.requires.right
