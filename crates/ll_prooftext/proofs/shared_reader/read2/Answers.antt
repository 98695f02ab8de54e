use Rattle.std.proofs.lemmas.Result.{err_from_is_err_and}
use Rattle.ll_prooftext.proofs.shared_reader.read2.Goals as goal

pub fill-requires : goal.fill-requires
fill-requires c = record {
  short = c.requires.short;
  room = c.requires.room;
  rows = c.new-reading.ensures.rows;
  asked = c.new-reading.ensures.asked;
  nodes = c.new-reading.ensures.nodes;
  lacking = c.new-reading.ensures.lacking;
}

pub returns-in_err-fill-clause-ok : goal.returns-in_err-fill-clause-ok
returns-in_err-fill-clause-ok c = let p = err_from_is_err_and c.from_residual.result c.from_residual.ensures.1 in rw p.1 tt

pub returns-in_err-fill-clause-names : goal.returns-in_err-fill-clause-names
returns-in_err-fill-clause-names c = let p = err_from_is_err_and c.from_residual.result c.from_residual.ensures.1 in rw p.1 tt

pub returns-in_err-fill-clause-err : goal.returns-in_err-fill-clause-err
returns-in_err-fill-clause-err c = let p = err_from_is_err_and c.from_residual.result c.from_residual.ensures.1 in rw (p.1, p.2) c.in_err-fill.ensures.err

pub returns-in_err-fill-clause-grows : goal.returns-in_err-fill-clause-grows
returns-in_err-fill-clause-grows c = c.fill.ensures.grows

pub invariant_of-result : goal.invariant_of-result
invariant_of-result c = (c.in_ok-fill.ensures.terms, c.in_ok-fill.ensures.rules)

pub returns-clause-ok : goal.returns-clause-ok
returns-clause-ok c = c.in_ok-fill.ensures.ok

pub returns-clause-names : goal.returns-clause-names
returns-clause-names c = c.in_ok-fill.ensures.names

pub returns-clause-grows : goal.returns-clause-grows
returns-clause-grows c = c.fill.ensures.grows

pub returns-clause-err : goal.returns-clause-err
returns-clause-err c = _
