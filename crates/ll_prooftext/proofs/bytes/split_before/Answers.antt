use Rattle.ll_prooftext.specs.Words.{is_not}
use Rattle.ll_prooftext.proofs.spelling.Cuts.{run_stops}
use Rattle.ll_prooftext.proofs.bytes.split_before.Goals as goal
use Rattle.ll_list_laws.proofs.CallerLemmas.{run_passes}

pub returns-clause-free : goal.returns-clause-free
returns-clause-free c = rw (c.split_at.ensures.front, c.len_before.ensures.run) (run_passes (is_not c.args.byte) c.args.bytes.now)

pub returns-clause-stops : goal.returns-clause-stops
returns-clause-stops c = rw (c.split_at.ensures.back, c.len_before.ensures.run) (run_stops (is_not c.args.byte) c.args.bytes.now)
