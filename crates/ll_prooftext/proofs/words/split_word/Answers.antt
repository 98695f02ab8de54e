use Rattle.ll_prooftext.specs.Terms.{is_part}
use Rattle.ll_prooftext.proofs.spelling.Cuts.{run_stops}
use Rattle.ll_prooftext.proofs.words.split_word.Goals as goal
use Rattle.ll_list_laws.proofs.CallerLemmas.{run_passes}

pub returns-clause-free : goal.returns-clause-free
returns-clause-free c = rw (c.split_at.ensures.front, c.word_len.ensures.run) (run_passes is_part c.args.bytes.now)

pub returns-clause-stops : goal.returns-clause-stops
returns-clause-stops c = rw (c.split_at.ensures.back, c.word_len.ensures.run) (run_stops is_part c.args.bytes.now)
