use Rattle.ll_top.proofs.RewritingBack.{read-back}
use Rattle.ll_top.proofs.rewriting.written_is_read_back.Goals as goal

pub returns : goal.returns
returns c = read-back (record { first = c.over_other_names.ensures.first; second = c.over_other_names.ensures.second })
