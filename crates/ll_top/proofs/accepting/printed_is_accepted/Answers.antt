use Rattle.ll_top.proofs.Accepted.{accepted}
use Rattle.ll_top.proofs.accepting.printed_is_accepted.Goals as goal

pub returns : goal.returns
returns c = accepted c.answers_are_shown.ensures c.answers_are_spelled.ensures.spelled c.answers_are_spelled.ensures.read
