use Rattle.std.proofs.Common.{vec_len}
use Rattle.ll_crew.proofs.crowd.+fn-work_all-join+arg2+work_all.Given as goal

abbrev pub decreases-join+arg2 : goal.decreases-join+arg2
decreases-join+arg2 g l = vec_len l.crowd.seats

abbrev pub decreases-work_all : goal.decreases-work_all
decreases-work_all g l = vec_len l.crowd.seats
