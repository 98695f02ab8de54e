use Rattle.std.proofs.Common.{ap, Some}
use Rattle.ll_edge.proofs.CallerLemmas.{taken_front}
use Rattle.ll_top.specs.forms.Words.{shown_make}
use Rattle.ll_top.proofs.outcomes.OutcomeLemmas.{made-ends, made-cut}
use Rattle.ll_top.proofs.making.serve_make.Goals as goal

pub returns-in-Ok-write_all-clause-ends : goal.returns-in-Ok-write_all-clause-ends
returns-in-Ok-write_all-clause-ends g c =
    made-ends (shown_make c.args.make) _ _ _ (ap Some (rw (c.deref.ensures.value, c.in-Ok.ensures) at c.in-Ok-write_all.ensures.takes))

pub returns-clause-ends : goal.returns-clause-ends
returns-clause-ends g c =
    made-cut (shown_make c.args.make) _ _ _ c.in-Err.ensures.failed
    (taken_front (rw (c.deref.ensures.value, c.in-Ok.ensures) at c.in-Err.ensures.takes_front))
