use Rattle.std.proofs.Common.{length, ap, ◌∙◌}
use Rattle.std.proofs.lemmas.Result.{IfOk-weaker}
use Rattle.ll_turn.proofs.turn.lay.Goals as goal

pub returns-clause-table : goal.returns-clause-table
returns-clause-table g c = IfOk-weaker c.new.result _ _ (λ t h. ((h.0, h.1 ∙ ap length c.requires.slots), h.2)) c.new.ensures.ok

pub returns-clause-first : goal.returns-clause-first
returns-clause-first g c = IfOk-weaker c.new.result _ _ (λ t h. h.4) c.new.ensures.ok

pub returns-clause-err : goal.returns-clause-err
returns-clause-err g c = c.new.ensures.err
