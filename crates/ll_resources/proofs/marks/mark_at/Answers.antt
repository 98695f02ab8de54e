use Rattle.std.proofs.Common.{false, sym}
use Rattle.std.proofs.lemmas.List.{get_or-reverse}
use Rattle.ll_resources.proofs.marks.mark_at.Goals as goal

pub returns-then-from_front-live : goal.returns-then-from_front-live
returns-then-from_front-live c = sym (get_or-reverse c.args.live.now c.args.from_front false c.if-from_front-live.true)
