use Rattle.std.proofs.Common.{rules}
use Rattle.test_search.proofs.FitLemmas.{can-pick_front}
use Rattle.test_search.proofs.resources.make_call.Goals as goal

pub pick-requires : goal.pick-requires
pick-requires g c = can-pick_front c.args.context.now.present _ c.entry-front.ensures (search rules)
