use Rattle.std.proofs.Common.{sym}
use Rattle.ll_resources.specs.Seen.{resource}
use Rattle.ll_freeze.proofs.CallerLemmas.{context_same}
use Rattle.ll_engine.proofs.inferences.TakenLemmas.{can_pick, picked_dead}
use Rattle.ll_engine.proofs.take.use_entry.Goals as goal

pub pick_at-requires-clause-can : goal.pick_at-requires-clause-can
pick_at-requires-clause-can c = can_pick c.args.context.now.present.entries c.args.label (resource c.args.entry) c.requires.found c.if-entry.true

pub returns-else-entry-clause-used : goal.returns-else-entry-clause-used
returns-else-entry-clause-used c =
    let same = picked_dead c.args.context.now.present.entries c.args.label (resource c.args.entry) c.requires.found c.if-entry.false in
    λ i. record {
      entries = sym same i;
      flag = c.args.context.now.present.flag;
      next = c.args.context.now.present.next;
      kept = c.args.context.now.present.kept;
      keys = c.args.context.now.present.keys;
    }

pub returns-else-entry-clause-marks : goal.returns-else-entry-clause-marks
returns-else-entry-clause-marks c = context_same c.args.context.now
