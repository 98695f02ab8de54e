use Rattle.std.proofs.Common.{ap, ◌∙◌}
use Rattle.ll_freeze.specs.Parts.{base_of}
use Rattle.ll_freeze.proofs.onward.store_at.Goals as goal

pub returns : goal.returns
returns c = ap base_of c.parted-rest.ensures ∙ ap base_of c.undo.ensures.parts
