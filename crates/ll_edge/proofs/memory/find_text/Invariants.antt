use Rattle.std.proofs.Common.{◌≡◌, drop}
use Rattle.ll_edge.specs.Texts.{text_of}
use Rattle.ll_edge.specs.Memory.{texts_shown}
use Rattle.ll_edge.proofs.memory.find_text.Given as goal

abbrev pub invariant-loop-other : goal.invariant-loop-other
invariant-loop-other l = text_of (texts_shown l.texts) l.name ≡ text_of (texts_shown (drop l.other-index l.texts)) l.name
