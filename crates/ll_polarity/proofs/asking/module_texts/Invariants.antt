use Rattle.std.proofs.Common.{◌≡◌, map, take}
use Rattle.std.specs.String.{string_bytes}
use Rattle.ll_polarity.specs.Numbered.{text_of}
use Rattle.ll_polarity.proofs.asking.module_texts.Given as goal

abbrev pub invariant-loop-module : goal.invariant-loop-module
invariant-loop-module l = map string_bytes l.texts.items ≡ map (λ m. text_of l.names m.name) (take l.module-index l.modules)
