use Rattle.std.proofs.Common.{◌≡◌, take, map}
use Rattle.ll_polarity.specs.Copied.{module_row}
use Rattle.ll_polarity.proofs.copying.copied_modules.Given as goal

abbrev pub invariant-loop-module : goal.invariant-loop-module
invariant-loop-module l = map module_row l.copy.items ≡ map module_row (take l.module-index l.modules)
