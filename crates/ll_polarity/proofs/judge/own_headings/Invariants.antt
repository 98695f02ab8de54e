use Rattle.std.proofs.Common.{map, take}
use Rattle.ll_polarity.specs.Headings.{AreFound}
use Rattle.ll_polarity.specs.Ready.{raw_heading}
use Rattle.ll_polarity.proofs.judge.own_headings.Given as goal

abbrev pub invariant-loop-module : goal.invariant-loop-module
invariant-loop-module l = AreFound l.headings.params (map (raw_heading l.names) (take l.module-index l.modules))
