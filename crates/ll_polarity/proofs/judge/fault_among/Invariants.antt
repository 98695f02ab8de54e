use Rattle.std.proofs.Common.{◌≡◌, List, [], map, drop}
use Rattle.ll_parser.specs.Nodes.{shown_module}
use Rattle.ll_polarity.specs.Scope.{Binder}
use Rattle.ll_polarity.specs.Faults.{Heading, modules_faults}
use Rattle.ll_polarity.specs.Headings.{AreFound}
use Rattle.ll_polarity.proofs.judge.fault_among.Given as goal

abbrev pub invariant-loop-module : goal.invariant-loop-module
invariant-loop-module l = record {
  faults : (ms : List Heading) → AreFound l.source.headings.now.params ms
      → modules_faults ms (map (λ (b : Binder). b.text) l.earlier.scope)
      (map (shown_module l.source.names.now l.source.forms.now) (drop l.module-index l.modules))
      ≡ modules_faults ms [] (map (shown_module l.source.names.now l.source.forms.now) l.modules);
  texts : l.earlier.texts ≡ l.source.names.now;
  binders : l.binders ≡ record { texts = l.source.names.now; scope = [] };
}
