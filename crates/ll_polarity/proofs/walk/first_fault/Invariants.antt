use Rattle.std.proofs.Common.{◌≡◌, List}
use Rattle.ll_parser.specs.Nodes.{raw_at}
use Rattle.ll_polarity.specs.Faults.{Heading, form_faults}
use Rattle.ll_polarity.specs.Headings.{AreFound}
use Rattle.ll_polarity.specs.Pending.{side_of, pending_faults, scope_after, AreReady, pending_size}
use Rattle.ll_polarity.proofs.walk.first_fault.Given as goal

abbrev pub invariant-loop-part : goal.invariant-loop-part
invariant-loop-part l = record {
  faults : (ms : List Heading) → AreFound l.source.headings.now.params ms
      → pending_faults l.source.names.now l.source.forms.now ms l.binders.scope l.parts
      ≡ form_faults ms (side_of l.fn.side) l.fn.binders.scope (raw_at l.source.names.now l.source.forms.now l.fn.at.0);
  ready : AreReady l.source.names.now l.source.forms.now l.parts;
  scope : scope_after l.binders.scope l.parts ≡ l.fn.binders.scope;
  texts : l.binders.texts ≡ l.source.names.now;
}

abbrev pub decreases-loop-part : goal.decreases-loop-part
decreases-loop-part l = pending_size l.source.names.now l.source.forms.now l.parts
