use Rattle.std.proofs.Common.{◌≡◌, List, map, drop}
use Rattle.ll_parser.specs.Nodes.{shown_clause}
use Rattle.ll_polarity.specs.Faults.{Heading, clauses_faults}
use Rattle.ll_polarity.specs.Headings.{AreFound}
use Rattle.ll_polarity.proofs.judge.clauses_fault.Given as goal

abbrev pub invariant-loop-clause : goal.invariant-loop-clause
invariant-loop-clause l = record {
  faults : (ms : List Heading) → AreFound l.source.headings.now.params ms
      → clauses_faults ms l.fn.binders.scope (map (shown_clause l.source.names.now l.source.forms.now) (drop l.clause-index l.clauses))
      ≡ clauses_faults ms l.fn.binders.scope (map (shown_clause l.source.names.now l.source.forms.now) l.clauses);
  binders : l.binders ≡ l.fn.binders;
}
