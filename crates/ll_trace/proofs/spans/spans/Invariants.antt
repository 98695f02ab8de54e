use Rattle.std.proofs.Common.{◌≡◌, ◌≤◌, ℕ, List, length, drop, map}
use Rattle.std.specs.Prelude.{Some}
use Rattle.ll_bank.specs.Nodes.{Nodes}
use Rattle.ll_laws.specs.Line.{trees_of}
use Rattle.ll_laws.specs.Shows.{Tree}
use Rattle.ll_laws.specs.ShownLines.{line_of}
use Rattle.ll_trace.specs.Spans.{SpansFit}
use Rattle.ll_trace.proofs.spans.spans.Given as goal

abbrev pub invariant-loop-at : goal.invariant-loop-at
invariant-loop-at l = record {
  size : length l.spans.items ≡ length l.rules;
  fits : (bank : Nodes) (at : ℕ) (ts : List Tree) → l.at ≤ at → trees_of (drop at (map (line_of bank) l.rules)) ≡ Some ts → SpansFit l.spans.items at ts;
}
