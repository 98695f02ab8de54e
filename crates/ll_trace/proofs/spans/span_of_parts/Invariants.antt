use Rattle.std.proofs.Common.{◌≡◌, List, drop, map}
use Rattle.ll_laws.specs.Line.{Cuts, cut_parts}
use Rattle.ll_laws.specs.Shows.{Tree, Parts}
use Rattle.ll_laws.specs.ShownLines.{part_line}
use Rattle.ll_trace.specs.Spans.{SpansFit}
use Rattle.ll_trace.proofs.Spanning.{PartsLeft}
use Rattle.ll_trace.proofs.spans.span_of_parts.Given as goal

abbrev pub invariant-loop-part : goal.invariant-loop-part
invariant-loop-part l =
    (ts us : List Tree) (ps : Parts) → cut_parts (map part_line l.parts) ts ≡ Cuts ps us → SpansFit l.spans l.first ts
    → PartsLeft l.spans l.first l.span (map part_line (drop l.part-index l.parts)) ps us
