use Rattle.std.proofs.Common.{◌≡◌, ◌+◌, ◌++◌, List, drop, map}
use Rattle.std.specs.Prelude.{Option}
use Rattle.ll_laws.specs.Line.{Cuts, cut_parts}
use Rattle.ll_laws.specs.Shows.{Tree, Parts, part_nodes}
use Rattle.ll_laws.specs.ShownLines.{part_line}
use Rattle.ll_trace.specs.declared.picks.Pick.{Pick}
use Rattle.ll_trace.specs.Picks.{picks_of_parts}
use Rattle.ll_trace.specs.Spans.{SpansFit}
use Rattle.ll_trace.proofs.Sharing.{PartsDealt}
use Rattle.ll_trace.proofs.deal.deal_each.Given as goal

abbrev pub invariant-loop-part : goal.invariant-loop-part
invariant-loop-part l =
    (ts us : List Tree) (ps : Parts) (more : List (Option Pick)) → cut_parts (map part_line l.parts) ts ≡ Cuts ps us → SpansFit l.outline.spans.items l.start ts
    → l.end ≡ l.start + part_nodes ps → drop l.start l.outline.uses ≡ picks_of_parts l.level ps ++ more
    → PartsDealt l.outline l.from l.end l.level l.fn.labels.items ps ts us more (map part_line (drop l.part-index l.parts)) l.labels.items l.dealt.items
    l.shares.items
