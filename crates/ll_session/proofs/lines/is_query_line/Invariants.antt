use Rattle.std.proofs.Common.{◌≡◌, drop}
use Rattle.ll_session.specs.Lines.{is_query_line}
use Rattle.ll_session.proofs.lines.is_query_line.Given as goal

abbrev pub invariant-loop-byte : goal.invariant-loop-byte
invariant-loop-byte l = is_query_line (drop l.byte-index l.line) ≡ is_query_line l.line
