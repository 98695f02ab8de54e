use Rattle.std.specs.Prelude.{Some}
use Rattle.std.proofs.Common.{◌≡◌, ℕ, ◌≤◌, ◌+◌, length}
use Rattle.ll_parser.specs.Raw.{ProgramTree}
use Rattle.ll_session.specs.Queries.{IsProgramOf}
use Rattle.ll_session.specs.Replied.{IsAnsweredTo}
use Rattle.ll_top.specs.SessionEnds.{WritesReply, CutsReply}
use Rattle.ll_top.proofs.session.reply_to_lines.Given as goal

abbrev pub invariant-loop-rest : goal.invariant-loop-rest
invariant-loop-rest g l = record {
  answered : let s = l.base.session.now in (program : ProgramTree) → IsProgramOf program l.base.loaded.now
      → (count : ℕ) × IsAnsweredTo (WritesReply s.proofs s.queries.now) (CutsReply s.proofs s.queries.now) program l.text s.bound
      (Some (g.O.Sink.taken l.initial.sink)) l.number count l.rest (Some (g.O.Sink.taken l.sink));
  faults_kept : g.O.Sink.faults l.initial.sink ≤ g.O.Sink.faults l.sink;
  quiet : g.O.Sink.faults l.sink ≡ g.O.Sink.faults l.initial.sink;
  few : l.number + length l.rest ≤ 16777216;
}

abbrev pub decreases-loop-rest : goal.decreases-loop-rest
decreases-loop-rest g l = length l.rest
