use Rattle.std.proofs.Common.{◌≤◌, ◌+◌, length}
use Rattle.ll_parser.specs.Raw.{ProgramTree}
use Rattle.ll_session.specs.Queries.{IsProgramOf}
use Rattle.ll_session.specs.Replied.{IsAnsweredTo}
use Rattle.ll_session.proofs.answering.answer_lines.Given as goal

abbrev pub invariant-loop-rest : goal.invariant-loop-rest
invariant-loop-rest g l = record {
  answered : (program : ProgramTree) → IsProgramOf program l.loaded
      → IsAnsweredTo g.R.Replies.takes g.R.Replies.breaks program l.text l.bound l.initial.replies l.number l.count l.rest l.replies;
  faults_kept : g.R.Replies.faults l.initial.replies ≤ g.R.Replies.faults l.replies;
  few : l.number + length l.rest ≤ 16777216;
  fewer : l.count ≤ l.number;
}

abbrev pub decreases-loop-rest : goal.decreases-loop-rest
decreases-loop-rest g l = length l.rest
