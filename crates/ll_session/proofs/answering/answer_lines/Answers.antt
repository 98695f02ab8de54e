use Rattle.std.proofs.Common.{sym, arith, le_refl, le_trans, length}
use Rattle.std.proofs.lemmas.Bool.Decides.{Decides-eqb}
use Rattle.ll_session.proofs.Replying.{none-answered, line-passed, line-answered, line-refused, all-answered}
use Rattle.ll_session.proofs.answering.answer_lines.Goals as goal

pub loop-rest-init : goal.loop-rest-init
loop-rest-init g c = record {
  answered = λ program is. none-answered g.R.Replies.takes g.R.Replies.breaks program c.args.text.now c.args.bound c.args.replies.now;
  faults_kept = le_refl _;
  few = let h = c.requires.text in omega arith;
  fewer = omega arith;
}

pub loop-rest-preserved-in-Ok : goal.loop-rest-preserved-in-Ok
loop-rest-preserved-in-Ok g c =
    let i = c.loop-rest.invariant in record {
      answered = λ program is.
          line-answered g.R.Replies.takes g.R.Replies.breaks program c.args.text.now c.args.bound c.args.replies.now c.loop-rest.number c.loop-rest.count
          c.loop-rest.rest.now c.split_line.result.0.now c.split_line.result.1.now c.loop-rest.replies
          c.split_line.ensures.lines (i.answered program is) (sym c.if-is_query_line.ensures) c.answer_line.new.replies (c.in-Ok.ensures.replies program is);
      faults_kept = le_trans i.faults_kept c.in-Ok.ensures.faults_kept;
      few = let a = i.few in let b = c.split_line.ensures.shorter in omega arith;
      fewer = let a = i.fewer in omega arith;
    }

pub loop-rest-preserved : goal.loop-rest-preserved
loop-rest-preserved g c =
    let i = c.loop-rest.invariant in record {
      answered = λ program is.
          line-passed g.R.Replies.takes g.R.Replies.breaks program c.args.text.now c.args.bound c.args.replies.now c.loop-rest.number c.loop-rest.count
          c.loop-rest.rest.now c.split_line.result.0.now c.split_line.result.1.now c.loop-rest.replies
          c.split_line.ensures.lines (i.answered program is) (sym c.if-is_query_line.ensures);
      faults_kept = i.faults_kept;
      few = let a = i.few in let b = c.split_line.ensures.shorter in omega arith;
      fewer = let a = i.fewer in omega arith;
    }

pub returns-in-Err-clause-refused : goal.returns-in-Err-clause-refused
returns-in-Err-clause-refused g c = λ program is.
    line-refused g.R.Replies.takes g.R.Replies.breaks program c.args.text.now c.args.bound c.args.replies.now c.loop-rest.number c.loop-rest.count
    c.loop-rest.rest.now c.split_line.result.0.now c.split_line.result.1.now c.loop-rest.replies
    c.split_line.ensures.lines (c.loop-rest.invariant.answered program is) (sym c.if-is_query_line.ensures)
    (c.one_session.ensures.some program is.faultless c.args.bound) c.answer_line.new.replies (c.in-Err.ensures.refused program is)

pub returns-clause-answers : goal.returns-clause-answers
returns-clause-answers g c = λ program is.
    all-answered g.R.Replies.takes g.R.Replies.breaks program c.args.text.now c.args.bound c.args.replies.now c.loop-rest.number c.loop-rest.count
    c.loop-rest.rest.now c.loop-rest.replies ((Decides-eqb (length c.loop-rest.rest.now) 0).0 (sym c.loop-rest-test.ensures))
    (c.loop-rest.invariant.answered program is)
