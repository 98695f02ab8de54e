use Rattle.ll_session.specs.Queries.{IsProgramOf}
use Rattle.ll_session.specs.Replied.{Answers, StopsShort}
use Rattle.ll_session.proofs.Replying.{err-at, ok-at, none-begun}
use Rattle.ll_session.proofs.answering.session.Goals as goal

pub answer_lines-requires-clause-loaded : goal.answer_lines-requires-clause-loaded
answer_lines-requires-clause-loaded g c = (_, record { whole = c.requires.whole; faultless = c.requires.faultless; is = c.in-Ok.ensures.part })

pub returns-in-Ok-clause-answers : goal.returns-in-Ok-clause-answers
returns-in-Ok-clause-answers g c =
    ok-at (λ program. IsProgramOf program c.in-Ok.loaded) (λ program count.
    Answers g.R.Replies.takes g.R.Replies.breaks program c.args.text.now c.args.bound c.args.replies.now count c.answer_lines.new.replies) _ _
    (record { whole = c.requires.whole; faultless = c.requires.faultless; is = c.in-Ok.ensures.part }) c.answer_lines.ensures.answers

pub returns-in-Ok-clause-refused : goal.returns-in-Ok-clause-refused
returns-in-Ok-clause-refused g c =
    err-at (λ program. IsProgramOf program c.in-Ok.loaded) (λ program.
    StopsShort g.R.Replies.takes g.R.Replies.breaks program c.args.text.now c.args.bound c.args.replies.now c.answer_lines.new.replies) _ _
    (record { whole = c.requires.whole; faultless = c.requires.faultless; is = c.in-Ok.ensures.part }) c.answer_lines.ensures.refused

pub returns-in-Err-clause-refused : goal.returns-in-Err-clause-refused
returns-in-Err-clause-refused g c = none-begun g.R.Replies.takes g.R.Replies.breaks _ c.args.text.now c.args.bound c.args.replies.now
    (c.one_session.ensures.some _ c.requires.faultless c.args.bound)

pub returns-in-Err-clause-answers : goal.returns-in-Err-clause-answers
returns-in-Err-clause-answers g c = _
