use Rattle.ll_top.proofs.respelling.Carried.{text-on, spelled-read}
use Rattle.ll_top.proofs.respelling.Dealt.{answers-spelled}
use Rattle.ll_top.proofs.spelled.answers_are_spelled.Goals as goal

pub returns-clause-on : goal.returns-clause-on
returns-clause-on c = text-on

pub returns-clause-spelled : goal.returns-clause-spelled
returns-clause-spelled c = answers-spelled

pub returns-clause-read : goal.returns-clause-read
returns-clause-read c = spelled-read
