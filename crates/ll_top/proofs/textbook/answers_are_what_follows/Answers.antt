use Rattle.ll_top.proofs.following.Numbered.{numberless_follows}
use Rattle.ll_top.proofs.following.Covering.{exactly_answered, follows_is_shown, shown_follows, follows_is_answered, instances_follow, answers_follow}
use Rattle.ll_top.proofs.following.Covering.{nothing_follows}
use Rattle.ll_top.proofs.textbook.answers_are_what_follows.Goals as goal

pub returns-clause-shown : goal.returns-clause-shown
returns-clause-shown c = follows_is_shown

pub returns-clause-answered : goal.returns-clause-answered
returns-clause-answered c = follows_is_answered c.search_is_complete.ensures.answered

pub returns-clause-instances : goal.returns-clause-instances
returns-clause-instances c = instances_follow c.answers_are_shown.ensures

pub returns-clause-answers : goal.returns-clause-answers
returns-clause-answers c = answers_follow c.answers_are_shown.ensures

pub returns-clause-nothing : goal.returns-clause-nothing
returns-clause-nothing c = nothing_follows c.search_is_complete.ensures.nothing

pub returns-clause-numberless : goal.returns-clause-numberless
returns-clause-numberless c = numberless_follows

pub returns-clause-unlabelled : goal.returns-clause-unlabelled
returns-clause-unlabelled c = shown_follows

pub returns-clause-exact : goal.returns-clause-exact
returns-clause-exact c = exactly_answered c.answers_are_shown.ensures c.search_is_complete.ensures.answered
