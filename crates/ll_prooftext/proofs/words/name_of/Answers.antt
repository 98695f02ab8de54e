use Rattle.ll_prooftext.proofs.spelling.Spellings.{name_utf8}
use Rattle.ll_prooftext.proofs.words.name_of.Goals as goal

pub returns-in-Err-clause-is : goal.returns-in-Err-clause-is
returns-in-Err-clause-is c = λ h. c.in-Err.ensures.cases.0 (name_utf8 c.args.bytes.now h.spelled)

pub returns-then-bytes-gt-LONGEST_NAME-clause-plain : goal.returns-then-bytes-gt-LONGEST_NAME-clause-plain
returns-then-bytes-gt-LONGEST_NAME-clause-plain c = _

pub returns-in-Err-clause-plain : goal.returns-in-Err-clause-plain
returns-in-Err-clause-plain c = _
