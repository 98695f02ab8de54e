use Rattle.ll_prooftext.proofs.spelling.Numerals.{integer_utf8}
use Rattle.ll_prooftext.proofs.numbers.integer_of.Goals as goal

pub returns-in-Err : goal.returns-in-Err
returns-in-Err c = λ h. c.in-Err.ensures.cases.0 (integer_utf8 c.args.bytes.now h)
