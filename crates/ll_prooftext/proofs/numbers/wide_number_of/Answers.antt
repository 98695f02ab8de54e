use Rattle.ll_prooftext.proofs.spelling.Numerals.{wide_utf8}
use Rattle.ll_prooftext.proofs.numbers.wide_number_of.Goals as goal

pub returns-in-Err : goal.returns-in-Err
returns-in-Err c = λ h. c.in-Err.ensures.cases.0 (wide_utf8 c.args.bytes.now h)
