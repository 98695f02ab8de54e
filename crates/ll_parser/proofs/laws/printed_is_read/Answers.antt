use Rattle.ll_parser.proofs.printing.WrittenRead.{written-read}
use Rattle.ll_parser.proofs.laws.printed_is_read.Goals as goal

pub returns : goal.returns
returns c = written-read
