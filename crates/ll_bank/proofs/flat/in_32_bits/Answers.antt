use Rattle.ll_bank.proofs.flat.in_32_bits.Goals as goal

pub returns-in-Err : goal.returns-in-Err
returns-in-Err c = _
