use Rattle.std.proofs.Common.{◌-◌, arith}
use Rattle.ll_make.proofs.Growing.{chain_step}
use Rattle.ll_make.proofs.programs.write_chain.Goals as goal

pub loop-k-preserved : goal.loop-k-preserved
loop-k-preserved c =
    chain_step c.loop-k.text.items c.write_link.new.text.items _ c.loop-k.k (c.loop-k.k - 1) (omega arith) c.in_ok-write_link.ensures c.loop-k.invariant
