use Rattle.ll_prooftext.proofs.reading.LinesOver.{line_none}
use Rattle.ll_prooftext.proofs.shared_lines.line_word.Goals as goal

pub returns-in_err-node_word : goal.returns-in_err-node_word
returns-in_err-node_word c = rw c.from_residual.ensures (line_none c.args.stage c.args.word.now c.as_slice.result.now c.as_slice-2.result.now c.if-eq.ensures
    c.as_slice.ensures c.if-eq-2.ensures c.as_slice-2.ensures c.in_err-node_word.ensures)
