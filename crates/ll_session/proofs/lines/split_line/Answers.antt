use Rattle.std.proofs.Common.{◌∷◌, ◌+◌, ◌-◌, take, drop, length, length-drop, ap, sym, ◌∙◌, arith}
use Rattle.std.proofs.lemmas.List.{take_all}
use Rattle.ll_session.specs.Lines.{lines}
use Rattle.ll_session.proofs.Lining.{line-split, line-alone}
use Rattle.ll_session.proofs.lines.split_line.Goals as goal

pub returns-then-end-text-clause-lines : goal.returns-then-end-text-clause-lines
returns-then-end-text-clause-lines c =
    let text = c.args.text.now in
    let n = c.line_len-end.result in
    let all = take_all (length text - (n + 1)) (drop (n + 1) text) (omega (arith, length-drop (n + 1) text)) in
    line-split text n c.line_len-end.ensures c.if-end-text.true ∙ ap (λ rest. take n text ∷ lines rest) (sym all)

pub returns-else-end-text-clause-lines : goal.returns-else-end-text-clause-lines
returns-else-end-text-clause-lines c = line-alone c.args.text.now c.line_len-end.result c.line_len-end.ensures c.if-end-text.false c.requires
