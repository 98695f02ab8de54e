use Rattle.std.proofs.Common.{◌++◌, codes, decimal}
use Rattle.std.proofs.lemmas.Result.{IfOk-from_err}
use Rattle.ll_laws.specs.Output.{line}
use Rattle.ll_printer.proofs.Parts.{writing-begins, writing-stops}
use Rattle.ll_printer.proofs.Printing.{begins_all}
use Rattle.ll_printer.proofs.LinePieces.{title-1, title-2, title-end}
use Rattle.ll_printer.proofs.answers.title.Goals as goal

pub returns-in_err-extend_from_slice-clause-begun : goal.returns-in_err-extend_from_slice-clause-begun
returns-in_err-extend_from_slice-clause-begun c =
    writing-stops (line (codes "answer " ++ decimal c.args.number)) c.args.out.now.items c.args.out.now.items c.extend_from_slice.new.self.items
    (line (codes "answer " ++ decimal c.args.number))
    (writing-begins (line (codes "answer " ++ decimal c.args.number)) c.args.out.now.items) c.in_err-extend_from_slice.ensures.items

pub returns-in_err-write_number-clause-begun : goal.returns-in_err-write_number-clause-begun
returns-in_err-write_number-clause-begun c =
    writing-stops (line (codes "answer " ++ decimal c.args.number)) c.args.out.now.items c.extend_from_slice.new.self.items c.write_number.new.out.items _
    (title-1 c.args.number c.args.out.now.items c.extend_from_slice.new.self.items c.in_ok-extend_from_slice.ensures.items)
    c.in_err-write_number.ensures.refused

pub returns-in_err-push-clause-begun : goal.returns-in_err-push-clause-begun
returns-in_err-push-clause-begun c =
    writing-stops (line (codes "answer " ++ decimal c.args.number)) c.args.out.now.items c.write_number.new.out.items c.push.new.self.items _
    (title-2 c.args.number c.args.out.now.items c.extend_from_slice.new.self.items c.in_ok-extend_from_slice.ensures.items c.write_number.new.out.items
    c.in_ok-write_number.ensures.text)
    c.in_err-push.ensures.items

pub returns-clause-text : goal.returns-clause-text
returns-clause-text c =
    title-end c.args.number c.args.out.now.items c.extend_from_slice.new.self.items c.in_ok-extend_from_slice.ensures.items c.write_number.new.out.items
    c.in_ok-write_number.ensures.text c.push.new.self.items c.in_ok-push.ensures.items

pub returns-clause-begun : goal.returns-clause-begun
returns-clause-begun c =
    begins_all (line (codes "answer " ++ decimal c.args.number)) c.args.out.now.items c.push.new.self.items
    (title-end c.args.number c.args.out.now.items c.extend_from_slice.new.self.items c.in_ok-extend_from_slice.ensures.items c.write_number.new.out.items
    c.in_ok-write_number.ensures.text c.push.new.self.items c.in_ok-push.ensures.items)

pub returns-in_err-extend_from_slice-clause-text : goal.returns-in_err-extend_from_slice-clause-text
returns-in_err-extend_from_slice-clause-text c = IfOk-from_err c.from_residual.result _ c.from_residual.ensures.0

pub returns-in_err-push-clause-text : goal.returns-in_err-push-clause-text
returns-in_err-push-clause-text c = IfOk-from_err c.from_residual-in_err-push.result _ c.from_residual-in_err-push.ensures.0

pub returns-in_err-write_number-clause-text : goal.returns-in_err-write_number-clause-text
returns-in_err-write_number-clause-text c = IfOk-from_err c.from_residual-in_err-write_number.result _ c.from_residual-in_err-write_number.ensures.0
