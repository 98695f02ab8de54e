use Rattle.std.proofs.lemmas.Result.{IfOk-from_err}
use Rattle.ll_laws.specs.Output.{counts_text}
use Rattle.ll_printer.proofs.Parts.{writing-begins, writing-stops}
use Rattle.ll_printer.proofs.Printing.{begins_all}
use Rattle.ll_printer.proofs.LinePieces.{counts-1, counts-2, counts-3, counts-4, counts-5, counts-6, counts-end}
use Rattle.ll_printer.proofs.summary.Goals as goal

pub returns-in_err-extend_from_slice-clause-begun : goal.returns-in_err-extend_from_slice-clause-begun
returns-in_err-extend_from_slice-clause-begun c =
    writing-stops (counts_text c.args.counts.now.answers c.args.counts.now.reached c.args.counts.now.inferences) c.args.out.now.items c.args.out.now.items
    c.extend_from_slice.new.self.items (counts_text c.args.counts.now.answers c.args.counts.now.reached c.args.counts.now.inferences)
    (writing-begins (counts_text c.args.counts.now.answers c.args.counts.now.reached c.args.counts.now.inferences) c.args.out.now.items)
    c.in_err-extend_from_slice.ensures.items

pub returns-in_err-write_number-clause-begun : goal.returns-in_err-write_number-clause-begun
returns-in_err-write_number-clause-begun c =
    writing-stops (counts_text c.args.counts.now.answers c.args.counts.now.reached c.args.counts.now.inferences) c.args.out.now.items
    c.extend_from_slice.new.self.items c.write_number.new.out.items _
    (counts-1 c.args.counts.now.answers c.args.counts.now.reached c.args.counts.now.inferences c.args.out.now.items c.extend_from_slice.new.self.items
    c.in_ok-extend_from_slice.ensures.items)
    c.in_err-write_number.ensures.refused

pub returns-in_err-extend_from_slice-2-clause-begun : goal.returns-in_err-extend_from_slice-2-clause-begun
returns-in_err-extend_from_slice-2-clause-begun c =
    writing-stops (counts_text c.args.counts.now.answers c.args.counts.now.reached c.args.counts.now.inferences) c.args.out.now.items
    c.write_number.new.out.items c.extend_from_slice-2.new.self.items _
    (counts-2 c.args.counts.now.answers c.args.counts.now.reached c.args.counts.now.inferences c.args.out.now.items c.extend_from_slice.new.self.items
    c.in_ok-extend_from_slice.ensures.items c.write_number.new.out.items c.in_ok-write_number.ensures.text)
    c.in_err-extend_from_slice-2.ensures.items

pub returns-in_err-write_number-2-clause-begun : goal.returns-in_err-write_number-2-clause-begun
returns-in_err-write_number-2-clause-begun c =
    writing-stops (counts_text c.args.counts.now.answers c.args.counts.now.reached c.args.counts.now.inferences) c.args.out.now.items
    c.extend_from_slice-2.new.self.items c.write_number-2.new.out.items _
    (counts-3 c.args.counts.now.answers c.args.counts.now.reached c.args.counts.now.inferences c.args.out.now.items c.extend_from_slice.new.self.items
    c.in_ok-extend_from_slice.ensures.items c.write_number.new.out.items c.in_ok-write_number.ensures.text c.extend_from_slice-2.new.self.items
    c.in_ok-extend_from_slice-2.ensures.items)
    c.in_err-write_number-2.ensures.refused

pub returns-in_err-extend_from_slice-3-clause-begun : goal.returns-in_err-extend_from_slice-3-clause-begun
returns-in_err-extend_from_slice-3-clause-begun c =
    writing-stops (counts_text c.args.counts.now.answers c.args.counts.now.reached c.args.counts.now.inferences) c.args.out.now.items
    c.write_number-2.new.out.items c.extend_from_slice-3.new.self.items _
    (counts-4 c.args.counts.now.answers c.args.counts.now.reached c.args.counts.now.inferences c.args.out.now.items c.extend_from_slice.new.self.items
    c.in_ok-extend_from_slice.ensures.items c.write_number.new.out.items c.in_ok-write_number.ensures.text c.extend_from_slice-2.new.self.items
    c.in_ok-extend_from_slice-2.ensures.items c.write_number-2.new.out.items c.in_ok-write_number-2.ensures.text)
    c.in_err-extend_from_slice-3.ensures.items

pub returns-in_err-write_number-3-clause-begun : goal.returns-in_err-write_number-3-clause-begun
returns-in_err-write_number-3-clause-begun c =
    writing-stops (counts_text c.args.counts.now.answers c.args.counts.now.reached c.args.counts.now.inferences) c.args.out.now.items
    c.extend_from_slice-3.new.self.items c.write_number-3.new.out.items _
    (counts-5 c.args.counts.now.answers c.args.counts.now.reached c.args.counts.now.inferences c.args.out.now.items c.extend_from_slice.new.self.items
    c.in_ok-extend_from_slice.ensures.items c.write_number.new.out.items c.in_ok-write_number.ensures.text c.extend_from_slice-2.new.self.items
    c.in_ok-extend_from_slice-2.ensures.items c.write_number-2.new.out.items c.in_ok-write_number-2.ensures.text c.extend_from_slice-3.new.self.items
    c.in_ok-extend_from_slice-3.ensures.items)
    c.in_err-write_number-3.ensures.refused

pub returns-in_err-push-clause-begun : goal.returns-in_err-push-clause-begun
returns-in_err-push-clause-begun c =
    writing-stops (counts_text c.args.counts.now.answers c.args.counts.now.reached c.args.counts.now.inferences) c.args.out.now.items
    c.write_number-3.new.out.items c.push.new.self.items _ (counts-6 c.args.counts.now.answers c.args.counts.now.reached c.args.counts.now.inferences
    c.args.out.now.items c.extend_from_slice.new.self.items c.in_ok-extend_from_slice.ensures.items c.write_number.new.out.items
    c.in_ok-write_number.ensures.text c.extend_from_slice-2.new.self.items c.in_ok-extend_from_slice-2.ensures.items c.write_number-2.new.out.items
    c.in_ok-write_number-2.ensures.text c.extend_from_slice-3.new.self.items c.in_ok-extend_from_slice-3.ensures.items c.write_number-3.new.out.items
    c.in_ok-write_number-3.ensures.text)
    c.in_err-push.ensures.items

pub returns-clause-text : goal.returns-clause-text
returns-clause-text c =
    counts-end c.args.counts.now.answers c.args.counts.now.reached c.args.counts.now.inferences c.args.out.now.items c.extend_from_slice.new.self.items
    c.in_ok-extend_from_slice.ensures.items c.write_number.new.out.items c.in_ok-write_number.ensures.text c.extend_from_slice-2.new.self.items
    c.in_ok-extend_from_slice-2.ensures.items c.write_number-2.new.out.items c.in_ok-write_number-2.ensures.text c.extend_from_slice-3.new.self.items
    c.in_ok-extend_from_slice-3.ensures.items c.write_number-3.new.out.items c.in_ok-write_number-3.ensures.text c.push.new.self.items
    c.in_ok-push.ensures.items

pub returns-clause-begun : goal.returns-clause-begun
returns-clause-begun c =
    begins_all (counts_text c.args.counts.now.answers c.args.counts.now.reached c.args.counts.now.inferences) c.args.out.now.items c.push.new.self.items
    (counts-end c.args.counts.now.answers c.args.counts.now.reached c.args.counts.now.inferences c.args.out.now.items c.extend_from_slice.new.self.items
    c.in_ok-extend_from_slice.ensures.items c.write_number.new.out.items c.in_ok-write_number.ensures.text c.extend_from_slice-2.new.self.items
    c.in_ok-extend_from_slice-2.ensures.items c.write_number-2.new.out.items c.in_ok-write_number-2.ensures.text c.extend_from_slice-3.new.self.items
    c.in_ok-extend_from_slice-3.ensures.items c.write_number-3.new.out.items c.in_ok-write_number-3.ensures.text c.push.new.self.items
    c.in_ok-push.ensures.items)

pub returns-in_err-extend_from_slice-2-clause-text : goal.returns-in_err-extend_from_slice-2-clause-text
returns-in_err-extend_from_slice-2-clause-text c =
    IfOk-from_err c.from_residual-in_err-extend_from_slice-2.result _ c.from_residual-in_err-extend_from_slice-2.ensures.0

pub returns-in_err-extend_from_slice-3-clause-text : goal.returns-in_err-extend_from_slice-3-clause-text
returns-in_err-extend_from_slice-3-clause-text c =
    IfOk-from_err c.from_residual-in_err-extend_from_slice-3.result _ c.from_residual-in_err-extend_from_slice-3.ensures.0

pub returns-in_err-extend_from_slice-clause-text : goal.returns-in_err-extend_from_slice-clause-text
returns-in_err-extend_from_slice-clause-text c = IfOk-from_err c.from_residual.result _ c.from_residual.ensures.0

pub returns-in_err-push-clause-text : goal.returns-in_err-push-clause-text
returns-in_err-push-clause-text c = IfOk-from_err c.from_residual-in_err-push.result _ c.from_residual-in_err-push.ensures.0

pub returns-in_err-write_number-2-clause-text : goal.returns-in_err-write_number-2-clause-text
returns-in_err-write_number-2-clause-text c = IfOk-from_err c.from_residual-in_err-write_number-2.result _ c.from_residual-in_err-write_number-2.ensures.0

pub returns-in_err-write_number-3-clause-text : goal.returns-in_err-write_number-3-clause-text
returns-in_err-write_number-3-clause-text c = IfOk-from_err c.from_residual-in_err-write_number-3.result _ c.from_residual-in_err-write_number-3.ensures.0

pub returns-in_err-write_number-clause-text : goal.returns-in_err-write_number-clause-text
returns-in_err-write_number-clause-text c = IfOk-from_err c.from_residual-in_err-write_number.result _ c.from_residual-in_err-write_number.ensures.0
