use Rattle.std.proofs.Common.{List, length, take, subst, All, arith}
use Rattle.std.proofs.lemmas.Result.{IfOk-from_err}
use Rattle.std.proofs.lemmas.List.{take_all}
use Rattle.std.proofs.lemmas.List.Elements.{All-more}
use Rattle.ll_bank.proofs.CallerLemmas.{Extends-trans}
use Rattle.ll_laws.specs.declared.Rule.{Rule}
use Rattle.ll_sequent.specs.Copied.{IsLineBelow}
use Rattle.ll_sequent.proofs.CopyLemmas.{below_more, lines_below_more}
use Rattle.ll_sequent.proofs.copies.copies_of.Goals as goal

pub copy_all-requires-clause-copies : goal.copy_all-requires-clause-copies
copy_all-requires-clause-copies c = rw c.new-copies.ensures.items (λ at d l. absurd (omega arith))

pub loop-i-init : goal.loop-i-init
loop-i-init c = record {
  copies = c.in_ok-copy_all.ensures.copies;
  asked = c.in_ok-copy_all.ensures.reach;
  lines = λ k d l. absurd (omega arith);
  keeps =
      c.in_ok-copy_all.ensures.keeps;
}

pub returns-in_err-copy_line-clause-keeps : goal.returns-in_err-copy_line-clause-keeps
returns-in_err-copy_line-clause-keeps c = Extends-trans c.loop-i.invariant.keeps c.copy_line.ensures.keeps

pub loop-i-preserved : goal.loop-i-preserved
loop-i-preserved c =
    let n = length c.loop-i.copies.items in
    let m = length c.copy_line.new.copies.items in
    let P : Rule → Type 0 = IsLineBelow m in
    record {
      copies = c.in_ok-copy_line.ensures.copies;
      asked = below_more n m c.in_ok-copy_line.ensures.more c.args.asked.now c.loop-i.invariant.asked;
      lines = All-more P c.args.rules.now c.loop-i.i c.index-rules-i.result (omega arith)
          (lines_below_more n m c.in_ok-copy_line.ensures.more (take c.loop-i.i c.args.rules.now) c.loop-i.invariant.lines)
          (subst P c.index-rules-i.is c.in_ok-copy_line.ensures.reach);
      keeps = Extends-trans c.loop-i.invariant.keeps c.in_ok-copy_line.ensures.keeps;
    }

pub returns-clause-lines : goal.returns-clause-lines
returns-clause-lines c = let P : List Rule → Type 0 = All (IsLineBelow (length c.loop-i.copies.items)) in
    subst P (take_all c.loop-i.i c.args.rules.now (omega arith)) c.loop-i.invariant.lines

pub returns-in_err-copy_all-clause-copies : goal.returns-in_err-copy_all-clause-copies
returns-in_err-copy_all-clause-copies c = IfOk-from_err c.from_residual.result _ c.from_residual.ensures.0

pub returns-in_err-copy_all-clause-asked : goal.returns-in_err-copy_all-clause-asked
returns-in_err-copy_all-clause-asked c = IfOk-from_err c.from_residual.result _ c.from_residual.ensures.0

pub returns-in_err-copy_all-clause-lines : goal.returns-in_err-copy_all-clause-lines
returns-in_err-copy_all-clause-lines c = IfOk-from_err c.from_residual.result _ c.from_residual.ensures.0

pub returns-in_err-copy_line-clause-copies : goal.returns-in_err-copy_line-clause-copies
returns-in_err-copy_line-clause-copies c = IfOk-from_err c.from_residual-in_err-copy_line.result _ c.from_residual-in_err-copy_line.ensures.0

pub returns-in_err-copy_line-clause-asked : goal.returns-in_err-copy_line-clause-asked
returns-in_err-copy_line-clause-asked c = IfOk-from_err c.from_residual-in_err-copy_line.result _ c.from_residual-in_err-copy_line.ensures.0

pub returns-in_err-copy_line-clause-lines : goal.returns-in_err-copy_line-clause-lines
returns-in_err-copy_line-clause-lines c = IfOk-from_err c.from_residual-in_err-copy_line.result _ c.from_residual-in_err-copy_line.ensures.0

pub returns-in_err-copy_all-clause-keeps : goal.returns-in_err-copy_all-clause-keeps
returns-in_err-copy_all-clause-keeps c = c.in_err-copy_all.ensures.keeps

pub returns-clause-copies : goal.returns-clause-copies
returns-clause-copies c = c.loop-i.invariant.copies

pub returns-clause-asked : goal.returns-clause-asked
returns-clause-asked c = c.loop-i.invariant.asked

pub returns-clause-keeps : goal.returns-clause-keeps
returns-clause-keeps c = c.loop-i.invariant.keeps
