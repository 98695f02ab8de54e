use Rattle.std.proofs.lemmas.Result.{IfOk-from_err}
use Rattle.ll_make.proofs.Pieces.{when_appended, perm_written}
use Rattle.ll_make.proofs.programs.write_perm.Goals as goal

pub returns : goal.returns
returns c =
    when_appended c.extend_from_slice-2.result _ _ c.extend_from_slice-2.new.self.items c.extend_from_slice-2.ensures.items
    (perm_written c.args.text.now.items _ c.extend_from_slice.new.self.items c.write_list.new.text.items c.extend_from_slice-2.new.self.items
    c.in_ok-extend_from_slice.ensures.items c.in_ok-write_list.ensures)

pub returns-in_err-extend_from_slice : goal.returns-in_err-extend_from_slice
returns-in_err-extend_from_slice c = IfOk-from_err c.from_residual.result _ c.from_residual.ensures.0

pub returns-in_err-write_list : goal.returns-in_err-write_list
returns-in_err-write_list c = IfOk-from_err c.from_residual-in_err-write_list.result _ c.from_residual-in_err-write_list.ensures.0
