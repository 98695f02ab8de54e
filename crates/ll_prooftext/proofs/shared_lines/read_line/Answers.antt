use Rattle.std.proofs.Common.{length}
use Rattle.std.proofs.lemmas.Result.{err_from_is_err_and}
use Rattle.ll_bank.specs.Nodes.{term_trees}
use Rattle.ll_prooftext.specs.SharedLines.{want_over, asks_over}
use Rattle.ll_prooftext.specs.Reading.{Row, Cell, Nothing, Then}
use Rattle.ll_prooftext.proofs.spelling.Kept.{grows_none}
use Rattle.ll_prooftext.proofs.reading.Rest.{stops_end}
use Rattle.ll_prooftext.proofs.reading.RowsRead.{rest_room, refused_at}
use Rattle.ll_prooftext.proofs.reading.LinesOver.{share_line_made, let_made, step_made, word_unknown}
use Rattle.ll_prooftext.proofs.shared_lines.read_line.Goals as goal

pub share-requires-clause-end : goal.share-requires-clause-end
share-requires-clause-end c = stops_end c.split_before.result.1.now c.split_before.ensures.stops

pub share-requires-clause-room : goal.share-requires-clause-room
share-requires-clause-room c = rest_room c.args.names.now c.args.line.now c.split_before.result.0.now c.split_before.result.1.now c.split_before.ensures.is
    c.requires.room

pub share-requires-clause-few : goal.share-requires-clause-few
share-requires-clause-few c = c.requires.few

pub share-requires-clause-rows : goal.share-requires-clause-rows
share-requires-clause-rows c = c.requires.rows

pub last_cell-requires-clause-end : goal.last_cell-requires-clause-end
last_cell-requires-clause-end c = stops_end c.split_before.result.1.now c.split_before.ensures.stops

pub last_cell-requires-clause-room : goal.last_cell-requires-clause-room
last_cell-requires-clause-room c = rest_room c.args.names.now c.args.line.now c.split_before.result.0.now c.split_before.result.1.now c.split_before.ensures.is
    c.requires.room

pub last_cell-requires-clause-few : goal.last_cell-requires-clause-few
last_cell-requires-clause-few c = c.requires.few

pub last_cell-requires-clause-rows : goal.last_cell-requires-clause-rows
last_cell-requires-clause-rows c = c.requires.rows

pub step-requires-clause-end : goal.step-requires-clause-end
step-requires-clause-end c = stops_end c.split_before.result.1.now c.split_before.ensures.stops

pub step-requires-clause-room : goal.step-requires-clause-room
step-requires-clause-room c = rest_room c.args.names.now c.args.line.now c.split_before.result.0.now c.split_before.result.1.now c.split_before.ensures.is
    c.requires.room

pub step-requires-clause-few : goal.step-requires-clause-few
step-requires-clause-few c = c.requires.few

pub step-requires-clause-rows : goal.step-requires-clause-rows
step-requires-clause-rows c = c.requires.rows

pub returns-in_err-share-in-Some-Share-clause-ok : goal.returns-in_err-share-in-Some-Share-clause-ok
returns-in_err-share-in-Some-Share-clause-ok c = let p = err_from_is_err_and c.from_residual.result c.from_residual.ensures.1 in rw p.1 tt

pub returns-in_err-share-in-Some-Share-clause-err : goal.returns-in_err-share-in-Some-Share-clause-err
returns-in_err-share-in-Some-Share-clause-err c =
    let n = length c.args.rows.now in
    let w = rw c.in-Some-Share.field-0-is at c.in-Some-Share.ensures in
    let p = err_from_is_err_and c.from_residual.result c.from_residual.ensures.1 in
    rw (p.1, p.2) (refused_at (want_over n c.args.stage.shares c.args.stage.lets) c.args.line.now c.split_before.result.0.now c.split_before.result.1.now
    (Row n) c.in_err-share-in-Some-Share.field-0.0 c.split_before.ensures.is (w.known n) c.in_err-share-in-Some-Share.ensures.err)

pub returns-in_err-share-in-Some-Share-clause-grows : goal.returns-in_err-share-in-Some-Share-clause-grows
returns-in_err-share-in-Some-Share-clause-grows c = c.share.ensures.grows

pub returns-in_ok-share-in-Some-Share-clause-grows : goal.returns-in_ok-share-in-Some-Share-clause-grows
returns-in_ok-share-in-Some-Share-clause-grows c = c.share.ensures.grows

pub returns-in_ok-share-in-Some-Share-clause-ok : goal.returns-in_ok-share-in-Some-Share-clause-ok
returns-in_ok-share-in-Some-Share-clause-ok c =
    let w = rw c.in-Some-Share.field-0-is at c.in-Some-Share.ensures in (
      w.may,
      share_line_made (term_trees c.args.bank.now c.args.rows.now) c.args.names.now c.args.bank.now c.args.line.now c.split_before.result.0.now
          c.split_before.result.1.now c.share.new.names c.share.new.bank c.in_ok-share-in-Some-Share.field-0.0 c.split_before.ensures.is w.is
          (stops_end c.split_before.result.1.now c.split_before.ensures.stops) c.in_ok-share-in-Some-Share.ensures.ok,
    )

pub returns-in_err-last_cell-in-Some-Let-clause-ok : goal.returns-in_err-last_cell-in-Some-Let-clause-ok
returns-in_err-last_cell-in-Some-Let-clause-ok c = let p = err_from_is_err_and c.from_residual-in_err-last_cell-in-Some-Let.result
    c.from_residual-in_err-last_cell-in-Some-Let.ensures.1 in rw p.1 tt

pub returns-in_err-last_cell-in-Some-Let-clause-err : goal.returns-in_err-last_cell-in-Some-Let-clause-err
returns-in_err-last_cell-in-Some-Let-clause-err c =
    let n = length c.args.rows.now in
    let w = rw c.in-Some-Let.field-0-is at c.in-Some-Let.ensures in
    let p = err_from_is_err_and c.from_residual-in_err-last_cell-in-Some-Let.result c.from_residual-in_err-last_cell-in-Some-Let.ensures.1 in
    rw (p.1, p.2) (refused_at (want_over n c.args.stage.shares c.args.stage.lets) c.args.line.now c.split_before.result.0.now c.split_before.result.1.now
    (Then (Cell n) Nothing) c.in_err-last_cell-in-Some-Let.field-0.0 c.split_before.ensures.is (w.known n) c.in_err-last_cell-in-Some-Let.ensures.err)

pub returns-in_err-last_cell-in-Some-Let-clause-grows : goal.returns-in_err-last_cell-in-Some-Let-clause-grows
returns-in_err-last_cell-in-Some-Let-clause-grows c = c.last_cell.ensures.grows

pub returns-in_ok-last_cell-in-Some-Let-clause-grows : goal.returns-in_ok-last_cell-in-Some-Let-clause-grows
returns-in_ok-last_cell-in-Some-Let-clause-grows c = c.last_cell.ensures.grows

pub returns-in_ok-last_cell-in-Some-Let-clause-ok : goal.returns-in_ok-last_cell-in-Some-Let-clause-ok
returns-in_ok-last_cell-in-Some-Let-clause-ok c =
    let w = rw c.in-Some-Let.field-0-is at c.in-Some-Let.ensures in (
      w.may,
      let_made (term_trees c.args.bank.now c.args.rows.now) c.args.names.now c.args.bank.now c.args.line.now c.split_before.result.0.now
          c.split_before.result.1.now c.last_cell.new.names c.last_cell.new.bank c.in_ok-last_cell-in-Some-Let.field-0.0 c.split_before.ensures.is w.is
          (stops_end c.split_before.result.1.now c.split_before.ensures.stops) c.in_ok-last_cell-in-Some-Let.ensures.ok,
    )

pub returns-in_err-step-in-Some-Node-clause-ok : goal.returns-in_err-step-in-Some-Node-clause-ok
returns-in_err-step-in-Some-Node-clause-ok c = let p = err_from_is_err_and c.from_residual-in_err-step-in-Some-Node.result
    c.from_residual-in_err-step-in-Some-Node.ensures.1 in rw p.1 tt

pub returns-in_err-step-in-Some-Node-clause-err : goal.returns-in_err-step-in-Some-Node-clause-err
returns-in_err-step-in-Some-Node-clause-err c =
    let n = length c.args.rows.now in
    let w = rw c.in-Some-Node.field-0-is at c.in-Some-Node.ensures in
    let p = err_from_is_err_and c.from_residual-in_err-step-in-Some-Node.result c.from_residual-in_err-step-in-Some-Node.ensures.1 in
    rw (p.1, p.2) (refused_at (want_over n c.args.stage.shares c.args.stage.lets) c.args.line.now c.split_before.result.0.now c.split_before.result.1.now
    (asks_over n c.in-Some-Node.word) c.in_err-step-in-Some-Node.field-0.0 c.split_before.ensures.is (w.known n) c.in_err-step-in-Some-Node.ensures.err)

pub returns-in_err-step-in-Some-Node-clause-grows : goal.returns-in_err-step-in-Some-Node-clause-grows
returns-in_err-step-in-Some-Node-clause-grows c = c.step.ensures.grows

pub returns-in_ok-step-in-Some-Node-clause-grows : goal.returns-in_ok-step-in-Some-Node-clause-grows
returns-in_ok-step-in-Some-Node-clause-grows c = c.step.ensures.grows

pub returns-in_ok-step-in-Some-Node-clause-ok : goal.returns-in_ok-step-in-Some-Node-clause-ok
returns-in_ok-step-in-Some-Node-clause-ok c =
    let w = rw c.in-Some-Node.field-0-is at c.in-Some-Node.ensures in
    step_made (term_trees c.args.bank.now c.args.rows.now) c.args.names.now c.args.bank.now c.args.line.now c.split_before.result.0.now
    c.split_before.result.1.now c.in-Some-Node.word c.step.new.names c.step.new.bank c.in_ok-step-in-Some-Node.field-0 c.split_before.ensures.is w.is
    c.in_ok-step-in-Some-Node.ensures.ok

pub returns-in-None-clause-err : goal.returns-in-None-clause-err
returns-in-None-clause-err c = let n = length c.args.rows.now in
    word_unknown (want_over n c.args.stage.shares c.args.stage.lets) c.args.line.now c.split_before.result.0.now c.split_before.result.1.now
    c.split_before.ensures.is c.split_before.ensures.free c.split_before.ensures.stops (c.in-None.ensures n)

pub returns-in-None-clause-grows : goal.returns-in-None-clause-grows
returns-in-None-clause-grows c = grows_none c.args.names.now

pub returns-in_ok-share-in-Some-Share-clause-err : goal.returns-in_ok-share-in-Some-Share-clause-err
returns-in_ok-share-in-Some-Share-clause-err c = _

pub returns-in_ok-last_cell-in-Some-Let-clause-err : goal.returns-in_ok-last_cell-in-Some-Let-clause-err
returns-in_ok-last_cell-in-Some-Let-clause-err c = _

pub returns-in_ok-step-in-Some-Node-clause-err : goal.returns-in_ok-step-in-Some-Node-clause-err
returns-in_ok-step-in-Some-Node-clause-err c = _

pub returns-in-None-clause-ok : goal.returns-in-None-clause-ok
returns-in-None-clause-ok c = _
