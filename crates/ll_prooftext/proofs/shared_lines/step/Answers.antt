use Rattle.std.proofs.Common.{length, ◌++◌}
use Rattle.std.proofs.lemmas.Result.{err_from_is_err_and}
use Rattle.ll_list_laws.proofs.CallerLemmas.{IfOk-each as if_ok}
use Rattle.ll_bank.specs.Nodes.{term_trees}
use Rattle.ll_laws.specs.declared.Rule.{Rule}
use Rattle.ll_prooftext.specs.RowWords.{spelling, IsNodeRow}
use Rattle.ll_prooftext.specs.SharedLines.{IsStepOver}
use Rattle.ll_prooftext.proofs.reading.LinesOver.{exists_made, step_plain, asks_same, plain_kind}
use Rattle.ll_prooftext.proofs.shared_lines.step.Goals as goal

pub last_cell-requires-clause-end : goal.last_cell-requires-clause-end
last_cell-requires-clause-end c = c.requires.end

pub last_cell-requires-clause-room : goal.last_cell-requires-clause-room
last_cell-requires-clause-room c = c.requires.room

pub last_cell-requires-clause-few : goal.last_cell-requires-clause-few
last_cell-requires-clause-few c = c.requires.few

pub last_cell-requires-clause-rows : goal.last_cell-requires-clause-rows
last_cell-requires-clause-rows c = c.requires.rows

pub returns-in_err-last_cell-in-Exists-clause-ok : goal.returns-in_err-last_cell-in-Exists-clause-ok
returns-in_err-last_cell-in-Exists-clause-ok c = let p = err_from_is_err_and c.from_residual.result c.from_residual.ensures.1 in rw p.1 tt

pub returns-in_err-last_cell-in-Exists-clause-err : goal.returns-in_err-last_cell-in-Exists-clause-err
returns-in_err-last_cell-in-Exists-clause-err c = let p = err_from_is_err_and c.from_residual.result c.from_residual.ensures.1 in
    rw (p.1, p.2) (rw c.in-Exists.is c.in_err-last_cell-in-Exists.ensures.err)

pub returns-in_err-last_cell-in-Exists-clause-grows : goal.returns-in_err-last_cell-in-Exists-clause-grows
returns-in_err-last_cell-in-Exists-clause-grows c = c.last_cell.ensures.grows

pub clause-requires-clause-end : goal.clause-requires-clause-end
clause-requires-clause-end c = c.requires.end

pub clause-requires-clause-room : goal.clause-requires-clause-room
clause-requires-clause-room c = c.requires.room

pub clause-requires-clause-few : goal.clause-requires-clause-few
clause-requires-clause-few c = c.requires.few

pub clause-requires-clause-rows : goal.clause-requires-clause-rows
clause-requires-clause-rows c = c.requires.rows

pub node-requires : goal.node-requires
node-requires c = record { end = c.requires.end; room = c.requires.room }

pub returns-in_ok-last_cell-in-Exists-clause-ok : goal.returns-in_ok-last_cell-in-Exists-clause-ok
returns-in_ok-last_cell-in-Exists-clause-ok c =
    rw c.in-Exists.is (exists_made (term_trees c.args.bank.now c.args.rows.now) c.args.names.now c.args.bank.now c.args.rest.now c.last_cell.new.names
    c.last_cell.new.bank c.in_ok-last_cell-in-Exists.field-0 c.requires.end c.in_ok-last_cell-in-Exists.ensures.ok)

pub returns-in_ok-last_cell-in-Exists-clause-grows : goal.returns-in_ok-last_cell-in-Exists-clause-grows
returns-in_ok-last_cell-in-Exists-clause-grows c = c.last_cell.ensures.grows

pub returns-in-Clause-clause-ok : goal.returns-in-Clause-clause-ok
returns-in-Clause-clause-ok c = rw c.in-Clause.is c.clause.ensures.ok

pub returns-in-Clause-clause-err : goal.returns-in-Clause-clause-err
returns-in-Clause-clause-err c = rw c.in-Clause.is c.clause.ensures.err

pub returns-in-Clause-clause-grows : goal.returns-in-Clause-clause-grows
returns-in-Clause-clause-grows c = c.clause.ensures.grows

pub returns-in_default : goal.returns-in_default
returns-in_default c =
    let k = c.args.word in
    let names = c.args.names.now in
    let bank = c.args.bank.now in
    let rows = term_trees bank c.args.rows.now in
    let plain = plain_kind k c.in_default.not-Exists c.in_default.not-Clause in
    record {
      ok = if_ok c.node.result (λ (r : Rule). IsNodeRow names bank (spelling k ++ c.args.rest.now) c.node.new.names c.node.new.bank r)
          (λ (r : Rule). IsStepOver rows names bank (spelling k ++ c.args.rest.now) c.node.new.names c.node.new.bank r)
          (λ r i. step_plain rows names bank k c.args.rest.now c.node.new.names c.node.new.bank r plain c.requires.end i) c.node.ensures.ok;
      err = rw (asks_same (length c.args.rows.now) k plain) c.node.ensures.err;
      grows = c.node.ensures.grows;
    }

pub returns-in_ok-last_cell-in-Exists-clause-err : goal.returns-in_ok-last_cell-in-Exists-clause-err
returns-in_ok-last_cell-in-Exists-clause-err c = _
