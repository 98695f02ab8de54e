use Rattle.ll_prooftext.proofs.spelling.Kept.{below, grows_on}
use Rattle.std.proofs.Common.{length, subst}
use Rattle.std.proofs.lemmas.Result.{err_from_is_err_and, IfOk-from_err}
use Rattle.ll_list_laws.proofs.CallerLemmas.{IfOk-each as if_ok}
use Rattle.ll_bank.specs.Nodes.{term_trees}
use Rattle.ll_bank.specs.declared.At.{At}
use Rattle.ll_prooftext.specs.Reading.{Cell, Nothing, More, Row, Then}
use Rattle.ll_prooftext.specs.Fields.{Refuses, StopsAt}
use Rattle.ll_prooftext.specs.Cells.{LacksFront}
use Rattle.ll_prooftext.specs.SharedLines.{IsSpineOver, IsPairOver, IsShareOver}
use Rattle.ll_prooftext.proofs.reading.CellsRead.{rows_same, rows_stay}
use Rattle.ll_prooftext.proofs.reading.LinesOver.{share_plain, share_sign, front_bad, plain_bad, sign_bad, if_err}
use Rattle.ll_prooftext.proofs.reading.Rest.{refuses_weaker}
use Rattle.ll_prooftext.proofs.shared_lines.share.Goals as goal

pub returns-in_err-front-clause-err : goal.returns-in_err-front-clause-err
returns-in_err-front-clause-err c =
    let n = length c.args.rows.now in
    let p = err_from_is_err_and c.from_residual.result c.from_residual.ensures.1 in
    rw (p.1, p.2) (refuses_weaker (LacksFront c.args.bytes.now) (StopsAt (Row n) c.args.bytes.now) (front_bad n c.args.bytes.now) c.in_err-front.field-0.0
    c.in_err-front.ensures.err)

pub plain_share-requires-clause-rows : goal.plain_share-requires-clause-rows
plain_share-requires-clause-rows c = let m = c.in_ok-front.ensures.ok.moves in
    rows_stay c.args.names.now c.args.bank.now c.front_field.new.names c.front_field.new.bank c.args.rows.now m.grows m.keeps c.requires.rows

pub sign_share-requires-clause-rows : goal.sign_share-requires-clause-rows
sign_share-requires-clause-rows c = let m = c.in_ok-front.ensures.ok.moves in
    rows_stay c.args.names.now c.args.bank.now c.front_field.new.names c.front_field.new.bank c.args.rows.now m.grows m.keeps c.requires.rows

pub returns-in-Plain-clause-ok : goal.returns-in-Plain-clause-ok
returns-in-Plain-clause-ok c =
    let names = c.args.names.now in
    let bank = c.args.bank.now in
    let rows = term_trees bank c.args.rows.now in
    let f = rw c.in-Plain.is at c.in_ok-front.ensures.ok in
    let same = rows_same names bank c.front_field.new.bank c.args.rows.now f.moves.keeps c.requires.rows in
    if_ok c.plain_share.result (λ (at : At). IsSpineOver (term_trees c.front_field.new.bank c.args.rows.now) c.front_field.new.names c.front_field.new.bank
    c.in_ok-front.behind_front.now c.in-Plain.head c.plain_share.new.names c.plain_share.new.bank at.0)
    (λ (at : At). IsShareOver rows names bank c.args.bytes.now c.plain_share.new.names c.plain_share.new.bank at.0)
    (λ at s. share_plain rows names bank c.args.bytes.now c.front_field.new.names c.front_field.new.bank c.in-Plain.head c.in_ok-front.behind_front.now
    c.plain_share.new.names c.plain_share.new.bank at.0 f
    (subst (λ rs. IsSpineOver rs c.front_field.new.names c.front_field.new.bank c.in_ok-front.behind_front.now c.in-Plain.head c.plain_share.new.names
    c.plain_share.new.bank at.0) same s)) c.plain_share.ensures.ok

pub returns-in-Plain-clause-err : goal.returns-in-Plain-clause-err
returns-in-Plain-clause-err c =
    let n = length c.args.rows.now in
    let f = rw c.in-Plain.is at c.in_ok-front.ensures.ok in
    if_err c.plain_share.result (Refuses (StopsAt (Then (Cell n) (More n)) c.in_ok-front.behind_front.now)) (Refuses (StopsAt (Row n) c.args.bytes.now))
    (refuses_weaker (StopsAt (Then (Cell n) (More n)) c.in_ok-front.behind_front.now) (StopsAt (Row n) c.args.bytes.now)
    (λ k s. plain_bad n c.args.names.now c.args.bank.now c.args.bytes.now c.front_field.new.names c.front_field.new.bank c.in-Plain.head
    c.in_ok-front.behind_front.now k f s)) c.plain_share.ensures.err

pub returns-in-Sign-clause-ok : goal.returns-in-Sign-clause-ok
returns-in-Sign-clause-ok c =
    let names = c.args.names.now in
    let bank = c.args.bank.now in
    let rows = term_trees bank c.args.rows.now in
    let f = rw c.in-Sign.is at c.in_ok-front.ensures.ok in
    let same = rows_same names bank c.front_field.new.bank c.args.rows.now f.moves.keeps c.requires.rows in
    if_ok c.sign_share.result (λ (at : At). IsPairOver (term_trees c.front_field.new.bank c.args.rows.now) c.front_field.new.names c.front_field.new.bank
    c.in_ok-front.behind_front.now c.in-Sign.head c.sign_share.new.names c.sign_share.new.bank at.0)
    (λ (at : At). IsShareOver rows names bank c.args.bytes.now c.sign_share.new.names c.sign_share.new.bank at.0)
    (λ at s. share_sign rows names bank c.args.bytes.now c.front_field.new.names c.front_field.new.bank c.in-Sign.head c.in_ok-front.behind_front.now
    c.sign_share.new.names c.sign_share.new.bank at.0 f
    (subst (λ rs. IsPairOver rs c.front_field.new.names c.front_field.new.bank c.in_ok-front.behind_front.now c.in-Sign.head c.sign_share.new.names
    c.sign_share.new.bank at.0) same s)) c.sign_share.ensures.ok

pub returns-in-Sign-clause-err : goal.returns-in-Sign-clause-err
returns-in-Sign-clause-err c =
    let n = length c.args.rows.now in
    let f = rw c.in-Sign.is at c.in_ok-front.ensures.ok in
    if_err c.sign_share.result (Refuses (StopsAt (Then (Cell n) (Then (Cell n) Nothing)) c.in_ok-front.behind_front.now))
    (Refuses (StopsAt (Row n) c.args.bytes.now))
    (refuses_weaker (StopsAt (Then (Cell n) (Then (Cell n) Nothing)) c.in_ok-front.behind_front.now) (StopsAt (Row n) c.args.bytes.now)
    (λ k s. sign_bad n c.args.names.now c.args.bank.now c.args.bytes.now c.front_field.new.names c.front_field.new.bank c.in-Sign.head
    c.in_ok-front.behind_front.now k f s)) c.sign_share.ensures.err

pub returns-in_err-front-clause-ok : goal.returns-in_err-front-clause-ok
returns-in_err-front-clause-ok c = IfOk-from_err c.from_residual.result _ c.from_residual.ensures.0

pub returns-in_err-front-clause-grows : goal.returns-in_err-front-clause-grows
returns-in_err-front-clause-grows c = c.front_field.ensures.grows

pub plain_share-requires-clause-few : goal.plain_share-requires-clause-few
plain_share-requires-clause-few c = c.requires.few

pub sign_share-requires-clause-few : goal.sign_share-requires-clause-few
sign_share-requires-clause-few c = c.requires.few

pub plain_share-requires-clause-end : goal.plain_share-requires-clause-end
plain_share-requires-clause-end c = c.in_ok-front.ensures.ok.end

pub plain_share-requires-clause-room : goal.plain_share-requires-clause-room
plain_share-requires-clause-room c = below _ _ _ c.in_ok-front.ensures.ok.moves.few c.requires.room

pub returns-in-Plain-clause-grows : goal.returns-in-Plain-clause-grows
returns-in-Plain-clause-grows c =
    grows_on c.args.names.now c.front_field.new.names c.plain_share.new.names c.in_ok-front.ensures.ok.moves.grows c.plain_share.ensures.grows

pub sign_share-requires-clause-end : goal.sign_share-requires-clause-end
sign_share-requires-clause-end c = c.in_ok-front.ensures.ok.end

pub sign_share-requires-clause-room : goal.sign_share-requires-clause-room
sign_share-requires-clause-room c = below _ _ _ c.in_ok-front.ensures.ok.moves.few c.requires.room

pub returns-in-Sign-clause-grows : goal.returns-in-Sign-clause-grows
returns-in-Sign-clause-grows c =
    grows_on c.args.names.now c.front_field.new.names c.sign_share.new.names c.in_ok-front.ensures.ok.moves.grows c.sign_share.ensures.grows

pub front_field-requires : goal.front_field-requires
front_field-requires c = record { end = c.requires.end; room = c.requires.room }
