use Rattle.std.proofs.lemmas.Result.{IfOk-from_err}
use Rattle.std.proofs.Common.{sym, ◌∙◌}
use Rattle.std.proofs.lemmas.Slice.Eq.{bytes_eq-Decides}
use Rattle.ll_bank.proofs.CallerLemmas.{Extends-refl}
use Rattle.ll_prooftext.proofs.reading.RowsRead.{other}
use Rattle.ll_prooftext.proofs.reading.CellsRead.{sign_stays, sign_moves, no_plain, leaf_no_plain, word_moves}
use Rattle.ll_prooftext.proofs.cells.front_of.Goals as goal

pub returns-then-eq-clause-found : goal.returns-then-eq-clause-found
returns-then-eq-clause-found c = (
  (bytes_eq-Decides c.args.word.now c.as_slice.result.now).0 (sym c.if-eq.ensures) ∙ c.as_slice.ensures,
  sign_stays c.add.new.self c.in_ok-add.field-0 c.in_ok-add.ensures.text,
)

pub returns-then-eq-clause-moves : goal.returns-then-eq-clause-moves
returns-then-eq-clause-moves c = sign_moves c.args.names.now c.add.new.self c.args.bank.now c.args.word.now
    ((bytes_eq-Decides c.args.word.now c.as_slice.result.now).0 (sym c.if-eq.ensures) ∙ c.as_slice.ensures) c.in_ok-add.ensures.added

pub returns-in-Some-Head-clause-moves : goal.returns-in-Some-Head-clause-moves
returns-in-Some-Head-clause-moves c =
    word_moves c.args.names.now c.args.bank.now c.args.word.now c.word_of.new.names c.word_of.new.bank c.word_of.new.bank c.in-Some-Head.field-0
    (rw c.in-Some-Head.is at c.in_ok-head.ensures.found) (rw c.in-Some-Head.is at c.in_ok-head.ensures.moves) (Extends-refl c.word_of.new.bank)

pub returns-in-Some-Term-clause-found : goal.returns-in-Some-Term-clause-found
returns-in-Some-Term-clause-found c =
    let w = rw c.in-Some-Term.is at c.in_ok-head.ensures.found in
    let leaf = rw c.in-Some-Term.field-0-is at w in
    (leaf_no_plain c.args.word.now leaf.word, λ e. other c.args.word.now c.as_slice.result.now c.if-eq.ensures (e ∙ sym c.as_slice.ensures))

pub returns-in-None-clause-found : goal.returns-in-None-clause-found
returns-in-None-clause-found c = (
  no_plain c.args.word.now (rw c.in-None.is at c.in_ok-head.ensures.found),
  λ e. other c.args.word.now c.as_slice.result.now c.if-eq.ensures (e ∙ sym c.as_slice.ensures),
)

pub returns-in_err-add-clause-found : goal.returns-in_err-add-clause-found
returns-in_err-add-clause-found c = IfOk-from_err c.from_residual.result _ c.from_residual.ensures.0

pub returns-in_err-add-clause-moves : goal.returns-in_err-add-clause-moves
returns-in_err-add-clause-moves c = IfOk-from_err c.from_residual.result _ c.from_residual.ensures.0

pub returns-in_err-head-clause-found : goal.returns-in_err-head-clause-found
returns-in_err-head-clause-found c = IfOk-from_err c.from_residual-in_err-head.result _ c.from_residual-in_err-head.ensures.0

pub returns-in_err-head-clause-moves : goal.returns-in_err-head-clause-moves
returns-in_err-head-clause-moves c = IfOk-from_err c.from_residual-in_err-head.result _ c.from_residual-in_err-head.ensures.0

pub returns-in_err-head-clause-grows : goal.returns-in_err-head-clause-grows
returns-in_err-head-clause-grows c = c.word_of.ensures.grows

pub returns-in-Some-Head-clause-grows : goal.returns-in-Some-Head-clause-grows
returns-in-Some-Head-clause-grows c = c.word_of.ensures.grows

pub returns-in-Some-Term-clause-grows : goal.returns-in-Some-Term-clause-grows
returns-in-Some-Term-clause-grows c = c.word_of.ensures.grows

pub returns-in-None-clause-grows : goal.returns-in-None-clause-grows
returns-in-None-clause-grows c = c.word_of.ensures.grows

pub word_of-requires : goal.word_of-requires
word_of-requires c = c.requires

pub returns-in-Some-Term-clause-moves : goal.returns-in-Some-Term-clause-moves
returns-in-Some-Term-clause-moves c = _

pub returns-in-None-clause-moves : goal.returns-in-None-clause-moves
returns-in-None-clause-moves c = _
