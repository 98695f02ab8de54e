-- What a claim, a publishing and a report do in a held turn.
use Rattle.std.proofs.Common.{◌≡◌, ℕ, ◌<◌, List, length, sym, ap, ◌∙◌, subst, Option, Some, None, IsSomeAnd}
use Rattle.std.specs.Prelude.{option_map}
use Rattle.std.specs.declared.result.Result.{Result}
use Rattle.ll_laws.specs.declared.Event.{Event}
use Rattle.ll_laws.specs.Pool.{Owed, PoolData}
use Rattle.ll_laws.specs.Sound.{report_of}
use Rattle.ll_laws.specs.CoreEvents.{Publish, Report, Publishes, Does, reported}
use Rattle.ll_core.specs.Calls.{ClaimsAs, publish_answer}
use Rattle.ll_core.specs.declared.answers.Claimed.{Claimed}
use Rattle.ll_core.specs.declared.answers.PublishFault.{PublishFault}
use Rattle.ll_pool.specs.Fits.{SeatFits, ChangesLawfully, number_of}
use Rattle.ll_pool.specs.Turns.{SeatSight, OneTurn, EndsWith, OwesWork, OwesRest, number_made}
use Rattle.ll_pool.proofs.Turning.{Keeps, GivesBack, TakesTurn, fits_now, own_now, number_now, piece_after, turn_made, seat_kept}
use Rattle.ll_pool.proofs.Owing.{claim_lawful, owes_work, made_number, publish_does, publish_lawful, owes_rest, rest_number, report_does, report_lawful}
use Rattle.ll_pool.proofs.Owing.{owes_nothing}

-- the seat takes the turn, finds v and leaves the pool q
module _ {N Of : Type 0} (of : N → Of) (alternatives : N → List (Owed Event)) (now inside taken : SeatSight N Of) (worker : ℕ) (piece : Option ℕ)
    (v : PoolData N Event) (q : PoolData N Event) where
  pub record IsClaimTurn (answer : Claimed N) : Type 0 where
    pub turn : TakesTurn of alternatives now inside taken worker piece v
    pub rests : now.mine.piece ≡ None
    pub did : ClaimsAs alternatives v now.mine.worker answer q

  pub record IsPublishTurn (n : ℕ) (batch : N) (answer : Result (Unit {0}) (PublishFault N)) : Type 0 where
    pub turn : TakesTurn of alternatives now inside taken worker piece v
    pub number : option_map number_of now.mine.piece ≡ Some n
    pub some : 0 < length (alternatives batch)
    pub alike : IsSomeAnd now.problem (λ asked. of batch ≡ asked.of)
    pub ends : IsSomeAnd now.mine.piece (λ whole. EndsWith whole.owes (alternatives batch))
    pub did : Publishes alternatives v n batch (publish_answer answer) q

  pub record IsReportTurn (n : ℕ) (report : Owed Event) : Type 0 where
    pub turn : TakesTurn of alternatives now inside taken worker piece v
    pub number : option_map number_of now.mine.piece ≡ Some n
    pub whole : IsSomeAnd now.mine.piece (λ whole. report ≡ report_of whole.owes)
    pub did : q ≡ reported v n report

-- the pool's call was made on u, the value that is held
module _ {N Of : Type 0} {of : N → Of} {alternatives : N → List (Owed Event)} {now inside taken : SeatSight N Of} {worker : ℕ} {piece : Option ℕ}
    {v : PoolData N Event} (t : TakesTurn of alternatives now inside taken worker piece v) {u : PoolData N Event} (held : u ≡ v) (q : PoolData N Event) where
  pub claim_turn : (answer : Claimed N) → ClaimsAs alternatives u worker answer q → now.mine.piece ≡ None
      → IsClaimTurn of alternatives now inside taken worker piece v q answer
  claim_turn answer did rests = record {
    turn = t;
    rests = rests;
    did = subst (λ w. ClaimsAs alternatives v w answer q) (own_now t)
        (subst (λ (p : PoolData N Event). ClaimsAs alternatives p worker answer q) held did);
  }

  module _ {n : ℕ} (is_open : piece ≡ Some n) where
    pub publish_turn : (batch : N) (answer : Result (Unit {0}) (PublishFault N)) → Publishes alternatives u n batch (publish_answer answer) q
        → 0 < length (alternatives batch) → IsSomeAnd now.problem (λ asked. of batch ≡ asked.of)
        → IsSomeAnd now.mine.piece (λ whole. EndsWith whole.owes (alternatives batch))
        → IsPublishTurn of alternatives now inside taken worker piece v q n batch answer
    publish_turn batch answer did some alike ends = record {
      turn = t;
      number = number_now t ∙ is_open;
      some = some;
      alike = alike;
      ends = ends;
      did = subst (λ (p : PoolData N Event). Publishes alternatives p n batch (publish_answer answer) q) held did;
    }

    pub report_turn : (report : Owed Event) → q ≡ reported u n report → IsSomeAnd now.mine.piece (λ whole. report ≡ report_of whole.owes)
        → IsReportTurn of alternatives now inside taken worker piece v q n report
    report_turn report did whole = record {
      turn = t;
      number = number_now t ∙ is_open;
      whole = whole;
      did = subst (λ (p : PoolData N Event). q ≡ reported p n report) held did;
    }

module _ {N Of : Type 0} {of : N → Of} {alternatives : N → List (Owed Event)} {now inside taken : SeatSight N Of} {worker : ℕ} {piece : Option ℕ}
    {v : PoolData N Event} {q : PoolData N Event} {answer : Claimed N} (h : IsClaimTurn of alternatives now inside taken worker piece v q answer) where
  pub claim_law : ChangesLawfully of alternatives v now.mine q
  claim_law = claim_lawful of alternatives now.problem v q now.mine (fits_now h.turn) h.rests answer h.did

  module _ (given : SeatSight N Of) (gave : GivesBack alternatives taken q given) where
    pub claim_owes : OwesWork alternatives answer given.mine.piece
    claim_owes = subst (OwesWork alternatives answer) (sym (piece_after h.turn q given gave))
        (owes_work of alternatives now.problem v q now.mine (fits_now h.turn) h.rests answer h.did)

    pub claim_kept : {made : Option ℕ} → made ≡ number_made answer → Keeps given worker made
    claim_kept is = seat_kept h.turn q given gave (made_number of alternatives answer given.mine.piece claim_owes ∙ sym is)

    pub claim_made : SeatFits of alternatives q given.problem given.mine
        → OneTurn of alternatives (λ found left. ClaimsAs alternatives found now.mine.worker answer left) now given
    claim_made = turn_made h.turn q given gave (λ found left. ClaimsAs alternatives found now.mine.worker answer left) h.did

module _ {N Of : Type 0} {of : N → Of} {alternatives : N → List (Owed Event)} {now inside taken : SeatSight N Of} {worker : ℕ} {piece : Option ℕ}
    {v : PoolData N Event} {q : PoolData N Event} {n : ℕ} {batch : N} {answer : Result (Unit {0}) (PublishFault N)}
    (h : IsPublishTurn of alternatives now inside taken worker piece v q n batch answer) where
  pub publish_law : ChangesLawfully of alternatives v now.mine q
  publish_law = publish_lawful of alternatives now.problem v q now.mine (fits_now h.turn) n h.number batch (publish_answer answer) h.some h.alike h.ends
      h.did

  module _ (given : SeatSight N Of) (gave : GivesBack alternatives taken q given) where
    pub publish_owes : OwesRest (alternatives batch) answer now.mine.piece given.mine.piece
    publish_owes = subst (OwesRest (alternatives batch) answer now.mine.piece) (sym (piece_after h.turn q given gave))
        (owes_rest of alternatives now.problem v q now.mine (fits_now h.turn) n h.number batch answer h.some h.alike h.ends h.did)

    pub publish_kept : Keeps given worker piece
    publish_kept = seat_kept h.turn q given gave
        (rest_number of alternatives (alternatives batch) answer now.mine.piece given.mine.piece publish_owes ∙ number_now h.turn)

    pub publish_made : SeatFits of alternatives q given.problem given.mine
        → OneTurn of alternatives (λ found left. Does alternatives found (Publish now.mine.worker batch (publish_answer answer)) left) now given
    publish_made = turn_made h.turn q given gave (λ found left. Does alternatives found (Publish now.mine.worker batch (publish_answer answer)) left)
        (publish_does of alternatives now.problem v q now.mine (fits_now h.turn) n h.number batch (publish_answer answer) h.did)

module _ {N Of : Type 0} {of : N → Of} {alternatives : N → List (Owed Event)} {now inside taken : SeatSight N Of} {worker : ℕ} {piece : Option ℕ}
    {v : PoolData N Event} {q : PoolData N Event} {n : ℕ} {report : Owed Event}
    (h : IsReportTurn of alternatives now inside taken worker piece v q n report) where
  pub report_law : ChangesLawfully of alternatives v now.mine q
  report_law = report_lawful of alternatives now.problem v q now.mine (fits_now h.turn) n h.number report h.whole h.did

  module _ (given : SeatSight N Of) (gave : GivesBack alternatives taken q given) where
    pub report_owes : given.mine.piece ≡ None
    report_owes = piece_after h.turn q given gave
        ∙ owes_nothing of alternatives now.problem v q now.mine (fits_now h.turn) n h.number report h.whole h.did

    pub report_kept : Keeps given worker None
    report_kept = seat_kept h.turn q given gave (ap (option_map number_of) report_owes)

    pub report_made : SeatFits of alternatives q given.problem given.mine
        → OneTurn of alternatives (λ found left. Does alternatives found (Report now.mine.worker report) left) now given
    report_made = turn_made h.turn q given gave (λ found left. Does alternatives found (Report now.mine.worker report) left)
        (report_does of alternatives now.problem v q now.mine (fits_now h.turn) n h.number report h.did)
