-- What a seat owes after its events, and that these are lawful.
use Rattle.std.proofs.Common.{◌≡◌, ℕ, zero, suc, ◌<◌, ◌≤◌, List, [], ◌∷◌, length, refl, sym, ap, ◌∙◌, subst, arith, le_refl, Option, Some, None, IsSomeAnd}
use Rattle.std.specs.Prelude.{option_map, slice_get, sum_by}
use Rattle.std.specs.Arc.{arc_value}
use Rattle.std.specs.declared.result.Result.{Result}
use Rattle.std.specs.declared.result.Result.TheVariants.{Ok, Err}
use Rattle.ll_list_laws.proofs.CallerLemmas.{some_is, none_not_some}
use Rattle.ll_laws.specs.declared.Event.{Event}
use Rattle.ll_laws.specs.Pool.{Owed, Piece, PoolData}
use Rattle.ll_laws.specs.Spread.{share, owes_of, owed_at, owed_or_nothing, list_or_empty}
use Rattle.ll_laws.specs.Sound.{report_of}
use Rattle.ll_laws.specs.CoreEvents.{ClaimAnswer, Claim, Publish, Report, Done, PublishAnswer, Claims, Publishes, opening, new_piece, with_batch, reported}
use Rattle.ll_laws.specs.CoreEvents.{Holds, NoOpen, Does, Splits, Lawful}
use Rattle.ll_laws.specs.CoreEvents as event
use Rattle.ll_core.specs.Laws.{IsQuiet}
use Rattle.ll_core.specs.Calls.{ClaimsAs, publish_answer}
use Rattle.ll_core.specs.declared.answers.Claimed.{Claimed}
use Rattle.ll_core.specs.declared.answers.Claimed.TheVariants.{Work, Idle, Finished, Starved, Stopped}
use Rattle.ll_core.specs.declared.answers.PublishFault.{PublishFault}
use Rattle.ll_core.specs.declared.answers.PublishFault.TheVariants.{Full, OutOfMemory}
use Rattle.ll_core.proofs.CallerLemmas.{get_map_at, claim_gives, publish_splits, report_closes, later_itself, opening_sound}
use Rattle.ll_pool.specs.Fits.{SeatFits, ChangesLawfully, first_seat, problem_of, open_piece, HasPiece, number_of}
use Rattle.ll_pool.specs.Turns.{EndsWith, IsRest, OwesWork, OwesRest, number_made}
use Rattle.ll_pool.specs.OpenPieces.{has_open_piece, one_piece}
use Rattle.ll_pool.specs.declared.data.PoolProblem.{PoolProblem}
use Rattle.ll_pool.specs.declared.data.OpenPiece.{OpenPiece}
use Rattle.ll_pool.specs.declared.data.SeatData.{SeatData}
use Rattle.ll_pool.proofs.Turning.{sound_left, quiet_piece}

-- ---- lists

one_is : (xs : List (Owed Event)) → length xs ≡ 1 → xs ≡ owed_or_nothing (slice_get xs 0) ∷ []
one_is [] e = absurd (omega arith)
one_is (x ∷ []) e = refl
one_is (x ∷ y ∷ xs) e = absurd (omega arith)

there : (xs : List (Owed Event)) (k : ℕ) → k < length xs → slice_get xs k ≡ Some (owed_or_nothing (slice_get xs k))
there [] k low = absurd (omega arith)
there (x ∷ xs) zero low = refl
there (x ∷ xs) (suc k) low = there xs k (omega arith)

-- ---- a new pool

module _ {N Of : Type 0} (of : N → Of) (alternatives : N → List (Owed Event)) where
  pub first_fits : (root : N) (workers : ℕ) → 0 < workers → workers ≤ 64 → length (alternatives root) ≡ 1
      → SeatFits of alternatives (opening root workers) (first_seat of alternatives (opening root workers)).0
      (first_seat of alternatives (opening root workers)).1
  first_fits root workers some few one = record {
    asked = problem_of of alternatives root;
    is_asked = refl;
    sound = opening_sound alternatives of root workers (owed_or_nothing (slice_get (alternatives root) 0)) (one_is (alternatives root) one);
    later = later_itself (opening root workers);
    piece = λ i x e. absurd (none_not_some x e);
    few = few;
    own_below = some;
    range = λ more. (omega arith, le_refl workers);
    none_open = λ w low high i x e. absurd (none_not_some x e);
    taken = λ first i. ((λ t. t), (λ t. t));
  }

  -- ---- the piece that a seat has

  -- a seat with this running number of its open piece has this piece
  pub piece_there : (p : PoolData N Event) (w n : ℕ) (o : Option OpenPiece) → HasPiece alternatives p w o → option_map number_of o ≡ Some n
      → (owes : Owed Event) × (o ≡ Some (record { number = n; owes = owes })) × (x : Piece Event) × Holds p w n x × (owes ≡ share (owes_of alternatives p) x)
  piece_there p w n None h e = absurd (none_not_some n e)
  piece_there p w n (Some piece) h e =
      let at : piece.number ≡ n = some_is piece.number n e in
      (piece.owes, (λ i. Some (record { number = at i; owes = piece.owes })), h.0, subst (λ m. Holds p w m h.0) at h.1, h.2)

  -- ---- claiming

  claims : (p q : PoolData N Event) (w : ℕ) (answer : Claimed N) → ClaimsAs alternatives p w answer q → (a : ClaimAnswer) × Claims alternatives p w a q
  claims p q w (Work piece batch k) h = (event.Work piece h.0 k, h.2)
  claims p q w (Idle busy) h = (event.Idle busy, h)
  claims p q w Finished h = (event.Finished, h)
  claims p q w Starved h = (event.Starved, h)
  claims p q w Stopped h = (event.Stopped, h)

  module _ (problem : Option (PoolProblem Of)) (p q : PoolData N Event) (mine : SeatData N) (fits : SeatFits of alternatives p problem mine) where
    none_now : mine.piece ≡ None → NoOpen p mine.worker
    none_now rests = subst (HasPiece alternatives p mine.worker) rests fits.piece

    abbrev by_claim : mine.piece ≡ None → (a : ClaimAnswer) → Claims alternatives p mine.worker a q → ChangesLawfully of alternatives p mine q
    by_claim rests a h = (Claim mine.worker a, refl, (fits.own_below, none_now rests), h)

    pub claim_lawful : mine.piece ≡ None → (answer : Claimed N) → ClaimsAs alternatives p mine.worker answer q → ChangesLawfully of alternatives p mine q
    claim_lawful rests answer h = let a = claims p q mine.worker answer h in by_claim rests a.0 a.1

    -- where nothing was claimed the seat has no open piece
    none_after : mine.piece ≡ None → (law : ChangesLawfully of alternatives p mine q) → IsQuiet law.0 → open_piece alternatives q mine.worker ≡ None
    none_after rests law quiet = quiet_piece of alternatives problem p q mine fits law quiet ∙ rests

    pub owes_work : mine.piece ≡ None → (answer : Claimed N) → ClaimsAs alternatives p mine.worker answer q
        → OwesWork alternatives answer (open_piece alternatives q mine.worker)
    owes_work rests (Work piece batch k) h =
        let b = h.0 in let untried = h.2.1 in
        let gives = claim_gives of alternatives p q mine.worker piece b k h.2 in
        let here : slice_get (owes_of alternatives p) b ≡ Some (alternatives (arc_value batch)) = get_map_at alternatives p.batches b (arc_value batch) h.1 in
        let owed : owed_at (owes_of alternatives p) b k ≡ owed_or_nothing (slice_get (alternatives (arc_value batch)) k) =
        ap (λ o. owed_or_nothing (slice_get (list_or_empty o) k)) here in
        let inside : k < length (alternatives (arc_value batch)) = subst (λ o. k < length (list_or_empty o)) here untried.inside in (
          owed_at (owes_of alternatives p) b k,
          there (alternatives (arc_value batch)) k inside ∙ ap Some (sym owed),
          one_piece alternatives q (sound_left of alternatives problem p q mine fits (by_claim rests (event.Work piece b k) h.2)) mine.worker
              (open_piece alternatives q mine.worker)
              (Some (record { number = piece; owes = owed_at (owes_of alternatives p) b k })) (has_open_piece alternatives q mine.worker)
              (new_piece mine.worker b k, gives.0, sym gives.1),
        )
    owes_work rests (Idle busy) h = none_after rests (by_claim rests (event.Idle busy) h) tt
    owes_work rests Finished h = none_after rests (by_claim rests event.Finished h) tt
    owes_work rests Starved h = none_after rests (by_claim rests event.Starved h) tt
    owes_work rests Stopped h = none_after rests (by_claim rests event.Stopped h) tt

    -- ---- publishing

    module _ (n : ℕ) (number : option_map number_of mine.piece ≡ Some n) where
      pub splits : (batch : N) → 0 < length (alternatives batch) → IsSomeAnd problem (λ asked. of batch ≡ asked.of) → (owes : Owed Event) (x : Piece Event)
          → owes ≡ share (owes_of alternatives p) x → EndsWith owes (alternatives batch) → Splits of alternatives p x batch
      splits batch some alike owes x is ends =
          let sound = fits.sound in
          let same : of batch ≡ fits.asked.of = subst (λ o. IsSomeAnd o (λ asked. of batch ≡ asked.of)) fits.is_asked alike in
          record {
            some = some;
            alike = λ root e. same ∙ sym (sound.alike 0 root e);
            rest = ends.rest;
            ends = ap (λ (o : Owed Event). o.events) (sym is) ∙ ends.events;
            cost = subst (λ (o : Owed Event). sum_by (λ (o : Owed Event). o.cost) (alternatives batch) ≤ o.cost) is ends.cost;
          }

      abbrev pub publish_does : (batch : N) (answer : PublishAnswer) → Publishes alternatives p n batch answer q
          → Does alternatives p (Publish mine.worker batch answer) q
      publish_does batch answer h = let t = piece_there p mine.worker n mine.piece fits.piece number in (n, t.2, t.3, h)

      abbrev pub publish_lawful : (batch : N) (answer : PublishAnswer) → 0 < length (alternatives batch) → IsSomeAnd problem (λ asked. of batch ≡ asked.of)
          → IsSomeAnd mine.piece (λ piece. EndsWith piece.owes (alternatives batch)) → Publishes alternatives p n batch answer q
          → ChangesLawfully of alternatives p mine q
      publish_lawful batch answer some alike ends h =
          let t = piece_there p mine.worker n mine.piece fits.piece number in
          let e : EndsWith t.0 (alternatives batch) = subst (λ o. IsSomeAnd o (λ (piece : OpenPiece). EndsWith piece.owes (alternatives batch))) t.1 ends in
          (Publish mine.worker batch answer, refl, (n, t.2, t.3, splits batch some alike t.0 t.2 t.4 e), publish_does batch answer h)

      pub owes_rest : (batch : N) (answer : Result (Unit {0}) (PublishFault N)) → 0 < length (alternatives batch)
          → IsSomeAnd problem (λ asked. of batch ≡ asked.of) → IsSomeAnd mine.piece (λ piece. EndsWith piece.owes (alternatives batch))
          → Publishes alternatives p n batch (publish_answer answer) q → OwesRest (alternatives batch) answer mine.piece (open_piece alternatives q mine.worker)
      owes_rest batch (Ok done) some alike ends h =
          let t = piece_there p mine.worker n mine.piece fits.piece number in
          let law = publish_lawful batch Done some alike ends h in
          let asked = fits.asked in
          let split = publish_splits of alternatives p q asked.of asked.owes mine.worker n t.2 batch fits.sound law.2 law.3 t.3 in
          let y = with_batch (length p.batches) t.2 in
          let after : open_piece alternatives q mine.worker ≡ Some (record { number = n; owes = share (owes_of alternatives q) y }) =
          one_piece alternatives q (sound_left of alternatives problem p q mine fits law) mine.worker (open_piece alternatives q mine.worker)
          (Some (record { number = n; owes = share (owes_of alternatives q) y })) (has_open_piece alternatives q mine.worker) (y, split.0, refl) in
          subst (λ o. IsSomeAnd o (λ (whole : OpenPiece). IsSomeAnd (open_piece alternatives q mine.worker)
          (λ (rest : OpenPiece). IsRest (alternatives batch) whole rest))) (sym t.1)
          (subst (λ o. IsSomeAnd o (λ (rest : OpenPiece). IsRest (alternatives batch) (record { number = n; owes = t.0 }) rest)) (sym after)
          (record {
            number = refl;
            events = split.1 ∙ ap (λ (o : Owed Event). o.events) (sym t.4);
            cost =
                split.2 ∙ ap (λ (o : Owed Event). o.cost) (sym t.4);
          }))
      owes_rest batch (Err (Full total back)) some alike ends h =
          quiet_piece of alternatives problem p q mine fits (publish_lawful batch (event.Full total) some alike ends h) tt
      owes_rest batch (Err (OutOfMemory back)) some alike ends h =
          quiet_piece of alternatives problem p q mine fits (publish_lawful batch event.NoMemory some alike ends h) tt

      -- ---- reporting

      abbrev pub report_does : (report : Owed Event) → q ≡ reported p n report → Does alternatives p (Report mine.worker report) q
      report_does report h = let t = piece_there p mine.worker n mine.piece fits.piece number in (n, t.2, t.3, h)

      abbrev pub report_lawful : (report : Owed Event) → IsSomeAnd mine.piece (λ piece. report ≡ report_of piece.owes) → q ≡ reported p n report
          → ChangesLawfully of alternatives p mine q
      report_lawful report whole h =
          let t = piece_there p mine.worker n mine.piece fits.piece number in
          let e : report ≡ report_of t.0 = subst (λ o. IsSomeAnd o (λ (piece : OpenPiece). report ≡ report_of piece.owes)) t.1 whole in
          (Report mine.worker report, refl, (n, t.2, t.3, e ∙ ap report_of t.4), report_does report h)

      pub owes_nothing : (report : Owed Event) → IsSomeAnd mine.piece (λ piece. report ≡ report_of piece.owes) → q ≡ reported p n report
          → open_piece alternatives q mine.worker ≡ None
      owes_nothing report whole h =
          let sound = fits.sound in
          one_piece alternatives q (sound_left of alternatives problem p q mine fits (report_lawful report whole h)) mine.worker
          (open_piece alternatives q mine.worker) None (has_open_piece alternatives q mine.worker)
          (report_closes of alternatives p q mine.worker report sound.shape (report_does report h))

  -- the number of a seat's open piece after a claim
  pub made_number : (answer : Claimed N) (piece : Option OpenPiece) → OwesWork alternatives answer piece → option_map number_of piece ≡ number_made answer
  made_number (Work i batch k) piece h = ap (option_map number_of) h.2
  made_number (Idle busy) piece h = ap (option_map number_of) h
  made_number Finished piece h = ap (option_map number_of) h
  made_number Starved piece h = ap (option_map number_of) h
  made_number Stopped piece h = ap (option_map number_of) h

  -- and after a publishing
  pub rest_number : (batch : List (Owed Event)) (answer : Result (Unit {0}) (PublishFault N)) (before after : Option OpenPiece)
      → OwesRest batch answer before after → option_map number_of after ≡ option_map number_of before
  rest_number batch (Ok done) None after h = absurd h
  rest_number batch (Ok done) (Some whole) None h = absurd h
  rest_number batch (Ok done) (Some whole) (Some rest) h = ap Some h.number
  rest_number batch (Err fault) before after h = ap (option_map number_of) h
