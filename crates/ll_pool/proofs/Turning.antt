-- One held turn, from what the calls of the turn say.
use Rattle.std.proofs.Common.{◌≡◌, ℕ, List, sym, ap, ◌∙◌, subst, inr, Option, Some, None, IsSomeAnd, IfSome}
use Rattle.std.specs.Prelude.{option_map}
use Rattle.ll_laws.specs.declared.Event.{Event}
use Rattle.ll_laws.specs.Pool.{Owed, PoolData}
use Rattle.ll_laws.specs.Sound.{Sound, Shaped}
use Rattle.ll_core.specs.Laws.{IsQuiet}
use Rattle.ll_core.proofs.CallerLemmas.{keeps_sound}
use Rattle.ll_pool.specs.Fits.{SeatFits, ChangesLawfully, after_change, open_piece, number_of}
use Rattle.ll_pool.specs.Turns.{SeatSight, OneTurn}
use Rattle.ll_pool.specs.OpenPieces.{has_open_piece, one_piece, piece_kept}
use Rattle.ll_pool.specs.declared.data.PoolProblem.{PoolProblem}
use Rattle.ll_pool.specs.declared.data.SeatData.{SeatData}

-- what a seat keeps between two calls: it holds no turn, and its worker and its open piece have these numbers
abbrev pub Keeps : {N Of : Type 0} → SeatSight N Of → ℕ → Option ℕ → Type 0
Keeps seat worker piece = (seat.before ≡ None) × (seat.mine.worker ≡ worker) × (option_map number_of seat.mine.piece ≡ piece)

-- a seat that had the turn gave it back with the pool q
abbrev pub GivesBack : {N Of : Type 0} → (N → List (Owed Event)) → SeatSight N Of → PoolData N Event → SeatSight N Of → Type 0
GivesBack alternatives taken q given = IfSome taken.before
    (λ before. given ≡ record taken { mine = after_change alternatives before taken.mine q; before = None })

module _ {N Of : Type 0} (of : N → Of) (alternatives : N → List (Owed Event)) where
  -- a lawful change leaves a sound pool
  pub sound_left : (problem : Option (PoolProblem Of)) (p q : PoolData N Event) (mine : SeatData N) → SeatFits of alternatives p problem mine
      → ChangesLawfully of alternatives p mine q → Shaped alternatives q
  sound_left problem p q mine fits law =
      let asked = fits.asked in
      let sound : Sound of alternatives q asked.of asked.owes = keeps_sound of alternatives p q asked.of asked.owes fits.sound law.0 law.2 law.3 in
      sound.shape

  -- a quiet event leaves the seat's open piece as it is
  pub quiet_piece : (problem : Option (PoolProblem Of)) (p q : PoolData N Event) (mine : SeatData N) → SeatFits of alternatives p problem mine
      → (law : ChangesLawfully of alternatives p mine q) → IsQuiet law.0 → open_piece alternatives q mine.worker ≡ mine.piece
  quiet_piece problem p q mine fits law quiet =
      let sound = fits.sound in
      one_piece alternatives q (sound_left problem p q mine fits law) mine.worker (open_piece alternatives q mine.worker) mine.piece
      (has_open_piece alternatives q mine.worker)
      (piece_kept alternatives p q law.0 mine.worker mine.worker mine.piece sound.shape law.3 law.1 (inr quiet) fits.piece)

  -- A seat, which its caller sees as `now`, takes the turn and finds v
  pub record TakesTurn (now inside taken : SeatSight N Of) (worker : ℕ) (piece : Option ℕ) (v : PoolData N Event) : Type 0 where
    pub view_is : inside ≡ now
    pub kept : Keeps inside worker piece
    pub took : taken ≡ record inside { before = Some v }
    pub fits : SeatFits of alternatives v inside.problem inside.mine

  pub takes_turn : {now inside taken : SeatSight N Of} {worker : ℕ} {piece : Option ℕ} {v : PoolData N Event} → inside ≡ now → Keeps inside worker piece
      → taken ≡ record inside { before = Some v } → SeatFits of alternatives v inside.problem inside.mine
      → TakesTurn now inside taken worker piece v
  takes_turn view_is kept took fits = record { view_is = view_is; kept = kept; took = took; fits = fits }

module _ {N Of : Type 0} {of : N → Of} {alternatives : N → List (Owed Event)} {now inside taken : SeatSight N Of} {worker : ℕ} {piece : Option ℕ}
    {v : PoolData N Event} (t : TakesTurn of alternatives now inside taken worker piece v) where
  pub fits_now : SeatFits of alternatives v now.problem now.mine
  fits_now = subst (λ (s : SeatSight N Of). SeatFits of alternatives v s.problem s.mine) t.view_is t.fits

  pub own_now : worker ≡ now.mine.worker
  own_now = sym t.kept.1 ∙ ap (λ (s : SeatSight N Of). s.mine.worker) t.view_is

  pub number_now : option_map number_of now.mine.piece ≡ piece
  number_now = ap (λ (s : SeatSight N Of). option_map number_of s.mine.piece) (sym t.view_is) ∙ t.kept.2

  pub may_give : (q : PoolData N Event) → ChangesLawfully of alternatives v now.mine q
      → IsSomeAnd taken.before (λ before. ChangesLawfully of alternatives before taken.mine q)
  may_give q law =
      subst (λ (s : SeatSight N Of). IsSomeAnd s.before (λ before. ChangesLawfully of alternatives before s.mine q)) (sym t.took)
      (subst (λ (s : SeatSight N Of). ChangesLawfully of alternatives v s.mine q) (sym t.view_is) law)

  -- and gives it back with the pool q
  module _ (q : PoolData N Event) (given : SeatSight N Of) (gave : GivesBack alternatives taken q given) where
    given_inside : given ≡ record inside { mine = after_change alternatives v inside.mine q; before = None }
    given_inside = subst (λ (s : SeatSight N Of). GivesBack alternatives s q given) t.took gave

    given_now : given ≡ record now { mine = after_change alternatives v now.mine q; before = None }
    given_now = subst (λ (s : SeatSight N Of). given ≡ record s { mine = after_change alternatives v s.mine q; before = None }) t.view_is given_inside

    pub after_turn : given ≡ record now { mine = after_change alternatives v now.mine q }
    after_turn =
        let none_now : now.before ≡ None = ap (λ (s : SeatSight N Of). s.before) (sym t.view_is) ∙ t.kept.0 in
        given_now ∙ (λ i. record now { mine = after_change alternatives v now.mine q; before = sym none_now i })

    pub piece_after : given.mine.piece ≡ open_piece alternatives q now.mine.worker
    piece_after = ap (λ (s : SeatSight N Of). s.mine.piece) given_now

    pub turn_made : (change : PoolData N Event → PoolData N Event → Type 0) → change v q → SeatFits of alternatives q given.problem given.mine
        → OneTurn of alternatives change now given
    turn_made change changed left = record {
      found = v;
      left = q;
      fits = fits_now;
      changed = changed;
      seat = after_turn;
      fits_left = left;
    }

    -- what the seat keeps, once its open piece is known
    pub seat_kept : {after : Option ℕ} → option_map number_of given.mine.piece ≡ after → Keeps given worker after
    seat_kept number = (
      ap (λ (s : SeatSight N Of). s.before) given_inside,
      ap (λ (s : SeatSight N Of). s.mine.worker) given_inside ∙ t.kept.1,
      number,
    )

    -- after a quiet event the seat's open piece is what it was
    module _ (law : ChangesLawfully of alternatives v now.mine q) (quiet : IsQuiet law.0) where
      pub piece_quiet : given.mine.piece ≡ now.mine.piece
      piece_quiet = piece_after ∙ quiet_piece of alternatives now.problem v q now.mine fits_now law quiet

      pub kept_quiet : Keeps given worker piece
      kept_quiet = seat_kept (ap (option_map number_of) piece_quiet ∙ number_now)
