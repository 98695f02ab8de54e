-- The laws of the pool as a kept value.
use Rattle.std.proofs.Common.{◌≡◌, ◌<◌, ◌≤◌, List, refl, sym, ◌∙◌, inl, inr, arith, le_refl, Option}
use Rattle.ll_turn.specs.Numbers.{HasToGive, AllDifferent, IsFirst, IsParted}
use Rattle.ll_laws.specs.declared.Event.{Event}
use Rattle.ll_laws.specs.Pool.{Owed, PoolData}
use Rattle.ll_core.proofs.CallerLemmas.{keeps_sound, none_kept, takes_alone, workers_kept, later_itself, later_on, later_event}
use Rattle.ll_pool.specs.Fits.{numbers_of, first_seat, SeatFits, ChangesLawfully, after_change, parts}
use Rattle.ll_pool.specs.declared.data.PoolProblem.{PoolProblem}
use Rattle.ll_pool.specs.declared.data.SeatData.{SeatData}
use Rattle.ll_pool.specs.OpenPieces.{has_open_piece, piece_kept}

module _ {N : Type 0} where
  pub parts_numbers : (mine : SeatData N) → HasToGive (numbers_of mine) → IsParted (numbers_of mine) (numbers_of (parts mine).0) (numbers_of (parts mine).1)
  parts_numbers mine more = (refl, refl, refl, refl, le_refl 0)

module _ {N Of : Type 0} (alternatives : N → List (Owed Event)) where
  pub keeps_numbers : (problem : Option (PoolProblem Of)) (before : PoolData N Event) (mine : SeatData N) (after : PoolData N Event)
      → numbers_of (after_change alternatives before mine after) ≡ numbers_of mine
  keeps_numbers problem before mine after = refl

module _ {N Of : Type 0} (of : N → Of) (alternatives : N → List (Owed Event)) where
  pub begins_first : (p : PoolData N Event) → SeatFits of alternatives p (first_seat of alternatives p).0 (first_seat of alternatives p).1
      → IsFirst (numbers_of (first_seat of alternatives p).1)
  begins_first p fits = let few = fits.few in (refl, λ more. (refl, omega arith))

  own_fits : (problem : Option (PoolProblem Of)) (p : PoolData N Event) (mine : SeatData N) (q : PoolData N Event) → SeatFits of alternatives p problem mine
      → ChangesLawfully of alternatives p mine q → SeatFits of alternatives q problem (after_change alternatives p mine q)
  own_fits problem p mine q fits law =
      let asked = fits.asked in let workers = workers_kept of alternatives p q law.0 law.3 in
      record {
        asked = asked;
        is_asked = fits.is_asked;
        sound = keeps_sound of alternatives p q asked.of asked.owes fits.sound law.0 law.2 law.3;
        later = later_itself q;
        piece = has_open_piece alternatives q mine.worker;
        few = let few = fits.few in omega arith;
        own_below = let below = fits.own_below in omega arith;
        range = λ more. let range = fits.range more in (range.0, let end = range.1 in omega arith);
        none_open = λ w low high. none_kept of alternatives p q mine.worker w law.0 law.3 law.1
            (inl (λ same. let range = fits.range (omega arith) in let above = range.0 in omega arith)) (fits.none_open w low high);
        taken = λ first i. ((λ t. t), (λ t. t));
      }

  other_fits : (problem : Option (PoolProblem Of)) (p : PoolData N Event) (mine : SeatData N) (q : PoolData N Event) (other : SeatData N)
      → ChangesLawfully of alternatives p mine q → SeatFits of alternatives p problem other → AllDifferent (numbers_of mine) (numbers_of other)
      → SeatFits of alternatives q problem other
  other_fits problem p mine q other law fits differ =
      let asked = fits.asked in let workers = workers_kept of alternatives p q law.0 law.3 in let sound = fits.sound in
      let apart : mine.worker ≡ other.worker → ⊥ = λ same. differ.2 mine.worker (inl refl) (inl same) in
      record {
        asked = asked;
        is_asked = fits.is_asked;
        sound = keeps_sound of alternatives p q asked.of asked.owes fits.sound law.0 law.2 law.3;
        later = later_on other.seen p q fits.later (later_event alternatives p q law.0 law.3);
        piece = piece_kept alternatives p q law.0 mine.worker other.worker other.piece sound.shape law.3 law.1 (inl apart) fits.piece;
        few = let few = fits.few in omega arith;
        own_below = let below = fits.own_below in omega arith;
        range = λ more. let range = fits.range more in (range.0, let end = range.1 in omega arith);
        none_open = λ w low high. none_kept of alternatives p q mine.worker w law.0 law.3 law.1
            (inl (λ same. differ.2 mine.worker (inl refl) (inr (let low' : other.from ≤ mine.worker = omega arith in
            let high' : mine.worker < other.end = omega arith in (low', high'))))) (fits.none_open w low high);
        taken = λ first i.
            let t = fits.taken first i in
            let u = takes_alone of alternatives p q law.0 mine.worker i law.3 law.1 (λ zero. apart (zero ∙ sym first)) in
            ((λ h. u.0 (t.0 h)), (λ h. t.1 (u.1 h)));
      }

  pub change_fits : (problem : Option (PoolProblem Of)) (p : PoolData N Event) (mine : SeatData N) (q : PoolData N Event)
      → SeatFits of alternatives p problem mine → ChangesLawfully of alternatives p mine q
      → SeatFits of alternatives q problem (after_change alternatives p mine q)
      × ((other : SeatData N) → SeatFits of alternatives p problem other → AllDifferent (numbers_of mine) (numbers_of other)
      → SeatFits of alternatives q problem other)
  change_fits problem p mine q fits law = (own_fits problem p mine q fits law, λ other fits' differ. other_fits problem p mine q other law fits' differ)

  pub parts_fit : (problem : Option (PoolProblem Of)) (p : PoolData N Event) (mine : SeatData N) → HasToGive (numbers_of mine)
      → SeatFits of alternatives p problem mine → SeatFits of alternatives p problem (parts mine).0 × SeatFits of alternatives p problem (parts mine).1
  parts_fit problem p mine more fits =
      let range = fits.range more in let above = range.0 in let end = range.1 in (
        record {
          asked = fits.asked;
          is_asked = fits.is_asked;
          sound = fits.sound;
          later = fits.later;
          piece = fits.piece;
          few = fits.few;
          own_below = fits.own_below;
          range = λ left. (omega arith, end);
          none_open = λ w low high. fits.none_open w (omega arith) high;
          taken = fits.taken;
        },
        record {
          asked = fits.asked;
          is_asked = fits.is_asked;
          sound = fits.sound;
          later = fits.later;
          piece = fits.none_open mine.from (le_refl mine.from) more;
          few = fits.few;
          own_below = omega arith;
          range = λ left. absurd (omega arith);
          none_open = λ w low high. absurd (omega arith);
          taken = λ first i. absurd (omega arith);
        },
      )
