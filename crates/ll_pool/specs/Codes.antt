-- Codes of what contracts see of shared pools and seats, by which proofs tell their values apart.
use Rattle.std.specs.Prelude.{ℕ, List, Bool, Option, refl}
use Rattle.std.specs.Coded.{Coded, code_by, coded×, coded_list, coded_ℕ, coded_bool, coded_option}
use Rattle.atomic_table.specs.Seated.{TableId, table_id_coded}
use Rattle.ll_laws.specs.declared.Event.{Event}
use Rattle.ll_laws.specs.Pool.{Owed, PoolData}
use Rattle.ll_laws.specs.PoolCodes.{owed_code, pool_code}
use Rattle.ll_pool.specs.Turns.{SeatSight}
use Rattle.ll_pool.specs.declared.data.PoolProblem.{PoolProblem}
use Rattle.ll_pool.specs.declared.data.OpenPiece.{OpenPiece}
use Rattle.ll_pool.specs.declared.data.SeatData.{SeatData}

module _ (event : Coded Event) where
  abbrev pub problem_code : {Of : Type 0} → Coded Of → Coded (PoolProblem Of)
  problem_code {Of = Of} of = code_by (Of × Owed Event) (coded× of (owed_code event)) (λ p. (p.of, p.owes)) (λ t. record { of = t.0; owes = t.1 }) (λ _. refl)

  abbrev pub piece_code : Coded OpenPiece
  piece_code = code_by (ℕ × Owed Event) (coded× coded_ℕ (owed_code event)) (λ p. (p.number, p.owes)) (λ t. record { number = t.0; owes = t.1 }) (λ _. refl)

  module _ {N : Type 0} (batch : Coded N) where
    abbrev pub data_code : Coded (SeatData N)
    data_code =
        code_by (ℕ × (ℕ × (ℕ × (Option OpenPiece × (PoolData N Event × (ℕ × Bool))))))
        (coded× coded_ℕ (coded× coded_ℕ (coded× coded_ℕ (coded× (coded_option piece_code) (coded× (pool_code event batch) (coded× coded_ℕ coded_bool))))))
        (λ d. (d.worker, (d.from, (d.end, (d.piece, (d.seen, (d.turns, d.quit)))))))
        (λ t. record { worker = t.0; from = t.1.0; end = t.1.1.0; piece = t.1.1.1.0; seen = t.1.1.1.1.0; turns = t.1.1.1.1.1.0; quit = t.1.1.1.1.1.1 })
        (λ _. refl)

    abbrev pub seat_code : {Of : Type 0} → Coded Of → Coded (SeatSight N Of)
    seat_code {Of = Of} of =
        code_by (TableId × (Option (PoolProblem Of) × (SeatData N × (Option (PoolData N Event) × List ℕ))))
        (coded× table_id_coded (coded× (coded_option (problem_code of))
        (coded× data_code (coded× (coded_option (pool_code event batch)) (coded_list coded_ℕ)))))
        (λ s. (s.table, (s.problem, (s.mine, (s.before, s.given)))))
        (λ t. record { table = t.0; problem = t.1.0; mine = t.1.1.0; before = t.1.1.1.0; given = t.1.1.1.1 }) (λ _. refl)
