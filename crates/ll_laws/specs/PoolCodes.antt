-- Codes of what contracts see of reports and pools, by which proofs tell their values apart.
use Rattle.std.specs.Prelude.{◌≡◌, ℕ, List, Bool, Option, Some, None, refl}
use Rattle.std.specs.Coded.{Coded, code_by, coded×, coded_list, coded_ℕ, coded_bool, coded_option}
use Rattle.ll_laws.specs.Pool.{Owed, Status, Open, Closed, Taken, Piece, PoolData}

module _ {E : Type 0} (event : Coded E) where
  abbrev pub owed_code : Coded (Owed E)
  owed_code = code_by (List E × ℕ) (coded× (coded_list event) coded_ℕ) (λ o. (o.events, o.cost)) (λ p. record { events = p.0; cost = p.1 }) (λ _. refl)

  -- a status as nothing for an open piece, and otherwise the report where it is not taken
  abbrev status_into : Status E → Option (Option (Owed E))
  status_into Open = None
  status_into (Closed report) = Some (Some report)
  status_into Taken = Some None

  abbrev status_back : Option (Option (Owed E)) → Status E
  status_back None = Open
  status_back (Some None) = Taken
  status_back (Some (Some report)) = Closed report

  abbrev status_same : (s : Status E) → status_back (status_into s) ≡ s
  status_same Open = refl
  status_same (Closed report) = refl
  status_same Taken = refl

  abbrev pub status_code : Coded (Status E)
  status_code = code_by (Option (Option (Owed E))) (coded_option (coded_option owed_code)) status_into status_back status_same

  abbrev pub piece_code : Coded (Piece E)
  piece_code =
      code_by (ℕ × (ℕ × (ℕ × (List ℕ × Status E)))) (coded× coded_ℕ (coded× coded_ℕ (coded× coded_ℕ (coded× (coded_list coded_ℕ) status_code))))
      (λ x. (x.batch, (x.k, (x.worker, (x.published, x.status)))))
      (λ p. record { batch = p.0; k = p.1.0; worker = p.1.1.0; published = p.1.1.1.0; status = p.1.1.1.1 }) (λ _. refl)

  abbrev pub pool_code : {N : Type 0} → Coded N → Coded (PoolData N E)
  pool_code {N = N} batch =
      code_by (List N × (List (Piece E) × (ℕ × (ℕ × (ℕ × (ℕ × (Bool × Bool)))))))
      (coded× (coded_list batch) (coded× (coded_list piece_code)
      (coded× coded_ℕ (coded× coded_ℕ (coded× coded_ℕ (coded× coded_ℕ (coded× coded_bool coded_bool)))))))
      (λ p. (p.batches, (p.pieces, (p.workers, (p.busy, (p.total, (p.untried, (p.starved, p.stopped))))))))
      (λ t. record {
        batches = t.0;
        pieces = t.1.0;
        workers = t.1.1.0;
        busy = t.1.1.1.0;
        total = t.1.1.1.1.0;
        untried = t.1.1.1.1.1.0;
        starved =
            t.1.1.1.1.1.1.0;
        stopped = t.1.1.1.1.1.1.1;
      }) (λ _. refl)
