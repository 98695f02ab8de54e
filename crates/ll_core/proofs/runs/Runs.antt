-- Whole runs from a new pool: they are sound, and claim no alternative twice.
use Rattle.std.proofs.Common.{◌≡◌, ℕ, zero, suc, List, [], ◌∷◌, ◌++◌, length, map, refl, sym, ap, ◌∙◌, subst, append_assoc, append-nil, Some, None}
use Rattle.std.specs.Prelude.{flat_map}
use Rattle.std.proofs.lemmas.List.{map_push}
use Rattle.ll_laws.specs.Pool.{Owed, Closed, Taken, Piece, PoolData, Alternative, place}
use Rattle.ll_laws.specs.Spread.{spread}
use Rattle.ll_laws.specs.Sound.{Sound}
use Rattle.ll_laws.specs.CoreEvents.{CoreEvent, Claim, Publish, Report, Starve, Stop, Look, Ready, Work, Idle, Finished, Starved, Stopped, Done, Full}
use Rattle.ll_laws.specs.CoreEvents.{NoMemory, Events, NotYet, All, change, new_piece, with_batch, with_status, opening, Does, RunsTo, claim_of}
use Rattle.ll_core.specs.Laws.{AllDifferent}
use Rattle.ll_core.proofs.events.Pieces.{Apart}
use Rattle.ll_core.proofs.sound.Facts.{get_map, spread_is}
use Rattle.ll_core.proofs.events.LawfulEvents.{keeps_sound}
use Rattle.ll_core.proofs.events.Openings.{opening_sound}

module _ {N Of E : Type 0} (of : N → Of) (alternatives : N → List (Owed E)) where
  pub run_sound : (es : List (CoreEvent N E)) (p q : PoolData N E) (problem : Of) (pair : Owed E) → Sound of alternatives p problem pair
      → RunsTo of alternatives p es q → Sound of alternatives q problem pair
  run_sound [] p q problem pair s r = subst (λ u. Sound of alternatives u problem pair) (sym r) s
  run_sound (e ∷ es) p q problem pair s r = run_sound es r.0 q problem pair (keeps_sound of alternatives p r.0 problem pair s e r.1 r.2) r.3

  pub runs_sound : (root : N) (workers : ℕ) (pair : Owed E) (es : List (CoreEvent N E)) (q : PoolData N E) → alternatives root ≡ pair ∷ []
      → RunsTo of alternatives (opening root workers) es q
      → Sound of alternatives q (of root) pair × (spread alternatives q ≡ pair.events)
  runs_sound root workers pair es q e r =
      let s = run_sound es (opening root workers) q (of root) pair (opening_sound alternatives of root workers pair e) r in
      (s, spread_is of alternatives q (of root) pair s)

  -- ---- what is claimed

  places_changed : (f : Piece E → Piece E) → ((x : Piece E) → place (f x) ≡ place x) → (i : ℕ) (pieces : List (Piece E))
      → map place (change i f pieces) ≡ map place pieces
  places_changed f same zero [] = refl
  places_changed f same (suc i) [] = refl
  places_changed f same zero (x ∷ pieces) = ap (λ a. a ∷ map place pieces) (same x)
  places_changed f same (suc i) (x ∷ pieces) = ap (λ l. place x ∷ l) (places_changed f same i pieces)

  abbrev Places : (p : PoolData N E) → List Alternative
  Places p = map place p.pieces

  module _ (p q : PoolData N E) where
    unclaimed : q ≡ p → Places q ≡ Places p ++ []
    unclaimed e = ap Places e ∙ sym (append-nil (Places p))

    claims_in : (e : CoreEvent N E) → Does alternatives p e q → Places q ≡ Places p ++ claim_of e
    claims_in (Claim w (Work i b k)) d = ap Places d.3 ∙ map_push place p.pieces (new_piece w b k)
    claims_in (Claim w (Idle busy)) d = unclaimed d.4
    claims_in (Claim w Finished) d = unclaimed d.3
    claims_in (Claim w Starved) d = unclaimed d.2
    claims_in (Claim w Stopped) d = unclaimed d.1
    claims_in (Publish w n Done) d = ap Places d.3.1 ∙ (places_changed (with_batch (length p.batches)) (λ x. refl) d.0 p.pieces ∙ sym (append-nil (Places p)))
    claims_in (Publish w n (Full total)) d = unclaimed d.3.2
    claims_in (Publish w n NoMemory) d = unclaimed d.3.1
    claims_in (Report w report) d = ap Places d.3 ∙ (places_changed (with_status (Closed report)) (λ x. refl) d.0 p.pieces ∙ sym (append-nil (Places p)))
    claims_in (Starve w) d = ap Places d ∙ sym (append-nil (Places p))
    claims_in Stop d = ap Places d ∙ sym (append-nil (Places p))
    claims_in (Look seen) d = unclaimed d.1
    claims_in (Ready (Events report)) d = ap Places d.3 ∙ (places_changed (with_status Taken) (λ x. refl) d.0 p.pieces ∙ sym (append-nil (Places p)))
    claims_in (Ready (NotYet (Some i))) d = unclaimed d.4
    claims_in (Ready (NotYet None)) d = unclaimed d.3
    claims_in (Ready All) d = unclaimed d.2

  claims_run : (es : List (CoreEvent N E)) (p q : PoolData N E) → RunsTo of alternatives p es q → Places q ≡ Places p ++ flat_map claim_of es
  claims_run [] p q r = ap Places r ∙ sym (append-nil (Places p))
  claims_run (e ∷ es) p q r = claims_run es r.0 q r.3 ∙ (ap (λ l. l ++ flat_map claim_of es) (claims_in p r.0 e r.2)
      ∙ append_assoc (Places p) (claim_of e) (flat_map claim_of es))

  places_differ : (pieces : List (Piece E)) → Apart pieces → AllDifferent (map place pieces)
  places_differ pieces apart i j a e g =
      let x = get_map place pieces i a e in let y = get_map place pieces j a g in
      apart i j x.0 y.0 x.1 y.1 (ap (λ (b : Alternative). b.batch) (x.2 ∙ sym y.2)) (ap (λ (b : Alternative). b.k) (x.2 ∙ sym y.2))

  pub claims_once : (root : N) (workers : ℕ) (pair : Owed E) (es : List (CoreEvent N E)) (q : PoolData N E) → alternatives root ≡ pair ∷ []
      → RunsTo of alternatives (opening root workers) es q → AllDifferent (flat_map claim_of es)
  claims_once root workers pair es q e r =
      let s = (runs_sound root workers pair es q e r).0 in
      subst AllDifferent (claims_run es (opening root workers) q r) (places_differ q.pieces s.shape.apart)
