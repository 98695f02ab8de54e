-- Pools that are further on than others.
use Rattle.std.proofs.Common.{◌≡◌, ℕ, ◌+◌, ◌-◌, ◌<◌, List, [], ◌∷◌, ◌++◌, false, length, map, refl, sym, ap, ◌∙◌, subst, ⊎_elim, inl, inr, arith}
use Rattle.std.proofs.Common.{append_assoc, append-nil, take, Some, None}
use Rattle.std.specs.Prelude.{flat_map, slice_get, sum_by}
use Rattle.std.proofs.lemmas.Bool.{cases_eq, false≢true}
use Rattle.std.proofs.lemmas.List.{map-append, length-map}
use Rattle.std.proofs.lemmas.List.Sums.{sum_by-cons}
use Rattle.ll_list_laws.proofs.CallerLemmas.{slice_get-append_left as get_left, some_is}
use Rattle.ll_laws.specs.Pool.{Owed, Status, Open, Closed, Taken, Piece, PoolData}
use Rattle.ll_laws.specs.Spread.{list_or_empty, owed_or_nothing, owed_by, owed_at, batch_events, batch_cost, given_events, given_cost, share, owes_of}
use Rattle.ll_laws.specs.Sound.{Every, is_open}
use Rattle.ll_laws.specs.Later.{NotBack, Further, Later}
use Rattle.ll_laws.specs.CoreEvents.{CoreEvent, Claim, Publish, Report, Starve, Stop, Look, Ready, Work, Idle, Finished, Starved, Stopped, Done, Full}
use Rattle.ll_laws.specs.CoreEvents.{NoMemory, Events, NotYet, All, change, with_batch, with_status, Does}
use Rattle.ll_core.proofs.walks.Walks.{every_more, last_first_same}
use Rattle.ll_core.proofs.events.Pieces.{get_front, change_at, change_other}

module _ {E : Type 0} where
  not_back : (s : Status E) → NotBack s s
  not_back Open = tt
  not_back (Closed report) = inl refl
  not_back Taken = refl

  not_back_on : (s t u : Status E) → NotBack s t → NotBack t u → NotBack s u
  not_back_on Open t u h g = tt
  not_back_on (Closed report) t u h g = ⊎_elim
      (λ (e : t ≡ Closed report). subst (λ v. NotBack v u) e g)
      (λ (e : t ≡ Taken). inr (subst (λ v. NotBack v u) e g))
      h
  not_back_on Taken t u h g = subst (λ v. NotBack v u) h g

  pub still_closed : (s t : Status E) → NotBack s t → is_open s ≡ false → is_open t ≡ false
  still_closed Open t h c = absurd (false≢true (sym c))
  still_closed (Closed report) t h c = ⊎_elim (λ (e : t ≡ Closed report). ap is_open e) (λ (e : t ≡ Taken). ap is_open e) h
  still_closed Taken t h c = ap is_open h

  pub further_itself : (x : Piece E) → Further x x
  further_itself x = record {
    batch = refl;
    k = refl;
    worker = refl;
    more = [];
    published = sym (append-nil x.published);
    no_more = λ c. refl;
    status =
        not_back x.status;
  }

  further_on : (x y z : Piece E) → Further x y → Further y z → Further x z
  further_on x y z f g = record {
    batch = g.batch ∙ f.batch;
    k = g.k ∙ f.k;
    worker = g.worker ∙ f.worker;
    more = f.more ++ g.more;
    published = g.published ∙ (ap (λ l. l ++ g.more) f.published ∙ append_assoc x.published f.more g.more);
    no_more = λ c. λ i. f.no_more c i ++ g.no_more (still_closed x.status y.status f.status c) i;
    status = not_back_on x.status y.status z.status f.status g.status;
  }

  -- what is taken stays the same piece
  pub taken_same_piece : (x y : Piece E) → Further x y → x.status ≡ Taken → y ≡ x
  taken_same_piece x y f t =
      let none : f.more ≡ [] = f.no_more (ap is_open t) in
      let published : y.published ≡ x.published = f.published ∙ (ap (λ l. x.published ++ l) none ∙ append-nil x.published) in
      let status : y.status ≡ x.status = subst (λ s. NotBack s y.status) t f.status ∙ sym t in
      λ i. record { batch = f.batch i; k = f.k i; worker = f.worker i; published = published i; status = status i }

  -- one piece that goes on
  further_changed : (f : Piece E → Piece E) (i : ℕ) (x : Piece E) (pieces : List (Piece E)) → slice_get pieces i ≡ Some x → Further x (f x)
      → (j : ℕ) (y : Piece E) → slice_get pieces j ≡ Some y → (z : Piece E) × (slice_get (change i f pieces) j ≡ Some z) × Further y z
  further_changed f i x pieces e goes j y g = ⊎_elim
      (λ (h : j ≡ i).
      let same : x ≡ y = some_is x y (sym e ∙ (ap (slice_get pieces) (sym h) ∙ g)) in
      (f x, ap (slice_get (change i f pieces)) h ∙ change_at i f pieces x e, subst (λ (z : Piece E). Further z (f x)) same goes))
      (λ (h : j ≡ i → ⊥). (y, change_other i f pieces j h ∙ g, further_itself y))
      (cases_eq j i)

  further_status : (x : Piece E) (s : Status E) → NotBack x.status s → Further x (with_status s x)
  further_status x s h = record { batch = refl; k = refl; worker = refl; more = []; published = sym (append-nil x.published); no_more = λ c. refl; status = h }

module _ {N E : Type 0} where
  pub later_itself : (p : PoolData N E) → Later p p
  later_itself p = record { more = []; batches = sym (append-nil p.batches); pieces = λ i x e. (x, e, further_itself x); starved = λ h. h; stopped = λ h. h }

  pub later_on : (p q r : PoolData N E) → Later p q → Later q r → Later p r
  later_on p q r f g = record {
    more = f.more ++ g.more;
    batches = g.batches ∙ (ap (λ l. l ++ g.more) f.batches ∙ append_assoc p.batches f.more g.more);
    pieces = λ i x e.
        let y = f.pieces i x e in
        let z = g.pieces i y.0 y.1 in
        (z.0, z.1, further_on x y.0 z.0 y.2 z.2);
    starved = λ h. g.starved (f.starved h);
    stopped = λ h. g.stopped (f.stopped h);
  }

  later_same : (p q : PoolData N E) → q ≡ p → Later p q
  later_same p q e = subst (Later p) (sym e) (later_itself p)

  pub later_event : (alternatives : N → List (Owed E)) (p q : PoolData N E) (e : CoreEvent N E) → Does alternatives p e q → Later p q
  later_event alternatives p q (Claim w (Work i b k)) d = subst (Later p) (sym d.3)
      (record {
        more = [];
        batches = sym (append-nil p.batches);
        pieces = λ j x e. (x, get_front p.pieces _ j x e, further_itself x);
        starved = λ h. h;
        stopped = λ h. h;
      })
  later_event alternatives p q (Claim w (Idle busy)) d = later_same p q d.4
  later_event alternatives p q (Claim w Finished) d = later_same p q d.3
  later_event alternatives p q (Claim w Starved) d = later_same p q d.2
  later_event alternatives p q (Claim w Stopped) d = later_same p q d.1
  later_event alternatives p q (Publish w n Done) d =
      let x = d.1 in let held = d.2 in let new = length p.batches in
      subst (Later p) (sym d.3.1) (record {
        more = n ∷ [];
        batches = refl;
        pieces = further_changed (with_batch new) d.0 x p.pieces held.piece
            (record {
              batch = refl;
              k = refl;
              worker = refl;
              more = new ∷ [];
              published = refl;
              no_more =
                  λ c. absurd (false≢true (sym c ∙ ap is_open held.open_still));
              status = not_back x.status;
            });
        starved = λ h. h;
        stopped = λ h. h;
      })
  later_event alternatives p q (Publish w n (Full total)) d = later_same p q d.3.2
  later_event alternatives p q (Publish w n NoMemory) d = later_same p q d.3.1
  later_event alternatives p q (Report w report) d =
      let x = d.1 in let held = d.2 in
      subst (Later p) (sym d.3) (record {
        more = [];
        batches = sym (append-nil p.batches);
        pieces = further_changed (with_status (Closed report)) d.0 x p.pieces held.piece
            (further_status x (Closed report) (subst (λ s. NotBack s (Closed report)) (sym held.open_still) tt));
        starved = λ h. h;
        stopped = λ h. h;
      })
  later_event alternatives p q (Starve w) d = subst (Later p) (sym d)
      (record { more = []; batches = sym (append-nil p.batches); pieces = λ i x e. (x, e, further_itself x); starved = λ h. refl; stopped = λ h. h })
  later_event alternatives p q Stop d = subst (Later p) (sym d)
      (record { more = []; batches = sym (append-nil p.batches); pieces = λ i x e. (x, e, further_itself x); starved = λ h. h; stopped = λ h. refl })
  later_event alternatives p q (Look seen) d = later_same p q d.1
  later_event alternatives p q (Ready (Events report)) d =
      let x = d.1 in let may = d.2 in
      subst (Later p) (sym d.3) (record {
        more = [];
        batches = sym (append-nil p.batches);
        pieces = further_changed (with_status Taken) d.0 x p.pieces may.piece
            (further_status x Taken (subst (λ s. NotBack s Taken) (sym may.closed) (inr refl)));
        starved = λ h. h;
        stopped = λ h. h;
      })
  later_event alternatives p q (Ready (NotYet (Some i))) d = later_same p q d.4
  later_event alternatives p q (Ready (NotYet None)) d = later_same p q d.3
  later_event alternatives p q (Ready All) d = later_same p q d.2

-- ---- shares in a later pool

sum_same_on : (f g : ℕ → ℕ) (xs : List ℕ) → Every (λ x. f x ≡ g x) xs → sum_by f xs ≡ sum_by g xs
sum_same_on f g [] h = refl
sum_same_on f g (x ∷ xs) h = sum_by-cons f x xs ∙ ((λ i. h.0 i + sum_same_on f g xs h.1 i) ∙ sym (sum_by-cons g x xs))

-- a piece whose batches are all old has the share that it had
pub share_kept : {E : Type 0} (owes owes' : List (List (Owed E))) (n : ℕ) → ((b : ℕ) → b < n → owed_by owes' b ≡ owed_by owes b) → (x : Piece E) → x.batch < n
    → Every (λ c. c < n) x.published → share owes' x ≡ share owes x
share_kept {E = E} owes owes' n same x low h =
    let owed : owed_at owes' x.batch x.k ≡ owed_at owes x.batch x.k = ap (λ os. owed_or_nothing (slice_get os x.k)) (same x.batch low) in
    let events : given_events owes' x ≡ given_events owes x =
    last_first_same (batch_events owes') (batch_events owes) x.published
    (every_more (λ c. c < n) (λ c. batch_events owes' c ≡ batch_events owes c) x.published (λ c l. ap (flat_map (λ (o : Owed E). o.events)) (same c l)) h)
    in
    let cost : given_cost owes' x ≡ given_cost owes x = sum_same_on (batch_cost owes') (batch_cost owes) x.published
    (every_more (λ c. c < n) (λ c. batch_cost owes' c ≡ batch_cost owes c) x.published (λ c l. ap (sum_by (λ (o : Owed E). o.cost)) (same c l)) h) in
    λ i. record { events = take (length (owed i).events - length (events i)) (owed i).events; cost = (owed i).cost - cost i }

pub owed_kept : {N E : Type 0} (alternatives : N → List (Owed E)) (p q : PoolData N E) → Later p q → (b : ℕ) → b < length p.batches
    → owed_by (owes_of alternatives q) b ≡ owed_by (owes_of alternatives p) b
owed_kept alternatives p q later b low =
    ap (λ bs. owed_by (map alternatives bs) b) later.batches
    ∙ (ap (λ l. list_or_empty (slice_get l b)) (map-append alternatives p.batches later.more)
    ∙ ap list_or_empty (get_left (map alternatives p.batches) (map alternatives later.more) b (let l = length-map p.batches alternatives in omega arith)))
