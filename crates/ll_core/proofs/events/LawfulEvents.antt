-- What each event keeps and does.
use Rattle.std.proofs.Common.{◌≡◌, ◌⊎◌, ℕ, ◌+◌, ◌-◌, ◌<◌, ◌≤◌, List, [], ◌∷◌, ◌++◌, Bool, true, length, refl, sym, ap, ◌∙◌, subst, ⊎_elim, arith, take, Some}
use Rattle.std.proofs.Common.{None}
use Rattle.std.specs.Prelude.{flat_map, slice_get, sum_by}
use Rattle.std.proofs.lemmas.Bool.{false≢true}
use Rattle.std.proofs.lemmas.List.{take_all}
use Rattle.ll_list_laws.proofs.CallerLemmas.{some_is}
use Rattle.ll_laws.specs.Pool.{Owed, Open, Closed, Taken, Piece, PoolData}
use Rattle.ll_laws.specs.Spread.{share, owed_at, owes_of}
use Rattle.ll_laws.specs.Sound.{Shaped, Sound, is_open, is_taken_status, report_of}
use Rattle.ll_laws.specs.CoreEvents.{CoreEvent, Claim, Publish, Report, Starve, Stop, Look, Ready, Work, Idle, Finished, Starved, Stopped, Done, Full}
use Rattle.ll_laws.specs.CoreEvents.{NoMemory, Events, NotYet, All, change, new_piece, with_batch, with_status, claimed, published, Holds, NoOpen, Does, By}
use Rattle.ll_laws.specs.CoreEvents.{Splits, Lawful}
use Rattle.ll_core.specs.Laws.{IsQuiet, IsTakenAt}
use Rattle.ll_core.specs.Given.{TakesNone, MarksNone, SameTaken, SameMarks}
use Rattle.ll_core.proofs.walks.Walks.{every_more}
use Rattle.ll_core.proofs.events.Pieces.{get_front, get_seam, get_snoc, change_get, change_at, change_other}
use Rattle.ll_core.proofs.sound.Facts.{owed_before}
use Rattle.ll_core.proofs.events.Statuses.{sound_reported, sound_took}
use Rattle.ll_core.proofs.events.Claims.{sound_claimed}
use Rattle.ll_core.proofs.events.Publishes.{sound_published, events_split, cost_split}
use Rattle.ll_core.proofs.events.Conditions.{MayPublish}
use Rattle.ll_core.proofs.runs.LaterPools.{later_event, taken_same_piece, share_kept, owed_kept}

module _ {N Of E : Type 0} (of : N → Of) (alternatives : N → List (Owed E)) where
  -- a worker has one open piece at most
  pub same_held : (p : PoolData N E) → Shaped alternatives p → (w i j : ℕ) (x y : Piece E) → Holds p w i x → Holds p w j y → (i ≡ j) × (x ≡ y)
  same_held p s w i j x y h g =
      let at : i ≡ j = s.one_open i j x y h.piece g.piece h.open_still g.open_still (h.worker ∙ sym g.worker) in
      (at, some_is x y (sym h.piece ∙ (ap (slice_get p.pieces) at ∙ g.piece)))

  -- the marks are in no part of soundness
  sound_marked : (p : PoolData N E) (problem : Of) (pair : Owed E) (starved stopped : Bool) → Sound of alternatives p problem pair
      → Sound of alternatives (record p { starved = starved; stopped = stopped }) problem pair
  sound_marked p problem pair starved stopped s = record {
    shape = record {
      named = s.shape.named;
      apart = s.shape.apart;
      first = s.shape.first;
      once = s.shape.once;
      only = s.shape.only;
      busy = s.shape.busy;
      total = s.shape.total;
      small = s.shape.small;
      untried = s.shape.untried;
      taken = s.shape.taken;
      workers = s.shape.workers;
      one_open = s.shape.one_open;
    };
    root = s.root;
    events = s.events;
    costs = s.costs;
    reports = s.reports;
    alike = s.alike;
  }

  pub may_publish : (p : PoolData N E) → Shaped alternatives p → (w i : ℕ) (x : Piece E) (n : N) → Holds p w i x → Lawful of alternatives p (Publish w n Done)
      → p.total + length (alternatives n) ≤ 4294967295 → MayPublish alternatives of p i x n
  may_publish p s w i x n held l room =
      let splits : Splits of alternatives p x n = subst (λ (y : Piece E). Splits of alternatives p y n) (same_held p s w l.0 i l.1 x l.2 held).1 l.3 in
      record { grow = record { piece = held.piece; open_still = held.open_still; some = splits.some; room = room }; splits = splits }

  module _ (p q : PoolData N E) (problem : Of) (pair : Owed E) (s : Sound of alternatives p problem pair) where
    same_sound : q ≡ p → Sound of alternatives q problem pair
    same_sound e = subst (λ r. Sound of alternatives r problem pair) (sym e) s

    pub keeps_sound : (e : CoreEvent N E) → Lawful of alternatives p e → Does alternatives p e q → Sound of alternatives q problem pair
    keeps_sound (Claim w (Work i b k)) l d = subst (λ r. Sound of alternatives r problem pair) (sym d.3)
        (sound_claimed of alternatives p problem pair s w b k (record { untried = d.1; worker = l.0; none_open = l.1 }))
    keeps_sound (Claim w (Idle busy)) l d = same_sound d.4
    keeps_sound (Claim w Finished) l d = same_sound d.3
    keeps_sound (Claim w Starved) l d = same_sound d.2
    keeps_sound (Claim w Stopped) l d = same_sound d.1
    keeps_sound (Publish w n Done) l d = subst (λ r. Sound of alternatives r problem pair) (sym d.3.1)
        (sound_published of alternatives p problem pair s d.0 d.1 n (may_publish p s.shape w d.0 d.1 n d.2 l d.3.0))
    keeps_sound (Publish w n (Full total)) l d = same_sound d.3.2
    keeps_sound (Publish w n NoMemory) l d = same_sound d.3.1
    keeps_sound (Report w report) l d =
        let same = (same_held p s.shape w l.0 d.0 l.1 d.1 l.2 d.2).1 in let held = d.2 in
        subst (λ r. Sound of alternatives r problem pair) (sym d.3)
        (sound_reported of alternatives p problem pair s d.0 d.1 report
        (record {
          piece = held.piece;
          open_still = held.open_still;
          whole =
              subst (λ (y : Piece E). report ≡ report_of (share (owes_of alternatives p) y)) same l.3;
        }))
    keeps_sound (Starve w) l d = subst (λ r. Sound of alternatives r problem pair) (sym d) (sound_marked p problem pair true p.stopped s)
    keeps_sound Stop l d = subst (λ r. Sound of alternatives r problem pair) (sym d) (sound_marked p problem pair p.starved true s)
    keeps_sound (Look seen) l d = same_sound d.1
    keeps_sound (Ready (Events report)) l d = subst (λ r. Sound of alternatives r problem pair) (sym d.3)
        (sound_took of alternatives p problem pair s d.0 d.1 report d.2)
    keeps_sound (Ready (NotYet (Some i))) l d = same_sound d.4
    keeps_sound (Ready (NotYet None)) l d = same_sound d.3
    keeps_sound (Ready All) l d = same_sound d.2

  -- ---- open pieces

  -- a change elsewhere
  other_piece : (f : Piece E → Piece E) (pieces : List (Piece E)) (i j : ℕ) (x y : Piece E) → slice_get pieces i ≡ Some x → slice_get pieces j ≡ Some y
      → (x ≡ y → ⊥) → slice_get (change j f pieces) i ≡ Some x
  other_piece f pieces i j x y e g differ = change_other j f pieces i (λ h. differ (some_is x y (sym e ∙ (ap (slice_get pieces) h ∙ g)))) ∙ e

  module _ (p q : PoolData N E) (v w : ℕ) where
    same_holds : (i : ℕ) (x : Piece E) → q ≡ p → Holds p w i x → Holds q w i x
    same_holds i x e h = subst (λ r. Holds r w i x) (sym e) h

    not_own : {A : Type 0} (u i j : ℕ) (x y : Piece E) → u ≡ v → (v ≡ w → ⊥) ⊎ A → (A → ⊥) → Holds p w i x → Holds p u j y → x ≡ y → ⊥
    not_own u i j x y by other loud h g e = ⊎_elim (λ (o : v ≡ w → ⊥). o (sym by ∙ (sym g.worker ∙ (ap (λ (z : Piece E). z.worker) (sym e) ∙ h.worker)))) loud
        other

    pub holds_kept : (e : CoreEvent N E) → Does alternatives p e q → By v e → (v ≡ w → ⊥) ⊎ IsQuiet e → (i : ℕ) (x : Piece E) → Holds p w i x → Holds q w i x
    holds_kept (Claim u (Work i' b k)) d by other i x h = subst (λ r. Holds r w i x) (sym d.3)
        (record { piece = get_front p.pieces (new_piece u b k ∷ []) i x h.piece; open_still = h.open_still; worker = h.worker })
    holds_kept (Claim u (Idle busy)) d by other i x h = same_holds i x d.4 h
    holds_kept (Claim u Finished) d by other i x h = same_holds i x d.3 h
    holds_kept (Claim u Starved) d by other i x h = same_holds i x d.2 h
    holds_kept (Claim u Stopped) d by other i x h = same_holds i x d.1 h
    holds_kept (Publish u n Done) d by other i x h =
        let g = d.2 in
        subst (λ r. Holds r w i x) (sym d.3.1) (record {
          piece =
              other_piece (with_batch (length p.batches)) p.pieces i d.0 x d.1 h.piece g.piece (not_own u i d.0 x d.1 by other (λ z. z) h g);
          open_still =
              h.open_still;
          worker = h.worker;
        })
    holds_kept (Publish u n (Full total)) d by other i x h = same_holds i x d.3.2 h
    holds_kept (Publish u n NoMemory) d by other i x h = same_holds i x d.3.1 h
    holds_kept (Report u report) d by other i x h =
        let g = d.2 in
        subst (λ r. Holds r w i x) (sym d.3) (record {
          piece =
              other_piece (with_status (Closed report)) p.pieces i d.0 x d.1 h.piece g.piece (not_own u i d.0 x d.1 by other (λ z. z) h g);
          open_still =
              h.open_still;
          worker = h.worker;
        })
    holds_kept (Starve u) d by other i x h = subst (λ r. Holds r w i x) (sym d) (record { piece = h.piece; open_still = h.open_still; worker = h.worker })
    holds_kept Stop d by other i x h = subst (λ r. Holds r w i x) (sym d) (record { piece = h.piece; open_still = h.open_still; worker = h.worker })
    holds_kept (Look seen) d by other i x h = same_holds i x d.1 h
    holds_kept (Ready (Events report)) d by other i x h =
        let may = d.2 in
        subst (λ r. Holds r w i x) (sym d.3) (record {
          piece =
              other_piece (with_status Taken) p.pieces i d.0 x d.1 h.piece may.piece
              (λ e. false≢true (sym (ap is_open may.closed) ∙ (ap (λ (z : Piece E). is_open z.status) (sym e) ∙ ap is_open h.open_still)));
          open_still =
              h.open_still;
          worker = h.worker;
        })
    holds_kept (Ready (NotYet (Some j))) d by other i x h = same_holds i x d.4 h
    holds_kept (Ready (NotYet None)) d by other i x h = same_holds i x d.3 h
    holds_kept (Ready All) d by other i x h = same_holds i x d.2 h

    same_none : q ≡ p → NoOpen p w → NoOpen q w
    same_none e h = subst (λ r. NoOpen r w) (sym e) h

    -- a change that makes nothing open
    none_changed : (f : Piece E → Piece E) (j : ℕ) → ((x : Piece E) → (f x).status ≡ Open → x.status ≡ Open) → ((x : Piece E) → (f x).worker ≡ x.worker)
        → NoOpen p w
        → (i : ℕ) (x : Piece E) → slice_get (change j f p.pieces) i ≡ Some x → x.status ≡ Open → x.worker ≡ w → ⊥
    none_changed f j opens works h i x e o own =
        let c = change_get j f p.pieces i x e in
        ⊎_elim
        (λ (t : (i ≡ j) × (x ≡ f c.0)). h i c.0 c.1 (opens c.0 (ap (λ (z : Piece E). z.status) (sym t.1) ∙ o))
        (sym (works c.0) ∙ (ap (λ (z : Piece E). z.worker) (sym t.1) ∙ own)))
        (λ (t : (i ≡ j → ⊥) × (x ≡ c.0)). h i c.0 c.1 (ap (λ (z : Piece E). z.status) (sym t.1) ∙ o) (ap (λ (z : Piece E). z.worker) (sym t.1) ∙ own))
        c.2

    pub none_kept : (e : CoreEvent N E) → Does alternatives p e q → By v e → (v ≡ w → ⊥) ⊎ IsQuiet e → NoOpen p w → NoOpen q w
    none_kept (Claim u (Work i' b k)) d by other h = subst (λ r. NoOpen r w) (sym d.3) (λ i x e o own. ⊎_elim
        (λ (old : slice_get p.pieces i ≡ Some x). h i x old o own)
        (λ (new : (i ≡ length p.pieces) × (x ≡ new_piece u b k)). ⊎_elim (λ (n : v ≡ w → ⊥). n (sym by ∙ (ap (λ (z : Piece E). z.worker) (sym new.1) ∙ own)))
        (λ (z : ⊥). z) other)
        (get_snoc p.pieces (new_piece u b k) i x e))
    none_kept (Claim u (Idle busy)) d by other h = same_none d.4 h
    none_kept (Claim u Finished) d by other h = same_none d.3 h
    none_kept (Claim u Starved) d by other h = same_none d.2 h
    none_kept (Claim u Stopped) d by other h = same_none d.1 h
    none_kept (Publish u n Done) d by other h = subst (λ r. NoOpen r w) (sym d.3.1) (none_changed (with_batch (length p.batches)) d.0 (λ x o. o) (λ x. refl) h)
    none_kept (Publish u n (Full total)) d by other h = same_none d.3.2 h
    none_kept (Publish u n NoMemory) d by other h = same_none d.3.1 h
    none_kept (Report u report) d by other h = subst (λ r. NoOpen r w) (sym d.3)
        (none_changed (with_status (Closed report)) d.0 (λ x o. absurd (false≢true (ap is_open o))) (λ x. refl) h)
    none_kept (Starve u) d by other h = subst (λ r. NoOpen r w) (sym d) h
    none_kept Stop d by other h = subst (λ r. NoOpen r w) (sym d) h
    none_kept (Look seen) d by other h = same_none d.1 h
    none_kept (Ready (Events report)) d by other h = subst (λ r. NoOpen r w) (sym d.3)
        (none_changed (with_status Taken) d.0 (λ x o. absurd (false≢true (ap is_open o))) (λ x. refl) h)
    none_kept (Ready (NotYet (Some j))) d by other h = same_none d.4 h
    none_kept (Ready (NotYet None)) d by other h = same_none d.3 h
    none_kept (Ready All) d by other h = same_none d.2 h

  -- a piece that is there before an event has the same share after it
  pub share_later : (p q : PoolData N E) (e : CoreEvent N E) → Shaped alternatives p → Does alternatives p e q → (i : ℕ) (x : Piece E)
      → slice_get p.pieces i ≡ Some x → share (owes_of alternatives q) x ≡ share (owes_of alternatives p) x
  share_later p q e s d i x at =
      share_kept (owes_of alternatives p) (owes_of alternatives q) (length p.batches) (owed_kept alternatives p q (later_event alternatives p q e d)) x
      (owed_before alternatives p.batches x.batch x.k (s.named i x at))
      (every_more (λ c. (x.batch < c) × (c < length p.batches)) (λ c. c < length p.batches) x.published (λ c h. h.1) (s.only i x at))

  pub claim_gives : (p q : PoolData N E) (w i b k : ℕ) → Does alternatives p (Claim w (Work i b k)) q
      → Holds q w i (new_piece w b k) × (share (owes_of alternatives q) (new_piece w b k) ≡ owed_at (owes_of alternatives p) b k)
  claim_gives p q w i b k d =
      let all : take (length (owed_at (owes_of alternatives p) b k).events - 0) (owed_at (owes_of alternatives p) b k).events
      ≡ (owed_at (owes_of alternatives p) b k).events = take_all _ _ (omega arith) in
      let cost : (owed_at (owes_of alternatives p) b k).cost - 0 ≡ (owed_at (owes_of alternatives p) b k).cost = omega arith in
      subst (λ r. Holds r w i (new_piece w b k) × (share (owes_of alternatives r) (new_piece w b k) ≡ owed_at (owes_of alternatives p) b k)) (sym d.3) (
        record { piece = ap (slice_get (p.pieces ++ new_piece w b k ∷ [])) d.2 ∙ get_seam p.pieces (new_piece w b k); open_still = refl; worker = refl },
        λ j. record { events = all j; cost = cost j },
      )

  pub publish_splits : (p q : PoolData N E) (problem : Of) (pair : Owed E) (w i : ℕ) (x : Piece E) (n : N) → Sound of alternatives p problem pair
      → Lawful of alternatives p (Publish w n Done) → Does alternatives p (Publish w n Done) q → Holds p w i x
      → Holds q w i (with_batch (length p.batches) x)
      × ((share (owes_of alternatives q) (with_batch (length p.batches) x)).events ++ flat_map (λ (o : Owed E). o.events) (alternatives n)
      ≡ (share (owes_of alternatives p) x).events)
      × ((share (owes_of alternatives q) (with_batch (length p.batches) x)).cost + sum_by (λ (o : Owed E). o.cost) (alternatives n)
      ≡ (share (owes_of alternatives p) x).cost)
  publish_splits p q problem pair w i x n s l d h =
      let may = may_publish p s.shape w i x n h l d.3.0 in
      let at = (same_held p s.shape w d.0 i d.1 x d.2 h).0 in
      let is : q ≡ published p i n (length (alternatives n)) = d.3.1 ∙ ap (λ j. published p j n (length (alternatives n))) at in
      subst
      (λ r. Holds r w i (with_batch (length p.batches) x)
      × ((share (owes_of alternatives r) (with_batch (length p.batches) x)).events ++ flat_map (λ (o : Owed E). o.events) (alternatives n)
      ≡ (share (owes_of alternatives p) x).events)
      × ((share (owes_of alternatives r) (with_batch (length p.batches) x)).cost + sum_by (λ (o : Owed E). o.cost) (alternatives n)
      ≡ (share (owes_of alternatives p) x).cost))
      (sym is) (
        record { piece = change_at i (with_batch (length p.batches)) p.pieces x h.piece; open_still = h.open_still; worker = h.worker },
        events_split of alternatives p problem pair s i x n may,
        cost_split of alternatives p problem pair s i x n may,
      )

  pub report_closes : (p q : PoolData N E) (w : ℕ) (report : Owed E) → Shaped alternatives p → Does alternatives p (Report w report) q → NoOpen q w
  report_closes p q w report s d = subst (λ r. NoOpen r w) (sym d.3) (λ i x e o own.
      let c = change_get d.0 (with_status (Closed report)) p.pieces i x e in
      let g = d.2 in
      ⊎_elim
      (λ (t : (i ≡ d.0) × (x ≡ with_status (Closed report) c.0)). false≢true (ap (λ (z : Piece E). is_open z.status) (sym t.1) ∙ ap is_open o))
      (λ (t : (i ≡ d.0 → ⊥) × (x ≡ c.0)). t.0 (s.one_open i d.0 c.0 d.1 c.1 g.piece (ap (λ (z : Piece E). z.status) (sym t.1) ∙ o) g.open_still
      (ap (λ (z : Piece E). z.worker) (sym t.1) ∙ (own ∙ sym g.worker))))
      c.2)

  -- ---- taken pieces

  taken_on : (p q : PoolData N E) (e : CoreEvent N E) (i : ℕ) → Does alternatives p e q → IsTakenAt p i → IsTakenAt q i
  taken_on p q e i d t =
      let y = (later_event alternatives p q e d).pieces i t.0 t.1 in
      (y.0, y.1, ap (λ (z : Piece E). z.status) (taken_same_piece t.0 y.0 y.2 t.2) ∙ t.2)

  module _ (p q : PoolData N E) (i : ℕ) where
    same_taken : q ≡ p → IsTakenAt q i → IsTakenAt p i
    same_taken e t = subst (λ r. IsTakenAt r i) e t

    back_changed : (f : Piece E → Piece E) (j : ℕ) → ((x : Piece E) → (f x).status ≡ Taken → x.status ≡ Taken)
        → (x : Piece E) × (slice_get (change j f p.pieces) i ≡ Some x) × (x.status ≡ Taken) → IsTakenAt p i
    back_changed f j keeps t =
        let c = change_get j f p.pieces i t.0 t.1 in
        ⊎_elim
        (λ (u : (i ≡ j) × (t.0 ≡ f c.0)). (c.0, c.1, keeps c.0 (ap (λ (z : Piece E). z.status) (sym u.1) ∙ t.2)))
        (λ (u : (i ≡ j → ⊥) × (t.0 ≡ c.0)). (c.0, c.1, ap (λ (z : Piece E). z.status) (sym u.1) ∙ t.2))
        c.2

    taken_back : (e : CoreEvent N E) → Does alternatives p e q → TakesNone e → IsTakenAt q i → IsTakenAt p i
    taken_back (Claim u (Work i' b k)) d none t =
        let t' : IsTakenAt (claimed p u b k) i = subst (λ r. IsTakenAt r i) d.3 t in
        ⊎_elim
        (λ (old : slice_get p.pieces i ≡ Some t'.0). (t'.0, old, t'.2))
        (λ (new : (i ≡ length p.pieces) × (t'.0 ≡ new_piece u b k)). absurd
        (false≢true (ap (λ (z : Piece E). is_taken_status z.status) (sym new.1) ∙ ap is_taken_status t'.2)))
        (get_snoc p.pieces (new_piece u b k) i t'.0 t'.1)
    taken_back (Claim u (Idle busy)) d none t = same_taken d.4 t
    taken_back (Claim u Finished) d none t = same_taken d.3 t
    taken_back (Claim u Starved) d none t = same_taken d.2 t
    taken_back (Claim u Stopped) d none t = same_taken d.1 t
    taken_back (Publish u n Done) d none t = back_changed (with_batch (length p.batches)) d.0 (λ x h. h) (subst (λ r. IsTakenAt r i) d.3.1 t)
    taken_back (Publish u n (Full total)) d none t = same_taken d.3.2 t
    taken_back (Publish u n NoMemory) d none t = same_taken d.3.1 t
    taken_back (Report u report) d none t = back_changed (with_status (Closed report)) d.0 (λ x h. absurd (false≢true (ap is_taken_status h)))
        (subst (λ r. IsTakenAt r i) d.3 t)
    taken_back (Starve u) d none t = subst (λ r. IsTakenAt r i) d t
    taken_back Stop d none t = subst (λ r. IsTakenAt r i) d t
    taken_back (Look seen) d none t = same_taken d.1 t
    taken_back (Ready (Events report)) d none t = absurd none
    taken_back (Ready (NotYet (Some j))) d none t = same_taken d.4 t
    taken_back (Ready (NotYet None)) d none t = same_taken d.3 t
    taken_back (Ready All) d none t = same_taken d.2 t

  pub leaves_taken : (p q : PoolData N E) (e : CoreEvent N E) → Does alternatives p e q → TakesNone e → SameTaken p q
  leaves_taken p q e d none = λ i. (taken_on p q e i d, taken_back p q i e d none)

  none_taken : (e : CoreEvent N E) (v : ℕ) → By v e → (v ≡ 0 → ⊥) → TakesNone e
  none_taken (Claim u answer) v by other = tt
  none_taken (Publish u n answer) v by other = tt
  none_taken (Report u report) v by other = tt
  none_taken (Starve u) v by other = tt
  none_taken Stop v by other = tt
  none_taken (Look seen) v by other = tt
  none_taken (Ready answer) v by other = absurd (other by)

  pub takes_alone : (p q : PoolData N E) (e : CoreEvent N E) (v i : ℕ) → Does alternatives p e q → By v e → (v ≡ 0 → ⊥)
      → (IsTakenAt p i → IsTakenAt q i) × (IsTakenAt q i → IsTakenAt p i)
  takes_alone p q e v i d by other = leaves_taken p q e d (none_taken e v by other) i

  marks_of : (p q : PoolData N E) → q ≡ p → SameMarks p q
  marks_of p q e = (ap (λ r. r.starved) e, ap (λ r. r.stopped) e)

  pub leaves_marks : (p q : PoolData N E) (e : CoreEvent N E) → Does alternatives p e q → MarksNone e → SameMarks p q
  leaves_marks p q (Claim u (Work i' b k)) d none = (ap (λ r. r.starved) d.3, ap (λ r. r.stopped) d.3)
  leaves_marks p q (Claim u (Idle busy)) d none = marks_of p q d.4
  leaves_marks p q (Claim u Finished) d none = marks_of p q d.3
  leaves_marks p q (Claim u Starved) d none = marks_of p q d.2
  leaves_marks p q (Claim u Stopped) d none = marks_of p q d.1
  leaves_marks p q (Publish u n Done) d none = (ap (λ r. r.starved) d.3.1, ap (λ r. r.stopped) d.3.1)
  leaves_marks p q (Publish u n (Full total)) d none = marks_of p q d.3.2
  leaves_marks p q (Publish u n NoMemory) d none = marks_of p q d.3.1
  leaves_marks p q (Report u report) d none = (ap (λ r. r.starved) d.3, ap (λ r. r.stopped) d.3)
  leaves_marks p q (Starve u) d none = absurd none
  leaves_marks p q Stop d none = absurd none
  leaves_marks p q (Look seen) d none = marks_of p q d.1
  leaves_marks p q (Ready (Events report)) d none = (ap (λ r. r.starved) d.3, ap (λ r. r.stopped) d.3)
  leaves_marks p q (Ready (NotYet (Some j))) d none = marks_of p q d.4
  leaves_marks p q (Ready (NotYet None)) d none = marks_of p q d.3
  leaves_marks p q (Ready All) d none = marks_of p q d.2

  pub workers_kept : (p q : PoolData N E) (e : CoreEvent N E) → Does alternatives p e q → q.workers ≡ p.workers
  workers_kept p q (Claim u (Work i' b k)) d = ap (λ r. r.workers) d.3
  workers_kept p q (Claim u (Idle busy)) d = ap (λ r. r.workers) d.4
  workers_kept p q (Claim u Finished) d = ap (λ r. r.workers) d.3
  workers_kept p q (Claim u Starved) d = ap (λ r. r.workers) d.2
  workers_kept p q (Claim u Stopped) d = ap (λ r. r.workers) d.1
  workers_kept p q (Publish u n Done) d = ap (λ r. r.workers) d.3.1
  workers_kept p q (Publish u n (Full total)) d = ap (λ r. r.workers) d.3.2
  workers_kept p q (Publish u n NoMemory) d = ap (λ r. r.workers) d.3.1
  workers_kept p q (Report u report) d = ap (λ r. r.workers) d.3
  workers_kept p q (Starve u) d = ap (λ r. r.workers) d
  workers_kept p q Stop d = ap (λ r. r.workers) d
  workers_kept p q (Look seen) d = ap (λ r. r.workers) d.1
  workers_kept p q (Ready (Events report)) d = ap (λ r. r.workers) d.3
  workers_kept p q (Ready (NotYet (Some j))) d = ap (λ r. r.workers) d.4
  workers_kept p q (Ready (NotYet None)) d = ap (λ r. r.workers) d.3
  workers_kept p q (Ready All) d = ap (λ r. r.workers) d.2
