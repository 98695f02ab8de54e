-- All reports of a run are what the root owes, and after it nothing comes.
use Rattle.std.proofs.Common.{◌≡◌, ℕ, zero, suc, ◌<◌, List, [], ◌∷◌, ◌++◌, true, false, not, length, map, refl, sym, ap, ◌∙◌, subst, arith, append_assoc}
use Rattle.std.proofs.Common.{append-nil, Option, Some, None}
use Rattle.std.specs.Prelude.{flat_map, slice_get, sum_by}
use Rattle.std.specs.List.{list_all}
use Rattle.std.proofs.lemmas.Bool.{and_parts}
use Rattle.std.proofs.lemmas.List.{length-append, nil_from_length}
use Rattle.std.proofs.lemmas.List.Concat.{flat_map-append}
use Rattle.ll_list_laws.proofs.CallerLemmas.{some_is, false_from_not}
use Rattle.ll_laws.specs.Pool.{Owed, Closed, Piece, PoolData, Alternative}
use Rattle.ll_laws.specs.Spread.{piece_of, piece_events, gives, share, owes_of, length_of, walk, kids_of}
use Rattle.ll_laws.specs.Search.{cut_count}
use Rattle.ll_laws.specs.Sound.{Every, Sound, Reported, report_of, is_open, is_taken, is_taken_piece, count_open}
use Rattle.ll_laws.specs.Later.{Later}
use Rattle.ll_laws.specs.CoreEvents.{CoreEvent, Claim, Publish, Report, Starve, Stop, Look, Ready, Work, Idle, Finished, Starved, Stopped, Done, Full}
use Rattle.ll_laws.specs.CoreEvents.{NoMemory, Events, NotYet, All, opening, claimed, published, reported, Does, Lawful, RunsTo, report_taken, report_in}
use Rattle.ll_laws.specs.CoreEvents.{report_left, reports_left}
use Rattle.ll_core.specs.Given.{Given, cost_in, events_in, price, share_cost, total, value}
use Rattle.ll_core.proofs.walks.Once.{total-append, one_if}
use Rattle.ll_core.proofs.events.Pieces.{found, get_below}
use Rattle.ll_core.proofs.sound.Facts.{spread_is, get_map}
use Rattle.ll_core.proofs.runs.Costs.{cost_is}
use Rattle.ll_core.proofs.runs.AllClaimed.{all_claimed, closed_all, nothing_new, sum_total}
use Rattle.ll_core.proofs.events.Cuts.{cut_sum, cut_twice}
use Rattle.ll_core.proofs.runs.LaterPools.{still_closed}
use Rattle.ll_core.proofs.events.LawfulEvents.{keeps_sound, may_publish}
use Rattle.ll_core.proofs.runs.Runs.{run_sound}
use Rattle.ll_core.proofs.events.Openings.{all_untaken, opening_sound}
use Rattle.ll_core.proofs.runs.Given.{same_given, marked_given, given_claimed, given_published, given_reported, given_took, every_back, walk_inside}
use Rattle.ll_core.proofs.runs.Given.{was_closed, taken_piece}

module _ {N Of E : Type 0} (of : N → Of) (alternatives : N → List (Owed E)) where
  pub step_given : (p q : PoolData N E) (problem : Of) (pair : Owed E) (reports : List (Owed E)) → Sound of alternatives p problem pair
      → Given of alternatives p reports → (e : CoreEvent N E) → Lawful of alternatives p e → Does alternatives p e q
      → Given of alternatives q (reports ++ report_taken e)
  step_given p q problem pair reports s g (Claim w (Work i b k)) l d =
      let t = keeps_sound of alternatives p q problem pair s (Claim w (Work i b k)) l d in
      let t' = subst (λ r. Sound of alternatives r problem pair) d.3 t in
      subst (λ r. Given of alternatives r (reports ++ [])) (sym d.3)
      (subst (Given of alternatives (claimed p w b k)) (sym (append-nil reports))
      (given_claimed of alternatives p problem pair s reports g w i b k t'.shape (d.0, d.1, d.2, refl)))
  step_given p q problem pair reports s g (Claim w (Idle busy)) l d = same_given of alternatives p q reports d.4 g
  step_given p q problem pair reports s g (Claim w Finished) l d = same_given of alternatives p q reports d.3 g
  step_given p q problem pair reports s g (Claim w Starved) l d = same_given of alternatives p q reports d.2 g
  step_given p q problem pair reports s g (Claim w Stopped) l d = same_given of alternatives p q reports d.1 g
  step_given p q problem pair reports s g (Publish w n Done) l d =
      let r = published p d.0 n (length (alternatives n)) in
      let t = subst (λ u. Sound of alternatives u problem pair) d.3.1 (keeps_sound of alternatives p q problem pair s (Publish w n Done) l d) in
      let may = may_publish of alternatives p s.shape w d.0 d.1 n d.2 l d.3.0 in
      subst (λ u. Given of alternatives u (reports ++ [])) (sym d.3.1)
      (subst (Given of alternatives r) (sym (append-nil reports))
      (given_published of alternatives p problem pair s reports g w d.0 d.1 n may.grow t.shape (d.0, d.1, d.2, (d.3.0, refl))))
  step_given p q problem pair reports s g (Publish w n (Full total)) l d = same_given of alternatives p q reports d.3.2 g
  step_given p q problem pair reports s g (Publish w n NoMemory) l d = same_given of alternatives p q reports d.3.1 g
  step_given p q problem pair reports s g (Report w report) l d =
      let r = reported p d.0 report in
      let t = subst (λ u. Sound of alternatives u problem pair) d.3 (keeps_sound of alternatives p q problem pair s (Report w report) l d) in
      let held = d.2 in
      subst (λ u. Given of alternatives u (reports ++ [])) (sym d.3)
      (subst (Given of alternatives r) (sym (append-nil reports))
      (given_reported of alternatives p problem pair s reports g w d.0 d.1 report held.piece held.open_still t.shape (d.0, d.1, d.2, refl)))
  step_given p q problem pair reports s g (Starve w) l d = subst (λ r. Given of alternatives r (reports ++ [])) (sym d)
      (marked_given of alternatives p reports true p.stopped g)
  step_given p q problem pair reports s g Stop l d = subst (λ r. Given of alternatives r (reports ++ [])) (sym d)
      (marked_given of alternatives p reports p.starved true g)
  step_given p q problem pair reports s g (Look seen) l d = same_given of alternatives p q reports d.1 g
  step_given p q problem pair reports s g (Ready (Events report)) l d =
      let t = subst (λ u. Sound of alternatives u problem pair) d.3 (keeps_sound of alternatives p q problem pair s (Ready (Events report)) l d) in
      subst (λ r. Given of alternatives r (reports ++ report ∷ [])) (sym d.3)
      (given_took of alternatives p problem pair s reports g d.0 d.1 report d.2 t.shape (d.0, d.1, d.2, refl))
  step_given p q problem pair reports s g (Ready (NotYet (Some i))) l d = same_given of alternatives p q reports d.4 g
  step_given p q problem pair reports s g (Ready (NotYet None)) l d = same_given of alternatives p q reports d.3 g
  step_given p q problem pair reports s g (Ready All) l d = same_given of alternatives p q reports d.2 g

  run_given : (es : List (CoreEvent N E)) (p q : PoolData N E) (problem : Of) (pair : Owed E) (reports : List (Owed E)) → Sound of alternatives p problem pair
      → Given of alternatives p reports → RunsTo of alternatives p es q → Given of alternatives q (reports ++ flat_map report_taken es)
  run_given [] p q problem pair reports s g r = same_given of alternatives p q reports r g
  run_given (e ∷ es) p q problem pair reports s g r =
      subst (Given of alternatives q) (append_assoc reports (report_taken e) (flat_map report_taken es))
      (run_given es r.0 q problem pair (reports ++ report_taken e) (keeps_sound of alternatives p r.0 problem pair s e r.1 r.2)
      (step_given p r.0 problem pair reports s g e r.1 r.2) r.3)

  pub opening_given : (root : N) (workers : ℕ) → Given of alternatives (opening root workers) []
  opening_given root workers = record {
    front = [];
    back = walk alternatives (opening root workers);
    order = refl;
    before = refl;
    others = all_untaken E (walk alternatives (opening root workers));
    events = refl;
    costs = refl;
  }

  -- ---- what is left

  module _ (q : PoolData N E) (problem : Of) (pair : Owed E) (s : Sound of alternatives q problem pair) (untried : q.untried ≡ 0) (busy : q.busy ≡ 0) where
    abbrev left : Alternative → List (Owed E)
    left a = report_left {E = E} (piece_of q.pieces a)

    -- a report waits at each alternative that is not taken
    waits : (a : Alternative) → a.k < length_of alternatives q a.batch → is_taken q.pieces a ≡ false
        → (x : Piece E) × (report : Owed E) × (piece_of q.pieces a ≡ Some x) × (x.status ≡ Closed report)
        × (report ≡ report_of (share (owes_of alternatives q) x))
    waits a inside untaken =
        let h = all_claimed alternatives q s.shape untried a.batch a.k inside in
        let p = found q.pieces s.shape.apart h.0 h.1 a h.2 h.3 h.4 in
        let c = was_closed h.1.status (closed_all alternatives q s.shape busy h.0 h.1 h.2) (ap is_taken_piece (sym p) ∙ untaken) in
        (h.1, c.0, p, c.1, subst (λ t. Reported (share (owes_of alternatives q) h.1) t) c.1 (s.reports h.0 h.1 h.2))

    left_value : (a : Alternative) → a.k < length_of alternatives q a.batch → is_taken q.pieces a ≡ false
        → events_in of alternatives (left a) ≡ value of alternatives q a
    left_value a inside untaken =
        let h = waits a inside untaken in
        ap (λ (o : Option (Piece E)). events_in of alternatives (report_left o)) h.2
        ∙ (ap (λ t. events_in of alternatives (report_in t)) h.3
        ∙ (append-nil h.1.events
        ∙ sym (ap (gives (owes_of alternatives q) a) h.2 ∙ ap (piece_events (owes_of alternatives q) h.0) h.3)))

    left_price : (a : Alternative) → a.k < length_of alternatives q a.batch → is_taken q.pieces a ≡ false
        → cut_count (cost_in of alternatives (left a)) ≡ cut_count (price of alternatives q a)
    left_price a inside untaken =
        let h = waits a inside untaken in
        let c : report_left {E = E} (piece_of q.pieces a) ≡ h.1 ∷ [] = ap (λ (o : Option (Piece E)). report_left o) h.2 ∙ ap report_in h.3 in
        let one : cost_in of alternatives (h.1 ∷ []) ≡ h.1.cost = omega arith in
        let told : h.1.cost ≡ cut_count (share (owes_of alternatives q) h.0).cost = ap (λ (o : Owed E). o.cost) h.4 in
        ap (λ l. cut_count (cost_in of alternatives l)) c ∙ (ap cut_count (one ∙ told)
        ∙ (cut_twice (share (owes_of alternatives q) h.0).cost
        ∙ sym (ap (λ (o : Option (Piece E)). cut_count (share_cost (owes_of alternatives q) a o)) h.2)))

    none_left : (a : Alternative) → is_taken q.pieces a ≡ true → left a ≡ []
    none_left a t = let h = taken_piece (piece_of q.pieces a) t in ap (λ (o : Option (Piece E)). report_left o) h.1 ∙ ap report_in h.2

    none_left_in : (front : List Alternative) → list_all (is_taken q.pieces) front ≡ true → flat_map left front ≡ []
    none_left_in [] h = refl
    none_left_in (a ∷ front) h = let t = and_parts (is_taken q.pieces a) (list_all (is_taken q.pieces) front) h in
        λ i. none_left a t.0 i ++ none_left_in front t.1 i

    left_values : (back : List Alternative) → Every (λ (a : Alternative). a.k < length_of alternatives q a.batch) back
        → list_all (λ a. not (is_taken q.pieces a)) back ≡ true → events_in of alternatives (flat_map left back) ≡ flat_map (value of alternatives q) back
    left_values [] inside h = refl
    left_values (a ∷ back) inside h =
        let t = and_parts (not (is_taken q.pieces a)) (list_all (λ a. not (is_taken q.pieces a)) back) h in
        flat_map-append (λ (o : Owed E). o.events) (left a) (flat_map left back)
        ∙ (λ i. left_value a inside.0 (false_from_not (is_taken q.pieces a) t.0) i ++ left_values back inside.1 t.1 i)

    left_prices : (back : List Alternative) → Every (λ (a : Alternative). a.k < length_of alternatives q a.batch) back
        → list_all (λ a. not (is_taken q.pieces a)) back ≡ true
        → cut_count (cost_in of alternatives (flat_map left back)) ≡ cut_count (total (price of alternatives q) back)
    left_prices [] inside h = refl
    left_prices (a ∷ back) inside h =
        let t = and_parts (not (is_taken q.pieces a)) (list_all (λ a. not (is_taken q.pieces a)) back) h in
        ap cut_count (total-append (λ (o : Owed E). o.cost) (left a) (flat_map left back))
        ∙ cut_sum (cost_in of alternatives (left a)) (cost_in of alternatives (flat_map left back)) (price of alternatives q a)
        (total (price of alternatives q) back) (left_price a inside.0 (false_from_not (is_taken q.pieces a) t.0)) (left_prices back inside.1 t.1)

    module _ (reports : List (Owed E)) (g : Given of alternatives q reports) where
      behind : Every (λ (a : Alternative). a.k < length_of alternatives q a.batch) g.back
      behind = every_back (λ (a : Alternative). a.k < length_of alternatives q a.batch) g.front g.back
          (subst (λ l. Every (λ (a : Alternative). a.k < length_of alternatives q a.batch) l) g.order
          (walk_inside (kids_of q.pieces) (length_of alternatives q) (length q.batches) 0))

      left_is : reports_left alternatives q ≡ flat_map left g.back
      left_is = ap (flat_map left) g.order ∙ (flat_map-append left g.front g.back ∙ ap (λ l. l ++ flat_map left g.back) (none_left_in g.front g.before))

      pub all_events : events_in of alternatives (reports ++ reports_left alternatives q) ≡ pair.events
      all_events =
          ap (λ l. events_in of alternatives (reports ++ l)) left_is
          ∙ (flat_map-append (λ (o : Owed E). o.events) reports (flat_map left g.back)
          ∙ ((λ i. g.events i ++ left_values g.back behind g.others i)
          ∙ (sym (flat_map-append (value of alternatives q) g.front g.back)
          ∙ (ap (flat_map (value of alternatives q)) (sym g.order) ∙ spread_is of alternatives q problem pair s))))

      pub all_costs : cut_count (sum_by (λ (o : Owed E). o.cost) (reports ++ reports_left alternatives q)) ≡ cut_count pair.cost
      all_costs =
          ap cut_count (sum_total (λ (o : Owed E). o.cost) (reports ++ reports_left alternatives q)
          ∙ (ap (λ l. cost_in of alternatives (reports ++ l)) left_is ∙ total-append (λ (o : Owed E). o.cost) reports (flat_map left g.back)))
          ∙ (cut_sum (cost_in of alternatives reports) (cost_in of alternatives (flat_map left g.back)) (total (price of alternatives q) g.front)
          (total (price of alternatives q) g.back) g.costs (left_prices g.back behind g.others)
          ∙ ap cut_count (sym (total-append (price of alternatives q) g.front g.back)
          ∙ (ap (total (price of alternatives q)) (sym g.order) ∙ cost_is of alternatives q problem pair s)))

  pub given_in_front : (p : PoolData N E) (problem : Of) (pair : Owed E) (reports : List (Owed E)) → Sound of alternatives p problem pair
      → Given of alternatives p reports
      → (rest : List E) × (pair.events ≡ events_in of alternatives reports ++ rest)
  given_in_front p problem pair reports s g =
      let v : Alternative → List E = value of alternatives p in (
        flat_map v g.back,
        sym (spread_is of alternatives p problem pair s)
            ∙ (ap (flat_map v) g.order ∙ (flat_map-append v g.front g.back ∙ ap (λ l. l ++ flat_map v g.back) (sym g.events))),
      )

  pub reports_owed : (root : N) (workers : ℕ) (pair : Owed E) (es : List (CoreEvent N E)) (q : PoolData N E) → alternatives root ≡ pair ∷ []
      → RunsTo of alternatives (opening root workers) es q → q.untried ≡ 0 → q.busy ≡ 0
      → (flat_map (λ (o : Owed E). o.events) (flat_map report_taken es ++ reports_left alternatives q) ≡ pair.events)
      × (cut_count (sum_by (λ (o : Owed E). o.cost) (flat_map report_taken es ++ reports_left alternatives q)) ≡ cut_count pair.cost)
  reports_owed root workers pair es q e r untried busy =
      let p = opening root workers in
      let s = opening_sound alternatives of root workers pair e in
      let t = run_sound of alternatives es p q (of root) pair s r in
      let g = run_given es p q (of root) pair [] s (opening_given root workers) r in
      (all_events q (of root) pair t untried busy (flat_map report_taken es) g, all_costs q (of root) pair t untried busy (flat_map report_taken es) g)

  -- ---- later pools

  none_open : (pieces : List (Piece E)) → ((i : ℕ) (y : Piece E) → slice_get pieces i ≡ Some y → is_open y.status ≡ false) → count_open pieces ≡ 0
  none_open [] h = refl
  none_open (y ∷ pieces) h = let a : one_if (is_open y.status) ≡ 0 = ap one_if (h 0 y refl) in let b = none_open pieces (λ i z e. h (suc i) z e) in omega arith

  some_at : {X : Type 0} (xs : List X) (i : ℕ) → i < length xs → (x : X) × (slice_get xs i ≡ Some x)
  some_at [] i low = absurd (omega arith)
  some_at (x ∷ xs) zero low = (x, refl)
  some_at (x ∷ xs) (suc i) low = some_at xs i (omega arith)

  pub nothing_comes : (p q : PoolData N E) (problem : Of) (pair : Owed E) → Sound of alternatives p problem pair → Sound of alternatives q problem pair
      → Later p q → p.untried ≡ 0 → p.busy ≡ 0
      → (q.batches ≡ p.batches) × (length q.pieces ≡ length p.pieces) × (q.untried ≡ 0) × (q.busy ≡ 0)
  nothing_comes p q problem pair s t later untried busy =
      let root = get_map alternatives p.batches 0 (pair ∷ []) s.root in
      let n = nothing_new alternatives p q s.shape t.shape later untried busy (get_below p.batches 0 root.0 root.1) in
      let long = n.0 in
      let pieces = n.1 in
      let more : later.more ≡ [] = nil_from_length later.more (let l = length-append p.batches later.more in
      let m : length q.batches ≡ length (p.batches ++ later.more) = ap length later.batches in omega arith) in
      let same : q.batches ≡ p.batches = later.batches ∙ (ap (λ l. p.batches ++ l) more ∙ append-nil p.batches) in
      let totals : sum_by length (owes_of alternatives q) ≡ sum_by length (owes_of alternatives p) = ap (λ bs. sum_by length (map alternatives bs)) same in
      let u = s.shape.untried in let v = t.shape.untried in let a = s.shape.total in let b = t.shape.total in (
        same,
        pieces,
        omega arith,
        t.shape.busy ∙ none_open q.pieces (λ i y e.
            let low = get_below q.pieces i y e in
            let x = some_at p.pieces i (omega arith) in
            let z = later.pieces i x.0 x.1 in
            let f = z.2 in
            ap (λ (w : Piece E). is_open w.status) (some_is y z.0 (sym e ∙ z.1))
            ∙ still_closed x.0.status z.0.status f.status (closed_all alternatives p s.shape busy i x.0 x.1)),
      )
