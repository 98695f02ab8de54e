-- The reports that a run takes are what the front of its walk owes.
use Rattle.std.proofs.Common.{◌≡◌, ℕ, zero, suc, ◌+◌, ◌<◌, ◌≤◌, List, [], ◌∷◌, ◌++◌, Bool, true, false, not, length, refl, sym, ap, ◌∙◌, subst, arith}
use Rattle.std.proofs.Common.{append_assoc, append-nil, Option, Some, None}
use Rattle.std.specs.Prelude.{flat_map, slice_get}
use Rattle.std.specs.List.{list_all}
use Rattle.std.proofs.lemmas.Bool.{and_parts, and_from, false≢true, true≢false}
use Rattle.std.proofs.lemmas.List.Concat.{flat_map-append}
use Rattle.std.proofs.lemmas.List.Folds.{list_all-append}
use Rattle.ll_laws.specs.Pool.{Owed, Status, Open, Closed, Taken, Piece, PoolData, Alternative, place}
use Rattle.ll_laws.specs.Spread.{alternatives_of, numbers, last_first, walk_alternative, walk_deep, piece_of, piece_events, gives, share, owes_of, length_of}
use Rattle.ll_laws.specs.Spread.{walk, kids_of, published_by}
use Rattle.ll_laws.specs.Search.{cut_count}
use Rattle.ll_laws.specs.Sound.{Every, Shaped, Sound, report_of, is_open, is_taken, is_taken_piece, is_taken_status}
use Rattle.ll_laws.specs.CoreEvents.{CoreEvent, Claim, Publish, Report, Ready, Work, Done, Events, change, new_piece, with_batch, with_status, claimed}
use Rattle.ll_laws.specs.CoreEvents.{published, reported, took, Does, MayTake}
use Rattle.ll_core.specs.Given.{Given, cost_in, price, share_cost, total, value}
use Rattle.ll_core.proofs.events.Conditions.{MayGrow}
use Rattle.ll_core.proofs.walks.Walks.{walk_same, insert_after, is_alternative}
use Rattle.ll_core.proofs.walks.Once.{total-append}
use Rattle.ll_core.proofs.events.Pieces.{found, lookup, is_of_from}
use Rattle.ll_core.proofs.walks.Unique.{unique_behind}
use Rattle.ll_core.proofs.events.Statuses.{read_same, piece_here, piece_elsewhere, took_share, split_same, all_more, untaken_elsewhere}
use Rattle.ll_core.proofs.events.Claims.{read_snoc}
use Rattle.ll_core.proofs.events.Publishes.{walk_published, taken_same, not_taken_here, none_new, front_same, back_same, all_new}
use Rattle.ll_core.proofs.ready.Cursors.{every_all}
use Rattle.ll_core.proofs.ready.Pointing.{every_append}
use Rattle.ll_core.proofs.events.Cuts.{cut_sum, cut_twice}
use Rattle.ll_core.proofs.runs.LaterPools.{later_event, taken_same_piece}
use Rattle.ll_core.proofs.events.LawfulEvents.{share_later}

module _ {E : Type 0} where
  was_taken : (s : Status E) → is_taken_status s ≡ true → s ≡ Taken
  was_taken Open t = absurd (false≢true t)
  was_taken (Closed r) t = absurd (false≢true t)
  was_taken Taken t = refl

  pub taken_piece : (o : Option (Piece E)) → is_taken_piece o ≡ true → (x : Piece E) × (o ≡ Some x) × (x.status ≡ Taken)
  taken_piece None t = absurd (false≢true t)
  taken_piece (Some x) t = (x, refl, was_taken x.status t)

  pub was_closed : (s : Status E) → is_open s ≡ false → is_taken_status s ≡ false → (report : Owed E) × (s ≡ Closed report)
  was_closed Open o t = absurd (true≢false o)
  was_closed (Closed report) o t = (report, refl)
  was_closed Taken o t = absurd (true≢false t)

pub values_same : {A : Type 0} (f g : Alternative → List A) (t : Alternative → Bool) (front : List Alternative) → ((a : Alternative) → t a ≡ true → f a ≡ g a)
    → list_all t front ≡ true → flat_map f front ≡ flat_map g front
values_same f g t [] same h = refl
values_same f g t (a ∷ front) same h = let p = and_parts (t a) (list_all t front) h in λ i. same a p.0 i ++ values_same f g t front same p.1 i

pub prices_same : (f g : Alternative → ℕ) (t : Alternative → Bool) (front : List Alternative) → ((a : Alternative) → t a ≡ true → f a ≡ g a)
    → list_all t front ≡ true → total f front ≡ total g front
prices_same f g t [] same h = refl
prices_same f g t (a ∷ front) same h = let p = and_parts (t a) (list_all t front) h in λ i. same a p.0 i + prices_same f g t front same p.1 i

-- ---- each alternative of a walk is one of its batch

every_flat : {X Y : Type 0} (P : Y → Type 0) (f : X → List Y) (xs : List X) → Every (λ x. Every P (f x)) xs → Every P (flat_map f xs)
every_flat P f [] h = tt
every_flat P f (x ∷ xs) h = every_append P (f x) (flat_map f xs) h.0 (every_flat P f xs h.1)

every_last_first : {X Y : Type 0} (P : Y → Type 0) (f : X → List Y) (xs : List X) → Every (λ x. Every P (f x)) xs → Every P (last_first f xs)
every_last_first P f [] h = tt
every_last_first P f (x ∷ xs) h = every_append P (last_first f xs) (f x) (every_last_first P f xs h.1) h.0

every_number : (P : ℕ → Type 0) (from n : ℕ) → ((k : ℕ) → from ≤ k → k < from + n → P k) → Every P (numbers from n)
every_number P from zero h = tt
every_number P from (suc n) h = (h from (omega arith) (omega arith), every_number P (suc from) n (λ k low high. h k (omega arith) (omega arith)))

pub every_back : {X : Type 0} (P : X → Type 0) (xs ys : List X) → Every P (xs ++ ys) → Every P ys
every_back P [] ys h = h
every_back P (x ∷ xs) ys h = every_back P xs ys h.1

pub walk_inside : (kids : ℕ → ℕ → List ℕ) (len : ℕ → ℕ) (deep b : ℕ) → Every (λ (a : Alternative). a.k < len a.batch) (walk_deep kids len deep b)
walk_inside kids len zero b = tt
walk_inside kids len (suc deep) b =
    every_flat (λ (a : Alternative). a.k < len a.batch) (walk_alternative kids (walk_deep kids len deep) b) (numbers 0 (len b))
    (every_number (λ k. Every (λ (a : Alternative). a.k < len a.batch) (walk_alternative kids (walk_deep kids len deep) b k)) 0 (len b) (λ k low high. (
      let inside : k < len b = omega arith in inside,
      every_last_first (λ (a : Alternative). a.k < len a.batch) (walk_deep kids len deep) (kids b k)
          (every_all (λ c. Every (λ (a : Alternative). a.k < len a.batch) (walk_deep kids len deep c)) (walk_inside kids len deep) (kids b k)),
    )))

module _ {N Of E : Type 0} (of : N → Of) (alternatives : N → List (Owed E)) where
  -- what is taken keeps its piece and its share
  module _ (p q : PoolData N E) (e : CoreEvent N E) (s : Shaped alternatives p) (t : Shaped alternatives q) (d : Does alternatives p e q) (a : Alternative)
      (taken : is_taken p.pieces a ≡ true) where
    steady_piece : (x : Piece E) × (piece_of p.pieces a ≡ Some x) × (x.status ≡ Taken) × (piece_of q.pieces a ≡ Some x)
        × (share (owes_of alternatives q) x ≡ share (owes_of alternatives p) x)
    steady_piece =
        let o = taken_piece (piece_of p.pieces a) taken in
        let l = lookup p.pieces a o.0 o.1 in
        let y = (later_event alternatives p q e d).pieces l.0 o.0 l.1 in
        let same : y.0 ≡ o.0 = taken_same_piece o.0 y.0 y.2 o.2 in
        (o.0, o.1, o.2, found q.pieces t.apart l.0 o.0 a (y.1 ∙ ap Some same) l.2 l.3, share_later of alternatives p q e s d l.0 o.0 l.1)

    still_taken : is_taken q.pieces a ≡ true
    still_taken = let h = steady_piece in ap is_taken_piece h.3 ∙ ap is_taken_status h.2

    steady_value : value of alternatives q a ≡ value of alternatives p a
    steady_value =
        let h = steady_piece in
        ap (gives (owes_of alternatives q) a) h.3
        ∙ (ap (piece_events (owes_of alternatives q) h.0) h.2
        ∙ (ap (λ (o : Owed E). o.events) h.4
        ∙ sym (ap (gives (owes_of alternatives p) a) h.1 ∙ ap (piece_events (owes_of alternatives p) h.0) h.2)))

    steady_price : price of alternatives q a ≡ price of alternatives p a
    steady_price =
        let h = steady_piece in
        ap (share_cost (owes_of alternatives q) a) h.3 ∙ (ap (λ (o : Owed E). o.cost) h.4 ∙ sym (ap (share_cost (owes_of alternatives p) a) h.1))

  -- the front stays where nothing is taken
  carried : (p q : PoolData N E) (e : CoreEvent N E) (reports : List (Owed E)) → Shaped alternatives p → Shaped alternatives q → Does alternatives p e q
      → (g : Given of alternatives p reports)
      → (back : List Alternative) → walk alternatives q ≡ g.front ++ back → list_all (λ a. not (is_taken q.pieces a)) back ≡ true
      → Given of alternatives q reports
  carried p q e reports s t d g back order others = record {
    front = g.front;
    back = back;
    order = order;
    before = all_more (is_taken p.pieces) (is_taken q.pieces) g.front (still_taken p q e s t d) g.before;
    others = others;
    events = g.events ∙ sym (values_same (value of alternatives q) (value of alternatives p) (is_taken p.pieces) g.front (steady_value p q e s t d) g.before);
    costs =
        g.costs
        ∙ sym (ap cut_count (prices_same (price of alternatives q) (price of alternatives p) (is_taken p.pieces) g.front (steady_price p q e s t d) g.before));
  }

  pub same_given : (p q : PoolData N E) (reports : List (Owed E)) → q ≡ p → Given of alternatives p reports → Given of alternatives q (reports ++ [])
  same_given p q reports e g = subst (λ r. Given of alternatives r (reports ++ [])) (sym e) (subst (Given of alternatives p) (sym (append-nil reports)) g)

  pub marked_given : (p : PoolData N E) (reports : List (Owed E)) (starved stopped : Bool) → Given of alternatives p reports
      → Given of alternatives (record p { starved = starved; stopped = stopped }) (reports ++ [])
  marked_given p reports starved stopped g = subst (Given of alternatives (record p { starved = starved; stopped = stopped })) (sym (append-nil reports))
      (record { front = g.front; back = g.back; order = g.order; before = g.before; others = g.others; events = g.events; costs = g.costs })

  untaken_same : (taken taken' : Alternative → Bool) (back : List Alternative) → ((a : Alternative) → taken' a ≡ taken a)
      → list_all (λ a. not (taken a)) back ≡ true → list_all (λ a. not (taken' a)) back ≡ true
  untaken_same taken taken' back same h = subst (λ (t : Alternative → Bool). list_all (λ a. not (t a)) back ≡ true) (λ i a. sym (same a) i) h

  module _ (p : PoolData N E) (problem : Of) (pair : Owed E) (s : Sound of alternatives p problem pair) (reports : List (Owed E))
      (g : Given of alternatives p reports) where
    pub given_claimed : (w i b k : ℕ) → Shaped alternatives (claimed p w b k) → Does alternatives p (Claim w (Work i b k)) (claimed p w b k)
        → Given of alternatives (claimed p w b k) reports
    given_claimed w i b k t d =
        let y : Piece E = new_piece w b k in
        let u = d.1 in
        let free : (i : ℕ) (x : Piece E) → slice_get p.pieces i ≡ Some x → x.batch ≡ b → x.k ≡ k → ⊥ = u.free in
        carried p (claimed p w b k) (Claim w (Work i b k)) reports s.shape t d g g.back
        (walk_same (kids_of p.pieces) (kids_of (p.pieces ++ y ∷ [])) (length_of alternatives p)
        (λ c j. read_snoc published_by p.pieces y refl free t.apart (record { batch = c; k = j })) (length p.batches) 0 ∙ g.order)
        (untaken_same (is_taken p.pieces) (is_taken (p.pieces ++ y ∷ [])) g.back (read_snoc is_taken_piece p.pieces y refl free t.apart) g.others)

    pub given_published : (w i : ℕ) (x : Piece E) (n : N) → MayGrow alternatives p i x n → Shaped alternatives (published p i n (length (alternatives n)))
        → Does alternatives p (Publish w n Done) (published p i n (length (alternatives n)))
        → Given of alternatives (published p i n (length (alternatives n))) reports
    given_published w i x n may t d =
        let new : List Alternative = alternatives_of (length p.batches) (length (alternatives n)) in
        let into : Alternative → List Alternative = insert_after (place x) new in
        let taken : Alternative → Bool = is_taken p.pieces in
        carried p (published p i n (length (alternatives n))) (Publish w n Done) reports s.shape t d g (flat_map into g.back)
        (walk_published alternatives p s.shape i x n may ∙ (ap (flat_map into) g.order
        ∙ (flat_map-append into g.front g.back ∙ ap (λ l. l ++ flat_map into g.back)
        (front_same taken (place x) new (not_taken_here alternatives p s.shape i x n may) g.front g.before))))
        (untaken_same taken (is_taken (change i (with_batch (length p.batches)) p.pieces)) (flat_map into g.back) (taken_same alternatives p s.shape i x n may)
        (back_same (λ a. not (taken a)) (place x) new (all_new (λ a. not (taken a)) (length p.batches)
        (λ k. ap (λ o. not (is_taken_piece o)) (none_new alternatives p s.shape i x n may k)) 0 (length (alternatives n))) g.back g.others))

    pub given_reported : (w i : ℕ) (x : Piece E) (report : Owed E) → slice_get p.pieces i ≡ Some x → x.status ≡ Open → Shaped alternatives (reported p i report)
        → Does alternatives p (Report w report) (reported p i report) → Given of alternatives (reported p i report) reports
    given_reported w i x report at o t d =
        let f : Piece E → Piece E = with_status (Closed report) in
        let was : is_taken_status x.status ≡ false = ap is_taken_status o in
        carried p (reported p i report) (Report w report) reports s.shape t d g g.back
        (walk_same (kids_of p.pieces) (kids_of (change i f p.pieces)) (length_of alternatives p)
        (λ c j. read_same f (λ x. refl) (λ x. refl) published_by i p.pieces x refl s.shape.apart at (record { batch = c; k = j })) (length p.batches) 0
        ∙ g.order)
        (untaken_same (is_taken p.pieces) (is_taken (change i f p.pieces)) g.back
        (read_same f (λ x. refl) (λ x. refl) is_taken_piece i p.pieces x (sym was) s.shape.apart at) g.others)

    module _ (i : ℕ) (x : Piece E) (report : Owed E) (may : MayTake alternatives p i x report) (t : Shaped alternatives (took p i))
        (d : Does alternatives p (Ready (Events report)) (took p i)) where
      abbrev q : PoolData N E
      q = took p i

      abbrev f : Piece E → Piece E
      f = with_status Taken

      abbrev at : Alternative
      at = place x

      not_yet : is_taken p.pieces at ≡ false
      not_yet = ap is_taken_piece (found p.pieces s.shape.apart i x at may.piece refl refl) ∙ ap is_taken_status may.closed

      split : (g.front ≡ may.next.front) × (g.back ≡ at ∷ may.next.back)
      split = split_same (is_taken p.pieces) g.front g.back may.next.front may.next.back at (sym g.order ∙ may.next.order) g.before g.others may.next.before
          not_yet

      order_now : walk alternatives p ≡ g.front ++ at ∷ may.next.back
      order_now = g.order ∙ ap (λ l. g.front ++ l) split.1

      walk_now : walk alternatives q ≡ walk alternatives p
      walk_now = walk_same (kids_of p.pieces) (kids_of (change i f p.pieces)) (length_of alternatives p)
          (λ c j. read_same f (λ x. refl) (λ x. refl) published_by i p.pieces x refl s.shape.apart may.piece (record { batch = c; k = j })) (length p.batches) 0

      piece_now : piece_of q.pieces at ≡ Some (f x)
      piece_now = piece_here f (λ x. refl) (λ x. refl) i p.pieces x s.shape.apart may.piece at (is_of_from at x refl refl)

      elsewhere : (a : Alternative) → is_alternative a at ≡ false → is_taken q.pieces a ≡ is_taken p.pieces a
      elsewhere a h = ap is_taken_piece (piece_elsewhere f (λ x. refl) (λ x. refl) i p.pieces x may.piece a h)

      its_share : report ≡ report_of (share (owes_of alternatives p) x)
      its_share = took_share of alternatives p problem pair s i x report may

      -- the report that is taken joins the front
      pub given_took : Given of alternatives q (reports ++ report ∷ [])
      given_took =
          let untaken : list_all (λ a. not (is_taken p.pieces a)) (at ∷ may.next.back) ≡ true =
          subst (λ l. list_all (λ a. not (is_taken p.pieces a)) l ≡ true) split.1 g.others in
          let value_now : value of alternatives q at ≡ report.events =
          ap (gives (owes_of alternatives q) at) piece_now ∙ sym (ap (λ (o : Owed E). o.events) its_share) in
          let price_now : price of alternatives q at ≡ (share (owes_of alternatives p) x).cost = ap (share_cost (owes_of alternatives q) at) piece_now in
          let cost_now : report.cost ≡ cut_count (share (owes_of alternatives p) x).cost = ap (λ (o : Owed E). o.cost) its_share in
          let front_values = values_same (value of alternatives q) (value of alternatives p) (is_taken p.pieces) g.front
          (steady_value p q (Ready (Events report)) s.shape t d) g.before in
          let front_prices = prices_same (price of alternatives q) (price of alternatives p) (is_taken p.pieces) g.front
          (steady_price p q (Ready (Events report)) s.shape t d) g.before in
          record {
            front = g.front ++ at ∷ [];
            back = may.next.back;
            order = walk_now ∙ (order_now ∙ sym (append_assoc g.front (at ∷ []) may.next.back));
            before = list_all-append (is_taken q.pieces) g.front (at ∷ [])
                ∙ and_from (list_all (is_taken q.pieces) g.front) (list_all (is_taken q.pieces) (at ∷ []))
                (all_more (is_taken p.pieces) (is_taken q.pieces) g.front (still_taken p q (Ready (Events report)) s.shape t d) g.before)
                (and_from (is_taken q.pieces at) true (ap is_taken_piece piece_now) refl);
            others = untaken_elsewhere (is_taken p.pieces) (is_taken q.pieces) at elsewhere may.next.back
                (unique_behind alternatives p s.shape i x g.front may.next.back may.piece order_now)
                (and_parts (not (is_taken p.pieces at)) (list_all (λ a. not (is_taken p.pieces a)) may.next.back) untaken).1;
            events = flat_map-append (λ (o : Owed E). o.events) reports (report ∷ [])
                ∙ ((λ j. (g.events ∙ sym front_values) j ++ (ap (λ l. l ++ []) (sym value_now)) j)
                ∙ sym (flat_map-append (value of alternatives q) g.front (at ∷ [])));
            costs = ap cut_count (total-append (λ (o : Owed E). o.cost) reports (report ∷ []))
                ∙ (cut_sum (cost_in of alternatives reports) (cost_in of alternatives (report ∷ [])) (total (price of alternatives q) g.front)
                (total (price of alternatives q) (at ∷ [])) (g.costs ∙ sym (ap cut_count front_prices)) last_cost
                ∙ sym (ap cut_count (total-append (price of alternatives q) g.front (at ∷ []))));
          }
        where
          last_cost : cut_count (cost_in of alternatives (report ∷ [])) ≡ cut_count (total (price of alternatives q) (at ∷ []))
          last_cost =
              let price_now : price of alternatives q at ≡ (share (owes_of alternatives p) x).cost = ap (share_cost (owes_of alternatives q) at) piece_now in
              let cost_now : report.cost ≡ cut_count (share (owes_of alternatives p) x).cost = ap (λ (o : Owed E). o.cost) its_share in
              let a : cost_in of alternatives (report ∷ []) ≡ report.cost = omega arith in
              let b : total (price of alternatives q) (at ∷ []) ≡ price of alternatives q at = omega arith in
              ap cut_count (a ∙ cost_now) ∙ (cut_twice (share (owes_of alternatives p) x).cost ∙ sym (ap cut_count (b ∙ price_now)))
