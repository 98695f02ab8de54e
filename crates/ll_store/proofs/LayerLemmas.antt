-- States of stores that are kept in layers.
use Rattle.std.proofs.Common.{◌≡◌, ℕ, suc, ◌<◌, ◌+◌, List, [], ◌∷◌, ◌++◌, length, take, drop, refl, ap, sym, subst, ◌∙◌, arith, append_assoc}
use Rattle.std.proofs.Common.{length-append}
use Rattle.std.specs.Prelude.{slice_index_or}
use Rattle.std.specs.Arc.{arc_value}
use Rattle.std.specs.declared.sync.Arc.{Arc}
use Rattle.std.specs.declared.alloc.Global.{Global}
use Rattle.std.proofs.lemmas.List.{length-map, map-append, take-append-drop, take_more}
use Rattle.ll_store.specs.declared.store.Store.{Store}
use Rattle.ll_store.specs.Stored.{State, AreWithin, stored, state_of}
use Rattle.ll_store.specs.Segments.{SegmentSight, state_after, state_after_all, BeginAll, Begins, Leads, LeadAll}
use Rattle.ll_store.specs.Layered.{LayersSight, whole_of, segments_of, layered}

-- one segment more
pub after-more : (ss : List SegmentSight) (s : SegmentSight) (st : State) → state_after_all (ss ++ s ∷ []) st ≡ state_after s (state_after_all ss st)
after-more [] s st = refl
after-more (t ∷ ss) s st = after-more ss s (state_after t st)

-- segments in two runs
pub after-append : (ss more : List SegmentSight) (st : State) → state_after_all (ss ++ more) st ≡ state_after_all more (state_after_all ss st)
after-append [] more st = refl
after-append (t ∷ ss) more st = after-append ss more (state_after t st)

pub begin-append : (ss more : List SegmentSight) (st : State) → BeginAll ss st → BeginAll more (state_after_all ss st) → BeginAll (ss ++ more) st
begin-append [] more st h k = k
begin-append (t ∷ ss) more st h k = (h.0, begin-append ss more (state_after t st) h.1 k)

pub begin-rest : (ss more : List SegmentSight) (st : State) → BeginAll (ss ++ more) st → BeginAll more (state_after_all ss st)
begin-rest [] more st h = h
begin-rest (t ∷ ss) more st h = begin-rest ss more (state_after t st) h.1

-- the next segment, and those before and after it
parted : (xs : List (Arc SegmentSight Global)) (i : ℕ) (d : Arc SegmentSight Global) → i < length xs
    → segments_of xs ≡ segments_of (take i xs) ++ arc_value (slice_index_or xs i d) ∷ segments_of (drop (i + 1) xs)
parted xs i d l =
    let x = slice_index_or xs i d in
    ap segments_of (sym (take-append-drop (i + 1) xs) ∙ (ap (λ ys. ys ++ drop (i + 1) xs) (take_more xs i d l)
    ∙ append_assoc (take i xs) (x ∷ []) (drop (i + 1) xs)))
    ∙ map-append (λ (a : Arc SegmentSight Global). arc_value a) (take i xs) (x ∷ drop (i + 1) xs)

-- it begins where those before it lead
pub begins-at : (xs : List (Arc SegmentSight Global)) (i : ℕ) (d : Arc SegmentSight Global) (st now : State) → BeginAll (segments_of xs) st → i < length xs
    → now ≡ state_after_all (segments_of (take i xs)) st
    → Begins (arc_value (slice_index_or xs i d)) now
begins-at xs i d st now h l n =
    let s = arc_value (slice_index_or xs i d) in let rest = segments_of (drop (i + 1) xs) in
    let all : BeginAll (segments_of (take i xs) ++ s ∷ rest) st = subst (λ (ys : List SegmentSight). BeginAll ys st) (parted xs i d l) h in
    subst (λ (x : State). Begins s x) (sym n) (begin-rest (segments_of (take i xs)) (s ∷ rest) st all).0

-- and leads on
pub after-step : (xs : List (Arc SegmentSight Global)) (i : ℕ) (d : Arc SegmentSight Global) (st now next : State) → i < length xs
    → now ≡ state_after_all (segments_of (take i xs)) st
    → state_after (arc_value (slice_index_or xs i d)) now ≡ next → next ≡ state_after_all (segments_of (take (i + 1) xs)) st
after-step xs i d st now next l n e =
    let x = slice_index_or xs i d in let s = arc_value x in
    sym e
    ∙ (ap (state_after s) n
    ∙ (sym (after-more (segments_of (take i xs)) s st)
    ∙ (ap (λ ss. state_after_all ss st) (sym (map-append (λ (a : Arc SegmentSight Global). arc_value a) (take i xs) (x ∷ [])))
    ∙ ap (λ ys. state_after_all (segments_of ys) st) (sym (take_more xs i d l)))))

-- layers with one more
pub record OneMore (whole : Arc Store Global) (xs : List (Arc SegmentSight Global)) (second : State) (depth : ℕ) : Type 0 where
  pub view : layered whole xs ≡ record { state = second; depth = depth }
  pub within : AreWithin (whole_of whole)
  pub begin : BeginAll (segments_of xs) (whole_of whole)

pub one-more : (whole own : Arc Store Global) (xs made last : List (Arc SegmentSight Global)) (a : Arc SegmentSight Global) (s : SegmentSight)
    (first second : State) (l : LayersSight) → arc_value a ≡ s → Leads s first second
    → first ≡ l.state → layered whole xs ≡ l → segments_of made ≡ segments_of xs → last ≡ made ++ a ∷ [] → arc_value own ≡ arc_value whole
    → AreWithin (whole_of whole) → BeginAll (segments_of xs) (whole_of whole)
    → OneMore own last second (suc l.depth)
one-more whole own xs made last a s first second l v leads f w m e o within begins = record {
  view = λ i. record { state = state i; depth = depth i };
  within = subst AreWithin (sym same) within;
  begin = subst (λ (x : State). BeginAll (segments_of last) x) (sym same) (subst (λ (ss : List SegmentSight). BeginAll ss (whole_of whole)) (sym all)
      (begin-append (segments_of xs) (s ∷ []) (whole_of whole) begins (subst (λ (x : State). Begins s x) here leads.begins, tt)));
}
  where
    same : whole_of own ≡ whole_of whole
    same = ap (λ (x : Store). state_of (stored x)) o

    all : segments_of last ≡ segments_of xs ++ s ∷ []
    all = ap segments_of e ∙ (map-append (λ (x : Arc SegmentSight Global). arc_value x) made (a ∷ []) ∙ (λ i. m i ++ v i ∷ []))

    here : first ≡ state_after_all (segments_of xs) (whole_of whole)
    here = f ∙ ap (λ (x : LayersSight). x.state) (sym w)

    state : state_after_all (segments_of last) (whole_of own) ≡ second
    state = (λ i. state_after_all (all i) (same i)) ∙ (after-more (segments_of xs) s (whole_of whole) ∙ (ap (state_after s) (sym here) ∙ leads.ends))

    depth : length last ≡ suc l.depth
    depth =
        let p = length-map last (λ (x : Arc SegmentSight Global). arc_value x) in let q = ap length all in let r = length-append (segments_of xs) (s ∷ []) in
        let t = length-map xs (λ (x : Arc SegmentSight Global). arc_value x) in let u = ap (λ (x : LayersSight). x.depth) w in omega (arith, p, q, r, t, u)

-- ---- layers whose first parts are those of others

-- the segments that the others have besides lead on to their state
pub leads-on : (whole other : Arc Store Global) (xs ys : List (Arc SegmentSight Global)) (n : ℕ) (l m : LayersSight) → layered whole xs ≡ l
    → layered other ys ≡ m → whole_of whole ≡ whole_of other
    → segments_of xs ≡ segments_of (take n ys) → BeginAll (segments_of ys) (whole_of other) → LeadAll (segments_of (drop n ys)) l.state m.state
leads-on whole other xs ys n l m v u w e begins = record {
  begins = subst (λ (x : State). BeginAll (segments_of (drop n ys)) x) (sym here)
      (begin-rest (segments_of (take n ys)) (segments_of (drop n ys)) (whole_of other)
      (subst (λ (ss : List SegmentSight). BeginAll ss (whole_of other)) all begins));
  ends = ap (state_after_all (segments_of (drop n ys))) here
      ∙ (sym (after-append (segments_of (take n ys)) (segments_of (drop n ys)) (whole_of other))
      ∙ (ap (λ ss. state_after_all ss (whole_of other)) (sym all) ∙ ap (λ (x : LayersSight). x.state) u));
}
  where
    all : segments_of ys ≡ segments_of (take n ys) ++ segments_of (drop n ys)
    all = ap segments_of (sym (take-append-drop n ys)) ∙ map-append (λ (x : Arc SegmentSight Global). arc_value x) (take n ys) (drop n ys)

    here : l.state ≡ state_after_all (segments_of (take n ys)) (whole_of other)
    here = ap (λ (x : LayersSight). x.state) (sym v) ∙ (λ i. state_after_all (e i) (w i))
