-- What choice points keep, before and after a choice.
use Rattle.std.proofs.Common.{◌≡◌, ◌≢◌, ℕ, suc, ◌-◌, ◌<◌, refl, ap, sym, ◌∙◌, subst, Bool, true, false, List, [], ◌∷◌, ◌++◌, arith, map, reverse, length}
use Rattle.std.proofs.lemmas.List.{reverse-append, map-append}
use Rattle.std.proofs.lemmas.List.Elements.{All-push, All-cons, All-tail, All-head, All-pop, All-weaker}
use Rattle.std.proofs.Math.Dec.{eqb, eqb-suc-zero}
use Rattle.std.specs.Prelude.{Option, Some, None, All}
use Rattle.std.specs.List.{Contains}
use Rattle.ll_list_laws.proofs.CallerLemmas.{reverse-push as newest, All-reverse as all_reverse}
use Rattle.ll_laws.specs.declared.Candidate.{Candidate}
use Rattle.ll_laws.specs.State.{State}
use Rattle.ll_laws.specs.Attempt.{tries, attempt}
use Rattle.ll_laws.specs.Problem.{ProblemTree, setting_of}
use Rattle.ll_freeze.specs.declared.machine.Machine.{Machine}
use Rattle.ll_freeze.specs.declared.mark.ChoiceMark.{ChoiceMark}
use Rattle.ll_freeze.specs.Parts.{Parts, IsGood, IsBefore, KeepsMarks, KeepsMarksTo}
use Rattle.ll_engine.specs.declared.choices.ChoicePoint.{ChoicePoint}
use Rattle.ll_freeze.specs.Shown.{state_of}
use Rattle.ll_freeze.specs.Fits.{Fits, setting}
use Rattle.ll_engine.specs.Attempts.{Attempts}
use Rattle.ll_engine.specs.Calls.{SettlesOr, SameSearch}
use Rattle.ll_engine.specs.Seen.{Point, Choices}
use Rattle.ll_engine.specs.Owed.{Thins, one_if_some, put_point}
use Rattle.ll_engine.specs.Matches.{matches}
use Rattle.ll_engine.specs.Turned.{has_none, Settles, Gave, Chose, Expands, Retries, RetriesAt}
use Rattle.ll_engine.specs.Pointed.{Held, held_of, helds, Rises, AreMarks, point_of, points_of, choices_at, AreTries, IsOpen, IsKept, AreKept, IsSoundAt}
use Rattle.ll_engine.specs.Pointed.{KeepsKept, Puts}
use Rattle.ll_engine.proofs.machine.Labels.{tries_distinct}
use Rattle.ll_engine.proofs.matching.MatchLemmas.{matches_thin, thins_contains}

twice : {A : Type 0} (xs : List A) → reverse (reverse xs) ≡ xs
twice [] = refl
twice (x ∷ xs) = ap (λ ys. reverse ys) (reverse-append (x ∷ []) xs) ∙ (newest (reverse xs) x ∙ ap (λ ys. x ∷ ys) (twice xs))

-- the candidates of a first goal that can match, the first one last
pub are_tries : (m : Parts) (ds : List Candidate) → Fits m → reverse ds ≡ matches (state_of m) → AreTries m ds
are_tries m ds f e =
    subst (λ (xs : List Candidate). AreTries m xs) (twice ds)
    (all_reverse (λ c. Contains (tries (state_of m)) c) (reverse ds)
    (subst (λ (xs : List Candidate). AreTries m xs) (sym e)
    (thins_contains (setting m) (state_of m) (matches (state_of m)) (tries (state_of m)) (matches_thin (setting m) (state_of m) f.consistent.labels_differ))))

-- a list that is not empty, by its number of elements
pub some_left : (cs : List Candidate) (n : ℕ) (b : Bool) → b ≡ eqb n 0 → b ≡ false → n ≡ length cs → cs ≢ []
some_left cs n b e f l = λ h.
    let z : n ≡ 0 = l ∙ ap (λ (xs : List Candidate). length xs) h in let t : b ≡ true = e ∙ ap (λ k. eqb k 0) z in let x : true ≡ false = sym t ∙ f in cc

-- one point more

pub puts_none : (m : Parts) (cs : List Candidate) (ps : List Held) → cs ≡ [] → Puts m cs ps ps
puts_none m cs ps e = rw e refl

some_last : (t : State) (n : ℕ) (x : Candidate) (us : List Candidate) (ps : List Point)
    → put_point t n (us ++ x ∷ []) ps ≡ record { state = t; left = n; untried = us ++ x ∷ [] } ∷ ps
some_last t n x [] ps = refl
some_last t n x (u ∷ us) ps = refl

put_some : (t : State) (n : ℕ) (cs : List Candidate) (ps : List Point) → cs ≢ []
    → put_point t n (reverse cs) ps ≡ record { state = t; left = n; untried = reverse cs } ∷ ps
put_some t n [] ps h = absurd (h refl)
put_some t n (c ∷ cs) ps h =
    let P : List Candidate → Type 0 = λ us. put_point t n us ps ≡ record { state = t; left = n; untried = us } ∷ ps in
    subst P (sym (reverse-append (c ∷ []) cs)) (some_last t n c (reverse cs) ps)

pub puts_some : (m : Parts) (ps : List Held) (k : Held) → k.parts ≡ m → k.untried ≢ [] → Puts m k.untried ps (ps ++ k ∷ [])
puts_some m ps k e h =
    let make : Parts → List Point = λ t. record { state = state_of t; left = t.left - 1; untried = reverse k.untried } ∷ points_of ps in
    ap (λ qs. map point_of qs) (newest ps k) ∙ (ap make e ∙ sym (put_some (state_of m) (m.left - 1) k.untried (points_of ps) h))

pub keeps_some : (m : Parts) (ps : List Held) (k : Held) → k.parts ≡ m → k.untried ≢ [] → KeepsKept m k.untried ps (ps ++ k ∷ [])
keeps_some m ps k e h = λ p o t a.
    All-push (IsKept p) ps k a
    (record {
      opened = subst (λ (n : Parts). IsOpen p n) (sym e) o;
      tries = subst (λ (n : Parts). AreTries n k.untried) (sym e) t;
      some = h;
    })

-- each point has an untried candidate, so as many are open as there are

one_open : (cs : List Candidate) → cs ≢ [] → one_if_some (reverse cs) ≡ 1
one_open [] h = absurd (h refl)
one_open (c ∷ cs) h = ap one_if_some (reverse-append (c ∷ []) cs) ∙ last (reverse cs)
  where
    last : (us : List Candidate) → one_if_some (us ++ c ∷ []) ≡ 1
    last [] = refl
    last (u ∷ us) = refl

-- the first goal is taken apart

same_points : (o : Option State) (p : ProblemTree) (old new : Parts) (ps qs : List Held) (points : List Point) → points_of qs ≡ points
    → choices_at o p new qs ≡ record (choices_at o p old ps) { now = state_of new; left = new.left; points = points }
same_points o p old new ps qs points e =
    let make : List Point → Choices = λ xs. record { problem = p; first = o; now = state_of new; left = new.left; points = xs } in ap make e

pub chose_none : (o : Option State) (p : ProblemTree) (m : Parts) (ps : List Held) (cs : List Candidate) → cs ≡ []
    → Chose (choices_at o p m ps) (state_of m) (m.left - 1) (reverse cs) (points_of ps) false (choices_at o p m ps)
chose_none o p m ps cs e = subst (λ (xs : List Candidate). Chose (choices_at o p m ps) (state_of m) (m.left - 1) (reverse xs) (points_of ps) false
    (choices_at o p m ps)) (sym e) (refl, refl)

gave : (o : Option State) (p : ProblemTree) (old new : Parts) (qs : List Held) (c : Candidate) (ok : Bool) → old.problem ≡ p → Attempts old c new ok
    → Gave (attempt (setting_of p) (state_of old) c) (old.left - 1) ok (choices_at o p new qs)
gave o p old new qs c true e h =
    (subst (λ (q : ProblemTree). attempt (setting_of q) (state_of old) c ≡ Some (state_of new)) e h.gives, let l = h.left in omega arith)
gave o p old new qs c false e h = subst (λ (q : ProblemTree). attempt (setting_of q) (state_of old) c ≡ None) e h

pub chose_some : (o : Option State) (p : ProblemTree) (old new : Parts) (ps qs : List Held) (cs rest : List Candidate) (c : Candidate) (ok : Bool)
    → cs ≡ rest ++ c ∷ []
    → old.problem ≡ p → Puts old rest ps qs → Attempts old c new ok
    → Chose (choices_at o p old ps) (state_of old) (old.left - 1) (reverse cs) (points_of ps) ok (choices_at o p new qs)
chose_some o p old new ps qs cs rest c ok e f u h =
    subst (λ (xs : List Candidate). Chose (choices_at o p old ps) (state_of old) (old.left - 1) xs (points_of ps) ok (choices_at o p new qs))
    (sym (ap (λ xs. reverse xs) e ∙ newest rest c)) (same_points o p old new ps qs _ u, gave o p old new qs c ok f h)

-- what stays of a search after an inference
pub sound_after : (p : ProblemTree) (old new : Parts) (ps qs : List Held) (cs : List Candidate) (c : Candidate) (ok : Bool) → IsOpen p old
    → AreTries old cs → AreKept p ps → KeepsKept old cs ps qs → Attempts old c new ok → IsSoundAt ok p new qs
sound_after p old new ps qs cs c true o t a k h = record { points = k p o t a; machine = (h.fits, h.problem ∙ o.problem) }
sound_after p old new ps qs cs c false o t a k h = record { points = k p o t a; machine = tt }

pub expands : (o : Option State) (p : ProblemTree) (old : Parts) (ps : List Held) (z : Choices) (ds : List Candidate) (ok : Bool) → Fits old → 0 < old.left
    → reverse ds ≡ matches (state_of old)
    → Chose (choices_at o p old ps) (state_of old) (old.left - 1) (reverse ds) (points_of ps) ok z
    → Expands (choices_at o p old ps) ok z
expands o p old ps z ds ok f l e h =
    record {
      candidates = reverse ds;
      left = old.left - 1;
      left_is = omega arith;
      thins = subst (λ (xs : List Candidate). Thins (setting_of p) (state_of old) xs (tries (state_of old))) (sym e)
          (matches_thin (setting_of p) (state_of old) f.consistent.labels_differ);
      distinct = tries_distinct (state_of old) f.consistent.labels_differ;
      chose = h;
    }

-- there is no candidate
pub expands_none : (o : Option State) (p : ProblemTree) (old : Parts) (ps : List Held) (cs : List Candidate) → Fits old → 0 < old.left
    → cs ≡ matches (state_of old) → cs ≡ []
    → Expands (choices_at o p old ps) false (choices_at o p old ps)
expands_none o p old ps cs f l e n = expands o p old ps (choices_at o p old ps) [] false f l (sym n ∙ e) (chose_none o p old ps [] refl)

-- the first one behind the others, with the first one last
pub first_last : (cs ds : List Candidate) (c : Candidate) → cs ≡ c ∷ reverse ds → reverse (ds ++ c ∷ []) ≡ cs
first_last cs ds c e = newest ds c ∙ sym e

-- another present state, and other points, are as good before a choice
chose_same : (o : Option State) (p : ProblemTree) (m n : Parts) (ps qs : List Held) (t : State) (k : ℕ) (cs : List Candidate) (points : List Point) (ok : Bool)
    (z : Choices)
    → Chose (choices_at o p m ps) t k cs points ok z → Chose (choices_at o p n qs) t k cs points ok z
chose_same o p m n ps qs t k [] points ok z h = h
chose_same o p m n ps qs t k (c ∷ cs) points ok z h = h

pub retries : (o : Option State) (p : ProblemTree) (old new : Parts) (ps rest qs : List Held) (k : Held) (ok : Bool) → ps ≡ rest ++ k ∷ []
    → Chose (choices_at o p k.parts rest) (state_of k.parts) (k.parts.left - 1) (reverse k.untried) (points_of rest) ok (choices_at o p new qs)
    → Retries (choices_at o p old ps) ok (choices_at o p new qs)
retries o p old new ps rest qs k ok e h =
    subst (λ (xs : List Point). RetriesAt (choices_at o p old ps) xs ok (choices_at o p new qs))
    (sym (ap (λ xs. points_of xs) e ∙ ap (λ xs. map point_of xs) (newest rest k)))
    (chose_same o p k.parts old rest ps _ _ _ _ ok (choices_at o p new qs) h)

pub over : (ps : List Held) (b : Bool) → b ≡ eqb (length ps) 0 → b ≡ has_none (points_of ps)
over [] b e = e
over (k ∷ ps) b e = e ∙ (none_of ps ∙ sym (ap (λ xs. has_none (map point_of xs)) (reverse-append (k ∷ []) ps) ∙ some (reverse ps)))
  where
    none_of : (ps : List Held) → eqb (suc (length ps)) 0 ≡ false
    none_of ps = eqb-suc-zero (length ps)

    some : (qs : List Held) → has_none (map point_of (qs ++ k ∷ [])) ≡ false
    some [] = refl
    some (q ∷ qs) = refl

-- settling

pub settles : (o : Option State) (p : ProblemTree) (old new : Parts) (ps : List Held) (ok : Bool) → SettlesOr old ok new → SameSearch old new
    → Settles (choices_at o p old ps) ok (choices_at o p new ps)
settles o p old new ps true h s =
    (ap (λ (n : ℕ). let z : Choices = record (choices_at o p old ps) { now = state_of new; left = n } in z) s.left, h.settles)
settles o p old new ps false h s =
    (ap (λ (n : ℕ). let z : Choices = record (choices_at o p old ps) { now = state_of new; left = n } in z) s.left, h)

pub settled_sound : (p : ProblemTree) (old new : Parts) (ps : List Held) (ok : Bool) → SettlesOr old ok new → SameSearch old new → IsSoundAt true p old ps
    → IsSoundAt ok p new ps
settled_sound p old new ps true h s a = record { points = a.points; machine = (h.fits, s.problem ∙ a.machine.1) }
settled_sound p old new ps false h s a = record { points = a.points; machine = tt }

-- the newest point was gone back to
pub retries_by : (o : Option State) (p : ProblemTree) (old mid : Parts) (ps rest more : List Held) (k : Held) (ok : Bool) (z : Choices) → ps ≡ rest ++ k ∷ []
    → mid ≡ k.parts → more ≡ rest
    → Chose (choices_at o p mid more) (state_of mid) (mid.left - 1) (reverse k.untried) (points_of more) ok z → Retries (choices_at o p old ps) ok z
retries_by o p old mid ps rest more k ok z e same others h =
    let moved : Chose (choices_at o p k.parts rest) (state_of k.parts) (k.parts.left - 1) (reverse k.untried) (points_of rest) ok z =
    subst (λ (hs : List Held). Chose (choices_at o p k.parts hs) (state_of k.parts) (k.parts.left - 1) (reverse k.untried) (points_of hs) ok z) others
    (subst (λ (n : Parts). Chose (choices_at o p n more) (state_of n) (n.left - 1) (reverse k.untried) (points_of more) ok z) same h) in
    subst (λ (xs : List Point). RetriesAt (choices_at o p old ps) xs ok z) (sym (ap (λ xs. points_of xs) e ∙ ap (λ xs. map point_of xs) (newest rest k)))
    (chose_same o p k.parts old rest ps _ _ _ _ ok z moved)

-- ---- marks

pub rises_push : (ks : List ChoicePoint) (k : ChoicePoint) → Rises ks → All (λ j. IsBefore j.mark k.mark) ks → Rises (ks ++ k ∷ [])
rises_push [] k r b = ((λ i d l. absurd (omega arith)), tt)
rises_push (j ∷ ks) k r b = (
  All-push (λ (i : ChoicePoint). IsBefore j.mark i.mark) ks k r.0 (All-head (λ (i : ChoicePoint). IsBefore i.mark k.mark) j ks b),
  rises_push ks k r.1 (All-tail (λ (i : ChoicePoint). IsBefore i.mark k.mark) j ks b),
)

pub rises_popped : (ks : List ChoicePoint) (k : ChoicePoint) → Rises (ks ++ k ∷ []) → Rises ks × All (λ j. IsBefore j.mark k.mark) ks
rises_popped [] k r = (tt, λ i d l. absurd (omega arith))
rises_popped (j ∷ ks) k r =
    let rest = rises_popped ks k r.1 in
    let both = All-pop (λ (i : ChoicePoint). IsBefore j.mark i.mark) (ks ++ k ∷ []) ks (Some k) refl r.0 in
    ((both.0, rest.0), All-cons (λ (i : ChoicePoint). IsBefore i.mark k.mark) j ks both.1 rest.1)

-- a machine that keeps marks keeps what its choice points keep
pub helds_kept : (old new : Machine) (ps : List ChoicePoint) → KeepsMarks old new → All (λ k. IsGood k.mark old) ps → helds new ps ≡ helds old ps
helds_kept old new [] h g = refl
helds_kept old new (k ∷ ps) h g =
    let q = h k.mark (All-head (λ (j : ChoicePoint). IsGood j.mark old) k ps g) in
    let make : Parts → Held = λ p. record { parts = p; untried = k.untried.items } in
    λ i. make (q.parts i) ∷ helds_kept old new ps h (All-tail (λ (j : ChoicePoint). IsGood j.mark old) k ps g) i

pub marks_kept : (old new : Machine) (ps : List ChoicePoint) → KeepsMarks old new → AreMarks old ps → AreMarks new ps
marks_kept old new ps h a =
    record {
      good = All-weaker (λ (k : ChoicePoint). IsGood k.mark old) (λ (k : ChoicePoint). IsGood k.mark new)
          (λ k g. (h k.mark g).good) ps a.good;
      rise = a.rise;
    }

-- the way back to the newest one
pub helds_undone : (old new : Machine) (last : ChoiceMark) (ps : List ChoicePoint) → KeepsMarksTo last old new → All (λ k. IsGood k.mark old) ps
    → All (λ k. IsBefore k.mark last) ps
    → helds new ps ≡ helds old ps
helds_undone old new last [] h g b = refl
helds_undone old new last (k ∷ ps) h g b =
    let q = h k.mark (All-head (λ (j : ChoicePoint). IsBefore j.mark last) k ps b) (All-head (λ (j : ChoicePoint). IsGood j.mark old) k ps g) in
    let make : Parts → Held = λ p. record { parts = p; untried = k.untried.items } in
    λ i. make (q.parts i) ∷ helds_undone old new last ps h (All-tail (λ (j : ChoicePoint). IsGood j.mark old) k ps g)
    (All-tail (λ (j : ChoicePoint). IsBefore j.mark last) k ps b) i

pub marks_undone : (old new : Machine) (last : ChoiceMark) (ps : List ChoicePoint) → KeepsMarksTo last old new → All (λ k. IsGood k.mark old) ps
    → All (λ k. IsBefore k.mark last) ps
    → All (λ k. IsGood k.mark new) ps
marks_undone old new last [] h g b = λ i d l. absurd (omega arith)
marks_undone old new last (k ∷ ps) h g b =
    let q = h k.mark (All-head (λ (j : ChoicePoint). IsBefore j.mark last) k ps b) (All-head (λ (j : ChoicePoint). IsGood j.mark old) k ps g) in
    All-cons (λ (j : ChoicePoint). IsGood j.mark new) k ps q.good
    (marks_undone old new last ps h (All-tail (λ (j : ChoicePoint). IsGood j.mark old) k ps g) (All-tail (λ (j : ChoicePoint). IsBefore j.mark last) k ps b))

pub helds_push : (m : Machine) (ps : List ChoicePoint) (k : ChoicePoint) → helds m (ps ++ k ∷ []) ≡ helds m ps ++ held_of m k ∷ []
helds_push m ps k = map-append (held_of m) ps (k ∷ [])

-- what is known of the newest choice point and those before it
pub record Popped (p : ProblemTree) (m : Machine) (ps qs : List ChoicePoint) (k : ChoicePoint) : Type 0 where
  pub good : IsGood k.mark m
  pub list : helds m ps ≡ helds m qs ++ held_of m k ∷ []
  pub goods : All (λ j. IsGood j.mark m) qs
  pub rises : Rises qs
  pub before : All (λ j. IsBefore j.mark k.mark) qs
  pub kept : IsKept p (held_of m k)
  pub others : AreKept p (helds m qs)

pub popped : (p : ProblemTree) (m : Machine) (ps qs : List ChoicePoint) (k : ChoicePoint) → ps ≡ qs ++ k ∷ [] → AreMarks m ps → AreKept p (helds m ps)
    → Popped p m ps qs k
popped p m ps qs k e a h =
    let both = All-pop (λ (j : ChoicePoint). IsGood j.mark m) ps qs (Some k) e a.good in
    let rest = rises_popped qs k (subst (λ (ks : List ChoicePoint). Rises ks) e a.rise) in
    let list : helds m ps ≡ helds m qs ++ held_of m k ∷ [] = ap (λ ks. helds m ks) e ∙ helds_push m qs k in
    let points = All-pop (IsKept p) (helds m ps) (helds m qs) (Some (held_of m k)) list h in
    record {
      good = both.1;
      list = list;
      goods = both.0;
      rises = rest.0;
      before = rest.1;
      kept = points.1;
      others = points.0;
    }

-- a list without elements
pub none_left : (cs : List Candidate) (n : ℕ) → n ≡ length cs → n ≡ 0 → cs ≡ []
none_left [] n l z = refl
none_left (c ∷ cs) n l z = absurd (omega arith)
