-- How a run goes on through the ends of goals, and where entries are found in contexts that goals have changed.
use Rattle.std.proofs.Common.{◌≡◌, inl, inr, ℕ, refl, ap, sym, subst, ◌∙◌, Bool, true, false, List, [], ◌∷◌, map, nat_eq}
use Rattle.std.specs.Prelude.{◌&&◌, ◌||◌, not, if◌then◌else◌, Option, Some, None}
use Rattle.std.specs.List.{list_any}
use Rattle.std.proofs.lemmas.Bool.{eqb-true, eq-eqb}
use Rattle.ll_list_laws.proofs.CallerLemmas.{or_false_left as or_off_left, or_false_right as or_off_right}
use Rattle.ll_bank.specs.Form.{Form}
use Rattle.ll_laws.specs.Module.{Setting}
use Rattle.ll_laws.specs.Settle.{Entry, Saved, Item, Goal, LolliEnd, ImpEnd, WithMiddle, WithEnd, BangEnd, settle_front, marks, remark, end_with, join, within}
use Rattle.ll_laws.specs.Settle.{both_live, unlive}
use Rattle.ll_laws.specs.State.{State, settle, front_of}
use Rattle.ll_laws.specs.Attempt.{is_linear, picked, entry_at}
use Rattle.ll_laws.specs.Shows.{Tree, WithNode}
use Rattle.ll_laws.specs.Line.{Line}
use Rattle.ll_laws.specs.Run.{Goes, Trace, trace_step}
use Rattle.ll_laws.specs.Dealing.{uses, erases}
use Rattle.ll_laws.proofs.search.AnswerRuns.{Among}
use Rattle.ll_laws.proofs.derivations.Leftovers.{on, used_up, same_trace, settled_goal, front_same, both_used, within_first, within_second, Sound}
use Rattle.ll_laws.proofs.search.LeafTries.{found_at}

-- ---- the ends

-- an inference in front of a run
pub begin : (beside : Setting) (ns : List Line) (s : State) (g : Form) (rest : List (Item Form)) (es : List (Entry Form)) (v : Bool) (n : Line) (u : State)
    → Goes beside (on s (Goal g ∷ rest) es v) rest g n u → Trace beside ns u → Trace beside (n ∷ ns) (on s (Goal g ∷ rest) es v)
begin beside ns s g rest es v n u go run = trace_step (on s (Goal g ∷ rest) es v) u g rest (settled_goal s g rest es v) refl go run

pub mid_back : (beside : Setting) (ns : List Line) (s : State) (sv : Saved) (g : Form) (old : Saved) (rest : List (Item Form)) (es : List (Entry Form))
    (v : Bool)
    → Trace beside ns (on s (Goal g ∷ WithEnd sv (record { live = marks es; flag = v }) ∷ rest) (remark es sv.live) false)
    → Trace beside ns (on s (WithMiddle sv ∷ Goal g ∷ WithEnd sv old ∷ rest) es v)
unfolding settle
mid_back beside ns s sv g old rest es v run = same_trace beside ns _ _ refl run

pub with_back : (beside : Setting) (ns : List Line) (s : State) (sv half r : Saved) (rest : List (Item Form)) (es : List (Entry Form)) (v : Bool)
    → join half (record { live = marks es; flag = v }) ≡ Some r → Trace beside ns (on s rest (remark es r.live) (sv.flag || r.flag))
    → Trace beside ns (on s (WithEnd sv half ∷ rest) es v)
unfolding settle
with_back beside ns s sv half r rest es v e run =
    same_trace beside ns _ _ (sym (ap (λ o. front_of (on s (WithEnd sv half ∷ rest) es v) (end_with (settle_front rest) sv es o)) e
    ∙ front_same s (WithEnd sv half ∷ rest) rest es (remark es r.live) v (sv.flag || r.flag) (settle_front rest (remark es r.live) (sv.flag || r.flag))))
    run

pub bang_back : (beside : Setting) (ns : List Line) (s : State) (sv : Saved) (rest : List (Item Form)) (es : List (Entry Form)) (v : Bool)
    → Trace beside ns (on s rest (remark es sv.live) sv.flag) → Trace beside ns (on s (BangEnd sv ∷ rest) es v)
unfolding settle
bang_back beside ns s sv rest es v run = same_trace beside ns _ _
    (sym (front_same s (BangEnd sv ∷ rest) rest es (remark es sv.live) v sv.flag (settle_front rest (remark es sv.live) sv.flag))) run

pub imp_back : (beside : Setting) (ns : List Line) (s : State) (rest : List (Item Form)) (e : Entry Form) (es : List (Entry Form)) (v : Bool)
    → Trace beside ns (on s rest es v) → Trace beside ns (on s (ImpEnd ∷ rest) (e ∷ es) v)
unfolding settle
imp_back beside ns s rest e es v run = same_trace beside ns _ _ (sym (front_same s (ImpEnd ∷ rest) rest (e ∷ es) es v v (settle_front rest es v))) run

pub lolli_back : (beside : Setting) (ns : List Line) (s : State) (saved : Bool) (rest : List (Item Form)) (e : Entry Form) (es : List (Entry Form)) (v : Bool)
    → e.live && not v ≡ false → Trace beside ns (on s rest es (saved || v)) → Trace beside ns (on s (LolliEnd saved ∷ rest) (e ∷ es) v)
unfolding settle
lolli_back beside ns s saved rest e es v q run =
    same_trace beside ns _ _ (sym (ap back q ∙ front_same s (LolliEnd saved ∷ rest) rest (e ∷ es) es v (saved || v) (settle_front rest es (saved || v)))) run
  where
    back : Bool → Option State
    back b = front_of (on s (LolliEnd saved ∷ rest) (e ∷ es) v) (if b then None else settle_front rest es (saved || v))

-- ---- the end of `&`

-- what the second side leaves over, the first leaves over too
abbrev pub UsesNoMore : Tree → Tree → List (Entry Form) → Type 0
UsesNoMore x y es = (e : Entry Form) → Among e es → e.live ≡ true → uses e.label x ≡ true → uses e.label y ≡ true

within_of : (x y : Tree) (es : List (Entry Form)) → UsesNoMore x y es → within (marks (used_up y es)) (marks (used_up x es)) ≡ true
within_of x y [] h = refl
within_of x y (e ∷ es) h = step e.live (uses e.label x) (uses e.label y) (λ l u. h e (inl refl) l u) (within_of x y es (λ d m. h d (inr m)))
  where
    step : (b u w : Bool) → (b ≡ true → u ≡ true → w ≡ true) → within (marks (used_up y es)) (marks (used_up x es)) ≡ true
        → (not (b && not w) || (b && not u)) && within (marks (used_up y es)) (marks (used_up x es)) ≡ true
    step false u w f r = r
    step true false w f r = ap (λ z. z && within (marks (used_up y es)) (marks (used_up x es))) (one w) ∙ r
      where
        one : (w : Bool) → not (true && not w) || true ≡ true
        one true = refl
        one false = refl
    step true true true f r = r
    step true true false f r = let w : false ≡ true = f refl refl in cc

pub record Joined (x y : Tree) (es : List (Entry Form)) : Type 0 where
  pub saved : Saved
  pub is : join (record { live = marks (used_up x es); flag = erases x }) (record { live = marks (used_up y es); flag = erases y }) ≡ Some saved
  pub live : saved.live ≡ marks (used_up (WithNode x y) es)
  pub flag : saved.flag ≡ erases x && erases y

-- two sides agree where each that erases nothing uses all that the other uses
pub joined : (x y : Tree) (es : List (Entry Form)) → (erases x ≡ false → UsesNoMore y x es) → (erases y ≡ false → UsesNoMore x y es) → Joined x y es
joined x y es f g = step (erases x) refl (erases y) refl
  where
    with_flags : Bool → Bool → Option Saved
    with_flags a b = join (record { live = marks (used_up x es); flag = a }) (record { live = marks (used_up y es); flag = b })

    made : (a b : Bool) (s : Saved) → erases x ≡ a → erases y ≡ b → with_flags a b ≡ Some s → s.live ≡ marks (used_up (WithNode x y) es) → s.flag ≡ a && b
        → Joined x y es
    made a b s p q i l w =
        record {
          saved = s;
          is = ap (λ z. with_flags z (erases y)) p ∙ (ap (with_flags a) q ∙ i);
          live = l;
          flag =
              w ∙ (ap (λ z. z && b) (sym p) ∙ ap (λ z. erases x && z) (sym q));
        }

    step : (a : Bool) → erases x ≡ a → (b : Bool) → erases y ≡ b → Joined x y es
    step true p true q = made true true (record { live = both_live (marks (used_up x es)) (marks (used_up y es)); flag = true }) p q refl (both_used x y es)
        refl
    step true p false q =
        let w = within_of x y es (g q) in
        made true false (record { live = marks (used_up y es); flag = false }) p q
        (ap (λ b. if b then Some (record { live = marks (used_up y es); flag = false }) else None) w) (within_second x y es w) refl
    step false p true q =
        let w = within_of y x es (f p) in
        made false true (record { live = marks (used_up x es); flag = false }) p q
        (ap (λ b. if b then Some (record { live = marks (used_up x es); flag = false }) else None) w) (within_first x y es w) refl
    step false p false q =
        let w = within_of y x es (f p) in
        let z = within_of x y es (g q) in
        made false false (record { live = marks (used_up x es); flag = false }) p q
        (ap (λ b. if b && within (marks (used_up y es)) (marks (used_up x es)) then Some (record { live = marks (used_up x es); flag = false }) else None) w
        ∙ ap (λ b. if b then Some (record { live = marks (used_up x es); flag = false }) else None) z)
        (within_first x y es w) refl

-- ---- entries that are found

pub entry_label : (es : List (Entry Form)) (k : ℕ) (e : Entry Form) → entry_at es k ≡ Some e → e.label ≡ k
entry_label es k e h = (found_at es k e h).same

-- the entries stay where they are
pub entry_map : (f : Entry Form → Entry Form) → ((e : Entry Form) → (f e).label ≡ e.label) → (es : List (Entry Form)) (k : ℕ) (e : Entry Form)
    → entry_at es k ≡ Some e → entry_at (map f es) k ≡ Some (f e)
entry_map f l [] k e h = cc
entry_map f l (d ∷ es) k e h = ap (λ n. if nat_eq n k then Some (f d) else entry_at (map f es) k) (l d) ∙ step (nat_eq d.label k) (entry_map f l es k e) h
  where
    step : (b : Bool) → (entry_at es k ≡ Some e → entry_at (map f es) k ≡ Some (f e)) → (if b then Some d else entry_at es k) ≡ Some e
        → (if b then Some (f d) else entry_at (map f es) k) ≡ Some (f e)
    step true go h = let i : d ≡ e = cc in ap (λ z. Some (f z)) i
    step false go h = go h

-- an entry is not under a label that no entry has
pub not_new : (es : List (Entry Form)) (n k : ℕ) (e : Entry Form) → list_any (λ d. nat_eq n d.label) es ≡ false → entry_at es k ≡ Some e → nat_eq n k ≡ false
not_new [] n k e f h = cc
not_new (d ∷ es) n k e f h = step (nat_eq d.label k) refl (not_new es n k e (or_off_right (nat_eq n d.label) (list_any (λ d. nat_eq n d.label) es) f)) h
  where
    step : (b : Bool) → nat_eq d.label k ≡ b → (entry_at es k ≡ Some e → nat_eq n k ≡ false) → (if b then Some d else entry_at es k) ≡ Some e
        → nat_eq n k ≡ false
    step true q go h = subst (λ z. nat_eq n z ≡ false) (eqb-true d.label k q) (or_off_left (nat_eq n d.label) (list_any (λ d. nat_eq n d.label) es) f)
    step false q go h = go h

-- an entry is found behind a newer one
pub entry_behind : (es : List (Entry Form)) (d : Entry Form) (k : ℕ) (e : Entry Form) → list_any (λ x. nat_eq d.label x.label) es ≡ false
    → entry_at es k ≡ Some e → entry_at (d ∷ es) k ≡ Some e
entry_behind es d k e f h = ap (λ b. if b then Some d else entry_at es k) (not_new es d.label k e f h) ∙ h

-- one that was picked changes no other
pub picked_other : (es : List (Entry Form)) (n k : ℕ) → nat_eq n k ≡ false → entry_at (picked n es) k ≡ entry_at es k
picked_other [] n k h = refl
picked_other (d ∷ es) n k h = step (nat_eq d.label n) refl (picked_other es n k h)
  where
    step : (b : Bool) → nat_eq d.label n ≡ b → entry_at (picked n es) k ≡ entry_at es k
        → entry_at (if b then unlive d ∷ es else d ∷ picked n es) k ≡ entry_at (d ∷ es) k
    step true q go =
        let w : nat_eq d.label k ≡ false = subst (λ z. nat_eq z k ≡ false) (sym (eqb-true d.label n q)) h in
        ap (λ b. if b then Some (unlive d) else entry_at es k) w ∙ sym (ap (λ b. if b then Some d else entry_at es k) w)
    step false q go = ap (λ o. if nat_eq d.label k then Some d else o) go

-- one that is not live is picked without a change
pub picked_dead : (es : List (Entry Form)) (k : ℕ) (e : Entry Form) → entry_at es k ≡ Some e → e.live ≡ false → picked k es ≡ es
picked_dead [] k e h l = cc
picked_dead (d ∷ es) k e h l = step (nat_eq d.label k) (picked_dead es k e) h
  where
    step : (b : Bool) → (entry_at es k ≡ Some e → e.live ≡ false → picked k es ≡ es) → (if b then Some d else entry_at es k) ≡ Some e
        → (if b then unlive d ∷ es else d ∷ picked k es) ≡ d ∷ es
    step true go h = let i : d ≡ e = cc in let w : d.live ≡ false = ap (λ z. z.live) i ∙ l in ap (λ z. record d { live = z } ∷ es) (sym w)
    step false go h = ap (λ xs. d ∷ xs) (go h l)

-- an unbounded entry is not live
pub unbounded_dead : (es : List (Entry Form)) (k : ℕ) (e : Entry Form) → Sound es → entry_at es k ≡ Some e → is_linear e.kind ≡ false → e.live ≡ false
unbounded_dead [] k e sd h l = cc
unbounded_dead (d ∷ es) k e sd h l = step (nat_eq d.label k) (unbounded_dead es k e sd.2) h
  where
    dead : (b c : Bool) → b || not c ≡ true → b ≡ false → c ≡ false
    dead false true p q = cc
    dead false false p q = refl
    dead true c p q = cc

    step : (b : Bool) → (entry_at es k ≡ Some e → is_linear e.kind ≡ false → e.live ≡ false) → (if b then Some d else entry_at es k) ≡ Some e → e.live ≡ false
    step true go h = let i : d ≡ e = cc in ap (λ z. z.live) (sym i) ∙ dead (is_linear d.kind) d.live sd.1 (ap (λ z. is_linear z.kind) i ∙ l)
    step false go h = go h l

-- a live entry is a linear one, and it is found by its label
pub live_linear : (es : List (Entry Form)) (e : Entry Form) → Sound es → Among e es → e.live ≡ true → is_linear e.kind ≡ true
live_linear [] e sd m l = absurd m
live_linear (d ∷ es) e sd (inl q) l = step (is_linear e.kind) e.live (subst (λ z. is_linear z.kind || not z.live ≡ true) q sd.1) l
  where
    step : (b c : Bool) → b || not c ≡ true → c ≡ true → b ≡ true
    step true c p q = refl
    step false true p q = p
    step false false p q = cc
live_linear (d ∷ es) e sd (inr m) l = live_linear es e sd.2 m l

label_among : (es : List (Entry Form)) (e : Entry Form) (n : ℕ) → Among e es → list_any (λ d. nat_eq n d.label) es ≡ false → nat_eq n e.label ≡ false
label_among [] e n m f = absurd m
label_among (d ∷ es) e n (inl q) f = subst (λ z. nat_eq n z.label ≡ false) q (or_off_left (nat_eq n d.label) (list_any (λ d. nat_eq n d.label) es) f)
label_among (d ∷ es) e n (inr m) f = label_among es e n m (or_off_right (nat_eq n d.label) (list_any (λ d. nat_eq n d.label) es) f)

pub found_by_label : (es : List (Entry Form)) (e : Entry Form) → Sound es → Among e es → entry_at es e.label ≡ Some e
found_by_label [] e sd m = absurd m
found_by_label (d ∷ es) e sd (inl q) = ap (λ b. if b then Some d else entry_at es e.label) (eq-eqb d.label e.label (ap (λ z. z.label) q)) ∙ ap Some q
found_by_label (d ∷ es) e sd (inr m) = ap (λ b. if b then Some d else entry_at es e.label) (label_among es e d.label m sd.0) ∙ found_by_label es e sd.2 m

-- the clauses stay
pub picked_clauses : (n : ℕ) (es : List (Entry Form)) → map (λ e. e.clause) (picked n es) ≡ map (λ e. e.clause) es
picked_clauses n [] = refl
picked_clauses n (d ∷ es) = step (nat_eq d.label n) (picked_clauses n es)
  where
    step : (b : Bool) → map (λ e. e.clause) (picked n es) ≡ map (λ e. e.clause) es
        → map (λ e. e.clause) (if b then unlive d ∷ es else d ∷ picked n es) ≡ d.clause ∷ map (λ e. e.clause) es
    step true h = refl
    step false h = ap (λ xs. d.clause ∷ xs) h

pub used_clauses : (x : Tree) (es : List (Entry Form)) → map (λ e. e.clause) (used_up x es) ≡ map (λ e. e.clause) es
used_clauses x [] = refl
used_clauses x (d ∷ es) = ap (λ xs. d.clause ∷ xs) (used_clauses x es)

pub unlive_clauses : (es : List (Entry Form)) → map (λ e. e.clause) (map unlive es) ≡ map (λ e. e.clause) es
unlive_clauses [] = refl
unlive_clauses (d ∷ es) = ap (λ xs. d.clause ∷ xs) (unlive_clauses es)
