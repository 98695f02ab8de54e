-- What a tree uses of the entries of a context, and what the ends of goals make of a run.
use Rattle.std.proofs.Common.{◌≡◌, ◌≤◌, ℕ, refl, ap, sym, subst, ◌∙◌, Bool, true, false, List, [], ◌∷◌, ◌++◌, map, nat_eq, length, arith, length-append}
use Rattle.std.specs.Prelude.{◌&&◌, ◌||◌, not, cond, filter, if◌then◌else◌, Option, Some, None}
use Rattle.std.specs.List.{list_any}
use Rattle.std.proofs.lemmas.Bool.{eqb-true, eq-eqb, eqb-false, ne_eqb, or_right as or_two, or_left as or_one}
use Rattle.std.proofs.lemmas.List.{append-nil, map-append}
use Rattle.std.proofs.lemmas.List.Folds.{list_any-append}
use Rattle.std.proofs.Math.Bool.{and-true, or-false, or-true}
use Rattle.ll_list_laws.proofs.CallerLemmas.{or_false_left as or_off_left, or_false_right as or_off_right, and_true_left as and_one, and_true_right as and_two}
use Rattle.ll_list_laws.proofs.CallerLemmas.{or_elim as or_split, or_assoc, not_eq_sym}
use Rattle.ll_bank.specs.Term.{Term}
use Rattle.ll_bank.specs.Form.{Form, Bang, form_has_eigen}
use Rattle.ll_laws.specs.Leaf.{Premise}
use Rattle.ll_laws.specs.Module.{Setting}
use Rattle.ll_laws.specs.Settle.{Entry, Saved, Item, Goal, LolliEnd, ImpEnd, WithMiddle, WithEnd, BangEnd, Front, settle_front, marks, remark, end_with, join}
use Rattle.ll_laws.specs.Settle.{within, both_live, unlive}
use Rattle.ll_laws.specs.State.{State, settle, front_of}
use Rattle.ll_laws.specs.Attempt.{is_linear, picked, entry_at, is_open}
use Rattle.ll_laws.specs.Derive.{IsNew, AreClosed}
use Rattle.ll_laws.specs.Shows.{Tree, TensorNode, WithNode, BangNode, ClauseNode, Parts, NoParts, BoundedPart, Labelled, has_label, clauses, pick, pick_of}
use Rattle.ll_laws.specs.Shows.{Found, Missing, Took, take_label, behind}
use Rattle.ll_laws.specs.Line.{Line, lines, lines_of_parts, part_lines, part_line}
use Rattle.ll_laws.specs.Run.{Goes, Trace, trace_end, trace_step, MayChoose}
use Rattle.ll_laws.specs.Dealing.{uses, uses_part, erases, erases_part}
use Rattle.ll_laws.specs.Lazy.{Lazy, LazyParts, unused, Agree}
use Rattle.ll_laws.proofs.derivations.Dealing.{has_append}

abbrev pub on : State → List (Item Form) → List (Entry Form) → Bool → State
on s a es v = record s { agenda = a; context = es; flag = v }

-- the entries after the tree has with_leaf what it uses
abbrev pub use_entry : Tree → Entry Form → Entry Form
use_entry x e = record e { live = e.live && not (uses e.label x) }

abbrev pub used_up : Tree → List (Entry Form) → List (Entry Form)
used_up x es = map (use_entry x) es

abbrev pub entry : Entry Form → Labelled
entry e = record { label = e.label; clause = e.clause }

abbrev pub when : Bool → Labelled → List Labelled
when true l = l ∷ []
when false l = []

-- the live clauses, the oldest first, and the unbounded ones, the newest first
abbrev pub live_of : List (Entry Form) → List Labelled
live_of [] = []
live_of (e ∷ es) = live_of es ++ when e.live (entry e)

abbrev pub free_of : List (Entry Form) → List Labelled
free_of [] = []
free_of (e ∷ es) = when (not (is_linear e.kind)) (entry e) ++ free_of es

-- a run depends on the settled state alone
pub same_trace : (beside : Setting) (ns : List Line) (s t : State) → settle s ≡ settle t → Trace beside ns s → Trace beside ns t
same_trace beside _ s t e (trace_end u h a d) = trace_end u (sym e ∙ h) a d
same_trace beside _ s t e (trace_step u w g rest h a go run) = trace_step u w g rest (sym e ∙ h) a go run

pub record Stepped (beside : Setting) (ns : List Line) (s : State) (rest : List (Item Form)) (g : Form) : Type 0 where
  pub node : Line
  pub more : List Line
  pub is : ns ≡ node ∷ more
  pub next : State
  pub goes : Goes beside s rest g node next
  pub trace : Trace beside more next

-- a run with a goal in front begins with its inference
pub first_step : (beside : Setting) (ns : List Line) (s : State) (g : Form) (rest : List (Item Form)) → settle s ≡ Some s → s.agenda ≡ Goal g ∷ rest
    → Trace beside ns s → Stepped beside ns s rest g
first_step beside _ s g rest f a (trace_end t h e d) =
    let q : s ≡ t = cc in let w : Goal g ∷ rest ≡ [] = sym a ∙ (ap (λ x. x.agenda) q ∙ e) in cc
first_step beside _ s g rest f a (trace_step {n = n} {ns = ns} t u g' rest' h e go run) =
    let q : t ≡ s = cc in let w : Goal g' ∷ rest' ≡ Goal g ∷ rest = sym e ∙ (ap (λ x. x.agenda) q ∙ a) in
    let i : g' ≡ g = cc in let j : rest' ≡ rest = cc in
    record {
      node = n;
      more = ns;
      is = refl;
      next = u;
      goes = subst (λ x. Goes beside x rest g n u) q (subst (λ x. Goes beside t x g n u) j (subst (λ x. Goes beside t rest' x n u) i go));
      trace = run;
    }

pub record After (beside : Setting) (ns : List Line) (rest : List (Item Form)) (es : List (Entry Form)) (v : Bool) (g : Form) : Type 0 where
  pub tree : Tree
  pub more : List Line
  pub nodes : ns ≡ lines tree ++ more
  pub next : State
  pub trace : Trace beside more (on next rest (used_up tree es) (v || erases tree))
  pub lazy : Lazy beside tree (free_of es) (live_of es) g

-- a goal in front is settled
pub settled_goal : (s : State) (g : Form) (rest : List (Item Form)) (es : List (Entry Form)) (v : Bool)
    → settle (on s (Goal g ∷ rest) es v) ≡ Some (on s (Goal g ∷ rest) es v)
unfolding settle
settled_goal s g rest es v = refl

-- the labels are distinct, and no unbounded entry is live
abbrev pub Sound : List (Entry Form) → Type 0
Sound [] = Unit {0}
Sound (e ∷ es) = (list_any (λ d. nat_eq e.label d.label) es ≡ false) × (is_linear e.kind || not e.live ≡ true) × Sound es

pub relive : (e : Entry Form) (b c : Bool) → b ≡ c → record e { live = b } ≡ record e { live = c }
relive e b c h = ap (λ z. record e { live = z }) h

pub used_none : (x : Tree) → ((n : ℕ) → uses n x ≡ false) → (es : List (Entry Form)) → used_up x es ≡ es
used_none x h [] = refl
used_none x h (e ∷ es) =
    let b = used_none x h es in let a : use_entry x e ≡ e = relive e (e.live && not (uses e.label x)) e.live
    (ap (λ z. e.live && not z) (h e.label) ∙ and-true e.live) in cc

pub used_then : (x y : Tree) (es : List (Entry Form)) → used_up y (used_up x es) ≡ used_up (TensorNode [] [] x y) es
used_then x y [] = refl
used_then x y (e ∷ es) =
    let b = used_then x y es in
    let a : use_entry y (use_entry x e) ≡ use_entry (TensorNode [] [] x y) e = relive e _ _ (both_not e.live (uses e.label x) (uses e.label y)) in cc
  where
    both_not : (b u w : Bool) → ((b && not u) && not w) ≡ (b && not (u || w))
    both_not true true w = refl
    both_not true false w = refl
    both_not false u w = refl

pub filter_append : {A : Type 0} (p : A → Bool) (xs ys : List A) → filter p (xs ++ ys) ≡ filter p xs ++ filter p ys
filter_append p [] ys = refl
filter_append p (x ∷ xs) ys = step (p x) (filter_append p xs ys)
  where
    step : (b : Bool) → filter p (xs ++ ys) ≡ filter p xs ++ filter p ys
        → cond b (x ∷ filter p (xs ++ ys)) (filter p (xs ++ ys)) ≡ cond b (x ∷ filter p xs) (filter p xs) ++ filter p ys
    step true h = ap (λ zs. x ∷ zs) h
    step false h = h

pub live_used : (x : Tree) (es : List (Entry Form)) → live_of (used_up x es) ≡ unused x (live_of es)
live_used x [] = refl
live_used x (e ∷ es) = joined (live_used x es) (one e.live (uses e.label x) refl)
    ∙ sym (filter_append (λ l. not (uses l.label x)) (live_of es) (when e.live (entry e)))
  where
    joined : {a b c d : List Labelled} → a ≡ b → c ≡ d → a ++ c ≡ b ++ d
    joined h k = cc

    one : (b u : Bool) → uses e.label x ≡ u → when (b && not u) (entry e) ≡ unused x (when b (entry e))
    one true true h = rw h
    one true false h = rw h
    one false u h = refl

pub free_used : (x : Tree) (es : List (Entry Form)) → free_of (used_up x es) ≡ free_of es
free_used x [] = refl
free_used x (e ∷ es) = ap (λ xs. when (not (is_linear e.kind)) (entry e) ++ xs) (free_used x es)

pub remark_used : (x : Tree) (es : List (Entry Form)) → remark (used_up x es) (marks es) ≡ es
remark_used x [] = refl
remark_used x (e ∷ es) = ap (λ xs. e ∷ xs) (remark_used x es)

pub front_same : (s : State) (a b : List (Item Form)) (es fs : List (Entry Form)) (v w : Bool) (o : Option (Front Form Form))
    → front_of (on s a es v) o ≡ front_of (on s b fs w) o
front_same s a b es fs v w None = refl
front_same s a b es fs v w (Some f) = refl

-- the ends, one by one
pub mid_trace : (beside : Setting) (ns : List Line) (s : State) (sv : Saved) (g : Form) (old : Saved) (rest : List (Item Form)) (es : List (Entry Form))
    (v : Bool)
    → Trace beside ns (on s (WithMiddle sv ∷ Goal g ∷ WithEnd sv old ∷ rest) es v)
    → Trace beside ns (on s (Goal g ∷ WithEnd sv (record { live = marks es; flag = v }) ∷ rest) (remark es sv.live) false)
unfolding settle
mid_trace beside ns s sv g old rest es v run = same_trace beside ns _ _ refl run

pub no_trace : (beside : Setting) (ns : List Line) (s : State) → settle s ≡ None → Trace beside ns s → ⊥
no_trace beside _ s e (trace_end t h a d) = let q : None ≡ Some t = sym e ∙ h in cc
no_trace beside _ s e (trace_step t u g rest h a go run) = let q : None ≡ Some t = sym e ∙ h in cc

pub with_none : (beside : Setting) (ns : List Line) (s : State) (sv half : Saved) (rest : List (Item Form)) (es : List (Entry Form)) (v : Bool)
    → join half (record { live = marks es; flag = v }) ≡ None → Trace beside ns (on s (WithEnd sv half ∷ rest) es v) → ⊥
unfolding settle
with_none beside ns s sv half rest es v e run = no_trace beside ns _
    (ap (λ o. front_of (on s (WithEnd sv half ∷ rest) es v) (end_with (settle_front rest) sv es o)) e) run

pub with_some : (beside : Setting) (ns : List Line) (s : State) (sv half r : Saved) (rest : List (Item Form)) (es : List (Entry Form)) (v : Bool)
    → join half (record { live = marks es; flag = v }) ≡ Some r → Trace beside ns (on s (WithEnd sv half ∷ rest) es v)
    → Trace beside ns (on s rest (remark es r.live) (sv.flag || r.flag))
unfolding settle
with_some beside ns s sv half r rest es v e run =
    same_trace beside ns _ _ (ap (λ o. front_of (on s (WithEnd sv half ∷ rest) es v) (end_with (settle_front rest) sv es o)) e
    ∙ front_same s (WithEnd sv half ∷ rest) rest es (remark es r.live) v (sv.flag || r.flag) (settle_front rest (remark es r.live) (sv.flag || r.flag))) run

pub bang_trace : (beside : Setting) (ns : List Line) (s : State) (sv : Saved) (rest : List (Item Form)) (es : List (Entry Form)) (v : Bool)
    → Trace beside ns (on s (BangEnd sv ∷ rest) es v) → Trace beside ns (on s rest (remark es sv.live) sv.flag)
unfolding settle
bang_trace beside ns s sv rest es v run = same_trace beside ns _ _
    (front_same s (BangEnd sv ∷ rest) rest es (remark es sv.live) v sv.flag (settle_front rest (remark es sv.live) sv.flag)) run

pub imp_trace : (beside : Setting) (ns : List Line) (s : State) (rest : List (Item Form)) (e : Entry Form) (es : List (Entry Form)) (v : Bool)
    → Trace beside ns (on s (ImpEnd ∷ rest) (e ∷ es) v) → Trace beside ns (on s rest es v)
unfolding settle
imp_trace beside ns s rest e es v run = same_trace beside ns _ _ (front_same s (ImpEnd ∷ rest) rest (e ∷ es) es v v (settle_front rest es v)) run

pub record LolliEnded (beside : Setting) (ns : List Line) (s : State) (saved : Bool) (rest : List (Item Form)) (e : Entry Form) (es : List (Entry Form))
    (v : Bool) : Type 0 where
  pub spent : e.live && not v ≡ false
  pub trace : Trace beside ns (on s rest es (saved || v))

pub lolli_trace : (beside : Setting) (ns : List Line) (s : State) (saved : Bool) (rest : List (Item Form)) (e : Entry Form) (es : List (Entry Form)) (v : Bool)
    → Trace beside ns (on s (LolliEnd saved ∷ rest) (e ∷ es) v) → LolliEnded beside ns s saved rest e es v
unfolding settle
lolli_trace beside ns s saved rest e es v run = step (e.live && not v) refl
  where
    back : Bool → Option State
    back b = front_of (on s (LolliEnd saved ∷ rest) (e ∷ es) v) (if b then None else settle_front rest es (saved || v))

    step : (b : Bool) → e.live && not v ≡ b → LolliEnded beside ns s saved rest e es v
    step true q = absurd (no_trace beside ns _ (ap back q) run)
    step false q = record {
      spent = q;
      trace = same_trace beside ns _ _ (ap back q ∙ front_same s (LolliEnd saved ∷ rest) rest (e ∷ es) es v (saved || v) (settle_front rest es (saved || v)))
          run;
    }

pub shorter : (k : ℕ) (ns : List Line) (x : Tree) (more : List Line) → ns ≡ lines x ++ more → length ns ≤ k → length more ≤ k
shorter k ns x more e le = let q = ap length e in let r = length-append (lines x) more in omega arith

-- ---- the end of `&`
module _ (x y : Tree) where
  pub both_used : (es : List (Entry Form)) → both_live (marks (used_up x es)) (marks (used_up y es)) ≡ marks (used_up (WithNode x y) es)
  both_used [] = refl
  both_used (e ∷ es) = let a = one e.live (uses e.label x) (uses e.label y) in let b = both_used es in cc
    where
      one : (b u w : Bool) → ((b && not u) && (b && not w)) ≡ (b && not (u || w))
      one true true w = refl
      one true false w = refl
      one false u w = refl

  pub within_first : (es : List (Entry Form)) → within (marks (used_up x es)) (marks (used_up y es)) ≡ true
      → marks (used_up x es) ≡ marks (used_up (WithNode x y) es)
  within_first [] h = refl
  within_first (e ∷ es) h =
      let a = one e.live (uses e.label x) (uses e.label y) (and_one _ (within (marks (used_up x es)) (marks (used_up y es))) h) in
      let b = within_first es (and_two (not (e.live && not (uses e.label x)) || (e.live && not (uses e.label y))) _ h) in cc
    where
      one : (b u w : Bool) → (not (b && not u) || (b && not w)) ≡ true → (b && not u) ≡ (b && not (u || w))
      one true true w h = refl
      one true false true h = sym h
      one true false false h = refl
      one false u w h = refl

  pub within_second : (es : List (Entry Form)) → within (marks (used_up y es)) (marks (used_up x es)) ≡ true
      → marks (used_up y es) ≡ marks (used_up (WithNode x y) es)
  within_second [] h = refl
  within_second (e ∷ es) h =
      let a = one e.live (uses e.label x) (uses e.label y) (and_one _ (within (marks (used_up y es)) (marks (used_up x es))) h) in
      let b = within_second es (and_two (not (e.live && not (uses e.label y)) || (e.live && not (uses e.label x))) _ h) in cc
    where
      one : (b u w : Bool) → (not (b && not w) || (b && not u)) ≡ true → (b && not w) ≡ (b && not (u || w))
      one true true true h = refl
      one true true false h = sym h
      one true false w h = refl
      one false u w h = refl

-- what the second leaves less of, the first uses too
pub within_uses : (x y : Tree) (es : List (Entry Form)) → within (marks (used_up x es)) (marks (used_up y es)) ≡ true → (n : ℕ)
    → has_label (live_of es) n ≡ true → uses n y ≡ true → uses n x ≡ true
within_uses x y [] h n m u = cc
within_uses x y (e ∷ es) h n m u =
    or_split (has_label (live_of es) n) (has_label (when e.live (entry e)) n) (sym (has_append (live_of es) (when e.live (entry e)) n) ∙ m)
    (λ k. within_uses x y es (and_two (not (e.live && not (uses e.label x)) || (e.live && not (uses e.label y))) _ h) n k u)
    (λ k. one e.live refl (uses e.label x) refl (uses e.label y) refl k (and_one _ (within (marks (used_up x es)) (marks (used_up y es))) h))
  where
    one : (b : Bool) → e.live ≡ b → (v : Bool) → uses e.label x ≡ v → (w : Bool) → uses e.label y ≡ w → has_label (when b (entry e)) n ≡ true
        → (not (b && not v) || (b && not w)) ≡ true → uses n x ≡ true
    one true l true p w q k j = ap (λ z. uses z x) (eqb-true n e.label (sym (or-false (nat_eq n e.label)) ∙ k)) ∙ p
    one true l false p true q k j = cc
    one true l false p false q k j = let z : uses e.label y ≡ true =
        subst (λ z. uses z y ≡ true) (eqb-true n e.label (sym (or-false (nat_eq n e.label)) ∙ k)) u in cc
    one false l v p w q k j = cc

pub record WithJoined (x y : Tree) (es : List (Entry Form)) (o : Option Saved) : Type 0 where
  pub saved : Saved
  pub is : o ≡ Some saved
  pub live : saved.live ≡ marks (used_up (WithNode x y) es)
  pub flag : saved.flag ≡ (erases x && erases y)
  pub agree : Agree x y (live_of es)

pub with_joined : (x y : Tree) (es : List (Entry Form)) (p q : Bool) → erases x ≡ p → erases y ≡ q
    → (join (record { live = marks (used_up x es); flag = p }) (record { live = marks (used_up y es); flag = q }) ≡ None → ⊥)
    → WithJoined x y es (join (record { live = marks (used_up x es); flag = p }) (record { live = marks (used_up y es); flag = q }))
with_joined x y es true true e f ok = record {
  saved = record { live = both_live (marks (used_up x es)) (marks (used_up y es)); flag = true };
  is = refl;
  live = both_used x y es;
  flag = rw e (sym f);
  agree = λ n h. (λ u. or_two (uses n y) (erases y) f, λ u. or_two (uses n x) (erases x) e);
}
with_joined x y es true false e f ok = step (within (marks (used_up y es)) (marks (used_up x es))) refl ok
  where
    out : Bool → Option Saved
    out b = if b then Some (record { live = marks (used_up y es); flag = false }) else None

    step : (b : Bool) → within (marks (used_up y es)) (marks (used_up x es)) ≡ b → (out b ≡ None → ⊥) → WithJoined x y es (out b)
    step true h ok = record {
      saved = record { live = marks (used_up y es); flag = false };
      is = refl;
      live = within_second x y es h;
      flag = rw e (sym f);
      agree = λ n m. (λ u. or_one (uses n y) (erases y) (within_uses y x es h n m u), λ u. or_two (uses n x) (erases x) e);
    }
    step false h ok = absurd (ok refl)
with_joined x y es false true e f ok = step (within (marks (used_up x es)) (marks (used_up y es))) refl ok
  where
    out : Bool → Option Saved
    out b = if b then Some (record { live = marks (used_up x es); flag = false }) else None

    step : (b : Bool) → within (marks (used_up x es)) (marks (used_up y es)) ≡ b → (out b ≡ None → ⊥) → WithJoined x y es (out b)
    step true h ok = record {
      saved = record { live = marks (used_up x es); flag = false };
      is = refl;
      live = within_first x y es h;
      flag = rw e refl;
      agree = λ n m. (λ u. or_two (uses n y) (erases y) f, λ u. or_one (uses n x) (erases x) (within_uses x y es h n m u));
    }
    step false h ok = absurd (ok refl)
with_joined x y es false false e f ok = step (within (marks (used_up x es)) (marks (used_up y es))) refl (within (marks (used_up y es)) (marks (used_up x es)))
    refl ok
  where
    out : Bool → Option Saved
    out b = if b then Some (record { live = marks (used_up x es); flag = false }) else None

    step : (b : Bool) → within (marks (used_up x es)) (marks (used_up y es)) ≡ b → (c : Bool) → within (marks (used_up y es)) (marks (used_up x es)) ≡ c
        → (out (b && c) ≡ None → ⊥) → WithJoined x y es (out (b && c))
    step true h true j ok = record {
      saved = record { live = marks (used_up x es); flag = false };
      is = refl;
      live = within_first x y es h;
      flag = rw e refl;
      agree = λ n m. (λ u. or_one (uses n y) (erases y) (within_uses y x es j n m u), λ u. or_one (uses n x) (erases x) (within_uses x y es h n m u));
    }
    step true h false j ok = absurd (ok refl)
    step false h c j ok = absurd (ok refl)

pub remark_to : (y z : Tree) (es : List (Entry Form)) → remark (used_up y es) (marks (used_up z es)) ≡ used_up z es
remark_to y z [] = refl
remark_to y z (e ∷ es) = ap (λ xs. use_entry z e ∷ xs) (remark_to y z es)

pub remark_unlive : (x : Tree) (es : List (Entry Form)) → remark (used_up x (map unlive es)) (marks es) ≡ es
remark_unlive x [] = refl
remark_unlive x (e ∷ es) = ap (λ xs. e ∷ xs) (remark_unlive x es)

pub live_unlive : (es : List (Entry Form)) → live_of (map unlive es) ≡ []
live_unlive [] = refl
live_unlive (e ∷ es) = rw (live_unlive es)

pub free_unlive : (es : List (Entry Form)) → free_of (map unlive es) ≡ free_of es
free_unlive [] = refl
free_unlive (e ∷ es) = ap (λ xs. when (not (is_linear e.kind)) (entry e) ++ xs) (free_unlive es)

pub when_new : (n : ℕ) (b : Bool) (l : Labelled) → nat_eq n l.label ≡ false → has_label (when b l) n ≡ false
when_new n true l h = rw h
when_new n false l h = refl

pub live_fresh : (n : ℕ) (es : List (Entry Form)) → list_any (λ e. nat_eq n e.label) es ≡ false → has_label (live_of es) n ≡ false
live_fresh n [] h = refl
live_fresh n (e ∷ es) h =
    has_append (live_of es) (when e.live (entry e)) n
    ∙ (ap (λ b. b || has_label (when e.live (entry e)) n) (live_fresh n es (or_off_right (nat_eq n e.label) _ h))
    ∙ when_new n e.live (entry e) (or_off_left (nat_eq n e.label) (list_any (λ e. nat_eq n e.label) es) h))

pub free_fresh : (n : ℕ) (es : List (Entry Form)) → list_any (λ e. nat_eq n e.label) es ≡ false → has_label (free_of es) n ≡ false
free_fresh n [] h = refl
free_fresh n (e ∷ es) h =
    has_append (when (not (is_linear e.kind)) (entry e)) (free_of es) n
    ∙ (ap (λ b. b || has_label (free_of es) n) (when_new n (not (is_linear e.kind)) (entry e)
    (or_off_left (nat_eq n e.label) (list_any (λ e. nat_eq n e.label) es) h)) ∙ free_fresh n es (or_off_right (nat_eq n e.label) _ h))

pub spent_or : (u e : Bool) → ((true && not u) && not e) ≡ false → (u || e) ≡ true
spent_or true e h = refl
spent_or false true h = refl
spent_or false false h = cc

pub sound_same : (f : Entry Form → Entry Form) → ((e : Entry Form) → (f e).label ≡ e.label) → (n : ℕ) (es : List (Entry Form))
    → list_any (λ d. nat_eq n d.label) es ≡ false → list_any (λ d. nat_eq n d.label) (map f es) ≡ false
sound_same f h n [] k = refl
sound_same f h n (e ∷ es) k =
    rw (h e) (rw (or_off_left (nat_eq n e.label) (list_any (λ d. nat_eq n d.label) es) k) (sound_same f h n es (or_off_right (nat_eq n e.label) _ k)))

pub dead_used : (l b u : Bool) → (l || not b) ≡ true → (l || not (b && u)) ≡ true
dead_used true b u h = refl
dead_used false true u h = cc
dead_used false false u h = refl

pub sound_used : (x : Tree) (es : List (Entry Form)) → Sound es → Sound (used_up x es)
sound_used x [] h = tt
sound_used x (e ∷ es) h = (
  sound_same (use_entry x) (λ e. refl) e.label es h.0,
  dead_used (is_linear e.kind) e.live (not (uses e.label x)) h.1,
  sound_used x es h.2,
)

pub sound_unlive : (es : List (Entry Form)) → Sound es → Sound (map unlive es)
sound_unlive [] h = tt
sound_unlive (e ∷ es) h = (sound_same unlive (λ e. refl) e.label es h.0, or-true (is_linear e.kind), sound_unlive es h.2)

pub any_picked : (n m : ℕ) (es : List (Entry Form)) → list_any (λ d. nat_eq n d.label) (picked m es) ≡ list_any (λ d. nat_eq n d.label) es
any_picked n m [] = refl
any_picked n m (e ∷ es) = step (nat_eq e.label m) (any_picked n m es)
  where
    step : (b : Bool) → list_any (λ d. nat_eq n d.label) (picked m es) ≡ list_any (λ d. nat_eq n d.label) es
        → list_any (λ d. nat_eq n d.label) (if b then unlive e ∷ es else e ∷ picked m es) ≡ (nat_eq n e.label || list_any (λ d. nat_eq n d.label) es)
    step true h = refl
    step false h = ap (λ z. nat_eq n e.label || z) h

pub sound_picked : (m : ℕ) (es : List (Entry Form)) → Sound es → Sound (picked m es)
sound_picked m [] h = tt
sound_picked m (e ∷ es) h = step (nat_eq e.label m) (sound_picked m es h.2)
  where
    step : (b : Bool) → Sound (picked m es) → Sound (if b then unlive e ∷ es else e ∷ picked m es)
    step true r = (h.0, or-true (is_linear e.kind), h.2)
    step false r = (any_picked e.label m es ∙ h.0, h.1, r)

pub free_picked : (m : ℕ) (es : List (Entry Form)) → free_of (picked m es) ≡ free_of es
free_picked m [] = refl
free_picked m (e ∷ es) = step (nat_eq e.label m) (free_picked m es)
  where
    step : (b : Bool) → free_of (picked m es) ≡ free_of es → free_of (if b then unlive e ∷ es else e ∷ picked m es) ≡ when (not (is_linear e.kind)) (entry e)
        ++ free_of es
    step true h = refl
    step false h = ap (λ z. when (not (is_linear e.kind)) (entry e) ++ z) h

pub any_when : (t : Form → Bool) (b : Bool) (l : Labelled) → t l.clause ≡ false → list_any t (clauses (when b l)) ≡ false
any_when t true l h = rw h
any_when t false l h = refl

pub clauses_append : (xs ys : List Labelled) → clauses (xs ++ ys) ≡ clauses xs ++ clauses ys
clauses_append xs ys = map-append (λ l. l.clause) xs ys

pub free_any : (t : Form → Bool) (es : List (Entry Form)) → list_any t (map (λ e. e.clause) es) ≡ false → list_any t (clauses (free_of es)) ≡ false
free_any t [] h = refl
free_any t (e ∷ es) h =
    ap (list_any t) (clauses_append (when (not (is_linear e.kind)) (entry e)) (free_of es))
    ∙ (list_any-append t (clauses (when (not (is_linear e.kind)) (entry e))) (clauses (free_of es))
    ∙ (ap (λ b. b || list_any t (clauses (free_of es))) (any_when t (not (is_linear e.kind)) (entry e)
    (or_off_left (t e.clause) (list_any t (map (λ e. e.clause) es)) h))
    ∙ free_any t es (or_off_right (t e.clause) _ h)))

pub live_any : (t : Form → Bool) (es : List (Entry Form)) → list_any t (map (λ e. e.clause) es) ≡ false → list_any t (clauses (live_of es)) ≡ false
live_any t [] h = refl
live_any t (e ∷ es) h =
    ap (list_any t) (clauses_append (live_of es) (when e.live (entry e)))
    ∙ (list_any-append t (clauses (live_of es)) (clauses (when e.live (entry e)))
    ∙ (ap (λ b. b || list_any t (clauses (when e.live (entry e)))) (live_any t es (or_off_right (t e.clause) _ h))
    ∙ any_when t e.live (entry e) (or_off_left (t e.clause) (list_any t (map (λ e. e.clause) es)) h)))

pub list_any_split : (k : ℕ) (f : Form) (es : List (Entry Form)) → IsNew k (f ∷ map (λ e. e.clause) es)
    → IsNew k (f ∷ (clauses (free_of es) ++ clauses (live_of es)))
list_any_split k f es h =
    rw (or_off_left (form_has_eigen k f) (list_any (form_has_eigen k) (map (λ e. e.clause) es)) h)
    (list_any-append (form_has_eigen k) (clauses (free_of es)) (clauses (live_of es))
    ∙ (ap (λ b. b || list_any (form_has_eigen k) (clauses (live_of es))) (free_any (form_has_eigen k) es (or_off_right (form_has_eigen k f) _ h))
    ∙ live_any (form_has_eigen k) es (or_off_right (form_has_eigen k f) (list_any (form_has_eigen k) (map (λ e. e.clause) es)) h)))

pub new_parts : (k : ℕ) (f : Form) (es : List (Entry Form)) → IsNew k (f ∷ map (λ e. e.clause) es)
    → IsNew k (f ∷ (clauses (free_of es) ++ clauses (live_of es)))
new_parts k f es h = list_any_split k f es h

pub closed_terms : (us : List Term) (n : ℕ) → MayChoose n us → AreClosed us
closed_terms [] n h = tt
closed_terms (u ∷ us) n h = (h.0, closed_terms us n h.2)

pub take_missing : (n : ℕ) (xs : List Labelled) → has_label xs n ≡ false → take_label n xs ≡ Missing
take_missing n [] h = refl
take_missing n (l ∷ ls) h = rw (or_off_left (nat_eq n l.label) (has_label ls n) h)
    (ap (behind l) (take_missing n ls (or_off_right (nat_eq n l.label) (has_label ls n) h)))

pub take_after : (n : ℕ) (l : Labelled) (xs : List Labelled) → has_label xs n ≡ false → nat_eq n l.label ≡ true → take_label n (xs ++ l ∷ []) ≡ Took l.clause xs
take_after n l [] h k = rw k
take_after n l (m ∷ xs) h k = rw (or_off_left (nat_eq n m.label) (has_label xs n) h)
    (ap (behind m) (take_after n l xs (or_off_right (nat_eq n m.label) (has_label xs n) h) k))

pub take_before : (n : ℕ) (xs ys : List Labelled) (r : Form) (e : List Labelled) → take_label n xs ≡ Took r e → take_label n (xs ++ ys) ≡ Took r (e ++ ys)
take_before n [] ys r e h = cc
take_before n (l ∷ ls) ys r e h = step (nat_eq n l.label) (take_label n ls) refl (take_before n ls ys) h
  where
    step : (b : Bool) (o : Found) → take_label n ls ≡ o → ((r : Form) (e : List Labelled) → take_label n ls ≡ Took r e
        → take_label n (ls ++ ys) ≡ Took r (e ++ ys))
        → (if b then Took l.clause ls else behind l o) ≡ Took r e
        → (if b then Took l.clause (ls ++ ys) else behind l (take_label n (ls ++ ys))) ≡ Took r (e ++ ys)
    step true o q ih h = let i : l.clause ≡ r = cc in let j : ls ≡ e = cc in cc
    step false Missing q ih h = cc
    step false (Took s t) q ih h = let i : s ≡ r = cc in let j : l ∷ t ≡ e = cc in
        ap (behind l) (ih s t q) ∙ (ap (λ x. Took x (l ∷ (t ++ ys))) i ∙ ap (λ x. Took r (x ++ ys)) j)

pub eq_sym : (m n : ℕ) → nat_eq m n ≡ true → nat_eq n m ≡ true
eq_sym m n h = eq-eqb n m (sym (eqb-true m n h))

pub any_other : (n m : ℕ) (es : List (Entry Form)) → nat_eq m n ≡ true → list_any (λ d. nat_eq m d.label) es ≡ false
    → list_any (λ d. nat_eq n d.label) es ≡ false
any_other n m es h k = subst (λ z. list_any (λ d. nat_eq z d.label) es ≡ false) (eqb-true m n h) k

-- a linear entry that is live
pub take_live : (n : ℕ) (es : List (Entry Form)) (e : Entry Form) → Sound es → entry_at es n ≡ Some e → e.live ≡ true
    → take_label n (live_of es) ≡ Took e.clause (live_of (picked n es))
take_live n [] e sd q l = cc
take_live n (d ∷ es) e sd q l = step (nat_eq d.label n) refl (take_live n es e sd.2) q
  where
    step : (b : Bool) → nat_eq d.label n ≡ b → (entry_at es n ≡ Some e → e.live ≡ true → take_label n (live_of es) ≡ Took e.clause (live_of (picked n es)))
        → (if b then Some d else entry_at es n) ≡ Some e → take_label n (live_of es ++ when d.live (entry d))
        ≡ Took e.clause (live_of (if b then unlive d ∷ es else d ∷ picked n es))
    step true k ih q =
        let i : d ≡ e = cc in let lv : d.live ≡ true = ap (λ x. x.live) i ∙ l in
        ap (λ b. take_label n (live_of es ++ when b (entry d))) lv
        ∙ (take_after n (entry d) (live_of es) (live_fresh n es (any_other n d.label es k sd.0)) (eq_sym d.label n k)
        ∙ (ap (λ x. Took x (live_of es)) (ap (λ x. x.clause) i) ∙ ap (Took e.clause) (sym (append-nil (live_of es)))))
    step false k ih q = take_before n (live_of es) (when d.live (entry d)) e.clause (live_of (picked n es)) (ih q l)

-- an unbounded one
pub record TakesFree (n : ℕ) (es : List (Entry Form)) (e : Entry Form) : Type 0 where
  pub others : List Labelled
  pub takes : take_label n (free_of es) ≡ Took e.clause others
  pub same : live_of (picked n es) ≡ live_of es

pub take_free : (n : ℕ) (es : List (Entry Form)) (e : Entry Form) → Sound es → entry_at es n ≡ Some e → is_linear e.kind ≡ false → TakesFree n es e
take_free n [] e sd q l = cc
take_free n (d ∷ es) e sd q l = step (nat_eq d.label n) refl (take_free n es e sd.2) q
  where
    inside : (b : Bool) (f : TakesFree n es e) → nat_eq d.label n ≡ false
        → record { others : List Labelled; takes : take_label n (when b (entry d) ++ free_of es) ≡ Took e.clause others }
    inside true f k = record { others = entry d ∷ f.others; takes = rw (not_eq_sym d.label n k) (ap (behind (entry d)) f.takes) }
    inside false f k = record { others = f.others; takes = f.takes }

    step : (b : Bool) → nat_eq d.label n ≡ b → (entry_at es n ≡ Some e → is_linear e.kind ≡ false → TakesFree n es e)
        → (if b then Some d else entry_at es n) ≡ Some e → TakesFree n (d ∷ es) e
    step true k ih q =
        let i : d ≡ e = cc in let lin : is_linear d.kind ≡ false = ap (λ x. is_linear x.kind) i ∙ l in
        record {
          others = free_of es;
          takes = rw lin (rw (eq_sym d.label n k) (ap (λ x. Took x (free_of es)) (ap (λ x. x.clause) i)));
          same = rw k (ap (λ b. live_of es ++ when b (entry d)) (dead (is_linear d.kind) d.live lin sd.1));
        }
      where
        dead : (l b : Bool) → l ≡ false → (l || not b) ≡ true → false ≡ b
        dead true b h k = cc
        dead false true h k = cc
        dead false false h k = refl
    step false k ih q =
        let f = ih q l in let g = inside (not (is_linear d.kind)) f k in
        record { others = g.others; takes = g.takes; same = rw k (ap (λ xs. xs ++ when d.live (entry d)) f.same) }

pub linear_missing : (n : ℕ) (es : List (Entry Form)) (e : Entry Form) → Sound es → entry_at es n ≡ Some e → is_linear e.kind ≡ true
    → has_label (free_of es) n ≡ false
linear_missing n [] e sd q l = refl
linear_missing n (d ∷ es) e sd q l = step (nat_eq d.label n) refl (linear_missing n es e sd.2) q
  where
    step : (b : Bool) → nat_eq d.label n ≡ b → (entry_at es n ≡ Some e → is_linear e.kind ≡ true → has_label (free_of es) n ≡ false)
        → (if b then Some d else entry_at es n) ≡ Some e
        → has_label (when (not (is_linear d.kind)) (entry d) ++ free_of es) n ≡ false
    step true k ih q = let i : d ≡ e = cc in rw (ap (λ x. is_linear x.kind) i ∙ l) (free_fresh n es (any_other n d.label es k sd.0))
    step false k ih q =
        has_append (when (not (is_linear d.kind)) (entry d)) (free_of es) n
        ∙ (ap (λ b. b || has_label (free_of es) n) (when_new n (not (is_linear d.kind)) (entry d) (ne_eqb n d.label (λ q. eqb-false d.label n k (sym q))))
        ∙ ih q l)

-- the entry with the label is picked from what is free or live
pub take_entry : (n : ℕ) (es : List (Entry Form)) (e : Entry Form) → Sound es → entry_at es n ≡ Some e → is_open e ≡ true
    → pick n (free_of es) (live_of es) ≡ Took e.clause (live_of (picked n es))
take_entry n es e sd q o = step (is_linear e.kind) refl o
  where
    step : (b : Bool) → is_linear e.kind ≡ b → (not b || e.live) ≡ true → pick n (free_of es) (live_of es) ≡ Took e.clause (live_of (picked n es))
    step true l o = ap (λ x. pick_of (live_of es) x (take_label n (live_of es))) (take_missing n (free_of es) (linear_missing n es e sd q l))
        ∙ take_live n es e sd q o
    step false l o = let f = take_free n es e sd q l in ap (λ x. pick_of (live_of es) x (take_label n (live_of es))) f.takes ∙ ap (Took e.clause) (sym f.same)

abbrev pub use_parts : Parts → Entry Form → Entry Form
use_parts ps e = record e { live = e.live && not (uses_part e.label ps) }

abbrev pub used_parts : Parts → List (Entry Form) → List (Entry Form)
used_parts ps es = map (use_parts ps) es

pub used_fresh : (n j : ℕ) (us : List Term) (ps : Parts) (es : List (Entry Form)) → list_any (λ d. nat_eq n d.label) es ≡ false
    → used_parts ps es ≡ used_up (ClauseNode n j us ps) es
used_fresh n j us ps [] h = refl
used_fresh n j us ps (e ∷ es) h =
    let k : nat_eq e.label n ≡ false = ne_eqb e.label n (λ q.
    eqb-false n e.label (or_off_left (nat_eq n e.label) (list_any (λ d. nat_eq n d.label) es) h) (sym q)) in
    let a : use_parts ps e ≡ use_entry (ClauseNode n j us ps) e = relive e _ _ (ap (λ b. e.live && not (b || uses_part e.label ps)) (sym k)) in
    let b = used_fresh n j us ps es (or_off_right (nat_eq n e.label) _ h) in cc

-- what a clause step and its premises use
pub used_clause : (n j : ℕ) (us : List Term) (ps : Parts) (es : List (Entry Form)) → Sound es → used_parts ps (picked n es) ≡ used_up (ClauseNode n j us ps) es
used_clause n j us ps [] sd = refl
used_clause n j us ps (e ∷ es) sd = step (nat_eq e.label n) refl (used_clause n j us ps es sd.2)
  where
    off : (b u : Bool) → false ≡ (b && not (true || u))
    off true u = refl
    off false u = refl

    step : (b : Bool) → nat_eq e.label n ≡ b → used_parts ps (picked n es) ≡ used_up (ClauseNode n j us ps) es
        → used_parts ps (if b then unlive e ∷ es else e ∷ picked n es) ≡ use_entry (ClauseNode n j us ps) e ∷ used_up (ClauseNode n j us ps) es
    step true k h =
        let a : use_parts ps (unlive e) ≡ use_entry (ClauseNode n j us ps) e =
        relive e false _ (off e.live (uses_part e.label ps) ∙ ap (λ b. e.live && not (b || uses_part e.label ps)) (sym k)) in
        let c = used_fresh n j us ps es (any_other n e.label es k sd.0) in cc
    step false k h =
        let a : use_parts ps e ≡ use_entry (ClauseNode n j us ps) e = relive e _ _ (ap (λ b. e.live && not (b || uses_part e.label ps)) (sym k)) in cc

pub record AfterParts (beside : Setting) (ns : List Line) (rest : List (Item Form)) (es : List (Entry Form)) (v : Bool) (ps : List Premise) : Type 0 where
  pub parts : Parts
  pub more : List Line
  pub nodes : ns ≡ lines_of_parts parts ++ more
  pub kinds : part_lines parts ≡ map part_line ps
  pub next : State
  pub trace : Trace beside more (on next rest (used_parts parts es) (v || erases_part parts))
  pub lazy : LazyParts beside parts (free_of es) (live_of es) ps

-- a tree of `{g}` uses nothing and erases nothing
pub record BangTree (beside : Setting) (x : Tree) (c : List Labelled) (g : Form) : Type 0 where
  pub lazy : Lazy beside x c [] (Bang g)
  pub idle : (n : ℕ) → uses n x ≡ false
  pub stays : erases x ≡ false

pub bang_tree : (beside : Setting) (x : Tree) (c i : List Labelled) (g : Form) → Lazy beside x c i (Bang g) → BangTree beside x c g
bang_tree beside (BangNode x) c i g z = record { lazy = z; idle = λ n. refl; stays = refl }
bang_tree beside _ c i g z = absurd z

pub used_parts_none : (es : List (Entry Form)) → used_parts NoParts es ≡ es
used_parts_none [] = refl
used_parts_none (e ∷ es) = let b = used_parts_none es in let a : use_parts NoParts e ≡ e = relive e (e.live && true) e.live (and-true e.live) in cc

pub used_parts_then : (x : Tree) (ps : Parts) (es : List (Entry Form)) → used_parts ps (used_up x es) ≡ used_parts (BoundedPart [] x ps) es
used_parts_then x ps [] = refl
used_parts_then x ps (e ∷ es) =
    let b = used_parts_then x ps es in
    let a : use_parts ps (use_entry x e) ≡ use_parts (BoundedPart [] x ps) e = relive e _ _ (both_not e.live (uses e.label x) (uses_part e.label ps)) in cc
  where
    both_not : (b u w : Bool) → ((b && not u) && not w) ≡ (b && not (u || w))
    both_not true true w = refl
    both_not true false w = refl
    both_not false u w = refl
