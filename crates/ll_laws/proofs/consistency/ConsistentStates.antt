-- The state in which a search starts is consistent, and settling keeps a state so.
use Rattle.std.proofs.Common.{◌≡◌, ◌≤◌, ◌<◌, ℕ, zero, suc, ◌+◌, refl, ap, sym, subst, ◌∙◌, Bool, true, false, List, [], ◌∷◌, length, replicate, nat_eq, arith}
use Rattle.std.proofs.lemmas.List.{length-replicate}
use Rattle.std.proofs.lemmas.Bool.{lt-ltb, le-leb, ne_eqb, and_from as and_intro}
use Rattle.std.specs.Prelude.{◌&&◌, ◌||◌, not, if◌then◌else◌, nat_lt, nat_le, Option, Some, None}
use Rattle.std.specs.List.{list_all, list_any}
use Rattle.ll_list_laws.proofs.CallerLemmas.{and_true_left as and_left, and_true_right as and_right}
use Rattle.ll_bank.specs.Form.{Form}
use Rattle.ll_laws.specs.declared.Kind.{Kind}
use Rattle.ll_laws.specs.declared.Kind.TheVariants.{Linear, Unbounded}
use Rattle.ll_laws.specs.Module.{ClauseTree, ModuleTree, Setting}
use Rattle.ll_laws.specs.Problem.{setting_of, start_of}
use Rattle.ll_laws.specs.Settle.{Entry, Saved, Item, Goal, LolliEnd, ImpEnd, WithMiddle, WithEnd, BangEnd, Front, settle_front, marks, remark, within}
use Rattle.ll_laws.specs.Settle.{both_live, kept_if, join_by, join, end_with, at_middle}
use Rattle.ll_laws.specs.State.{State, settle, front_of, with_front}
use Rattle.ll_laws.specs.Attempt.{is_linear, vars_from}
use Rattle.ll_laws.specs.Search.{program_entries}
use Rattle.ll_laws.specs.Valid.{GoalSide, ClauseSide, Allowed, given, AreClauses}
use Rattle.ll_laws.specs.Consistent.{may_live, marks_fit, is_of_kind, ends_fit, allowed_in, AreGoals, AreResources, is_made, labels_differ, IsConsistent}
use Rattle.ll_laws.specs.Laws.{StartsConsistent, SettlesConsistent}
use Rattle.ll_laws.proofs.consistency.ConsistentTerms.{Grows}
use Rattle.ll_laws.proofs.consistency.ConsistentContexts.{alike-remark, alike-ends, alike-below, alike-differ, all_may, marks-fit, may-remark, marks-both}
use Rattle.ll_laws.proofs.consistency.ConsistentContexts.{resources-remark, formula-more}

-- ---- the start

resources-start : (names n : ℕ) (ms : List ModuleTree) (may : Allowed) (cs : List ClauseTree) → Grows (given ms 0) may → AreClauses names ms [] cs
    → AreResources may (program_entries n cs)
resources-start names n ms may [] g h = tt
resources-start names n ms may (c ∷ cs) g h = (formula-more (given ms 0) may ClauseSide c.form g h.0, resources-start names (suc n) ms may cs g h.2)

below-start : (n k : ℕ) (cs : List ClauseTree) → n + length cs ≤ k → list_all (λ e. nat_lt e.label k) (program_entries n cs) ≡ true
below-start n k [] le = refl
below-start n k (c ∷ cs) le = and_intro _ _ (lt-ltb n k (omega arith)) (below-start (suc n) k cs (omega arith))

none_before : (l n : ℕ) (cs : List ClauseTree) → l < n → list_any (λ d. nat_eq l d.label) (program_entries n cs) ≡ false
none_before l n [] h = refl
none_before l n (c ∷ cs) h =
    ap (λ b. b || list_any (λ d. nat_eq l d.label) (program_entries (suc n) cs)) (ne_eqb l n (λ e. absurd (omega arith)))
    ∙ none_before l (suc n) cs (omega arith)

differ-start : (n : ℕ) (cs : List ClauseTree) → labels_differ (program_entries n cs) ≡ true
differ-start n [] = refl
differ-start n (c ∷ cs) = and_intro _ _ (ap not (none_before n (suc n) cs (omega arith))) (differ-start (suc n) cs)

pub may_begin : (k : Kind) → may_live k (is_linear k) ≡ true
may_begin Linear = refl
may_begin Unbounded = refl

may-start : (n : ℕ) (cs : List ClauseTree) → all_may (program_entries n cs) ≡ true
may-start n [] = refl
may-start n (c ∷ cs) = and_intro _ _ (may_begin c.kind) (may-start (suc n) cs)

pub vars-made : (variables eigens n k : ℕ) → n + k ≤ variables → list_all (is_made variables eigens) (vars_from n k) ≡ true
vars-made variables eigens n zero le = refl
vars-made variables eigens n (suc k) le = and_intro _ _ (and_intro _ _ (lt-ltb n variables (omega arith)) refl)
    (vars-made variables eigens (suc n) k (omega arith))

pub length-vars : (n k : ℕ) → length (vars_from n k) ≡ k
length-vars n zero = refl
length-vars n (suc k) = ap (λ x. suc x) (length-vars (suc n) k)

pub levels-replicate : (eigens l k : ℕ) → l ≤ eigens → list_all (λ l. nat_le l eigens) (replicate k l) ≡ true
levels-replicate eigens l zero le = refl
levels-replicate eigens l (suc k) le = and_intro _ _ (le-leb l eigens le) (levels-replicate eigens l k le)

count_zeros : (n : ℕ) → length (replicate n zero) ≡ n
count_zeros n = length-replicate n zero

-- a state may mention what a problem may with k variables, if it has as many
pub grows_given : (ms : List ModuleTree) (k n e : ℕ) → k ≤ n → Grows (given ms k) (record { modules = ms; variables = n; eigens = e; opens = true })
grows_given ms k n e le = record { modules = refl; variables = le; eigens = omega arith; opens = λ h. refl }

pub starts_consistent : StartsConsistent
starts_consistent p v =
    let n = length p.asked in
    let k = length (replicate n zero) in
    let c : k ≡ n = count_zeros n in
    let may = allowed_in (setting_of p) (start_of p) in
    record {
      goals = (formula-more (given p.modules n) may GoalSide p.goal (grows_given p.modules n k 0 (omega arith)) v.goal, tt);
      resources = resources-start (length p.names) 0 p.modules may p.clauses (grows_given p.modules 0 k 0 (omega arith)) v.clauses;
      terms = vars-made k 0 0 n (omega arith);
      term_count = length-vars 0 n ∙ sym c;
      levels = levels-replicate 0 0 n (omega arith);
      labels_below = below-start 0 (length p.clauses) p.clauses (omega arith);
      labels_differ = differ-start 0 p.clauses;
      live = may-start 0 p.clauses;
      ends = refl;
    }

-- ---- settling

-- the part of a consistent state that settling looks at
pub record IsFront (may : Allowed) (label : ℕ) (a : List (Item Form)) (es : List (Entry Form)) : Type 0 where
  pub goals : AreGoals may a
  pub resources : AreResources may es
  pub below : list_all (λ e. nat_lt e.label label) es ≡ true
  pub differ : labels_differ es ≡ true
  pub live : all_may es ≡ true
  pub ends : ends_fit a es ≡ true

-- other marks that fit, and another agenda
pub remarked : (may : Allowed) (label : ℕ) (a b : List (Item Form)) (es : List (Entry Form)) (bs : List Bool) → IsFront may label a es → AreGoals may b
    → ends_fit b es ≡ true → marks_fit bs es ≡ true
    → IsFront may label b (remark es bs)
remarked may label a b es bs f g e m = record {
  goals = g;
  resources = resources-remark may es bs f.resources;
  below = alike-below label es (remark es bs) (alike-remark es bs) f.below;
  differ = alike-differ es (remark es bs) (alike-remark es bs) f.differ;
  live = may-remark es bs m;
  ends = alike-ends b es (remark es bs) (alike-remark es bs) e;
}

-- one entry less, and another agenda
dropped : (may : Allowed) (label : ℕ) (a b : List (Item Form)) (e : Entry Form) (es : List (Entry Form)) → IsFront may label a (e ∷ es) → AreGoals may b
    → ends_fit b es ≡ true → IsFront may label b es
dropped may label a b e es f g h = record {
  goals = g;
  resources = (f.resources).1;
  below = and_right (nat_lt e.label label) _ f.below;
  differ = and_right (not (list_any (λ d. nat_eq e.label d.label) es)) (labels_differ es) f.differ;
  live = and_right (may_live e.kind e.live) (all_may es) f.live;
  ends = h;
}

kept-fits : (es : List (Entry Form)) (b : Bool) (live : List Bool) (flag : Bool) (s : Saved) → kept_if b live flag ≡ Some s → marks_fit live es ≡ true
    → marks_fit s.live es ≡ true
kept-fits es true live flag s h m = let c : Saved = record { live = live; flag = flag } in let e : c ≡ s = cc in subst (λ z. marks_fit z.live es ≡ true) e m
kept-fits es false live flag s h m = cc

join_by-fits : (es : List (Entry Form)) (f g : Bool) (first second : List Bool) (s : Saved) → join_by f g first second ≡ Some s → marks_fit first es ≡ true
    → marks_fit second es ≡ true → marks_fit s.live es ≡ true
join_by-fits es false false first second s h a b = kept-fits es (within first second && within second first) first false s h a
join_by-fits es false true first second s h a b = kept-fits es (within first second) first false s h a
join_by-fits es true false first second s h a b = kept-fits es (within second first) second false s h b
join_by-fits es true true first second s h a b =
    let c : Saved = record { live = both_live first second; flag = true } in let e : c ≡ s = cc in
    subst (λ z. marks_fit z.live es ≡ true) e (marks-both first second es a b)

same_front : (may : Allowed) (label : ℕ) (x y : Front Form Form) → Some x ≡ Some y → IsFront may label x.agenda x.context → IsFront may label y.agenda y.context
same_front may label x y h f = let e : x ≡ y = cc in subst (λ z. IsFront may label z.agenda z.context) e f

middle-fits : (may : Allowed) (label : ℕ) (saved : Saved) (flag : Bool) (a : List (Item Form)) (es : List (Entry Form)) (x : Front Form Form)
    → IsFront may label (WithMiddle saved ∷ a) es
    → at_middle saved (record { live = marks es; flag = flag }) a es ≡ Some x → IsFront may label x.agenda x.context
middle-fits may label saved flag (Goal g ∷ WithEnd kept old ∷ rest) es x f h =
    let half : Saved = record { live = marks es; flag = flag } in
    let e = and_right (marks_fit saved.live es) (ends_fit (WithEnd kept old ∷ rest) es) f.ends in
    let k = and_left (marks_fit kept.live es && marks_fit old.live es) (ends_fit rest es) e in
    let n =
    and_intro (marks_fit kept.live es && marks_fit half.live es) (ends_fit rest es)
    (and_intro (marks_fit kept.live es) (marks_fit half.live es) (and_left (marks_fit kept.live es) (marks_fit old.live es) k) (marks-fit es f.live))
    (and_right (marks_fit kept.live es && marks_fit old.live es) (ends_fit rest es) e)
    in
    same_front may label (record { agenda = Goal g ∷ WithEnd kept half ∷ rest; context = remark es saved.live; flag = false }) x h
    (remarked may label (WithMiddle saved ∷ Goal g ∷ WithEnd kept old ∷ rest) (Goal g ∷ WithEnd kept half ∷ rest) es saved.live f f.goals n
    (and_left (marks_fit saved.live es) (ends_fit (WithEnd kept old ∷ rest) es) f.ends))
middle-fits may label saved flag _ es x f h = cc

front-settles : (may : Allowed) (label : ℕ) (a : List (Item Form)) (es : List (Entry Form)) (flag : Bool) (x : Front Form Form) → IsFront may label a es
    → settle_front a es flag ≡ Some x → IsFront may label x.agenda x.context
front-settles may label [] es flag x f h = same_front may label (record { agenda = []; context = es; flag = flag }) x h f
front-settles may label (Goal g ∷ rest) es flag x f h = same_front may label (record { agenda = Goal g ∷ rest; context = es; flag = flag }) x h f
front-settles may label (LolliEnd saved ∷ rest) [] flag x f h = cc
front-settles may label (LolliEnd saved ∷ rest) (e ∷ es) flag x f h =
    step (e.live && not flag) (front-settles may label rest es (saved || flag) x
    (dropped may label (LolliEnd saved ∷ rest) rest e es f f.goals (and_right (is_of_kind true e.kind) (ends_fit rest es) f.ends))) h
  where
    step : (b : Bool) → (settle_front rest es (saved || flag) ≡ Some x → IsFront may label x.agenda x.context)
        → (if b then None else settle_front rest es (saved || flag)) ≡ Some x
        → IsFront may label x.agenda x.context
    step true ih h = cc
    step false ih h = ih h
front-settles may label (ImpEnd ∷ rest) [] flag x f h = absurd (cc (f.ends))
front-settles may label (ImpEnd ∷ rest) (e ∷ es) flag x f h =
    front-settles may label rest es flag x (dropped may label (ImpEnd ∷ rest) rest e es f f.goals
    (and_right (is_of_kind false e.kind) (ends_fit rest es) f.ends)) h
front-settles may label (WithMiddle saved ∷ rest) es flag x f h = middle-fits may label saved flag rest es x f h
front-settles may label (WithEnd saved half ∷ rest) es flag x f h =
    step (join half (record { live = marks es; flag = flag })) refl (front-settles may label rest) h
  where
    step : (o : Option Saved) → join half (record { live = marks es; flag = flag }) ≡ o
        → ((es : List (Entry Form)) (flag : Bool) (x : Front Form Form) → IsFront may label rest es → settle_front rest es flag ≡ Some x
        → IsFront may label x.agenda x.context)
        → end_with (settle_front rest) saved es o ≡ Some x → IsFront may label x.agenda x.context
    step None q ih h = cc
    step (Some s) q ih h =
        let e = and_left (marks_fit saved.live es && marks_fit half.live es) (ends_fit rest es) f.ends in
        let m = join_by-fits es half.flag flag half.live (marks es) s q (and_right (marks_fit saved.live es) (marks_fit half.live es) e) (marks-fit es f.live)
        in
        ih (remark es s.live) (saved.flag || s.flag) x
        (remarked may label (WithEnd saved half ∷ rest) rest es s.live f f.goals
        (and_right (marks_fit saved.live es && marks_fit half.live es) (ends_fit rest es) f.ends) m) h
front-settles may label (BangEnd saved ∷ rest) es flag x f h =
    front-settles may label rest (remark es saved.live) saved.flag x
    (remarked may label (BangEnd saved ∷ rest) rest es saved.live f f.goals (and_right (marks_fit saved.live es) (ends_fit rest es) f.ends)
    (and_left (marks_fit saved.live es) (ends_fit rest es) f.ends)) h

pub front_of_state : (m : Setting) (s : State) → IsConsistent m s → IsFront (allowed_in m s) s.label s.agenda s.context
front_of_state m s c = record { goals = c.goals; resources = c.resources; below = c.labels_below; differ = c.labels_differ; live = c.live; ends = c.ends }

pub settles_consistent : SettlesConsistent
unfolding settle
settles_consistent m s t c h = step (settle_front s.agenda s.context s.flag) refl h
  where
    step : (o : Option (Front Form Form)) → settle_front s.agenda s.context s.flag ≡ o → front_of s o ≡ Some t → IsConsistent m t
    step None q h = cc
    step (Some x) q h =
        let f = front-settles (allowed_in m s) s.label s.agenda s.context s.flag x (front_of_state m s c) q in
        let e : with_front s x ≡ t = cc in
        subst (IsConsistent m) e
        (record {
          goals = f.goals;
          resources = f.resources;
          terms = c.terms;
          term_count = c.term_count;
          levels = c.levels;
          labels_below = f.below;
          labels_differ = f.differ;
          live = f.live;
          ends = f.ends;
        })
