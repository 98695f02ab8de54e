-- A search leaves the program's entries where they are.
use Rattle.std.proofs.Common.{◌≡◌, ℕ, zero, suc, ◌+◌, refl, ap, sym, subst, ◌∙◌, Bool, true, false, List, [], ◌∷◌, ◌++◌, map, length, nat_eq, length-append}
use Rattle.std.specs.Prelude.{◌||◌, ◌&&◌, not, if◌then◌else◌, slice_get, Option, Some, None, option_map, option_and_then, ℤ}
use Rattle.ll_bank.specs.Term.{Term}
use Rattle.ll_bank.specs.Form.{Form, Top, One, Atom, With, Tensor, Plus, Bang, Lolli, Imp, Forall, Exists, Use, Num, Is, Less, Most, sub_form}
use Rattle.ll_laws.specs.declared.Candidate.{Candidate}
use Rattle.ll_laws.specs.declared.Step.TheVariants.{Plain}
use Rattle.ll_laws.specs.Leaf.{Leaf, Premise, ways, leaf, premise_goal}
use Rattle.ll_laws.specs.Module.{ClauseTree, ModuleTree, Setting}
use Rattle.ll_laws.specs.Settle.{Entry, Saved, Item, Goal, LolliEnd, ImpEnd, WithMiddle, WithEnd, BangEnd, Front, marks, remark, unlive, join, end_with}
use Rattle.ll_laws.specs.Settle.{without_newest, settle_front}
use Rattle.ll_laws.specs.State.{State, front_of, settle, sub_item, sub_entry}
use Rattle.ll_laws.specs.Unify.{Solved}
use Rattle.ll_laws.specs.Number.{value_of, holds}
use Rattle.ll_laws.specs.Attempt.{entry_at, vars_from, picked, instantiated, with_leaf, take_leaf, take_way, take_entry, stepped, take_side, load_module}
use Rattle.ll_laws.specs.Attempt.{take_value, attempt_goal, attempt_agenda, attempt}
use Rattle.ll_laws.specs.Search.{program_entries}
use Rattle.ll_laws.specs.Problem.{ProblemTree, start_of}
use Rattle.ll_laws.specs.Valid.{ClauseSide, AreClauses, given}
use Rattle.ll_laws.proofs.CallerLemmas.{fits_of_formula, sub_none_form}
use Rattle.ll_index.specs.Context.{AreOfProgram}
use Rattle.ll_freeze.specs.Resting.{under_loads, RestsOn}

-- ---- entries that differ in their live marks alone

abbrev Remarked : (old new : List (Entry Form)) → Type 0
Remarked [] [] = Unit {0}
Remarked (e ∷ es) (d ∷ ds) = (d.label ≡ e.label) × (d.kind ≡ e.kind) × (d.clause ≡ e.clause) × Remarked es ds
Remarked _ _ = ⊥

same : (es : List (Entry Form)) → Remarked es es
same [] = tt
same (e ∷ es) = (refl, refl, refl, same es)

by_remark : (es : List (Entry Form)) (bs : List Bool) → Remarked es (remark es bs)
by_remark [] bs = tt
by_remark (e ∷ es) [] = same (e ∷ es)
by_remark (e ∷ es) (b ∷ bs) = (refl, refl, refl, by_remark es bs)

by_unlive : (es : List (Entry Form)) → Remarked es (map unlive es)
by_unlive [] = tt
by_unlive (e ∷ es) = (refl, refl, refl, by_unlive es)

by_picked : (label : ℕ) (es : List (Entry Form)) → Remarked es (picked label es)
by_picked label [] = tt
by_picked label (e ∷ es) = step (nat_eq e.label label) (by_picked label es)
  where
    step : (b : Bool) → Remarked es (picked label es) → Remarked (e ∷ es) (if b then unlive e ∷ es else e ∷ picked label es)
    step true i = (refl, refl, refl, same es)
    step false i = (refl, refl, refl, i)

without : (es ds : List (Entry Form)) → Remarked es ds → Remarked (without_newest es) (without_newest ds)
without [] [] r = tt
without [] (d ∷ ds) r = absurd r
without (e ∷ es) [] r = absurd r
without (e ∷ es) (d ∷ ds) r = r.3

under : (a : List (Item Form)) (es ds : List (Entry Form)) → Remarked es ds → Remarked (under_loads a es) (under_loads a ds)
under [] es ds r = r
under (Goal g ∷ rest) es ds r = under rest es ds r
under (LolliEnd saved ∷ rest) es ds r = under rest (without_newest es) (without_newest ds) (without es ds r)
under (ImpEnd ∷ rest) es ds r = under rest (without_newest es) (without_newest ds) (without es ds r)
under (WithMiddle saved ∷ rest) es ds r = under rest es ds r
under (WithEnd saved half ∷ rest) es ds r = under rest es ds r
under (BangEnd saved ∷ rest) es ds r = under rest es ds r

program : (n : ℕ) (cs : List ClauseTree) (es ds : List (Entry Form)) → Remarked es ds → AreOfProgram n cs es → AreOfProgram n cs ds
program n [] [] [] r h = tt
program n [] [] (d ∷ ds) r h = absurd r
program n [] (e ∷ es) ds r h = absurd h
program n (c ∷ cs) [] ds r h = absurd h
program n (c ∷ cs) (e ∷ es) [] r h = absurd r
program n (c ∷ cs) (e ∷ es) (d ∷ ds) r h = (r.0 ∙ h.0, r.1 ∙ h.1, r.2 ∙ h.2, program (suc n) cs es ds r.3 h.3)

module _ (cs : List ClauseTree) where
  abbrev Rests : List (Item Form) → List (Entry Form) → Type 0
  Rests a es = AreOfProgram 0 cs (under_loads a es)

  remarked : (a : List (Item Form)) (es ds : List (Entry Form)) → Remarked es ds → Rests a es → Rests a ds
  remarked a es ds r h = program 0 cs (under_loads a es) (under_loads a ds) (under a es ds r) h

  -- ---- settling

  settles : (a : List (Item Form)) (es : List (Entry Form)) (flag : Bool) (f : Front Form Form) → settle_front a es flag ≡ Some f → Rests a es
      → Rests f.agenda f.context
  settles [] es flag f e h = let q : record { agenda = []; context = es; flag = flag } ≡ f = cc in subst (λ (g : Front Form Form). Rests g.agenda g.context) q h
  settles (Goal g ∷ rest) es flag f e h = let q : record { agenda = Goal g ∷ rest; context = es; flag = flag } ≡ f = cc in
      subst (λ (g : Front Form Form). Rests g.agenda g.context) q h
  settles (LolliEnd saved ∷ rest) [] flag f e h = cc
  settles (LolliEnd saved ∷ rest) (d ∷ es) flag f e h = step (d.live && not flag) e (λ q. settles rest es (saved || flag) f q h)
    where
      step : (b : Bool) → (if b then None else settle_front rest es (saved || flag)) ≡ Some f
          → (settle_front rest es (saved || flag) ≡ Some f → Rests f.agenda f.context) → Rests f.agenda f.context
      step true q go = cc
      step false q go = go q
  settles (ImpEnd ∷ rest) es flag f e h = settles rest (without_newest es) flag f e h
  settles (WithMiddle saved ∷ Goal g ∷ WithEnd kept half ∷ rest) es flag f e h =
      let now : Front Form Form = record {
        agenda = Goal g ∷ WithEnd kept (record { live = marks es; flag = flag }) ∷ rest;
        context = remark es saved.live;
        flag = false;
      } in
      let q : now ≡ f = cc in
      subst (λ (g : Front Form Form). Rests g.agenda g.context) q (remarked rest es (remark es saved.live) (by_remark es saved.live) h)
  settles (WithMiddle saved ∷ _) es flag f e h = cc
  settles (WithEnd saved half ∷ rest) es flag f e h =
      step (join half (record { live = marks es; flag = flag })) e
      (λ s q. settles rest (remark es s.live) (saved.flag || s.flag) f q (remarked rest es (remark es s.live) (by_remark es s.live) h))
    where
      step : (o : Option Saved) → end_with (settle_front rest) saved es o ≡ Some f
          → ((s : Saved) → settle_front rest (remark es s.live) (saved.flag || s.flag) ≡ Some f → Rests f.agenda f.context) → Rests f.agenda f.context
      step None q go = cc
      step (Some s) q go = go s q
  settles (BangEnd saved ∷ rest) es flag f e h =
      settles rest (remark es saved.live) saved.flag f e (remarked rest es (remark es saved.live) (by_remark es saved.live) h)

  pub settle_rests : (s t : State) → settle s ≡ Some t → RestsOn cs s → RestsOn cs t
  unfolding settle
  settle_rests s t e h = step (settle_front s.agenda s.context s.flag) refl e
    where
      step : (o : Option (Front Form Form)) → settle_front s.agenda s.context s.flag ≡ o → front_of s o ≡ Some t → RestsOn cs t
      step None q e = cc
      step (Some f) q e =
          let r = settles s.agenda s.context s.flag f q h in
          let w : record s { agenda = f.agenda; context = f.context; flag = f.flag } ≡ t = cc in subst (RestsOn cs) w r

  -- ---- inferences

  done : (u t : State) → Some u ≡ Some t → RestsOn cs u → RestsOn cs t
  done u t e h = let q : u ≡ t = cc in subst (RestsOn cs) q h

  premises : (ps : List Premise) (rest : List (Item Form)) (es : List (Entry Form)) → Rests rest es → Rests (map (λ p. Goal (premise_goal p)) ps ++ rest) es
  premises [] rest es h = h
  premises (p ∷ ps) rest es h = premises ps rest es h

  without-sub : (f : ℕ → Term) (es : List (Entry Form)) → without_newest (map (sub_entry f) es) ≡ map (sub_entry f) (without_newest es)
  without-sub f [] = refl
  without-sub f (e ∷ es) = refl

  under-sub : (f : ℕ → Term) (a : List (Item Form)) (es : List (Entry Form))
      → under_loads (map (sub_item f) a) (map (sub_entry f) es) ≡ map (sub_entry f) (under_loads a es)
  under-sub f [] es = refl
  under-sub f (Goal g ∷ rest) es = under-sub f rest es
  under-sub f (LolliEnd saved ∷ rest) es = ap (under_loads (map (sub_item f) rest)) (without-sub f es) ∙ under-sub f rest (without_newest es)
  under-sub f (ImpEnd ∷ rest) es = ap (under_loads (map (sub_item f) rest)) (without-sub f es) ∙ under-sub f rest (without_newest es)
  under-sub f (WithMiddle saved ∷ rest) es = under-sub f rest es
  under-sub f (WithEnd saved half ∷ rest) es = under-sub f rest es
  under-sub f (BangEnd saved ∷ rest) es = under-sub f rest es

-- a program has no variables
program-sub : (f : ℕ → Term) (names : ℕ) (ms : List ModuleTree) (n : ℕ) (cs : List ClauseTree) (es : List (Entry Form)) → AreClauses names ms [] cs
    → AreOfProgram n cs es
    → AreOfProgram n cs (map (sub_entry f) es)
program-sub f names ms n [] [] v h = tt
program-sub f names ms n [] (e ∷ es) v h = absurd h
program-sub f names ms n (c ∷ cs) [] v h = absurd h
program-sub f names ms n (c ∷ cs) (e ∷ es) v h = (
  h.0,
  h.1,
  ap (sub_form f) h.2 ∙ sub_none_form ms f ClauseSide [] c.form (fits_of_formula (given ms 0) ClauseSide [] c.form v.0),
  program-sub f names ms (suc n) cs es v.2 h.3,
)

module _ (names : ℕ) (ms : List ModuleTree) (cs : List ClauseTree) (v : AreClauses names ms [] cs) where
  abbrev On : State → Type 0
  On s = RestsOn cs s

  instantiated-rests : (w : State) (u : Solved) → On w → On (instantiated w u)
  instantiated-rests w u h =
      subst (AreOfProgram 0 cs) (sym (under-sub cs u.subst w.agenda w.context)) (program-sub u.subst names ms 0 cs (under_loads w.agenda w.context) v h)

  solved : (w t : State) (o : Option Solved) → On w → option_map (instantiated w) o ≡ Some t → On t
  solved w t None h e = cc
  solved w t (Some u) h e = done cs (instantiated w u) t e (instantiated-rests w u h)

  leaf-rests : (s t : State) (a : Term) (rest : List (Item Form)) (label k n : ℕ) (o : Option Leaf) → AreOfProgram 0 cs (under_loads rest s.context)
      → option_and_then (take_leaf s a rest label k n) o ≡ Some t → On t
  leaf-rests s t a rest label k n None h e = cc
  leaf-rests s t a rest label k n (Some l) h e =
      solved (with_leaf s rest label k n l) t _
      (premises cs l.premises rest (picked label s.context) (remarked cs rest s.context (picked label s.context) (by_picked label s.context) h)) e

  way-rests : (s t : State) (a : Term) (rest : List (Item Form)) (label k : ℕ) (d : Entry Form) (o : Option ℕ) → AreOfProgram 0 cs (under_loads rest s.context)
      → option_and_then (take_way s a rest label k d) o ≡ Some t → On t
  way-rests s t a rest label k d None h e = cc
  way-rests s t a rest label k d (Some n) h e = leaf-rests s t a rest label k n (leaf d.clause k (vars_from (length s.levels) n)) h e

  atom-rests : (s t : State) (a : Term) (rest : List (Item Form)) (label k : ℕ) (o : Option (Entry Form)) → AreOfProgram 0 cs (under_loads rest s.context)
      → option_and_then (take_entry s a rest label k) o ≡ Some t → On t
  atom-rests s t a rest label k None h e = cc
  atom-rests s t a rest label k (Some d) h e = way-rests s t a rest label k d (slice_get (ways d.clause) k) h e

  value-rests : (s t : State) (u : Term) (rest : List (Item Form)) (o : Option ℤ) → AreOfProgram 0 cs (under_loads rest s.context)
      → take_value s u rest o ≡ Some t → On t
  value-rests s t u rest None h e = cc
  value-rests s t u rest (Some z) h e = solved (stepped s rest Plain) t _ h e

  tested-rests : (s t : State) (rest : List (Item Form)) (b : Bool) → AreOfProgram 0 cs (under_loads rest s.context)
      → (if b then Some (stepped s rest Plain) else None) ≡ Some t → On t
  tested-rests s t rest true h e = done cs _ t e h
  tested-rests s t rest false h e = cc

  module_rests : (s t : State) (rest : List (Item Form)) (ts : List Term) (g : Form) (o : Option ModuleTree) → AreOfProgram 0 cs (under_loads rest s.context)
      → load_module s rest ts g o ≡ Some t → On t
  module_rests s t rest ts g None h e = cc
  module_rests s t rest ts g (Some d) h e = done cs _ t e h

  side-rests : (s t : State) (p q : Form) (rest : List (Item Form)) (k : ℕ) → AreOfProgram 0 cs (under_loads rest s.context)
      → Some (take_side k s p q rest) ≡ Some t → On t
  side-rests s t p q rest zero h e = done cs _ t e h
  side-rests s t p q rest (suc k) h e = done cs _ t e h

  goal-rests : (m : Setting) (s t : State) (g : Form) (rest : List (Item Form)) (c : Candidate) → AreOfProgram 0 cs (under_loads rest s.context)
      → attempt_goal m s g rest c ≡ Some t → On t
  goal-rests m s t One rest c h e = done cs _ t e h
  goal-rests m s t Top rest c h e = done cs _ t e h
  goal-rests m s t (Tensor p q) rest c h e = done cs _ t e h
  goal-rests m s t (Plus p q) rest c h e = side-rests s t p q rest c.leaf h e
  goal-rests m s t (With p q) rest c h e = done cs _ t e h
  goal-rests m s t (Bang p) rest c h e = done cs _ t e (remarked cs rest s.context (map unlive s.context) (by_unlive s.context) h)
  goal-rests m s t (Lolli r p) rest c h e = done cs _ t e h
  goal-rests m s t (Imp r p) rest c h e = done cs _ t e h
  goal-rests m s t (Forall p) rest c h e = done cs _ t e h
  goal-rests m s t (Exists p) rest c h e = done cs _ t e h
  goal-rests m s t (Use n ts p) rest c h e = module_rests s t rest ts p (slice_get m.modules n) h e
  goal-rests m s t (Atom a) rest c h e = atom-rests s t a rest c.label c.leaf (entry_at s.context c.label) h e
  goal-rests m s t (Num Is a b) rest c h e = value-rests s t a rest (value_of m.operators b) h e
  goal-rests m s t (Num Less a b) rest c h e = tested-rests s t rest (holds m.operators Less a b) h e
  goal-rests m s t (Num Most a b) rest c h e = tested-rests s t rest (holds m.operators Most a b) h e

  agenda-rests : (m : Setting) (s t : State) (a : List (Item Form)) (c : Candidate) → AreOfProgram 0 cs (under_loads a s.context)
      → attempt_agenda m s a c ≡ Some t → On t
  agenda-rests m s t (Goal g ∷ rest) c h e = goal-rests m s t g rest c h e
  agenda-rests m s t _ c h e = cc

  -- an inference leaves the program's entries where they are
  pub step_rests : (m : Setting) (s t : State) (c : Candidate) → attempt m s c ≡ Some t → RestsOn cs s → RestsOn cs t
  unfolding attempt
  step_rests m s t c e h = agenda-rests m s t s.agenda c h e

-- a search starts with them
starts_with : (n : ℕ) (cs : List ClauseTree) → AreOfProgram n cs (program_entries n cs)
starts_with n [] = tt
starts_with n (c ∷ cs) = (refl, refl, refl, starts_with (suc n) cs)

pub start_rests : (p : ProblemTree) → RestsOn p.clauses (start_of p)
start_rests p = starts_with 0 p.clauses

-- ---- where the program's entries begin

-- what is left of a context is its end
pub record Loaded (es under : List (Entry Form)) : Type 0 where
  pub above : List (Entry Form)
  pub all : es ≡ above ++ under

loads_above : (a : List (Item Form)) (es : List (Entry Form)) → Loaded es (under_loads a es)
loads_above [] es = record { above = []; all = refl }
loads_above (Goal g ∷ rest) es = loads_above rest es
loads_above (LolliEnd saved ∷ rest) [] = loads_above rest []
loads_above (LolliEnd saved ∷ rest) (e ∷ es) = let l = loads_above rest es in record { above = e ∷ l.above; all = ap (λ xs. e ∷ xs) l.all }
loads_above (ImpEnd ∷ rest) [] = loads_above rest []
loads_above (ImpEnd ∷ rest) (e ∷ es) = let l = loads_above rest es in record { above = e ∷ l.above; all = ap (λ xs. e ∷ xs) l.all }
loads_above (WithMiddle saved ∷ rest) es = loads_above rest es
loads_above (WithEnd saved half ∷ rest) es = loads_above rest es
loads_above (BangEnd saved ∷ rest) es = loads_above rest es

pub program-length : (n : ℕ) (cs : List ClauseTree) (es : List (Entry Form)) → AreOfProgram n cs es → length es ≡ length cs
program-length n [] [] h = refl
program-length n [] (e ∷ es) h = absurd h
program-length n (c ∷ cs) [] h = absurd h
program-length n (c ∷ cs) (e ∷ es) h = ap suc (program-length (suc n) cs es h.3)

-- the program's entries are the last ones
pub record HasProgram (cs : List ClauseTree) (es : List (Entry Form)) : Type 0 where
  pub above : List (Entry Form)
  pub under : List (Entry Form)
  pub all : es ≡ above ++ under
  pub of : AreOfProgram 0 cs under
  pub count : length es ≡ length above + length cs

pub has_program : (cs : List ClauseTree) (s : State) → RestsOn cs s → HasProgram cs s.context
has_program cs s h =
    let l = loads_above s.agenda s.context in
    let u = under_loads s.agenda s.context in
    record {
      above = l.above;
      under = u;
      all = l.all;
      of = h;
      count = ap length l.all ∙ (length-append l.above u ∙ ap (λ n. length l.above + n) (program-length 0 cs u h));
    }
