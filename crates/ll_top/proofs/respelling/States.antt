-- The states of a search keep names with as many arguments as they may, and their numbers small.
use Rattle.std.proofs.Common.{◌≡◌, ◌≤◌, ◌<◌, ℕ, zero, suc, ◌+◌, ◌*◌, ℤ, refl, ap, sym, subst, Bool, true, false, List, [], ◌∷◌, ◌++◌, map, length, replicate}
use Rattle.std.proofs.Common.{nat_eq, arith}
use Rattle.std.proofs.lemmas.List.{length-append, length-replicate}
use Rattle.std.proofs.lemmas.Bool.{ltb-true, eqb-true}
use Rattle.std.proofs.lemmas.Option.{slice_get_within}
use Rattle.std.specs.Prelude.{Option, Some, None, option_map, if◌then◌else◌, nat_lt, ◌&&◌, ◌||◌, not, slice_get, FitsSigned, pos, negsuc}
use Rattle.std.specs.List.{list_all}
use Rattle.std.specs.Int.{w64}
use Rattle.ll_list_laws.proofs.CallerLemmas.{and_true_left as and_left, and_true_right as and_right}
use Rattle.ll_bank.specs.declared.Head.TheVariants.{Eigen}
use Rattle.ll_bank.specs.Term.{Term, Var, Int, Con, Ap}
use Rattle.ll_bank.specs.Form.{Form, Top, One, Atom, With, Tensor, Plus, Bang, Lolli, Imp, Forall, Exists, Use, Num, Is, Less, Most, sub_form, instantiate}
use Rattle.ll_laws.specs.declared.Step.{Step}
use Rattle.ll_laws.specs.declared.Step.TheVariants.{Plain, Left, Right, Clause as ClauseStep}
use Rattle.ll_laws.specs.declared.Candidate.{Candidate}
use Rattle.ll_laws.specs.Leaf.{Premise, premise_goal, ways}
use Rattle.ll_laws.specs.Module.{ModuleTree, Setting}
use Rattle.ll_laws.specs.Number.{Operator, value_of, holds, exactly, has_64_bits, combined, operated, operator_of}
use Rattle.ll_laws.specs.Unify.{Solved, mgu}
use Rattle.ll_laws.specs.Settle.{Entry, Saved, Item, Goal, LolliEnd, ImpEnd, WithMiddle, WithEnd, BangEnd, Front, settle_front, marks, remark, unlive, join}
use Rattle.ll_laws.specs.Settle.{end_with, at_middle}
use Rattle.ll_laws.specs.State.{State, settle, front_of, with_front, sub_item, sub_entry}
use Rattle.ll_laws.specs.Attempt.{entry_at, picked, vars_from, instantiated, with_leaf, attempt_goal, take_side, load_module, take_value, stepped}
use Rattle.ll_laws.specs.Valid.{GoalSide, ClauseSide, module_scope, fits_module, loads_fit}
use Rattle.ll_laws.specs.Consistent.{IsConsistent}
use Rattle.ll_laws.proofs.CallerLemmas.{solve-falls, Taken, taken_from, ways-sub}
use Rattle.ll_top.proofs.following.Steps.{one-more}
use Rattle.ll_top.specs.spelled.Taking.{TakesAt, anyhow, TermTakes, TermsTake, IsLight, FormTakes}
use Rattle.ll_top.proofs.respelling.Terms.{SubTakes, all-sub, env-none, env-term, env-eigen, mgu-takes}
use Rattle.ll_top.proofs.respelling.Forms.{form-sub, form-close, light-by, PremisesTake, leaf-takes, ClausesTake, unfold_load-takes}

-- the numbers of a step are small
abbrev pub StepFits : ℕ → ℕ → Step → Type 0
StepFits top most (ClauseStep label k) = (label < top) × (k < most)
StepFits top most Plain = Unit {0}
StepFits top most Left = Unit {0}
StepFits top most Right = Unit {0}

-- the same of each of the steps
abbrev pub StepsFit : ℕ → ℕ → List Step → Type 0
StepsFit top most [] = Unit {0}
StepsFit top most (c ∷ cs) = StepFits top most c × StepsFit top most cs

step-more : (a b most : ℕ) (c : Step) → a ≤ b → StepFits a most c → StepFits b most c
step-more a b most (ClauseStep label k) le h = (omega (arith, h.0), h.1)
step-more a b most Plain le h = tt
step-more a b most Left le h = tt
step-more a b most Right le h = tt

pub steps-more : (a b most : ℕ) (cs : List Step) → a ≤ b → StepsFit a most cs → StepsFit b most cs
steps-more a b most [] le h = tt
steps-more a b most (c ∷ cs) le h = (step-more a b most c le h.0, steps-more a b most cs le h.1)

steps-then : (top most : ℕ) (cs : List Step) (c : Step) → StepsFit top most cs → StepFits top most c → StepsFit top most (cs ++ c ∷ [])
steps-then top most [] c h f = (f, tt)
steps-then top most (d ∷ cs) c h f = (h.0, steps-then top most cs c h.1 f)

entry-below : (es : List (Entry Form)) (label top : ℕ) (e : Entry Form) → list_all (λ e. nat_lt e.label top) es ≡ true → entry_at es label ≡ Some e
    → label < top
entry-below [] label top e h q = cc
entry-below (d ∷ es) label top e h q =
    step (nat_eq d.label label) refl (entry-below es label top e (and_right (nat_lt d.label top) (list_all (λ e. nat_lt e.label top) es) h)) q
  where
    step : (b : Bool) → nat_eq d.label label ≡ b → (entry_at es label ≡ Some e → label < top) → (if b then Some d else entry_at es label) ≡ Some e → label < top
    step true w go q = let l = ltb-true d.label top (and_left (nat_lt d.label top) (list_all (λ e. nat_lt e.label top) es) h) in
        let m = eqb-true d.label label w in omega (arith, l, m)
    step false w go q = go q

mgu-count : (ls rs : List Term) (levels : List ℕ) (v : Solved) → mgu ls rs levels ≡ Some v → length v.levels ≡ length levels
unfolding mgu
mgu-count ls rs levels v h = (solve-falls (length levels) ls rs levels v h).count

bits-fit : (z : ℤ) → has_64_bits z ≡ true → FitsSigned w64 z
bits-fit (pos n) h = record { sfits = ltb-true n 9223372036854775808 h }
bits-fit (negsuc n) h = record { sfits = ltb-true n 9223372036854775808 h }

exact-fits : (y z : ℤ) → exactly y ≡ Some z → FitsSigned w64 z
exact-fits y z e = step (has_64_bits y) refl e
  where
    step : (b : Bool) → has_64_bits y ≡ b → (if b then Some y else None) ≡ Some z → FitsSigned w64 z
    step true q e = let w : y ≡ z = cc in subst (FitsSigned w64) w (bits-fit y q)
    step false q e = cc

combined-fits : (o : Option Operator) (a b : Option ℤ) (z : ℤ) → combined o a b ≡ Some z → FitsSigned w64 z
combined-fits (Some o) (Some x) (Some y) z e = exact-fits (operated o x y) z e
combined-fits _ _ _ z e = cc

value-fits : (m : Setting) (u : Term) (z : ℤ) → TermTakes anyhow [] 0 u → value_of m.operators u ≡ Some z → FitsSigned w64 z
value-fits m (Int y) z h e = let w : y ≡ z = cc in subst (FitsSigned w64) w h.1
value-fits m (Ap (Ap f x) y) z h e = combined-fits (operator_of m.operators f) (value_of m.operators x) (value_of m.operators y) z e
value-fits m _ z h e = cc

module _ (takes : TakesAt) (most base asked : ℕ) (enough : 0 < most) where
  -- the goals of an agenda have names with as many arguments as they may
  abbrev pub GoalsTake : List (Item Form) → Type 0
  GoalsTake [] = Unit {0}
  GoalsTake (Goal g ∷ rest) = FormTakes takes most GoalSide [] g × GoalsTake rest
  GoalsTake (_ ∷ rest) = GoalsTake rest

  -- and so have the clauses of a context, which are light
  abbrev pub EntriesTake : List (Entry Form) → Type 0
  EntriesTake [] = Unit {0}
  EntriesTake (e ∷ es) = (IsLight most e.clause × FormTakes takes most ClauseSide [] e.clause) × EntriesTake es

  -- and those of modules
  abbrev pub ModulesTake : List ModuleTree → Type 0
  ModulesTake [] = Unit {0}
  ModulesTake (m ∷ ms) = ClausesTake takes most (module_scope m) m.clauses × ModulesTake ms

  -- the same of a state's agenda, context and terms, whose counters are bounded by its steps
  pub record StateTakes (s : State) : Type 0 where
    pub goals : GoalsTake s.agenda
    pub entries : EntriesTake s.context
    pub terms : TermsTake takes [] s.terms
    pub label : s.label ≤ base + length s.steps
    pub eigens : s.eigens ≤ length s.steps
    pub levels : length s.levels ≤ asked + length s.steps * most
    pub steps : StepsFit (base + length s.steps) most s.steps

  -- ---- settling

  remark-takes : (es : List (Entry Form)) (bs : List Bool) → EntriesTake es → EntriesTake (remark es bs)
  remark-takes [] bs h = h
  remark-takes (e ∷ es) [] h = h
  remark-takes (e ∷ es) (b ∷ bs) h = (h.0, remark-takes es bs h.1)

  -- the same of the agenda and the context that settling leaves
  pub record FrontTakes (x : Front Form Form) : Type 0 where
    pub goals : GoalsTake x.agenda
    pub entries : EntriesTake x.context

  same_front : (x y : Front Form Form) → Some x ≡ Some y → FrontTakes x → FrontTakes y
  same_front x y h f = let e : x ≡ y = cc in subst FrontTakes e f

  middle-takes : (saved half : Saved) (a : List (Item Form)) (es : List (Entry Form)) (x : Front Form Form) → GoalsTake a → EntriesTake es
      → at_middle saved half a es ≡ Some x → FrontTakes x
  middle-takes saved half (Goal g ∷ WithEnd kept old ∷ rest) es x f r h =
      same_front (record { agenda = Goal g ∷ WithEnd kept half ∷ rest; context = remark es saved.live; flag = false }) x h
      (record { goals = f; entries = remark-takes es saved.live r })
  middle-takes saved half _ es x f r h = cc

  front-takes : (a : List (Item Form)) (es : List (Entry Form)) (flag : Bool) (x : Front Form Form) → GoalsTake a → EntriesTake es
      → settle_front a es flag ≡ Some x → FrontTakes x
  front-takes [] es flag x f r h = same_front (record { agenda = []; context = es; flag = flag }) x h (record { goals = f; entries = r })
  front-takes (Goal g ∷ rest) es flag x f r h =
      same_front (record { agenda = Goal g ∷ rest; context = es; flag = flag }) x h (record { goals = f; entries = r })
  front-takes (LolliEnd saved ∷ rest) [] flag x f r h = cc
  front-takes (LolliEnd saved ∷ rest) (e ∷ es) flag x f r h = step (e.live && not flag) (front-takes rest es (saved || flag) x f r.1) h
    where
      step : (b : Bool) → (settle_front rest es (saved || flag) ≡ Some x → FrontTakes x) → (if b then None else settle_front rest es (saved || flag)) ≡ Some x
          → FrontTakes x
      step true ih h = cc
      step false ih h = ih h
  front-takes (ImpEnd ∷ rest) [] flag x f r h = front-takes rest [] flag x f r h
  front-takes (ImpEnd ∷ rest) (e ∷ es) flag x f r h = front-takes rest es flag x f r.1 h
  front-takes (WithMiddle saved ∷ rest) es flag x f r h = middle-takes saved (record { live = marks es; flag = flag }) rest es x f r h
  front-takes (WithEnd saved half ∷ rest) es flag x f r h =
      step (join half (record { live = marks es; flag = flag })) (λ es flag. front-takes rest es flag x f) h
    where
      step : (o : Option Saved) → ((es : List (Entry Form)) (flag : Bool) → EntriesTake es → settle_front rest es flag ≡ Some x → FrontTakes x)
          → end_with (settle_front rest) saved es o ≡ Some x → FrontTakes x
      step None ih h = cc
      step (Some s) ih h = ih (remark es s.live) (saved.flag || s.flag) (remark-takes es s.live r) h
  front-takes (BangEnd saved ∷ rest) es flag x f r h = front-takes rest (remark es saved.live) saved.flag x f (remark-takes es saved.live r) h

  pub settles-take : (s t : State) → StateTakes s → settle s ≡ Some t → StateTakes t
  unfolding settle
  settles-take s t c h = step (settle_front s.agenda s.context s.flag) refl h
    where
      step : (o : Option (Front Form Form)) → settle_front s.agenda s.context s.flag ≡ o → front_of s o ≡ Some t → StateTakes t
      step None q h = cc
      step (Some x) q h =
          let f = front-takes s.agenda s.context s.flag x c.goals c.entries q in
          let e : with_front s x ≡ t = cc in
          subst StateTakes e
          (record { goals = f.goals; entries = f.entries; terms = c.terms; label = c.label; eigens = c.eigens; levels = c.levels; steps = c.steps })

  -- ---- steps

  done : (x t : State) → Some x ≡ Some t → StateTakes x → StateTakes t
  done x t h c = let e : x ≡ t = cc in subst StateTakes e c

  -- a state after one step more, with another front, and no new variable
  kept : (s : State) (a : List (Item Form)) (es : List (Entry Form)) (flag : Bool) (label eigens : ℕ) (c : Step) → StateTakes s → GoalsTake a → EntriesTake es
      → label ≤ suc s.label → eigens ≤ suc s.eigens → StepFits (base + suc (length s.steps)) most c
      → StateTakes (record s { agenda = a; context = es; flag = flag; label = label; eigens = eigens; steps = s.steps ++ c ∷ [] })
  kept s a es flag label eigens c i g r l e f =
      let q = one-more s.steps c in
      record {
        goals = g;
        entries = r;
        terms = i.terms;
        label = omega (arith, q, l, i.label);
        eigens = omega (arith, q, e, i.eigens);
        levels = let w = ap (λ n. n * most) q in omega (arith, w, i.levels);
        steps =
            subst (λ n. StepsFit (base + n) most (s.steps ++ c ∷ [])) (sym q)
            (steps-then (base + suc (length s.steps)) most s.steps c
            (steps-more (base + length s.steps) (base + suc (length s.steps)) most s.steps (omega arith) i.steps) f);
      }

  unlive-takes : (es : List (Entry Form)) → EntriesTake es → EntriesTake (map unlive es)
  unlive-takes [] h = tt
  unlive-takes (e ∷ es) h = (h.0, unlive-takes es h.1)

  picked-takes : (label : ℕ) (es : List (Entry Form)) → EntriesTake es → EntriesTake (picked label es)
  picked-takes label [] h = tt
  picked-takes label (e ∷ es) h = step (picked-takes label es h.1) (nat_eq e.label label)
    where
      step : EntriesTake (picked label es) → (b : Bool) → EntriesTake (if b then unlive e ∷ es else e ∷ picked label es)
      step go true = h
      step go false = (h.0, go)

  goals-sub : (s : ℕ → Term) → SubTakes takes s → (a : List (Item Form)) → GoalsTake a → GoalsTake (map (sub_item s) a)
  goals-sub s g [] h = tt
  goals-sub s g (Goal f ∷ rest) h = (form-sub takes most s g [] GoalSide f h.0, goals-sub s g rest h.1)
  goals-sub s g (LolliEnd b ∷ rest) h = goals-sub s g rest h
  goals-sub s g (ImpEnd ∷ rest) h = goals-sub s g rest h
  goals-sub s g (WithMiddle b ∷ rest) h = goals-sub s g rest h
  goals-sub s g (WithEnd b c ∷ rest) h = goals-sub s g rest h
  goals-sub s g (BangEnd b ∷ rest) h = goals-sub s g rest h

  entries-sub : (s : ℕ → Term) → SubTakes takes s → (es : List (Entry Form)) → EntriesTake es → EntriesTake (map (sub_entry s) es)
  entries-sub s g [] h = tt
  entries-sub s g (e ∷ es) h =
      ((light-by most e.clause (sub_form s e.clause) (ways-sub s e.clause) h.0.0, form-sub takes most s g [] ClauseSide e.clause h.0.1), entries-sub s g es h.1)

  instantiated-takes : (w : State) (u : Solved) → StateTakes w → SubTakes takes u.subst → length u.levels ≡ length w.levels → StateTakes (instantiated w u)
  instantiated-takes w u i g e = record {
    goals = goals-sub u.subst g w.agenda i.goals;
    entries = entries-sub u.subst g w.context i.entries;
    terms = all-sub takes u.subst g [] w.terms i.terms;
    label = i.label;
    eigens = i.eigens;
    levels = omega (arith, e, i.levels);
    steps = i.steps;
  }

  pub vars-take : (n k : ℕ) → TermsTake takes [] (vars_from n k)
  vars-take n zero = tt
  vars-take n (suc k) = (refl, vars-take (suc n) k)

  terms-then : (ts us : List Term) → TermsTake takes [] ts → TermsTake takes [] us → TermsTake takes [] (ts ++ us)
  terms-then [] us h i = i
  terms-then (t ∷ ts) us h i = (h.0, terms-then ts us h.1 i)

  premises-goals : (ps : List Premise) (rest : List (Item Form)) → PremisesTake takes most ps → GoalsTake rest
      → GoalsTake (map (λ p. Goal (premise_goal p)) ps ++ rest)
  premises-goals [] rest p h = h
  premises-goals (q ∷ ps) rest p h = (p.0, premises-goals ps rest p.1 h)

  entry-takes : (es : List (Entry Form)) (label : ℕ) (e : Entry Form) → EntriesTake es → entry_at es label ≡ Some e
      → IsLight most e.clause × FormTakes takes most ClauseSide [] e.clause
  entry-takes [] label e r h = cc
  entry-takes (d ∷ es) label e r h = step (nat_eq d.label label) (entry-takes es label e r.1) h
    where
      step : (b : Bool) → (entry_at es label ≡ Some e → IsLight most e.clause × FormTakes takes most ClauseSide [] e.clause)
          → (if b then Some d else entry_at es label) ≡ Some e → IsLight most e.clause × FormTakes takes most ClauseSide [] e.clause
      step true i h = let q : d ≡ e = cc in subst (λ (z : Entry Form). IsLight most z.clause × FormTakes takes most ClauseSide [] z.clause) q r.0
      step false i h = i h

  -- a state with n new variables and one step more
  opened : (s : State) (n : ℕ) (a : List (Item Form)) (es : List (Entry Form)) (c : Step) → StateTakes s → GoalsTake a → EntriesTake es → n ≤ most
      → StepFits (base + suc (length s.steps)) most c
      → StateTakes (record s {
        agenda = a;
        context = es;
        levels = s.levels ++ replicate n s.eigens;
        terms = s.terms ++ vars_from (length s.levels) n;
        steps = s.steps ++ c ∷ [];
      })
  opened s n a es c i g r l f =
      let q = one-more s.steps c in
      record {
        goals = g;
        entries = r;
        terms = terms-then s.terms (vars_from (length s.levels) n) i.terms (vars-take (length s.levels) n);
        label = omega (arith, q, i.label);
        eigens = omega (arith, q, i.eigens);
        levels = let w = ap (λ n. n * most) q in omega (arith, w, i.levels, l, length-append s.levels (replicate n s.eigens), length-replicate n s.eigens);
        steps =
            subst (λ n. StepsFit (base + n) most (s.steps ++ c ∷ [])) (sym q)
            (steps-then (base + suc (length s.steps)) most s.steps c
            (steps-more (base + length s.steps) (base + suc (length s.steps)) most s.steps (omega arith) i.steps) f);
      }

  atom-takes : (m : Setting) (s t : State) (a : Term) (rest : List (Item Form)) (c : Candidate) → IsConsistent m s → StateTakes s → TermTakes takes [] 0 a
      → GoalsTake rest → Taken s a rest c t → StateTakes t
  atom-takes m s t a rest c k i f r h =
      let e = entry-takes s.context c.label h.entry i.entries h.finds in
      let l = leaf-takes takes most h.entry.clause c.leaf (vars_from (length s.levels) h.count) h.leaf_of e.1 (vars-take (length s.levels) h.count) h.leaves in
      let w = opened s h.count (map (λ p. Goal (premise_goal p)) h.leaf_of.premises ++ rest) (picked c.label s.context) (ClauseStep c.label c.leaf) i
      (premises-goals h.leaf_of.premises rest l.premises r) (picked-takes c.label s.context i.entries)
      (e.0.quantifiers c.leaf h.count h.way) (
        let b = entry-below s.context c.label s.label h.entry k.labels_below h.finds in omega (arith, b, i.label),
        let b = slice_get_within (ways h.entry.clause) c.leaf h.count h.way in omega (arith, b, e.0.leaves),
      ) in
      subst StateTakes h.is
      (instantiated-takes (with_leaf s rest c.label c.leaf h.count h.leaf_of) h.solved w
      (mgu-takes takes (a ∷ []) (h.leaf_of.head ∷ []) (s.levels ++ replicate h.count s.eigens) h.solved (f, tt) (l.head, tt) h.solves)
      (mgu-count (a ∷ []) (h.leaf_of.head ∷ []) (s.levels ++ replicate h.count s.eigens) h.solved h.solves))

  module-takes : (ms : List ModuleTree) (n : ℕ) (d : ModuleTree) → ModulesTake ms → slice_get ms n ≡ Some d → ClausesTake takes most (module_scope d) d.clauses
  module-takes [] n d h e = cc
  module-takes (x ∷ ms) zero d h e = let q : x ≡ d = cc in subst (λ z. ClausesTake takes most (module_scope z) z.clauses) q h.0
  module-takes (x ∷ ms) (suc n) d h e = module-takes ms n d h.1 e

  valued : (m : Setting) (s t : State) (a u : Term) (rest : List (Item Form)) (o : Option ℤ) → value_of m.operators u ≡ o → StateTakes s
      → TermTakes takes [] 0 a × TermTakes anyhow [] 0 u → GoalsTake rest → take_value s a rest o ≡ Some t → StateTakes t
  valued m s t a u rest None q i f r h = cc
  valued m s t a u rest (Some z) q i f r h = step (mgu (a ∷ []) (Int z ∷ []) s.levels) refl h
    where
      step : (o : Option Solved) → mgu (a ∷ []) (Int z ∷ []) s.levels ≡ o → option_map (instantiated (stepped s rest Plain)) o ≡ Some t → StateTakes t
      step None w h = cc
      step (Some v) w h =
          done (instantiated (stepped s rest Plain) v) t h
          (instantiated-takes (stepped s rest Plain) v (kept s rest s.context s.flag s.label s.eigens Plain i r i.entries (omega arith) (omega arith) tt)
          (mgu-takes takes (a ∷ []) (Int z ∷ []) s.levels v (f.0, tt) ((refl, value-fits m u z f.1 q), tt) w) (mgu-count (a ∷ []) (Int z ∷ []) s.levels v w))

  tested : (s t : State) (rest : List (Item Form)) (b : Bool) → StateTakes s → GoalsTake rest → (if b then Some (stepped s rest Plain) else None) ≡ Some t
      → StateTakes t
  tested s t rest true i r h = done _ t h (kept s rest s.context s.flag s.label s.eigens Plain i r i.entries (omega arith) (omega arith) tt)
  tested s t rest false i r h = cc

  pub goal-takes : (m : Setting) (s t : State) (g : Form) (rest : List (Item Form)) (c : Candidate) → ModulesTake m.modules → IsConsistent m s → StateTakes s
      → loads_fit m.modules g ≡ true → FormTakes takes most GoalSide [] g → GoalsTake rest → attempt_goal m s g rest c ≡ Some t → StateTakes t
  goal-takes m s t One rest c ms k i l f r h = done _ t h (kept s rest s.context s.flag s.label s.eigens Plain i r i.entries (omega arith) (omega arith) tt)
  goal-takes m s t Top rest c ms k i l f r h = done _ t h (kept s rest s.context true s.label s.eigens Plain i r i.entries (omega arith) (omega arith) tt)
  goal-takes m s t (Tensor p q) rest c ms k i l f r h =
      done _ t h (kept s (Goal p ∷ Goal q ∷ rest) s.context s.flag s.label s.eigens Plain i (f.0, (f.1, r)) i.entries (omega arith) (omega arith) tt)
  goal-takes m s t (Plus p q) rest c ms k i l f r h = step c.leaf h
    where
      step : (n : ℕ) → Some (take_side n s p q rest) ≡ Some t → StateTakes t
      step zero h = done _ t h (kept s (Goal p ∷ rest) s.context s.flag s.label s.eigens Left i (f.0, r) i.entries (omega arith) (omega arith) tt)
      step (suc n) h = done _ t h (kept s (Goal q ∷ rest) s.context s.flag s.label s.eigens Right i (f.1, r) i.entries (omega arith) (omega arith) tt)
  goal-takes m s t (With p q) rest c ms k i l f r h =
      done _ t h (kept s _ s.context false s.label s.eigens Plain i (f.0, (f.1, r)) i.entries (omega arith) (omega arith) tt)
  goal-takes m s t (Bang p) rest c ms k i l f r h =
      done _ t h (kept s _ (map unlive s.context) false s.label s.eigens Plain i (f, r) (unlive-takes s.context i.entries) (omega arith) (omega arith) tt)
  goal-takes m s t (Lolli p q) rest c ms k i l f r h =
      done _ t h (kept s (Goal q ∷ LolliEnd s.flag ∷ rest) _ false (suc s.label) s.eigens Plain i (f.1.1, r) ((f.0, f.1.0), i.entries) (omega arith)
      (omega arith) tt)
  goal-takes m s t (Imp p q) rest c ms k i l f r h =
      done _ t h (kept s (Goal q ∷ ImpEnd ∷ rest) _ s.flag (suc s.label) s.eigens Plain i (f.1.1, r) ((f.0, f.1.0), i.entries) (omega arith) (omega arith) tt)
  goal-takes m s t (Forall p) rest c ms k i l f r h =
      done _ t h (kept s (Goal (instantiate p (Con (Eigen s.eigens))) ∷ rest) s.context s.flag s.label (suc s.eigens) Plain i
      (form-close takes most _ (true ∷ []) [] (env-eigen takes s.eigens [] [] [] (env-none takes [])) GoalSide p f, r) i.entries (omega arith) (omega arith) tt)
  goal-takes m s t (Exists p) rest c ms k i l f r h =
      done _ t h (opened s 1 (Goal (instantiate p (Var (length s.levels))) ∷ rest) s.context Plain i
      (form-close takes most _ (false ∷ []) [] (env-term takes (Var (length s.levels)) [] [] [] refl (env-none takes [])) GoalSide p f, r) i.entries
      (omega (arith, enough)) tt)
  goal-takes m s t (Use n ts p) rest c ms k i l f r h =
      step (slice_get m.modules n) refl (and_left (fits_module (slice_get m.modules n) ts) (loads_fit m.modules p) l) h
    where
      step : (o : Option ModuleTree) → slice_get m.modules n ≡ o → fits_module o ts ≡ true → load_module s rest ts p o ≡ Some t → StateTakes t
      step None q w h = cc
      step (Some d) q w h =
          done _ t h (kept s _ s.context s.flag s.label s.eigens Plain i
          (unfold_load-takes takes most d ts p (module-takes m.modules n d ms q) (eqb-true (length ts) d.params w) f.0 f.1, r) i.entries (omega arith)
          (omega arith) tt)
  goal-takes m s t (Atom a) rest c ms k i l f r h = atom-takes m s t a rest c k i f r (taken_from s a rest c t h)
  goal-takes m s t (Num Is a b) rest c ms k i l f r h = valued m s t a b rest (value_of m.operators b) refl i f r h
  goal-takes m s t (Num Less a b) rest c ms k i l f r h = tested s t rest (holds m.operators Less a b) i r h
  goal-takes m s t (Num Most a b) rest c ms k i l f r h = tested s t rest (holds m.operators Most a b) i r h
